use Rattle.std.proofs.Common.{◌≡◌, drop}
use Rattle.std.specs.List.{list_any}
use Rattle.arc_expand.specs.Authoring.{says_sets}
use Rattle.arc_expand.proofs.authored.are_sets_said.Given as goal

abbrev pub invariant-loop-opinion : goal.invariant-loop-opinion
invariant-loop-opinion l = list_any says_sets (drop l.opinion-index l.opinions) ≡ list_any says_sets l.opinions
