use Rattle.std.proofs.Common.{◌≡◌, take}
use Rattle.std.specs.List.{filter_map}
use Rattle.layer_set.specs.LookUps.{look_ups}
use Rattle.arc_expand.specs.Authoring.{opinion_of}
use Rattle.arc_expand.proofs.opinion.opinions.Given as goal

abbrev pub invariant-loop-entry : goal.invariant-loop-entry
invariant-loop-entry l = l.all ≡ filter_map (opinion_of (look_ups l.world) l.at) (take l.entry-index l.entry-items)
