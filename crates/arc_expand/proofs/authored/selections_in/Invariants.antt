use Rattle.std.proofs.Common.{◌≡◌, take}
use Rattle.composition.specs.Arcs.{selections_of}
use Rattle.arc_expand.proofs.authored.selections_in.Given as goal

abbrev pub invariant-loop-opinion : goal.invariant-loop-opinion
invariant-loop-opinion l = l.all ≡ selections_of (take l.opinion-index l.opinions)
