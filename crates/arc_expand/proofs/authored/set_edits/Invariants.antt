use Rattle.std.proofs.Common.{◌≡◌, map, take}
use Rattle.arc_expand.proofs.authored.set_edits.Given as goal

abbrev pub invariant-loop-opinion : goal.invariant-loop-opinion
invariant-loop-opinion l = l.all.items ≡ map (λ o. o.spec.arcs.variant_sets) (take l.opinion-index l.opinions)
