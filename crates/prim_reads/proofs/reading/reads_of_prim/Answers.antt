use Rattle.std.proofs.Common.{List, ap, ◌∙◌}
use Rattle.key_sets.specs.Order.{in_order}
use Rattle.layer_set.specs.declared.key.Key.{Key}
use Rattle.prim_trees.specs.Meant.{meant}
use Rattle.prim_reads.proofs.Answering.{listed_by}
use Rattle.prim_reads.proofs.reading.reads_of_prim.Goals as goal

pub returns : goal.returns
returns c =
    c.in_ok-keys.ensures ∙ ap (λ (ks : List Key). in_order ks) c.in_ok-gather_own.ensures
    ∙ listed_by c.args.world.now c.args.place.now c.requires.below c.requires.prims (meant c.args.tree.now) c.requires.tree c.in_ok-out.out c.args.above.now c.requires.above c.in_ok-out.ensures
