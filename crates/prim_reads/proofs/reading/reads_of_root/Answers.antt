use Rattle.std.proofs.Common.{◌≡◌, ◌++◌, [], List, ap, ◌∙◌}
use Rattle.composition.specs.World.{Root}
use Rattle.key_sets.specs.Order.{in_order}
use Rattle.layer_set.specs.LookUps.{look_ups}
use Rattle.layer_set.specs.declared.key.Key.{Key}
use Rattle.prim_reads.specs.Gathered.{asked_heads, bodies_at}
use Rattle.prim_reads.proofs.Answering.{root_listed}
use Rattle.prim_reads.proofs.reading.reads_of_root.Goals as goal

pub returns : goal.returns
returns c =
    let heads : c.push_asked.new.out ≡ asked_heads (look_ups c.args.world.now) Root =
    c.in_ok-push_asked.ensures ∙ ap (λ (ks : List Key). ks ++ asked_heads (look_ups c.args.world.now) Root) c.new-out.ensures in
    c.in_ok-keys.ensures
    ∙ ap (λ (ks : List Key). in_order ks) (c.in_ok-push_bodies_at.ensures ∙ (λ i. heads i ++ bodies_at (look_ups c.args.world.now) Root (c.requires i)))
    ∙ root_listed c.args.world.now
