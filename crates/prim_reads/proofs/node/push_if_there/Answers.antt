use Rattle.std.proofs.Common.{◌++◌, List, ap, sym, ◌∙◌}
use Rattle.composition.specs.World.{Asset}
use Rattle.composition.specs.Texts.{Text}
use Rattle.layer_set.specs.LookUps.{look_ups, heading_of}
use Rattle.layer_set.specs.declared.held.Held.{Held}
use Rattle.layer_set.specs.declared.key.Key.{Key}
use Rattle.prim_reads.specs.Gathered.{asked_heads, heads_if_there}
use Rattle.prim_reads.proofs.Steps.{there_present}
use Rattle.prim_reads.proofs.node.push_if_there.Goals as goal

pub returns : goal.returns
returns c =
    c.in_ok-push_asked.ensures ∙ ap (λ (n : Text). c.args.out.now ++ asked_heads (look_ups c.args.world.now) (Asset n)) c.in_ok-copy.ensures
    ∙ sym (ap (λ (ks : List Key). c.args.out.now ++ ks)
    (there_present (look_ups c.args.world.now) c.args.name.now c.held.result.now (sym c.is_present.ensures ∙ c.if-not-is_present.false)))
    ∙ ap (λ (h : Held). c.args.out.now ++ heads_if_there (look_ups c.args.world.now) c.args.name.now (heading_of h)) c.held.ensures
