use Rattle.std.proofs.Common.{sym, subst, take, List}
use Rattle.std.specs.List.{All}
use Rattle.std.specs.List.Sorted.{IsStrictlySortedBy}
use Rattle.layer_set.specs.contracts.key.KeyOrd.TheImpl.{ghosts as key_order}
use Rattle.layer_set.specs.declared.key.Key.{Key}
use Rattle.layer_changes.specs.Covering.{Names}
use Rattle.key_sets.proofs.Order.{in_key_order}
use Rattle.layer_changes.proofs.Walks.{more_hold, all_hold, all_named_kept}
use Rattle.layer_changes.proofs.named.keys_of_parts.Goals as goal

pub loop-part-preserved : goal.loop-part-preserved
loop-part-preserved c =
    more_hold (Names c.args.old.now c.args.new.now c.add_part.new.keys.keys) c.args.parts.now c.loop-part.part-index c.part-item.result c.loop-part-test.true c.part-item.is
    (all_named_kept c.args.old.now c.args.new.now c.loop-part.set.keys c.add_part.new.keys.keys (take c.loop-part.part-index c.args.parts.now) c.in_ok-add_part.ensures.kept c.loop-part.invariant)
    c.in_ok-add_part.ensures.added

pub returns-clause-order : goal.returns-clause-order
returns-clause-order c = in_key_order c.in_ok-keys.keys (subst (λ (ks : List Key). IsStrictlySortedBy key_order.cmp ks) (sym c.in_ok-keys.ensures.list) c.in_ok-keys.ensures.order)

pub returns-clause-named : goal.returns-clause-named
returns-clause-named c =
    subst (λ (ks : List Key). All (Names c.args.old.now c.args.new.now ks) c.args.parts.now) (sym c.in_ok-keys.ensures.list)
    (all_hold (Names c.args.old.now c.args.new.now c.loop-part.set.keys) c.args.parts.now c.loop-part.part-index c.loop-part-test.false c.loop-part.invariant)
