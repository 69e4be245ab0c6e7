use Rattle.std.proofs.Common.{subst, List}
use Rattle.layer_set.specs.declared.key.Key.{Key}
use Rattle.layer_changes.specs.Changed.{IsChangedKey}
use Rattle.layer_changes.specs.Covering.{Keeps}
use Rattle.layer_changes.proofs.Whole.{are_changed}
use Rattle.layer_changes.proofs.applying.changed_keys.Goals as goal

pub returns : goal.returns
returns c =
    are_changed c.args.before.now c.args.after.now c.args.batch.now c.in_ok-named.named c.in_ok-keys.keys c.requires c.in_ok-named.ensures.named c.in_ok-named.ensures.order
    (subst (λ (ks : List Key). Keeps (IsChangedKey c.args.before.now c.args.after.now) ks c.in_ok-keys.keys) c.as_slice.ensures c.in_ok-keys.ensures)
