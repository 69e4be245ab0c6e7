use Rattle.std.proofs.Common.{true}
use Rattle.layer_changes.specs.Changed.{IsChangedKey}
use Rattle.layer_changes.proofs.Walks.{keeps_told}
use Rattle.layer_changes.proofs.differing.differing_keys.Goals as goal

pub loop-key-preserved : goal.loop-key-preserved
loop-key-preserved c =
    keeps_told (IsChangedKey c.args.old.now c.args.new.now) c.args.keys.now c.loop-key.changed c.keep_unless.new.kept c.loop-key.key-index c.key-item.result c.same_key-same.result
    c.loop-key-test.true c.key-item.is c.loop-key.invariant (λ t p. p (c.same_key-same.ensures.0 t)) (λ n e. n (c.same_key-same.ensures.1 e)) c.in_ok-keep_unless.ensures
