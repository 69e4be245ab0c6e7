use Rattle.std.proofs.Common.{subst, List}
use Rattle.std.specs.List.{All, Contains}
use Rattle.edit_batches.specs.declared.op.Op.{Op}
use Rattle.layer_changes.specs.Covering.{Names}
use Rattle.layer_changes.specs.Parts.{parts_of}
use Rattle.layer_changes.specs.declared.part.Part.{Part}
use Rattle.layer_changes.proofs.Whole.{batch_named}
use Rattle.layer_changes.proofs.named.named_keys.Goals as goal

pub returns-clause-named : goal.returns-clause-named
returns-clause-named c =
    batch_named c.args.old.now c.args.new.now c.in_ok-keys.keys c.in_ok-parts.parts c.args.batch.now
    (subst (λ (ops : List Op). All (λ (op : Op). All (Contains c.in_ok-parts.parts) (parts_of op)) ops) c.ops.ensures.ops c.in_ok-parts.ensures)
    (subst (λ (ps : List Part). All (Names c.args.old.now c.args.new.now c.in_ok-keys.keys) ps) c.as_slice.ensures c.in_ok-keys.ensures.named)
