-- Lists of items, of which more is known.
use Rattle.std.proofs.Common.{List, Bool, Option, Some, None}
use Rattle.list_ops.specs.declared.op.ListOp.{ListOp}
use Rattle.layer_reads.specs.Kept.{AreKept, AreEditsKept, IsKeptBy, IsListKept}
use Rattle.value_texts.proofs.EachOf.{all_so}

-- lists whose items are such items are lists of what follows of them
module _ {T : Type 0} (same : T → T → Bool) (W V : T → Type 0) (so : (x : T) → W x → V x) where
  pub kept_so : (xs : List T) → AreKept same W xs → AreKept same V xs
  kept_so xs k = record { each = all_so W V so xs k.each; once = k.once }

  edits_so : (op : ListOp T) → AreEditsKept same W op → AreEditsKept same V op
  edits_so op k = record {
    inexplicit = k.inexplicit;
    deleted = kept_so op.deleted k.deleted;
    added = kept_so op.added k.added;
    prepended = kept_so op.prepended k.prepended;
    appended = kept_so op.appended k.appended;
    ordered = kept_so op.ordered k.ordered;
  }

  kept_by_so : (o : Option (List T)) (op : ListOp T) → IsKeptBy same W o op → IsKeptBy same V o op
  kept_by_so None op k = edits_so op k
  kept_by_so (Some xs) op k = record { alone = k.alone; items = kept_so xs k.items }

  pub list_so : (op : ListOp T) → IsListKept same W op → IsListKept same V op
  list_so op k = kept_by_so op.explicit op k
