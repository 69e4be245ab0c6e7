-- Lists that come back from their text.
use Rattle.std.specs.Prelude.{◌≡◌, Bool, true, false, List, [], ◌∷◌, Option, Some, None}
use Rattle.std.specs.Option.{is_some}
use Rattle.list_ops.specs.Blank.{no_edits}
use Rattle.list_ops.specs.ListEdits.{firsts}
use Rattle.list_ops.specs.declared.op.ListOp.{ListOp}
use Rattle.usda_lists.specs.declared.edit.GivenLists.{GivenLists}
use Rattle.value_texts.specs.Each.{AreAll}

module _ {T : Type 0} (same : T → T → Bool) (W : T → Type 0) where
  -- items that may stand there, each once
  pub record AreKept (xs : List T) : Type 0 where
    pub each : AreAll W xs
    pub once : firsts same xs ≡ xs

  -- edits without an explicit list; the items of each may stand there, each once
  pub record AreEditsKept (op : ListOp T) : Type 0 where
    pub inexplicit : op.explicit ≡ None
    pub deleted : AreKept op.deleted
    pub added : AreKept op.added
    pub prepended : AreKept op.prepended
    pub appended : AreKept op.appended
    pub ordered : AreKept op.ordered

  -- an explicit list has no edits beside it
  pub record IsExplicitKept (xs : List T) (op : ListOp T) : Type 0 where
    pub alone : op ≡ record no_edits { explicit = Some xs }
    pub items : AreKept xs

  -- either an explicit list alone, or edits alone
  abbrev pub IsKeptBy : Option (List T) → ListOp T → Type 0
  IsKeptBy None op = AreEditsKept op
  IsKeptBy (Some xs) op = IsExplicitKept xs op

  -- the lists of a field: an explicit one, or edits
  abbrev pub IsListKept : ListOp T → Type 0
  IsListKept op = IsKeptBy op.explicit op

-- the list has an item
abbrev pub has_items : {T : Type 0} → List T → Bool
has_items [] = false
has_items (x ∷ xs) = true

-- which lists are given of a field; an edit without items has no words
abbrev pub lists_of : {T : Type 0} → ListOp T → GivenLists
lists_of op = record {
  explicit = is_some op.explicit;
  deleted = has_items op.deleted;
  added = has_items op.added;
  prepended = has_items op.prepended;
  appended = has_items op.appended;
  ordered = has_items op.ordered;
}
