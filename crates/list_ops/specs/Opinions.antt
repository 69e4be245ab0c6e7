-- What counts as an opinion on a list.
use Rattle.std.specs.Prelude.{Bool, true, false, ◌||◌, List, [], ◌∷◌, Some, None}
use Rattle.list_ops.specs.declared.op.ListOp.{ListOp}

-- there is an item
abbrev pub has_items : {T : Type 0} → List T → Bool
has_items [] = false
has_items (x ∷ xs) = true

-- some edit has items
abbrev pub has_edits : {T : Type 0} → ListOp T → Bool
has_edits op = (((has_items op.deleted || has_items op.added) || has_items op.prepended) || has_items op.appended) || has_items op.ordered

-- an opinion on a list: an explicit list, also an empty one, or some edit
abbrev pub is_opinion : {T : Type 0} → ListOp T → Bool
is_opinion op = elim op.explicit [ Some xs ↦ true | None ↦ has_edits op ]
