-- Lists in the making, in the opinion that they are part of.
use Rattle.std.specs.Prelude.{Bool, List, [], ◌∷◌, ◌++◌, Option, Some, None, Result, Ok}
use Rattle.plain_data.specs.Ends.{last, front}
use Rattle.list_ops.specs.ListEdits.{firsts}
use Rattle.list_ops.specs.declared.op.ListOp.{ListOp}
use Rattle.sdf_values.specs.declared.refusal.RefusalKind.{RefusalKind}
use Rattle.usda_lists.specs.Acts.{and_then}
use Rattle.usda_lists.specs.declared.edit.ListEdit.{ListEdit}
use Rattle.usda_lists.specs.declared.edit.ListEdit.TheVariants.{Explicit, Delete, Add, Prepend, Append, Reorder}

-- the items of an explicit list; none where there is no such list
abbrev pub items_or_none : {T : Type 0} → Option (List T) → List T
items_or_none (Some items) = items
items_or_none None = []

-- the list of an edit
abbrev pub list_at : {T : Type 0} → ListEdit → ListOp T → List T
list_at Explicit op = items_or_none op.explicit
list_at Delete op = op.deleted
list_at Add op = op.added
list_at Prepend op = op.prepended
list_at Append op = op.appended
list_at Reorder op = op.ordered

-- the opinion with this list of an edit
abbrev pub with_list : {T : Type 0} → ListEdit → List T → ListOp T → ListOp T
with_list Explicit items op = record op { explicit = Some items }
with_list Delete items op = record op { deleted = items }
with_list Add items op = record op { added = items }
with_list Prepend items op = record op { prepended = items }
with_list Append items op = record op { appended = items }
with_list Reorder items op = record op { ordered = items }

-- the list is given, and has no items yet
abbrev pub open_list : {T : Type 0} → ListEdit → ListOp T → ListOp T
open_list edit op = with_list edit [] op

-- one item more
abbrev pub push_item : {T : Type 0} → ListEdit → T → ListOp T → ListOp T
push_item edit item op = with_list edit (list_at edit op ++ item ∷ []) op

-- the list is complete: of items that are one by this test the first is kept
abbrev pub close_list : {T : Type 0} → (T → T → Bool) → ListEdit → ListOp T → ListOp T
close_list same edit op = with_list edit (firsts same (list_at edit op)) op

-- the last item changed and those before it kept; where there is no item nothing is changed
abbrev pub amended : {T : Type 0} → (T → Result T RefusalKind) → Option T → List T → Result (List T) RefusalKind
amended change None items = Ok items
amended change (Some item) items = and_then (change item) (λ new. Ok (front items ++ new ∷ []))

-- the list with its last item changed
abbrev pub amend_last : {T : Type 0} → (T → Result T RefusalKind) → List T → Result (List T) RefusalKind
amend_last change items = amended change (last items) items

-- the opinion with a list of it changed
abbrev pub amend_list : {T : Type 0} → ListEdit → (List T → Result (List T) RefusalKind) → ListOp T → Result (ListOp T) RefusalKind
amend_list edit change op = and_then (change (list_at edit op)) (λ items. Ok (with_list edit items op))
