-- An owner that says what a layer may hold, also while one of its lists is being read.
use Rattle.std.specs.Prelude.{◌≡◌, ℕ, Bool, true, Option, Some, None}
use Rattle.sdf_paths.specs.Paths.{IsPath}
use Rattle.usda_fields.specs.Fields.{paths_at, items_at, texts_at, given_at, close_field}
use Rattle.usda_fields.specs.declared.field.ListField.{ListField}
use Rattle.usda_fields.specs.declared.field.ListField.TheVariants as list
use Rattle.usda_fields.specs.declared.owner.OwnerDraft.{OwnerDraft}
use Rattle.usda_grammar.specs.declared.kinds.Keyword.{Keyword}
use Rattle.usda_lists.specs.Edits.{is_given}
use Rattle.usda_lists.specs.References.{same_text, same_path, same_item}
use Rattle.usda_lists.specs.declared.edit.ListEdit.{ListEdit}
use Rattle.value_texts.specs.Each.{AreAll}
use Rattle.fields_read.specs.Lists.{IsSoundList, HasItems}
use Rattle.layer_reads.specs.Selections.{AreSelectionsKept}
use Rattle.value_returns.specs.Fields.{IsText, IsProperReference}
use Rattle.value_returns.specs.Proper.{IsProperMeta}

-- ---- owners

-- the lists of one of the fields of an owner
abbrev pub IsSoundField : ListField → OwnerDraft → Type 0
IsSoundField (list.Paths field) d = IsSoundList same_path IsPath (given_at (list.Paths field) d.given) (paths_at field d)
IsSoundField (list.References field) d = IsSoundList same_item IsProperReference (given_at (list.References field) d.given) (items_at field d)
IsSoundField (list.Texts field) d = IsSoundList same_text IsText (given_at (list.Texts field) d.given) (texts_at field d)

-- What an owner says, whose keys are such names, is proper where no list is open: its lists, its keys, the variants that it selects and
-- its orders. Relative paths are put behind a path.
pub record IsSaid (is_name : Keyword → Bool) (d : OwnerDraft) : Type 0 where
  pub base : IsPath d.base
  pub lists : (field : ListField) → IsSoundField field d
  pub keys : IsProperMeta is_name d.spec.body.meta
  pub selections : AreSelectionsKept d.spec.arcs.selections
  pub child_order : AreAll IsText d.spec.body.child_order
  pub property_order : AreAll IsText d.spec.body.property_order

-- ---- the list that is open

-- The list of a field that is being read, behind the field's edit word, and how many items it has at most. Between brackets it may have
-- any number of them, and repeats, which are dropped at the end.
pub record OpenList : Type 0 where
  pub field : ListField
  pub edit : ListEdit
  pub most : Option ℕ

-- the items of the open list
abbrev pub HasOpenItems : ListField → ListEdit → Option ℕ → OwnerDraft → Type 0
HasOpenItems (list.Paths field) edit most d = HasItems IsPath edit most (paths_at field d)
HasOpenItems (list.References field) edit most d = HasItems IsProperReference edit most (items_at field d)
HasOpenItems (list.Texts field) edit most d = HasItems IsText edit most (texts_at field d)

-- the list is given, its items are proper, and what the owner says would be proper if the list ended here
pub record IsReading (is_name : Keyword → Bool) (open_list : OpenList) (d : OwnerDraft) : Type 0 where
  pub given : is_given open_list.edit (given_at open_list.field d.given) ≡ true
  pub items : HasOpenItems open_list.field open_list.edit open_list.most d
  pub closed : IsSaid is_name (close_field open_list.field open_list.edit d)

-- what an owner says is sound: no list is open, or this one
abbrev pub IsSoundSaid : (Keyword → Bool) → Option OpenList → OwnerDraft → Type 0
IsSoundSaid is_name None d = IsSaid is_name d
IsSoundSaid is_name (Some open_list) d = IsReading is_name open_list d
