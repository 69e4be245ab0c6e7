-- Drafts by the lists of a field.
use Rattle.std.specs.Prelude.{◌≡◌, List, Some}
use Rattle.list_ops.specs.declared.op.ListOp.{ListOp}
use Rattle.sdf_paths.specs.declared.element.Element.{Element}
use Rattle.usda_fields.specs.declared.owner.OwnerDraft.{OwnerDraft}
use Rattle.usda_lexer.specs.Meanings.{path_text}
use Rattle.usda_lists.specs.Lists.{with_list}
use Rattle.usda_lists.specs.Paths.{path_from}
use Rattle.usda_writer.specs.Texts.{path_text as path_token}
use Rattle.usda_drafts.specs.Values.{with_said}
use Rattle.usda_drafts.specs.declared.draft.Draft.{Draft}

-- the draft in which this is the list of the edit that is read
abbrev pub with_field_list : {T : Type 0} → (OwnerDraft → ListOp T) → (ListOp T → OwnerDraft → OwnerDraft) → List T → Draft → Draft
with_field_list at put items d = with_said d (put (with_list d.edit items (at d.owner.said)) d.owner.said)

-- the text of the path is read as the path in the statements of this prim
abbrev pub IsPathHere : List Element → List Element → Type 0
IsPathHere base path = path_from base (path_text (path_token path)) ≡ Some path
