-- An owner of which nothing is read yet.
use Rattle.std.proofs.Common.{◌≡◌, ℕ, Bool, List, [], refl}
use Rattle.std.specs.List.Sorted.{IsStrictlySortedBy}
use Rattle.list_ops.specs.Blank.{no_edits}
use Rattle.sdf_paths.proofs.Shapes.{plain_path}
use Rattle.sdf_paths.specs.Order.{text_cmp}
use Rattle.sdf_values.specs.declared.value.Value.{Value}
use Rattle.spec_tables.specs.Tables.{IsTable}
use Rattle.usda_fields.specs.declared.field.PathField.TheVariants.{Inherits, Specializes}
use Rattle.usda_fields.specs.declared.field.ReferenceField.TheVariants.{References, Payload}
use Rattle.usda_fields.specs.declared.field.TextField.TheVariants.{VariantSets, ApiSchemas, ClipSets}
use Rattle.usda_fields.specs.declared.field.ListField.{ListField}
use Rattle.usda_fields.specs.declared.field.ListField.TheVariants as list
use Rattle.usda_fields.specs.Owners.{owner_at}
use Rattle.usda_lists.specs.Edits.{none_given}
use Rattle.usda_lists.specs.Lists.{list_at}
use Rattle.usda_lists.specs.declared.edit.ListEdit.{ListEdit}
use Rattle.usda_lists.specs.declared.edit.ListEdit.TheVariants.{Explicit, Delete, Add, Prepend, Append, Reorder}
use Rattle.layer_reads.specs.Kept.{AreKept}
use Rattle.fields_read.specs.Laws.{OwnersBeginSound}
use Rattle.fields_read.specs.Lists.{IsSoundList}
use Rattle.fields_read.specs.Sound.{IsSoundField}

module _ {T : Type 0} (same : T → T → Bool) (W : T → Type 0) where
  no_items : (edit : ListEdit) → list_at {T = T} edit no_edits ≡ []
  no_items Explicit = refl
  no_items Delete = refl
  no_items Add = refl
  no_items Prepend = refl
  no_items Append = refl
  no_items Reorder = refl

  none_kept : (edit : ListEdit) → AreKept same W (list_at edit no_edits)
  none_kept Explicit = record { each = tt; once = refl }
  none_kept Delete = record { each = tt; once = refl }
  none_kept Add = record { each = tt; once = refl }
  none_kept Prepend = record { each = tt; once = refl }
  none_kept Append = record { each = tt; once = refl }
  none_kept Reorder = record { each = tt; once = refl }

  no_lists : IsSoundList same W none_given no_edits
  no_lists = record { kept = none_kept; ungiven = λ edit h. no_items edit; explicit = refl; alone = λ h. refl }

no_keys : (V : Type 0) → IsTable {V = V} text_cmp []
unfolding IsStrictlySortedBy
no_keys V = tt

pub owners_begin : OwnersBeginSound
owners_begin is_name path specifier is = record {
  base = plain_path path is;
  lists = fields;
  keys = record { ordered = no_keys Value; each = tt };
  selections = record { ordered = no_keys (List ℕ); each = tt };
  child_order = tt;
  property_order = tt;
}
  where
    fields : (field : ListField) → IsSoundField field (owner_at path specifier)
    fields (list.Paths Inherits) = no_lists _ _
    fields (list.Paths Specializes) = no_lists _ _
    fields (list.References References) = no_lists _ _
    fields (list.References Payload) = no_lists _ _
    fields (list.Texts VariantSets) = no_lists _ _
    fields (list.Texts ApiSchemas) = no_lists _ _
    fields (list.Texts ClipSets) = no_lists _ _
