-- What an owner says beside its lists, in place of what it said before.
use Rattle.std.proofs.Common.{ℕ, Bool, List}
use Rattle.spec_properties.specs.Entries.{MetaEntries, SelectionEntries}
use Rattle.usda_fields.specs.declared.field.PathField.TheVariants.{Inherits, Specializes}
use Rattle.usda_fields.specs.declared.field.ReferenceField.TheVariants.{References, Payload}
use Rattle.usda_fields.specs.declared.field.TextField.TheVariants.{VariantSets, ApiSchemas, ClipSets}
use Rattle.usda_fields.specs.declared.field.ListField.{ListField}
use Rattle.usda_fields.specs.declared.field.ListField.TheVariants as list
use Rattle.usda_fields.specs.declared.owner.OwnerDraft.{OwnerDraft}
use Rattle.usda_grammar.specs.declared.kinds.Keyword.{Keyword}
use Rattle.layer_reads.specs.Selections.{AreSelectionsKept}
use Rattle.value_returns.specs.Fields.{IsText}
use Rattle.value_returns.specs.Proper.{IsProperMeta}
use Rattle.value_texts.specs.Each.{AreAll}
use Rattle.fields_read.specs.Sound.{IsSaid, IsSoundField}

-- keys, selected variants and orders, and which of the latter were given
pub record Beside : Type 0 where
  pub meta : MetaEntries
  pub selections : SelectionEntries
  pub child_order : List (List ℕ)
  pub property_order : List (List ℕ)
  pub has_variants : Bool
  pub has_child_order : Bool
  pub has_property_order : Bool

-- what an owner says of these
abbrev pub beside_of : OwnerDraft → Beside
beside_of d = record {
  meta = d.spec.body.meta;
  selections = d.spec.arcs.selections;
  child_order = d.spec.body.child_order;
  property_order = d.spec.body.property_order;
  has_variants = d.given.variants;
  has_child_order = d.given.child_order;
  has_property_order = d.given.property_order;
}

-- an owner that says these
abbrev pub with_beside : Beside → OwnerDraft → OwnerDraft
with_beside b d = record d {
  spec = record d.spec {
    arcs = record d.spec.arcs { selections = b.selections };
    body = record d.spec.body { meta = b.meta; child_order = b.child_order; property_order = b.property_order };
  };
  given = record d.given { variants = b.has_variants; child_order = b.has_child_order; property_order = b.has_property_order };
}

-- they are proper
pub record IsProperBeside (is_name : Keyword → Bool) (b : Beside) : Type 0 where
  pub keys : IsProperMeta is_name b.meta
  pub selections : AreSelectionsKept b.selections
  pub child_order : AreAll IsText b.child_order
  pub property_order : AreAll IsText b.property_order

lists_stay : (b : Beside) (d : OwnerDraft) → ((field : ListField) → IsSoundField field d) → (field : ListField) → IsSoundField field (with_beside b d)
lists_stay b d lists (list.Paths Inherits) = lists (list.Paths Inherits)
lists_stay b d lists (list.Paths Specializes) = lists (list.Paths Specializes)
lists_stay b d lists (list.References References) = lists (list.References References)
lists_stay b d lists (list.References Payload) = lists (list.References Payload)
lists_stay b d lists (list.Texts VariantSets) = lists (list.Texts VariantSets)
lists_stay b d lists (list.Texts ApiSchemas) = lists (list.Texts ApiSchemas)
lists_stay b d lists (list.Texts ClipSets) = lists (list.Texts ClipSets)

-- an owner says what is proper where what it says beside its lists is
pub said_beside : (is_name : Keyword → Bool) (b : Beside) (d : OwnerDraft) → IsSaid is_name d → IsProperBeside is_name b → IsSaid is_name (with_beside b d)
said_beside is_name b d said proper = record {
  base = said.base;
  lists = lists_stay b d said.lists;
  keys = proper.keys;
  selections = proper.selections;
  child_order = proper.child_order;
  property_order = proper.property_order;
}
