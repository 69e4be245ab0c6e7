-- The metadata of a prim or a variant as a whole.
use Rattle.std.specs.Prelude.{false, List, [], ◌∷◌, ◌++◌}
use Rattle.sdf_paths.specs.Paths.{plain}
use Rattle.sdf_paths.specs.declared.element.Element.{Element}
use Rattle.spec_parts.specs.Blank.{blank_body}
use Rattle.spec_parts.specs.declared.items.Specifier.{Specifier}
use Rattle.spec_parts.specs.declared.spec.Spec.{Spec}
use Rattle.usda_fields.specs.Owners.{owner_at}
use Rattle.usda_fields.specs.declared.owner.OwnerDraft.{OwnerDraft}
use Rattle.usda_grammar.specs.declared.symbols.Symbol.TheVariants as symbol
use Rattle.usda_lists.specs.References.{same_text, same_path, same_item}
use Rattle.usda_drafts.specs.declared.draft.Draft.{Draft}
use Rattle.value_texts.specs.ValueWords.{open_brace}
use Rattle.layer_texts.specs.FieldWords.{spec_words, block_words}
use Rattle.layer_reads.specs.FieldLists.{IsPathHere}
use Rattle.layer_reads.specs.Keys.{is_plain_key}
use Rattle.layer_reads.specs.Taking.{AreTaken}
use Rattle.layer_reads.specs.Lists.{IsString}
use Rattle.layer_reads.specs.Fields.{IsReferenceHere}
use Rattle.layer_reads.specs.Items.{AreItems}
use Rattle.layer_reads.specs.Kept.{IsListKept, lists_of, has_items}
use Rattle.layer_reads.specs.Meta.{IsMetaKept}
use Rattle.layer_reads.specs.Selections.{AreSelectionsKept}
use Rattle.layer_reads.specs.Standing.{Standing, saying, IsAt}

-- metadata that come back, in the statements of a prim with this plain path
pub record IsSpecKept (base : List Element) (spec : Spec) : Type 0 where
  pub meta : IsMetaKept is_plain_key base spec.body.meta
  pub api_schemas : IsListKept same_text (IsString base) spec.body.api_schemas
  pub clip_sets : IsListKept same_text (IsString base) spec.body.clip_sets
  pub inherits : IsListKept same_path (IsPathHere base) spec.arcs.inherits
  pub variant_sets : IsListKept same_text (IsString base) spec.arcs.variant_sets
  pub selections : AreSelectionsKept spec.arcs.selections
  pub references : IsListKept same_item (IsReferenceHere base) spec.arcs.references
  pub payloads : IsListKept same_item (IsReferenceHere base) spec.arcs.payloads
  pub specializes : IsListKept same_path (IsPathHere base) spec.arcs.specializes

-- what an owner says behind its metadata: they are those of the spec, and nothing is said of its properties and children
abbrev pub behind_metadata : List Element → Specifier → Spec → OwnerDraft
behind_metadata path specifier spec = record {
  path = path;
  base = plain path;
  spec = record { arcs = spec.arcs; body = record (blank_body specifier) { meta = spec.body.meta; api_schemas = spec.body.api_schemas; clip_sets = spec.body.clip_sets } };
  given = record {
    inherits = lists_of spec.arcs.inherits;
    specializes = lists_of spec.arcs.specializes;
    references = lists_of spec.arcs.references;
    payloads = lists_of spec.arcs.payloads;
    variant_sets = lists_of spec.arcs.variant_sets;
    api_schemas = lists_of spec.body.api_schemas;
    clip_sets = lists_of spec.body.clip_sets;
    variants = has_items spec.arcs.selections;
    child_order = false;
    property_order = false;
  };
}

-- the words of the metadata of a prim or a variant, of which nothing is said yet
abbrev pub IsMetadataRead : Type 0
IsMetadataRead =
    (path : List Element) (specifier : Specifier) (spec : Spec) (at : Standing) → IsSpecKept (plain path) spec
    → AreItems symbol.PrimMetadata (spec_words spec) (IsAt (saying (owner_at path specifier) at)) (IsAt (saying (behind_metadata path specifier spec) at))

-- the same between its brackets, where there is any, and the `{` behind it
abbrev pub IsBlockRead : Type 0
IsBlockRead =
    (path : List Element) (specifier : Specifier) (spec : Spec) (at : Standing) (d : Draft) → IsSpecKept (plain path) spec → IsAt (saying (owner_at path specifier) at) d
    → AreTaken (symbol.MaybePrimMetadata ∷ symbol.OpenBrace ∷ []) d (block_words (spec_words spec) ++ open_brace ∷ []) [] (IsAt (saying (behind_metadata path specifier spec) at))
