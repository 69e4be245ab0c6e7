-- A stage as one layer: what composition made, without what it was made of.
use Rattle.std.specs.Prelude.{ℕ, List, [], ◌∷◌, Option, Some, None}
use Rattle.list_ops.specs.declared.op.ListOp.{ListOp}
use Rattle.prim_view.specs.declared.view.PrimView.{PrimView}
use Rattle.prim_view.specs.declared.view.PropertyView.{PropertyView}
use Rattle.prim_view.specs.declared.view.PropertyView.TheVariants.{Attr as attribute, Rel as relationship}
use Rattle.sdf_paths.specs.Order.{path_cmp, text_cmp}
use Rattle.sdf_paths.specs.declared.element.Element.{Element}
use Rattle.sdf_values.specs.declared.value.Value.{Value, fold-Value}
use Rattle.sdf_values.specs.declared.value.Value.TheOpen.{Value-F}
pub use Rattle.sdf_specs.specs.Keys.{default_key}
use Rattle.sdf_specs.specs.Layers.{LayerTable, SpecEntries, with_spec}
use Rattle.spec_parts.specs.Blank.{blank_head, blank_arcs}
use Rattle.spec_parts.specs.declared.spec.Head.{Head}
use Rattle.spec_parts.specs.declared.spec.BodyPart.{BodyPart}
use Rattle.spec_parts.specs.declared.spec.Spec.{Spec}
use Rattle.spec_properties.specs.Entries.{MetaEntries}
use Rattle.spec_properties.specs.Properties.{with_property}
use Rattle.spec_properties.specs.declared.property.Property.{Property}
use Rattle.spec_properties.specs.declared.property.Property.TheVariants.{Attr, Rel}
use Rattle.spec_tables.specs.Tables.{at_key, without_key}
use Rattle.stage_publish.specs.Editions.{item_at}

-- paths and what stands there
abbrev pub Stage : Type 0
Stage = List (List Element × PrimView)

-- ---- a prim

-- an explicit list, where there is an opinion; an empty one is an opinion
abbrev pub explicit_list : {T : Type 0} → Option (List T) → ListOp T
explicit_list items = record { explicit = items; deleted = []; added = []; prepended = []; appended = []; ordered = [] }

-- a property as it is on the stage; a block stays the default
abbrev pub flat_property : PropertyView → Property
flat_property (attribute name ty custom uniform default samples connections meta) =
    Attr name ty custom uniform default samples (explicit_list connections) meta
flat_property (relationship name custom targets meta) = Rel name custom (explicit_list targets) meta

-- these properties in their order, behind others
abbrev pub with_properties : List PropertyView → List Property → List Property
with_properties [] properties = properties
with_properties (p ∷ ps) properties = with_properties ps (with_property (flat_property p) properties)

-- what a prim gathers on the stage: it has no variant sets and no orders
unfoldable pub flat_body : PrimView → BodyPart
flat_body prim = record {
  specifier = prim.specifier;
  type_name = prim.type_name;
  meta = prim.meta;
  api_schemas = explicit_list prim.api_schemas;
  clip_sets = explicit_list prim.clip_sets;
  children = prim.children;
  child_order = [];
  properties = with_properties prim.properties [];
  property_order = [];
  variant_names = [];
}

-- a prim as it is on the stage: it has no arcs
unfoldable pub flat_spec : PrimView → Spec
flat_spec prim = record { arcs = blank_arcs; body = flat_body prim }

-- ---- the head

-- the text of a string; any other value has none
abbrev pub text_step : Value-F (Option (List ℕ)) (Option (List ℕ)) → Option (List ℕ)
text_step (Value-F.Text text) = Some text
text_step _ = None

-- the text that a value is
abbrev pub text_of : Value → Option (List ℕ)
text_of = fold-Value (Option (List ℕ)) (Option (List ℕ)) text_step (λ item. None)

-- the text that a value is, if there is one
abbrev pub text_in : Option Value → Option (List ℕ)
text_in None = None
text_in (Some value) = text_of value

-- the default prim that the metadata of `/` names
unfoldable pub default_in : MetaEntries → Option (List ℕ)
default_in meta = text_in (at_key text_cmp default_key meta)

-- the metadata beside the default prim
unfoldable pub beside_default : Option (List ℕ) → MetaEntries → MetaEntries
beside_default None meta = meta
beside_default (Some name) meta = without_key text_cmp default_key meta

-- the head that says what `/` has: its metadata, and its children as root prims
unfoldable pub flat_head : PrimView → Head
flat_head root = record {
  sublayers = [];
  default_prim = default_in root.meta;
  meta = beside_default (default_in root.meta) root.meta;
  root_names = root.children;
  root_order = [];
}

-- the head of a layer by what stands at `/`; a stage without `/` gives a blank one
unfoldable pub head_of : Option PrimView → Head
head_of None = blank_head
head_of (Some root) = flat_head root

-- ---- the layer

-- a prim in a table of specs; `/` has none
unfoldable pub with_prim : List Element → PrimView → SpecEntries → SpecEntries
with_prim [] prim specs = specs
with_prim (e ∷ path) prim specs = with_spec (e ∷ path) (flat_spec prim) specs

-- an item of a stage in a table of specs, if it is there
unfoldable pub with_item : Option (List Element × PrimView) → SpecEntries → SpecEntries
with_item None specs = specs
with_item (Some item) specs = with_prim item.0 item.1 specs

-- the prims of a stage in a table of specs
abbrev pub with_prims : Stage → SpecEntries → SpecEntries
with_prims [] specs = specs
with_prims (item ∷ items) specs = with_prims items (with_prim item.0 item.1 specs)

-- the stage as a layer: its head from `/`, and a spec for each other path
unfoldable pub flat_layer : Stage → LayerTable
flat_layer stage = record { head = head_of (item_at path_cmp [] stage); specs = with_prims stage [] }
