-- The canonical text of a layer: one text among those that are read as it.
use Rattle.std.specs.Prelude.{ℕ, zero, suc, ◌++◌, List, [], ◌∷◌, codes, length, Option, Some, None}
use Rattle.std.specs.List.{flat_map}
use Rattle.sdf_paths.specs.Order.{text_cmp}
use Rattle.sdf_paths.specs.declared.element.Element.{Element}
use Rattle.sdf_paths.specs.declared.element.Element.TheVariants.{Prim, Selection}
use Rattle.sdf_values.specs.Print.{blanks, deeper, quoted}
use Rattle.sdf_values.specs.declared.value.Value.TheVariants as value
use Rattle.spec_properties.specs.Entries.{MetaEntries}
pub use Rattle.sdf_specs.specs.Found.{spec_below}
use Rattle.sdf_specs.specs.Layers.{LayerTable, SpecEntries}
use Rattle.spec_tables.specs.Tables.{with_key}
use Rattle.spec_parts.specs.declared.items.VariantSet.{VariantSet}
use Rattle.spec_parts.specs.declared.spec.Head.{Head}
use Rattle.spec_parts.specs.declared.spec.Spec.{Spec}
use Rattle.usda_writer.specs.Texts.{Text, bracketed, metadata_block, quoted_name, specifier_text}
use Rattle.usda_writer.specs.Fields.{line, meta_lines, spec_lines, sublayer_lines}
use Rattle.usda_writer.specs.Properties.{property_lines}

-- an order of children or properties, where there is one
abbrev pub order_line : ℕ → Text → List Text → Text
order_line level word [] = []
order_line level word (n ∷ ns) = line level (codes "reorder " ++ word ++ codes " = " ++ bracketed quoted (n ∷ ns))

-- the type behind the specifier
abbrev pub type_part : Option Text → Text
type_part None = []
type_part (Some name) = name ++ codes " "

-- the metadata of a prim or a variant behind its name
unfoldable pub spec_block : ℕ → Spec → Text
spec_block level spec = metadata_block level (spec_lines (deeper level) spec)

-- what a prim is, and its name
abbrev pub prim_title : ℕ → Text → Spec → Text
prim_title level name spec = blanks level ++ specifier_text spec.body.specifier ++ codes " " ++ type_part spec.body.type_name ++ quoted_name name

-- the lines before the body of a prim: an empty one, its title and metadata, and a brace
abbrev pub prim_head : ℕ → Text → Spec → Text
prim_head level name spec = codes "\n" ++ prim_title level name spec ++ spec_block level spec ++ codes "\n" ++ line level (codes "{")

-- the line before the body of a variant
abbrev pub variant_head : ℕ → Text → Spec → Text
variant_head level name spec = blanks level ++ quoted_name name ++ spec_block level spec ++ codes " {\n"

-- the word before the name of a variant set
unfoldable pub set_word : Text
set_word = codes "variantSet "

-- the line before the variants of a set
abbrev pub set_head : ℕ → Text → Text
set_head level set = blanks level ++ set_word ++ quoted_name set ++ codes " = {\n"

module _ (specs : SpecEntries) (body : ℕ → List Element → Spec → Text) where
  -- a prim behind an empty line; a name without a spec is no prim
  abbrev pub child_text : ℕ → Text → Option Spec → List Element → Text
  child_text level name None path = []
  child_text level name (Some spec) path = prim_head level name spec ++ body (deeper level) path spec ++ line level (codes "}")

  -- the child of this name below a path
  abbrev pub child_below : ℕ → List Element → Text → Text
  child_below level path name = child_text level name (spec_below specs path (Prim name)) (path ++ Prim name ∷ [])

  -- the children of these names, one behind the other
  abbrev pub children_text : ℕ → List Element → List Text → Text
  children_text level path names = flat_map (child_below level path) names

  -- a variant of a set
  abbrev pub variant_text : ℕ → Text → Option Spec → List Element → Text
  variant_text level name None path = []
  variant_text level name (Some spec) path = variant_head level name spec ++ body (deeper level) path spec ++ line level (codes "}")

  -- the variant of this name of a set
  abbrev pub variant_below : ℕ → List Element → Text → Text → Text
  variant_below level path set name = variant_text level name (spec_below specs path (Selection set name)) (path ++ Selection set name ∷ [])

  -- a variant set, with its variants between braces in their order
  abbrev pub set_text : ℕ → List Element → VariantSet → Text
  set_text level path s = set_head level s.set ++ flat_map (variant_below (deeper level) path s.set) s.variants ++ line level (codes "}")

  -- what stands between the braces of a prim or a variant: orders, properties, variant sets and children
  abbrev pub statements : ℕ → List Element → Spec → Text
  statements level path spec =
      order_line level (codes "nameChildren") spec.body.child_order
      ++ order_line level (codes "properties") spec.body.property_order
      ++ flat_map (property_lines level) spec.body.properties
      ++ flat_map (set_text level path) spec.body.variant_names
      ++ children_text level path spec.body.children

-- the statements of a prim or a variant, and of what stands below it for so many levels
unfoldable pub body_text : SpecEntries → ℕ → ℕ → List Element → Spec → Text
body_text specs zero level path spec = []
body_text specs (suc levels) level path spec = statements specs (body_text specs levels) level path spec

-- the metadata of a layer; its default prim is among the keys
abbrev pub with_default_prim : Option Text → MetaEntries → MetaEntries
with_default_prim None meta = meta
with_default_prim (Some name) meta = with_key text_cmp (codes "defaultPrim") (value.Text name) meta

-- the metadata of a layer by key, and behind it the sublayers
abbrev pub head_lines : Head → Text
head_lines head = meta_lines 1 (with_default_prim head.default_prim head.meta) ++ sublayer_lines 1 head.sublayers

-- the metadata of a layer between brackets, where there is any
abbrev pub head_block : Text → Text
head_block [] = []
head_block (c ∷ cs) = codes "(\n" ++ (c ∷ cs) ++ codes ")\n"

-- the order of the root prims, behind an empty line; nothing where there is none
abbrev pub root_order_text : List Text → Text
root_order_text [] = []
root_order_text (n ∷ ns) = codes "\n" ++ order_line 0 (codes "rootPrims") (n ∷ ns)

-- the line with which each layer begins
unfoldable pub first_line : Text
first_line = codes "#usda 1.0\n"

-- what stands before the root prims
abbrev pub layer_front : Head → Text
layer_front head = first_line ++ head_block (head_lines head) ++ root_order_text head.root_order

-- the text of a layer; no prims nest deeper than the layer has specs
unfoldable pub canonical : LayerTable → Text
canonical layer = layer_front layer.head ++ children_text layer.specs (body_text layer.specs (length layer.specs)) 0 [] layer.head.root_names
