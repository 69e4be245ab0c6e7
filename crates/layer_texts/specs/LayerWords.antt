-- The words of a layer.
use Rattle.std.specs.Prelude.{ℕ, zero, suc, List, [], ◌∷◌, ◌++◌, codes, length, Option, Some, None}
use Rattle.std.specs.List.{flat_map}
use Rattle.sdf_paths.specs.declared.element.Element.{Element}
use Rattle.sdf_paths.specs.declared.element.Element.TheVariants.{Prim, Selection}
use Rattle.spec_parts.specs.declared.items.VariantSet.{VariantSet}
use Rattle.spec_parts.specs.declared.spec.Head.{Head}
use Rattle.spec_parts.specs.declared.spec.Spec.{Spec}
use Rattle.sdf_specs.specs.Layers.{LayerTable, SpecEntries}
use Rattle.usda_writer.specs.Texts.{specifier_text}
use Rattle.usda_writer.specs.Canonical.{spec_below, with_default_prim}
use Rattle.value_texts.specs.Cuts.{Said}
use Rattle.value_texts.specs.ValueWords.{open_brace, close_brace, equals}
use Rattle.layer_texts.specs.ListWords.{word, string_words, bracketed_words}
use Rattle.layer_texts.specs.FieldWords.{block_words, meta_words, spec_words, sublayers_words}
use Rattle.layer_texts.specs.PropertyWords.{property_words}

-- an order of children or properties, where there is one
abbrev pub order_words : List ℕ → List (List ℕ) → List Said
order_words name [] = []
order_words name (n ∷ ns) = word (codes "reorder") ++ word name ++ (equals ∷ []) ++ bracketed_words string_words (n ∷ ns)

-- the type behind the specifier
abbrev pub type_words : Option (List ℕ) → List Said
type_words None = []
type_words (Some name) = word name

-- what a prim is, and its name
abbrev pub title_words : List ℕ → Spec → List Said
title_words name spec = word (specifier_text spec.body.specifier) ++ type_words spec.body.type_name ++ string_words name

-- what stands before the body of a prim
abbrev pub prim_head_words : List ℕ → Spec → List Said
prim_head_words name spec = title_words name spec ++ block_words (spec_words spec) ++ (open_brace ∷ [])

-- what stands before the body of a variant
abbrev pub variant_head_words : List ℕ → Spec → List Said
variant_head_words name spec = string_words name ++ block_words (spec_words spec) ++ (open_brace ∷ [])

-- what stands before the variants of a set
abbrev pub set_head_words : List ℕ → List Said
set_head_words set = word (codes "variantSet") ++ string_words set ++ (equals ∷ open_brace ∷ [])

module _ (specs : SpecEntries) (body : List Element → Spec → List Said) where
  -- a prim; a name without a spec is no prim
  abbrev pub child_words : List ℕ → Option Spec → List Element → List Said
  child_words name None path = []
  child_words name (Some spec) path = prim_head_words name spec ++ body path spec ++ (close_brace ∷ [])

  -- the child of this name below a path
  abbrev pub child_words_below : List Element → List ℕ → List Said
  child_words_below path name = child_words name (spec_below specs path (Prim name)) (path ++ Prim name ∷ [])

  -- the children of these names, one behind the other
  abbrev pub children_words : List Element → List (List ℕ) → List Said
  children_words path names = flat_map (child_words_below path) names

  -- a variant of a set
  abbrev pub variant_words : List ℕ → Option Spec → List Element → List Said
  variant_words name None path = []
  variant_words name (Some spec) path = variant_head_words name spec ++ body path spec ++ (close_brace ∷ [])

  -- the variant of this name of a set
  abbrev pub variant_words_below : List Element → List ℕ → List ℕ → List Said
  variant_words_below path set name = variant_words name (spec_below specs path (Selection set name)) (path ++ Selection set name ∷ [])

  -- a variant set, with its variants between braces in their order
  abbrev pub set_words : List Element → VariantSet → List Said
  set_words path s = set_head_words s.set ++ flat_map (variant_words_below path s.set) s.variants ++ (close_brace ∷ [])

  -- what stands between the braces of a prim or a variant: orders, properties, variant sets and children
  abbrev pub statement_words : List Element → Spec → List Said
  statement_words path spec =
      order_words (codes "nameChildren") spec.body.child_order
      ++ order_words (codes "properties") spec.body.property_order
      ++ flat_map property_words spec.body.properties
      ++ flat_map (set_words path) spec.body.variant_names
      ++ children_words path spec.body.children

-- the statements of a prim or a variant, and of what stands below it for so many levels
unfoldable pub body_words : SpecEntries → ℕ → List Element → Spec → List Said
body_words specs zero path spec = []
body_words specs (suc levels) path spec = statement_words specs (body_words specs levels) path spec

-- the metadata of a layer; its default prim is among the keys
abbrev pub head_words : Head → List Said
head_words head = meta_words (with_default_prim head.default_prim head.meta) ++ sublayers_words head.sublayers

-- what stands before the root prims; the first line is a comment, which has no words
abbrev pub front_words : Head → List Said
front_words head = block_words (head_words head) ++ order_words (codes "rootPrims") head.root_order

-- the words of a layer
unfoldable pub layer_words : LayerTable → List Said
layer_words layer = front_words layer.head ++ children_words layer.specs (body_words layer.specs (length layer.specs)) [] layer.head.root_names
