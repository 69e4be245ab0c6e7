-- What a prim, a variant or a layer says between its brackets, where it comes back from its text wherever it stands.
use Rattle.std.specs.Prelude.{◌≡◌, ℕ, true, List, [], ◌∷◌, Option, Some, None, codes}
use Rattle.std.specs.Str.{is_utf8}
use Rattle.sdf_paths.specs.Order.{text_cmp}
use Rattle.sdf_paths.specs.Paths.{IsPath}
use Rattle.sdf_values.specs.Scales.{IsOffset}
use Rattle.spec_parts.specs.declared.items.RefItem.{RefItem}
use Rattle.spec_parts.specs.declared.items.SubLayer.{SubLayer}
use Rattle.spec_parts.specs.declared.spec.Head.{Head}
use Rattle.spec_parts.specs.declared.spec.Spec.{Spec}
use Rattle.spec_tables.specs.Tables.{at_key}
use Rattle.usda_fields.specs.Keys.{is_default_prim}
use Rattle.value_texts.specs.Writable.{is_writable_asset}
use Rattle.value_texts.specs.Each.{AreAll}
use Rattle.usda_lists.specs.References.{same_text, same_path, same_item}
use Rattle.layer_texts.specs.Writable.{none_or, is_word}
use Rattle.layer_reads.specs.Keys.{is_plain_key, is_plain_head_key}
use Rattle.layer_reads.specs.Kept.{IsListKept}
use Rattle.layer_reads.specs.Selections.{AreSelectionsKept}
use Rattle.value_returns.specs.Proper.{IsProperMeta}
use Rattle.path_returns.specs.Returns.{IsPathOrAbsent}

-- a text
abbrev pub IsText : List ℕ → Type 0
IsText t = is_utf8 t ≡ true

-- the name of an asset: UTF-8, and never three `@` in a row
pub record IsAssetName (t : List ℕ) : Type 0 where
  pub utf8 : is_utf8 t ≡ true
  pub short_ats : is_writable_asset t ≡ true

-- no asset, or one that is not empty
abbrev pub IsAssetOrAbsent : Option (List ℕ) → Type 0
IsAssetOrAbsent None = Unit {0}
IsAssetOrAbsent (Some []) = ⊥
IsAssetOrAbsent (Some (c ∷ cs)) = IsAssetName (c ∷ cs)

-- an item of references or payloads: an asset, a path, both or neither, and an offset within its limits
pub record IsProperReference (r : RefItem) : Type 0 where
  pub asset : IsAssetOrAbsent r.asset
  pub path : IsPathOrAbsent r.path
  pub offset : IsOffset r.offset

-- the type, the keys, the lists, the selected variants and the orders of a prim or a variant; each item stands once in a list
pub record AreProperFields (spec : Spec) : Type 0 where
  pub type_name : none_or is_word spec.body.type_name ≡ true
  pub keys : IsProperMeta is_plain_key spec.body.meta
  pub api_schemas : IsListKept same_text IsText spec.body.api_schemas
  pub clip_sets : IsListKept same_text IsText spec.body.clip_sets
  pub inherits : IsListKept same_path IsPath spec.arcs.inherits
  pub variant_sets : IsListKept same_text IsText spec.arcs.variant_sets
  pub selections : AreSelectionsKept spec.arcs.selections
  pub references : IsListKept same_item IsProperReference spec.arcs.references
  pub payloads : IsListKept same_item IsProperReference spec.arcs.payloads
  pub specializes : IsListKept same_path IsPath spec.arcs.specializes
  pub child_order : AreAll IsText spec.body.child_order
  pub property_order : AreAll IsText spec.body.property_order

-- an identifier, or the path of a prim from the root down, whether the prim is there or not
pub record IsPrimText (text : List ℕ) : Type 0 where
  pub utf8 : is_utf8 text ≡ true
  pub prim : is_default_prim text ≡ true

-- no default prim, or such a text
abbrev pub IsProperDefaultPrim : Option (List ℕ) → Type 0
IsProperDefaultPrim None = Unit {0}
IsProperDefaultPrim (Some text) = IsPrimText text

-- a layer below, with an offset within its limits
pub record IsProperSublayer (s : SubLayer) : Type 0 where
  pub asset : IsAssetName s.asset
  pub offset : IsOffset s.offset

-- the keys of a layer, its default prim, which is not among them, its sublayers and the order of its root prims
pub record IsProperHead (head : Head) : Type 0 where
  pub keys : IsProperMeta is_plain_head_key head.meta
  pub apart : at_key text_cmp (codes "defaultPrim") head.meta ≡ None
  pub default_prim : IsProperDefaultPrim head.default_prim
  pub sublayers : AreAll IsProperSublayer head.sublayers
  pub root_order : AreAll IsText head.root_order
