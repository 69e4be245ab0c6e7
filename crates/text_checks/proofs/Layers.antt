-- Prims, variants and layers.
use Rattle.std.proofs.Common.{◌≡◌, ℕ, zero, suc, ◌&&◌, cond, Bool, true, false, List, [], ◌∷◌, ◌++◌, length, Option, Some, None, refl}
use Rattle.std.specs.Prelude.{codes}
use Rattle.std.specs.BTreeMap.{is_at}
use Rattle.std.specs.List.{list_all, flat_map}
use Rattle.std.specs.Map.{lookup}
use Rattle.std.specs.Str.{is_utf8}
use Rattle.std.proofs.lemmas.Bool.{and_parts, and_from}
use Rattle.usd_names.specs.Names.{is_identifier, is_variant}
use Rattle.sdf_paths.specs.Order.{path_cmp}
use Rattle.sdf_paths.specs.declared.element.Element.{Element}
use Rattle.sdf_paths.specs.declared.element.Element.TheVariants.{Prim, Selection}
use Rattle.sdf_values.specs.Print.{deeper, quoted}
use Rattle.spec_properties.specs.declared.property.Property.{Property}
use Rattle.spec_parts.specs.declared.items.Specifier.{Specifier}
use Rattle.spec_parts.specs.declared.items.Specifier.TheVariants.{Def, Over, Class}
use Rattle.spec_parts.specs.declared.items.VariantSet.{VariantSet}
use Rattle.spec_parts.specs.declared.spec.Head.{Head}
use Rattle.spec_parts.specs.declared.spec.Spec.{Spec}
use Rattle.sdf_specs.specs.Layers.{LayerTable, SpecEntries}
use Rattle.usda_writer.specs.Texts.{specifier_text}
use Rattle.usda_writer.specs.Fields.{line, spec_lines}
use Rattle.usda_writer.specs.Properties.{property_lines}
use Rattle.usda_writer.specs.Canonical.{order_line, type_part, spec_below, spec_block, prim_title, prim_head, variant_head, set_word, set_head, child_text, child_below, children_text, variant_text, variant_below, set_text, statements, body_text, with_default_prim, head_lines, head_block, root_order_text, first_line, layer_front, canonical}
use Rattle.layer_texts.specs.Writable.{none_or, is_word, is_writable_list, is_writable_meta, is_writable_property, is_writable_set, is_writable_body, is_writable_spec, is_writable_head, is_writable_sublayer, is_writable_layer}
use Rattle.layer_texts.proofs.Metadata.{default_writable}
use Rattle.text_checks.specs.Utf8.{is_utf8_property, is_utf8_meta, is_utf8_spec, is_utf8_head, is_utf8_layer}
use Rattle.text_checks.proofs.Bytes.{IsValid, two, nothing, ascii, all}
use Rattle.text_checks.proofs.Fields.{word_valid, meta_valid, default_utf8, spec_valid, sublayers_valid}
use Rattle.text_checks.proofs.Lists.{line_valid, block_valid, bracketed_valid}
use Rattle.text_checks.proofs.Properties.{property_valid}
use Rattle.text_checks.proofs.Strings.{string_valid, identifier_valid, variant_valid}
use Rattle.text_checks.proofs.Values.{indent_valid}

-- an order of children or properties
order_valid : (level : ℕ) {word : List ℕ} → IsValid word → (names : List (List ℕ)) → list_all is_utf8 names ≡ true → IsValid (order_line level word names)
order_valid level w [] h = nothing
order_valid level w (n ∷ ns) h = line_valid level (two (two (two (ascii (codes "reorder ") refl) w) (ascii (codes " = ") refl)) (bracketed_valid quoted is_utf8 string_valid (n ∷ ns) h))

-- what a prim is, and its name
specifier_valid : (s : Specifier) → IsValid (specifier_text s)
specifier_valid Def = ascii (codes "def") refl
specifier_valid Over = ascii (codes "over") refl
specifier_valid Class = ascii (codes "class") refl

type_part_valid : (name : Option (List ℕ)) → none_or is_word name ≡ true → IsValid (type_part name)
type_part_valid None h = nothing
type_part_valid (Some name) h = two (word_valid name h) (ascii (codes " ") refl)

title_valid : (level : ℕ) (name : List ℕ) (spec : Spec) → is_identifier name ≡ true → none_or is_word spec.body.type_name ≡ true → IsValid (prim_title level name spec)
title_valid level name spec h t =
    two (two (two (two (indent_valid level) (specifier_valid spec.body.specifier)) (ascii (codes " ") refl)) (type_part_valid spec.body.type_name t)) (identifier_valid name h)

-- a spec of which both tests hold
abbrev is_good : Spec → Bool
is_good spec = is_writable_spec spec && is_utf8_spec spec

record Tests (spec : Spec) : Type 0 where
  pub writable : is_writable_spec spec ≡ true
  pub utf8 : is_utf8_spec spec ≡ true
  pub body : is_writable_body spec.body ≡ true
  pub properties : list_all is_utf8_property spec.body.properties ≡ true

tests : (spec : Spec) → is_good spec ≡ true → Tests spec
unfolding is_writable_spec is_utf8_spec
tests spec h =
    let p = and_parts (is_writable_spec spec) (is_utf8_spec spec) h in
    let body = and_parts _ _ p.0 in
    let parts = and_parts _ _ p.1 in
    record { writable = p.0; utf8 = p.1; body = body.1; properties = (and_parts _ _ parts.1).1 }

metadata_valid : (level : ℕ) (spec : Spec) → Tests spec → IsValid (spec_block level spec)
unfolding spec_block
metadata_valid level spec h = block_valid level (spec_lines (deeper level) spec) (spec_valid (deeper level) spec h.writable h.utf8)

prim_head_valid : (level : ℕ) (name : List ℕ) (spec : Spec) → is_identifier name ≡ true → Tests spec → IsValid (prim_head level name spec)
prim_head_valid level name spec n h =
    two (two (two (two (ascii (codes "\n") refl) (title_valid level name spec n (and_parts _ _ h.body).0)) (metadata_valid level spec h)) (ascii (codes "\n") refl)) (line_valid level (ascii (codes "{") refl))

variant_head_valid : (level : ℕ) (name : List ℕ) (spec : Spec) → is_variant name ≡ true → Tests spec → IsValid (variant_head level name spec)
variant_head_valid level name spec n h = two (two (two (indent_valid level) (variant_valid name n)) (metadata_valid level spec h)) (ascii (codes " {\n") refl)

set_head_valid : (level : ℕ) (set : List ℕ) → is_identifier set ≡ true → IsValid (set_head level set)
unfolding set_word
set_head_valid level set h = two (two (two (indent_valid level) (ascii (codes "variantSet ") refl)) (identifier_valid set h)) (ascii (codes " = {\n") refl)

-- what is found among specs of which both tests hold
found_good : {K : Type 0} (test : K → Bool) (es : List (K × Spec)) → list_all (λ e. is_good e.1) es ≡ true → none_or is_good (lookup test es) ≡ true
found_good test [] h = refl
found_good test (e ∷ es) h = let p = and_parts (is_good e.1) (list_all (λ e. is_good e.1) es) h in cases (test e.0) p.0 (found_good test es p.1)
  where
    cases : (b : Bool) → is_good e.1 ≡ true → none_or is_good (lookup test es) ≡ true → none_or is_good (cond b (Some e.1) (lookup test es)) ≡ true
    cases true here more = here
    cases false here more = more

closed : (level : ℕ) → IsValid (line level (codes "}"))
closed level = line_valid level (ascii (codes "}") refl)

-- each property, of which both tests hold
properties_valid : (level : ℕ) (ps : List Property) → list_all is_writable_property ps ≡ true → list_all is_utf8_property ps ≡ true → IsValid (flat_map (property_lines level) ps)
properties_valid level [] w u = nothing
properties_valid level (p ∷ ps) w u =
    let a = and_parts (is_writable_property p) (list_all is_writable_property ps) w in
    let b = and_parts (is_utf8_property p) (list_all is_utf8_property ps) u in
    two (property_valid level p a.0 b.0) (properties_valid level ps a.1 b.1)

-- what stands below a prim, where the bodies one level further in are UTF-8
module _ (specs : SpecEntries) (good : list_all (λ e. is_good e.1) specs ≡ true) (body : ℕ → List Element → Spec → List ℕ)
    (each : (level : ℕ) (path : List Element) (spec : Spec) → is_good spec ≡ true → IsValid (body level path spec)) where
  child_valid : (level : ℕ) (name : List ℕ) (o : Option Spec) (path : List Element) → is_identifier name ≡ true → none_or is_good o ≡ true → IsValid (child_text specs body level name o path)
  child_valid level name None path n h = nothing
  child_valid level name (Some spec) path n h = two (two (prim_head_valid level name spec n (tests spec h)) (each (deeper level) path spec h)) (closed level)

  pub children_valid : (level : ℕ) (path : List Element) (names : List (List ℕ)) → list_all is_identifier names ≡ true → IsValid (children_text specs body level path names)
  children_valid level path names h =
      all (child_below specs body level path) is_identifier
      (λ name n. child_valid level name (spec_below specs path (Prim name)) (path ++ Prim name ∷ []) n (found_good (is_at (path_cmp (path ++ Prim name ∷ []))) specs good)) names h

  variant_text_valid : (level : ℕ) (name : List ℕ) (o : Option Spec) (path : List Element) → is_variant name ≡ true → none_or is_good o ≡ true → IsValid (variant_text specs body level name o path)
  variant_text_valid level name None path n h = nothing
  variant_text_valid level name (Some spec) path n h = two (two (variant_head_valid level name spec n (tests spec h)) (each (deeper level) path spec h)) (closed level)

  set_valid : (level : ℕ) (path : List Element) (s : VariantSet) → is_writable_set s ≡ true → IsValid (set_text specs body level path s)
  set_valid level path s h =
      let p = and_parts (is_identifier s.set) (list_all is_variant s.variants) h in
      two (two (set_head_valid level s.set p.0)
      (all (variant_below specs body (deeper level) path s.set) is_variant
      (λ name n. variant_text_valid (deeper level) name (spec_below specs path (Selection s.set name)) (path ++ Selection s.set name ∷ []) n
      (found_good (is_at (path_cmp (path ++ Selection s.set name ∷ []))) specs good)) s.variants p.1))
      (closed level)

  statements_valid : (level : ℕ) (path : List Element) (spec : Spec) → is_good spec ≡ true → IsValid (statements specs body level path spec)
  statements_valid level path spec h =
      let t = tests spec h in
      let typed = and_parts (none_or is_word spec.body.type_name) _ t.body in let meta = and_parts (is_writable_meta spec.body.meta) _ typed.1 in
      let schemas = and_parts (is_writable_list is_utf8 spec.body.api_schemas) _ meta.1 in let clips = and_parts (is_writable_list is_utf8 spec.body.clip_sets) _ schemas.1 in
      let children = and_parts _ _ clips.1 in let order = and_parts _ _ children.1 in let properties = and_parts _ _ order.1 in let sets = and_parts _ _ properties.1 in
      two (two (two (two
      (order_valid level (ascii (codes "nameChildren") refl) spec.body.child_order order.0)
      (order_valid level (ascii (codes "properties") refl) spec.body.property_order sets.0))
      (properties_valid level spec.body.properties properties.0 t.properties))
      (all (set_text specs body level path) is_writable_set (set_valid level path) spec.body.variant_names sets.1))
      (children_valid level path spec.body.children children.0)

-- bodies of so many levels
body_valid : (specs : SpecEntries) → list_all (λ e. is_good e.1) specs ≡ true → (levels level : ℕ) (path : List Element) (spec : Spec) → is_good spec ≡ true → IsValid (body_text specs levels level path spec)
unfolding body_text
body_valid specs good zero level path spec h = nothing
body_valid specs good (suc levels) level path spec h = statements_valid specs good (body_text specs levels) (λ l p s w. body_valid specs good levels l p s w) level path spec h

-- ---- the whole layer

specs_good : (specs : SpecEntries) → list_all (λ e. is_writable_spec e.1) specs ≡ true → list_all (λ e. is_utf8_spec e.1) specs ≡ true → list_all (λ e. is_good e.1) specs ≡ true
specs_good [] w u = refl
specs_good (e ∷ es) w u =
    let p = and_parts (is_writable_spec e.1) (list_all (λ e. is_writable_spec e.1) es) w in
    let q = and_parts (is_utf8_spec e.1) (list_all (λ e. is_utf8_spec e.1) es) u in
    and_from (is_good e.1) (list_all (λ e. is_good e.1) es) (and_from (is_writable_spec e.1) (is_utf8_spec e.1) p.0 q.0) (specs_good es p.1 q.1)

head_block_valid : (t : List ℕ) → IsValid t → IsValid (head_block t)
head_block_valid [] h = nothing
head_block_valid (c ∷ cs) h = two (two (ascii (codes "(\n") refl) h) (ascii (codes ")\n") refl)

root_order_valid : (names : List (List ℕ)) → list_all is_utf8 names ≡ true → IsValid (root_order_text names)
root_order_valid [] h = nothing
root_order_valid (n ∷ ns) h = two (ascii (codes "\n") refl) (order_valid 0 (ascii (codes "rootPrims") refl) (n ∷ ns) h)

head_valid : (head : Head) → is_writable_head head ≡ true → is_utf8_head head ≡ true → IsValid (layer_front head)
unfolding first_line
head_valid head h u =
    let named = and_parts (none_or is_utf8 head.default_prim) _ h in let meta = and_parts (is_writable_meta head.meta) _ named.1 in
    let sublayers = and_parts (list_all is_writable_sublayer head.sublayers) _ meta.1 in let names = and_parts (list_all is_identifier head.root_names) _ sublayers.1 in
    let utf8 = and_parts (is_utf8_meta head.meta) _ u in
    two (two (ascii (codes "#usda 1.0\n") refl)
    (head_block_valid (head_lines head)
    (two (meta_valid 1 (with_default_prim head.default_prim head.meta) (default_writable head.default_prim head.meta named.0 meta.0) (default_utf8 head.default_prim head.meta utf8.0))
    (sublayers_valid 1 head.sublayers utf8.1))))
    (root_order_valid head.root_order names.1)

pub layer_valid : (layer : LayerTable) → is_writable_layer layer ≡ true → is_utf8_layer layer ≡ true → IsValid (canonical layer)
unfolding canonical is_writable_layer is_utf8_layer
layer_valid layer h u =
    let p = and_parts _ _ h in
    let q = and_parts _ _ u in
    let named = and_parts (none_or is_utf8 layer.head.default_prim) _ p.0 in let meta = and_parts (is_writable_meta layer.head.meta) _ named.1 in
    let sublayers = and_parts (list_all is_writable_sublayer layer.head.sublayers) _ meta.1 in let names = and_parts (list_all is_identifier layer.head.root_names) _ sublayers.1 in
    let good = specs_good layer.specs p.1 q.1 in
    two (head_valid layer.head p.0 q.0)
    (children_valid layer.specs good (body_text layer.specs (length layer.specs)) (λ l path spec w. body_valid layer.specs good (length layer.specs) l path spec w) 0 [] layer.head.root_names names.0)
