-- A proper layer can be written.
use Rattle.std.proofs.Common.{◌≡◌, ◌∙◌, ◌≤◌, ℕ, Bool, true, false, List, [], ◌∷◌, ◌++◌, Option, Some, None, is_some, ap, refl, arith}
use Rattle.std.specs.Prelude.{ℤ, codes, ◌^◌, nat_le, unsigned_abs}
use Rattle.std.specs.List.{list_all}
use Rattle.std.specs.Str.{chars, is_utf8}
use Rattle.std.proofs.lemmas.Bool.Decides.{nat_tests}
use Rattle.plain_data.specs.Exact.{both_true, text_same}
use Rattle.sdf_paths.specs.Paths.{IsPath}
use Rattle.sdf_paths.specs.declared.element.Element.{Element}
use Rattle.sdf_paths.specs.declared.element.Element.TheVariants.{Prim, Selection}
use Rattle.sdf_specs.specs.Layers.{LayerTable, SpecEntries}
use Rattle.sdf_values.specs.declared.type_name.TypeName.{TypeName}
use Rattle.sdf_values.specs.declared.value.Value.{Value}
use Rattle.spec_parts.specs.declared.items.RefItem.{RefItem}
use Rattle.spec_parts.specs.declared.items.SubLayer.{SubLayer}
use Rattle.spec_parts.specs.declared.items.VariantSet.{VariantSet}
use Rattle.spec_parts.specs.declared.spec.Head.{Head}
use Rattle.spec_parts.specs.declared.spec.Spec.{Spec}
use Rattle.spec_properties.specs.Properties.{property_name}
use Rattle.spec_properties.specs.declared.property.Property.{Property}
use Rattle.spec_properties.specs.declared.property.Property.TheVariants.{Attr, Rel}
use Rattle.unicode_ident.proofs.Computing.{unicode_ident}
use Rattle.usd_names.specs.Names.{is_start, is_identifier, is_property_name, is_variant}
use Rattle.usda_grammar.specs.declared.kinds.Keyword.{Keyword}
use Rattle.usda_lists.specs.References.{same_text, same_path, same_item}
use Rattle.usda_statements.specs.PropertyDrafts.{is_named}
use Rattle.usda_writer.specs.Canonical.{spec_below}
use Rattle.usda_writer.specs.Fields.{is_comment}
use Rattle.value_texts.specs.Writable.{is_writable, is_writable_asset, writable_step, writable_item}
use Rattle.value_texts.specs.Each.{AreAll}
use Rattle.sdf_values.proofs.Values as fold
use Rattle.layer_texts.specs.Writable.{none_or, is_word, is_writable_target, is_writable_offset, is_writable_reference, is_writable_sublayer, is_writable_list, is_writable_entry, is_writable_meta, is_writable_selection, is_writable_sample, is_writable_property, is_writable_set, are_writable_arcs, is_writable_body, is_writable_spec, is_writable_head, are_writable_specs, is_writable_layer}
use Rattle.layer_texts.proofs.Paths.{offset_writable, path_writable}
use Rattle.layer_reads.specs.Keys.{is_plain_key, is_plain_head_key}
use Rattle.layer_reads.specs.Meta.{IsCommentKept}
use Rattle.layer_reads.specs.Selections.{IsSelectionKept}
use Rattle.layer_reads.specs.Properties.{is_any_key}
use Rattle.value_returns.specs.Fields.{IsText, IsAssetOrAbsent, IsProperReference, IsProperDefaultPrim, IsProperSublayer, AreProperFields, IsProperHead}
use Rattle.value_returns.specs.Proper.{IsProperDefault, IsProperSample, IsProperAs, IsProperEntry, IsProperMeta, IsProperTarget, IsProperProperty}
use Rattle.path_returns.specs.Returns.{IsPathOrAbsent}
use Rattle.proper_layers.specs.Proper.{IsProper}
use Rattle.proper_layers.specs.Proper.{IsProperEntry as IsProperSpecEntry}
use Rattle.proper_layers.proofs.Lists.{both, all_pass, list_passes}
use Rattle.proper_layers.proofs.Paths.{the_spec, entry}
use Rattle.proper_layers.proofs.Places.{end_named}
use Rattle.trees_read.specs.Names.{AreNamesBelow}
use Rattle.trees_read.specs.Trees.{has_spec}

-- ---- names

-- what is a word is not empty
named_so : (t : List ℕ) → is_word t ≡ true → is_named t ≡ true
unfolding is_word is_property_name chars is_utf8 lib.Utf8.encode
named_so [] h = absurd cc
named_so (c ∷ cs) h = refl

pub property_named : (p : Property) → IsProperProperty p → is_named (property_name p) ≡ true
property_named (Attr name ty custom uniform default samples connections meta) p = named_so name p.named
property_named (Rel name custom targets meta) p = named_so name p.named

comment_word : is_word (codes "comment") ≡ true
unfolding is_word is_property_name unicode_ident is_start chars is_utf8 lib.Utf8.encode
comment_word = refl

-- ---- metadata and properties

comment_written : (key : List ℕ) (v : Value) → is_comment key ≡ true → IsCommentKept v → is_writable_entry (key, v) ≡ true
comment_written key v is p =
    both (is_word key) (is_writable v) (ap is_word (text_same key (codes "comment") is) ∙ comment_word)
    (ap is_writable p.is ∙ fold.of_text Bool Bool writable_step writable_item p.text ∙ p.utf8)

entry_written : (is_name : Keyword → Bool) (e : List ℕ × Value) → IsProperEntry is_name e → is_writable_entry e ≡ true
entry_written is_name e p = by (is_comment e.0) refl p
  where
    by : (b : Bool) → is_comment e.0 ≡ b → IsProperAs b is_name e.0 e.1 → is_writable_entry e ≡ true
    by true is q = comment_written e.0 e.1 is q
    by false is q = both (is_word e.0) (is_writable e.1) q.word q.writable

meta_written : (is_name : Keyword → Bool) (meta : List (List ℕ × Value)) → IsProperMeta is_name meta → is_writable_meta meta ≡ true
meta_written is_name meta p = all_pass (IsProperEntry is_name) is_writable_entry (entry_written is_name) meta p.each

default_written : (ty : TypeName) (o : Option Value) → IsProperDefault ty o → none_or is_writable o ≡ true
default_written ty None p = refl
default_written ty (Some v) p = p.writable

sample_written : (ty : TypeName) (s : ℤ × Value) → IsProperSample ty s → is_writable_sample s ≡ true
sample_written ty s p =
    let near : unsigned_abs s.0 ≤ 10 ^ 30 = p.0 in
    both (nat_le (unsigned_abs s.0) (10 ^ 30)) (is_writable s.1) (grind (arith, nat_tests)) p.1.writable

target_written : (path : List Element) → IsProperTarget path → is_writable_target path ≡ true
target_written path p = path_writable path p.formed

property_written : (p : Property) → IsProperProperty p → is_writable_property p ≡ true
property_written (Attr name ty custom uniform default samples connections meta) p =
    both (is_word name) _ p.named
    (both (none_or is_writable default) _ (default_written ty default p.defaulted)
    (both (list_all is_writable_sample samples) _ (all_pass (IsProperSample ty) is_writable_sample (sample_written ty) samples p.sampled)
    (both (is_writable_list is_writable_target connections) (is_writable_meta meta) (list_passes IsProperTarget is_writable_target target_written same_path connections p.connected) (meta_written is_any_key meta p.said))))
property_written (Rel name custom targets meta) p =
    both (is_word name) _ p.named
    (both (is_writable_list is_writable_target targets) (is_writable_meta meta) (list_passes IsProperTarget is_writable_target target_written same_path targets p.related) (meta_written is_any_key meta p.said))

-- ---- the fields of a prim or a variant

asset_written : (o : Option (List ℕ)) → IsAssetOrAbsent o → none_or is_writable_asset o ≡ true
asset_written None p = refl
asset_written (Some []) p = absurd p
asset_written (Some (c ∷ cs)) p = p.short_ats

path_or_none_written : (o : Option (List Element)) → IsPathOrAbsent o → none_or is_writable_target o ≡ true
path_or_none_written None p = refl
path_or_none_written (Some path) p = path_writable path p

reference_written : (r : RefItem) → IsProperReference r → is_writable_reference r ≡ true
reference_written r p =
    both (none_or is_writable_asset r.asset) _ (asset_written r.asset p.asset)
    (both (none_or is_writable_target r.path) (is_writable_offset r.offset) (path_or_none_written r.path p.path) (offset_writable r.offset p.offset))

text_written : (t : List ℕ) → IsText t → is_utf8 t ≡ true
text_written t p = p

selection_written : (s : List ℕ × List ℕ) → IsSelectionKept s → is_writable_selection s ≡ true
selection_written s p = both (is_utf8 s.0) (is_utf8 s.1) p.0 p.1

arcs_written : (spec : Spec) → AreProperFields spec → are_writable_arcs spec.arcs ≡ true
arcs_written spec p =
    both (is_writable_list is_writable_target spec.arcs.inherits) _ (list_passes IsPath is_writable_target path_writable same_path spec.arcs.inherits p.inherits)
    (both (is_writable_list is_writable_target spec.arcs.specializes) _ (list_passes IsPath is_writable_target path_writable same_path spec.arcs.specializes p.specializes)
    (both (is_writable_list is_writable_reference spec.arcs.references) _ (list_passes IsProperReference is_writable_reference reference_written same_item spec.arcs.references p.references)
    (both (is_writable_list is_writable_reference spec.arcs.payloads) _ (list_passes IsProperReference is_writable_reference reference_written same_item spec.arcs.payloads p.payloads)
    (both (is_writable_list is_utf8 spec.arcs.variant_sets) _ (list_passes IsText is_utf8 text_written same_text spec.arcs.variant_sets p.variant_sets)
    (all_pass IsSelectionKept is_writable_selection selection_written spec.arcs.selections p.selections.each)))))

-- ---- names of children and variants

module _ (specs : SpecEntries) (entries : AreAll (λ e. IsProperSpecEntry specs e.0 e.1) specs) where
  name_written : (path : List Element) (name : List ℕ) → is_some (spec_below specs path (Prim name)) ≡ true → is_identifier name ≡ true
  name_written path name h =
      let at = the_spec (spec_below specs path (Prim name)) h in
      end_named path (Prim name) (entry specs entries (path ++ Prim name ∷ []) at.0 at.1).place

  names_written : (path : List Element) (names : List (List ℕ)) → AreAll (λ name. is_some (spec_below specs path (Prim name)) ≡ true) names → list_all is_identifier names ≡ true
  names_written path names all = all_pass (λ name. is_some (spec_below specs path (Prim name)) ≡ true) is_identifier (name_written path) names all

  variant_written : (path : List Element) (set name : List ℕ) → is_some (spec_below specs path (Selection set name)) ≡ true → is_variant name ≡ true
  variant_written path set name h =
      let at = the_spec (spec_below specs path (Selection set name)) h in
      (both_true (is_identifier set) (is_variant name) (end_named path (Selection set name) (entry specs entries (path ++ Selection set name ∷ []) at.0 at.1).place)).1

  variants_written : (path : List Element) (set : List ℕ) (names : List (List ℕ)) → AreAll (λ name. is_some (spec_below specs path (Selection set name)) ≡ true) names → list_all is_variant names ≡ true
  variants_written path set names all = all_pass (λ name. is_some (spec_below specs path (Selection set name)) ≡ true) is_variant (variant_written path set) names all

  sets_written : (path : List Element) (ss : List VariantSet) → AreAll (λ s. is_identifier s.set ≡ true) ss → AreAll (λ s. AreNamesBelow (has_spec specs) path (Selection s.set) s.variants) ss → list_all is_writable_set ss ≡ true
  sets_written path [] named each = refl
  sets_written path (s ∷ ss) named each =
      both (is_writable_set s) (list_all is_writable_set ss) (both (is_identifier s.set) (list_all is_variant s.variants) named.0 (variants_written path s.set s.variants each.0.each)) (sets_written path ss named.1 each.1)

  -- ---- specs

  body_written : (path : List Element) (s : Spec) → IsProperSpecEntry specs path s → is_writable_body s.body ≡ true
  body_written path s e =
      let p : AreProperFields s = e.fields in
      both (none_or is_word s.body.type_name) _ p.type_name
      (both (is_writable_meta s.body.meta) _ (meta_written is_plain_key s.body.meta p.keys)
      (both (is_writable_list is_utf8 s.body.api_schemas) _ (list_passes IsText is_utf8 text_written same_text s.body.api_schemas p.api_schemas)
      (both (is_writable_list is_utf8 s.body.clip_sets) _ (list_passes IsText is_utf8 text_written same_text s.body.clip_sets p.clip_sets)
      (both (list_all is_identifier s.body.children) _ (names_written path s.body.children e.children.each)
      (both (list_all is_utf8 s.body.child_order) _ (all_pass IsText is_utf8 text_written s.body.child_order p.child_order)
      (both (list_all is_writable_property s.body.properties) _ (all_pass IsProperProperty is_writable_property property_written s.body.properties e.properties)
      (both (list_all is_utf8 s.body.property_order) (list_all is_writable_set s.body.variant_names) (all_pass IsText is_utf8 text_written s.body.property_order p.property_order)
      (sets_written path s.body.variant_names e.sets.named e.sets.each))))))))

  specs_written : (some : SpecEntries) → AreAll (λ e. IsProperSpecEntry specs e.0 e.1) some → are_writable_specs some ≡ true
  unfolding is_writable_spec
  specs_written some all =
      all_pass (λ e. IsProperSpecEntry specs e.0 e.1) (λ e. is_writable_spec e.1)
      (λ e p. both (are_writable_arcs e.1.arcs) (is_writable_body e.1.body) (arcs_written e.1 p.fields) (body_written e.0 e.1 p)) some all

-- ---- the head

default_prim_written : (o : Option (List ℕ)) → IsProperDefaultPrim o → none_or is_utf8 o ≡ true
default_prim_written None p = refl
default_prim_written (Some t) p = p.utf8

sublayer_written : (s : SubLayer) → IsProperSublayer s → is_writable_sublayer s ≡ true
sublayer_written s p = both (is_writable_asset s.asset) (is_writable_offset s.offset) p.asset.short_ats (offset_writable s.offset p.offset)

head_written : (head : Head) → IsProperHead head → list_all is_identifier head.root_names ≡ true → is_writable_head head ≡ true
head_written head p names =
    both (none_or is_utf8 head.default_prim) _ (default_prim_written head.default_prim p.default_prim)
    (both (is_writable_meta head.meta) _ (meta_written is_plain_head_key head.meta p.keys)
    (both (list_all is_writable_sublayer head.sublayers) _ (all_pass IsProperSublayer is_writable_sublayer sublayer_written head.sublayers p.sublayers)
    (both (list_all is_identifier head.root_names) (list_all is_utf8 head.root_order) names (all_pass IsText is_utf8 text_written head.root_order p.root_order))))

pub proper_written : (layer : LayerTable) → IsProper layer → is_writable_layer layer ≡ true
unfolding is_writable_layer
proper_written layer p =
    both (is_writable_head layer.head) (are_writable_specs layer.specs)
    (head_written layer.head p.head (names_written layer.specs p.entries [] layer.head.root_names p.roots.each)) (specs_written layer.specs p.entries layer.specs p.entries)
