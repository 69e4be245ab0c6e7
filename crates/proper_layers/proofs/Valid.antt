-- The assets and the paths of a proper layer are UTF-8.
use Rattle.std.proofs.Common.{◌≡◌, ◌∙◌, ℕ, Bool, true, false, List, [], ◌∷◌, Option, Some, None, ap, refl}
use Rattle.std.specs.Prelude.{ℤ}
use Rattle.std.specs.List.{list_all}
use Rattle.std.specs.Str.{is_utf8}
use Rattle.sdf_paths.specs.Paths.{IsPath}
use Rattle.sdf_paths.specs.declared.element.Element.{Element}
use Rattle.sdf_specs.specs.Layers.{LayerTable, SpecEntries}
use Rattle.sdf_values.specs.declared.type_name.TypeName.{TypeName}
use Rattle.sdf_values.specs.declared.value.Value.{Value}
use Rattle.spec_parts.specs.declared.items.RefItem.{RefItem}
use Rattle.spec_parts.specs.declared.spec.Head.{Head}
use Rattle.spec_parts.specs.declared.spec.Spec.{Spec}
use Rattle.spec_properties.specs.declared.property.Property.{Property}
use Rattle.spec_properties.specs.declared.property.Property.TheVariants.{Attr, Rel}
use Rattle.usda_grammar.specs.declared.kinds.Keyword.{Keyword}
use Rattle.usda_lists.specs.References.{same_path, same_item}
use Rattle.usda_writer.specs.Fields.{is_comment}
use Rattle.sdf_values.proofs.Values as fold
use Rattle.layer_texts.specs.Writable.{none_or, is_writable_list}
use Rattle.text_checks.specs.Utf8.{utf8_step, utf8_item, is_utf8_value, is_utf8_path, is_utf8_reference, is_utf8_sublayer, is_utf8_meta, is_utf8_sample, is_utf8_property, are_utf8_arcs, is_utf8_spec, is_utf8_head, is_utf8_layer}
use Rattle.path_returns.proofs.Utf8.{path_is_utf8}
use Rattle.path_returns.specs.Returns.{IsPathOrAbsent}
use Rattle.layer_reads.specs.Keys.{is_plain_key, is_plain_head_key}
use Rattle.layer_reads.specs.Properties.{is_any_key}
use Rattle.value_returns.specs.Fields.{IsAssetOrAbsent, IsProperReference, IsProperSublayer, AreProperFields, IsProperHead}
use Rattle.value_returns.specs.Proper.{IsProperDefault, IsProperSample, IsProperAs, IsProperEntry, IsProperMeta, IsProperTarget, IsProperProperty}
use Rattle.proper_layers.specs.Proper.{IsProper}
use Rattle.proper_layers.specs.Proper.{IsProperEntry as IsProperSpecEntry}
use Rattle.proper_layers.proofs.Lists.{both, all_pass, list_passes}

-- ---- metadata and properties

entry_valid : (is_name : Keyword → Bool) (e : List ℕ × Value) → IsProperEntry is_name e → is_utf8_value e.1 ≡ true
entry_valid is_name e p = by (is_comment e.0) p
  where
    by : (b : Bool) → IsProperAs b is_name e.0 e.1 → is_utf8_value e.1 ≡ true
    by true q = ap is_utf8_value q.is ∙ fold.of_text Bool Bool utf8_step utf8_item q.text
    by false q = q.utf8

meta_valid : (is_name : Keyword → Bool) (meta : List (List ℕ × Value)) → IsProperMeta is_name meta → is_utf8_meta meta ≡ true
meta_valid is_name meta p = all_pass (IsProperEntry is_name) (λ e. is_utf8_value e.1) (entry_valid is_name) meta p.each

default_valid : (ty : TypeName) (o : Option Value) → IsProperDefault ty o → none_or is_utf8_value o ≡ true
default_valid ty None p = refl
default_valid ty (Some v) p = p.utf8

sample_valid : (ty : TypeName) (s : ℤ × Value) → IsProperSample ty s → is_utf8_sample s ≡ true
sample_valid ty s p = p.1.utf8

target_valid : (path : List Element) → IsProperTarget path → is_utf8_path path ≡ true
target_valid path p = path_is_utf8 path p.formed

property_valid : (p : Property) → IsProperProperty p → is_utf8_property p ≡ true
property_valid (Attr name ty custom uniform default samples connections meta) p =
    both (none_or is_utf8_value default) _ (default_valid ty default p.defaulted)
    (both (list_all is_utf8_sample samples) _ (all_pass (IsProperSample ty) is_utf8_sample (sample_valid ty) samples p.sampled)
    (both (is_writable_list is_utf8_path connections) (is_utf8_meta meta) (list_passes IsProperTarget is_utf8_path target_valid same_path connections p.connected) (meta_valid is_any_key meta p.said)))
property_valid (Rel name custom targets meta) p =
    both (is_writable_list is_utf8_path targets) (is_utf8_meta meta) (list_passes IsProperTarget is_utf8_path target_valid same_path targets p.related) (meta_valid is_any_key meta p.said)

-- ---- prims, variants and layers

asset_valid : (o : Option (List ℕ)) → IsAssetOrAbsent o → none_or is_utf8 o ≡ true
asset_valid None p = refl
asset_valid (Some []) p = absurd p
asset_valid (Some (c ∷ cs)) p = p.utf8

path_or_none_valid : (o : Option (List Element)) → IsPathOrAbsent o → none_or is_utf8_path o ≡ true
path_or_none_valid None p = refl
path_or_none_valid (Some path) p = path_is_utf8 path p

reference_valid : (r : RefItem) → IsProperReference r → is_utf8_reference r ≡ true
reference_valid r p = both (none_or is_utf8 r.asset) (none_or is_utf8_path r.path) (asset_valid r.asset p.asset) (path_or_none_valid r.path p.path)

arcs_valid : (spec : Spec) → AreProperFields spec → are_utf8_arcs spec.arcs ≡ true
arcs_valid spec p =
    both (is_writable_list is_utf8_path spec.arcs.inherits) _ (list_passes IsPath is_utf8_path path_is_utf8 same_path spec.arcs.inherits p.inherits)
    (both (is_writable_list is_utf8_path spec.arcs.specializes) _ (list_passes IsPath is_utf8_path path_is_utf8 same_path spec.arcs.specializes p.specializes)
    (both (is_writable_list is_utf8_reference spec.arcs.references) (is_writable_list is_utf8_reference spec.arcs.payloads)
    (list_passes IsProperReference is_utf8_reference reference_valid same_item spec.arcs.references p.references) (list_passes IsProperReference is_utf8_reference reference_valid same_item spec.arcs.payloads p.payloads)))

spec_valid : (specs : SpecEntries) (e : List Element × Spec) → IsProperSpecEntry specs e.0 e.1 → is_utf8_spec e.1 ≡ true
unfolding is_utf8_spec
spec_valid specs e p =
    both (are_utf8_arcs e.1.arcs) _ (arcs_valid e.1 p.fields)
    (both (is_utf8_meta e.1.body.meta) (list_all is_utf8_property e.1.body.properties) (meta_valid is_plain_key e.1.body.meta p.fields.keys)
    (all_pass IsProperProperty is_utf8_property property_valid e.1.body.properties p.properties))

head_valid : (head : Head) → IsProperHead head → is_utf8_head head ≡ true
head_valid head p =
    both (is_utf8_meta head.meta) (list_all is_utf8_sublayer head.sublayers) (meta_valid is_plain_head_key head.meta p.keys)
    (all_pass IsProperSublayer is_utf8_sublayer (λ s q. q.asset.utf8) head.sublayers p.sublayers)

pub proper_valid : (layer : LayerTable) → IsProper layer → is_utf8_layer layer ≡ true
unfolding is_utf8_layer
proper_valid layer p =
    both (is_utf8_head layer.head) (list_all (λ e. is_utf8_spec e.1) layer.specs) (head_valid layer.head p.head)
    (all_pass (λ e. IsProperSpecEntry layer.specs e.0 e.1) (λ e. is_utf8_spec e.1) (spec_valid layer.specs) layer.specs p.entries)
