-- The lines of a property.
use Rattle.std.proofs.Common.{◌≡◌, ℕ, Bool, true, List, [], ◌∷◌, Option, Some, None, refl}
use Rattle.std.specs.Prelude.{codes, ℤ}
use Rattle.std.specs.List.{list_all, flat_map}
use Rattle.std.proofs.lemmas.Bool.{and_parts}
use Rattle.list_ops.specs.declared.op.ListOp.{ListOp}
use Rattle.sdf_paths.specs.declared.element.Element.{Element}
use Rattle.sdf_values.specs.Print.{deeper}
use Rattle.sdf_values.specs.declared.value.Value.{Value}
use Rattle.spec_properties.specs.Entries.{MetaEntries, SampleEntries}
use Rattle.spec_properties.specs.declared.property.Property.{Property}
use Rattle.spec_properties.specs.declared.property.Property.TheVariants.{Attr, Rel}
use Rattle.usda_writer.specs.Texts.{path_text}
use Rattle.usda_writer.specs.Fields.{meta_lines}
use Rattle.usda_writer.specs.Properties.{flag_text, value_text, sample_line, sample_lines, attribute_line, targets_text, relationship_lines, property_lines}
use Rattle.value_texts.specs.Writable.{is_writable}
use Rattle.layer_texts.specs.Writable.{none_or, is_writable_sample, is_writable_list, is_writable_meta, is_writable_property}
use Rattle.text_checks.specs.Utf8.{is_utf8_value, is_utf8_path, is_utf8_meta, is_utf8_sample, is_utf8_property}
use Rattle.text_checks.proofs.Bytes.{IsValid, two, nothing, ascii, either}
use Rattle.text_checks.proofs.Fields.{word_valid, meta_valid}
use Rattle.text_checks.proofs.Lists.{line_valid, block_valid, explicit_valid, edits_valid, list_valid, path_valid}
use Rattle.text_checks.proofs.Numbers.{time_valid}
use Rattle.text_checks.proofs.Values.{type_valid, value_valid}

flag_valid : (flag : Bool) {t : List ℕ} → IsValid t → IsValid (flag_text flag t)
flag_valid flag h = either flag h nothing

default_valid : (level : ℕ) (o : Option Value) → none_or is_writable o ≡ true → none_or is_utf8_value o ≡ true → IsValid (value_text level o)
default_valid level None w u = nothing
default_valid level (Some v) w u = two (ascii (codes " = ") refl) (value_valid v w u level)

-- samples
sample_valid : (level : ℕ) (s : ℤ × Value) → is_writable_sample s ≡ true → is_utf8_sample s ≡ true → IsValid (sample_line level s)
sample_valid level s w u =
    line_valid level (two (two (two (time_valid s.0) (ascii (codes ": ") refl)) (value_valid s.1 (and_parts _ (is_writable s.1) w).1 u level)) (ascii (codes ",") refl))

each_sample_valid : (level : ℕ) (ss : SampleEntries) → list_all is_writable_sample ss ≡ true → list_all is_utf8_sample ss ≡ true → IsValid (flat_map (sample_line level) ss)
each_sample_valid level [] w u = nothing
each_sample_valid level (s ∷ ss) w u =
    let p = and_parts (is_writable_sample s) (list_all is_writable_sample ss) w in
    let q = and_parts (is_utf8_sample s) (list_all is_utf8_sample ss) u in
    two (sample_valid level s p.0 q.0) (each_sample_valid level ss p.1 q.1)

samples_valid : (level : ℕ) {typed : List ℕ} → IsValid typed → (ss : SampleEntries) → list_all is_writable_sample ss ≡ true → list_all is_utf8_sample ss ≡ true → IsValid (sample_lines level typed ss)
samples_valid level t [] w u = nothing
samples_valid level t (s ∷ ss) w u =
    two (two (line_valid level (two t (ascii (codes ".timeSamples = {") refl))) (each_sample_valid (deeper level) (s ∷ ss) w u)) (line_valid level (ascii (codes "}") refl))

attribute_valid : (level : ℕ) {typed : List ℕ} → IsValid typed → (custom uniform : Bool) (default : Option Value) (meta : MetaEntries) → none_or is_writable default ≡ true → none_or is_utf8_value default ≡ true
    → is_writable_meta meta ≡ true → is_utf8_meta meta ≡ true → IsValid (attribute_line level typed custom uniform default meta)
attribute_valid level t custom uniform default meta w u m n =
    line_valid level (two (two (two (two (flag_valid custom (ascii (codes "custom ") refl)) (flag_valid uniform (ascii (codes "uniform ") refl))) t) (default_valid level default w u))
    (block_valid level (meta_lines (deeper level) meta) (meta_valid (deeper level) meta m n)))

-- the targets behind a relationship's name
targets_valid : (o : Option (List (List Element))) → none_or (list_all is_utf8_path) o ≡ true → IsValid (targets_text o)
targets_valid None h = nothing
targets_valid (Some paths) h = two (ascii (codes " = ") refl) (explicit_valid path_text is_utf8_path path_valid paths h)

relationship_valid : (level : ℕ) {named : List ℕ} → IsValid named → (custom : Bool) (targets : ListOp (List Element)) (meta : MetaEntries) → is_writable_list is_utf8_path targets ≡ true
    → is_writable_meta meta ≡ true → is_utf8_meta meta ≡ true → IsValid (relationship_lines level named custom targets meta)
relationship_valid level n custom targets meta h m u =
    let p = and_parts _ _ h in
    two (line_valid level (two (two (two (flag_valid custom (ascii (codes "custom ") refl)) n) (targets_valid targets.explicit p.0)) (block_valid level (meta_lines (deeper level) meta) (meta_valid (deeper level) meta m u))))
    (edits_valid path_text is_utf8_path path_valid level n targets p.1)

pub property_valid : (level : ℕ) (p : Property) → is_writable_property p ≡ true → is_utf8_property p ≡ true → IsValid (property_lines level p)
property_valid level (Attr name ty custom uniform default samples connections meta) w u =
    let named = and_parts _ _ w in let valued = and_parts _ _ named.1 in let sampled = and_parts _ _ valued.1 in let connected = and_parts _ _ sampled.1 in
    let utf8_valued = and_parts _ _ u in let utf8_sampled = and_parts _ _ utf8_valued.1 in let utf8_connected = and_parts _ _ utf8_sampled.1 in
    let typed = two (two (type_valid ty) (ascii (codes " ") refl)) (word_valid name named.0) in
    two (two (attribute_valid level typed custom uniform default meta valued.0 utf8_valued.0 connected.1 utf8_connected.1) (samples_valid level typed samples sampled.0 utf8_sampled.0))
    (list_valid path_text is_utf8_path path_valid level (two typed (ascii (codes ".connect") refl)) connections utf8_connected.0)
property_valid level (Rel name custom targets meta) w u =
    let named = and_parts _ _ w in let targeted = and_parts _ _ named.1 in let utf8 = and_parts _ _ u in
    relationship_valid level (two (ascii (codes "rel ") refl) (word_valid name named.0)) custom targets meta utf8.0 targeted.1 utf8.1
