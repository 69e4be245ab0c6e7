-- The lines of a property.
use Rattle.std.proofs.Common.{◌≡◌, ℕ, Bool, true, false, List, [], ◌∷◌, ◌++◌, append_assoc, append-nil, Option, Some, None, sym, refl}
use Rattle.std.specs.Prelude.{codes, if◌then◌else◌, ℤ, nat_le, unsigned_abs, ◌^◌}
use Rattle.std.specs.List.{list_all}
use Rattle.std.proofs.lemmas.Bool.{and_parts}
use Rattle.list_ops.specs.declared.op.ListOp.{ListOp}
use Rattle.sdf_paths.specs.declared.element.Element.{Element}
use Rattle.sdf_values.specs.Print.{deeper, time_text}
use Rattle.sdf_values.specs.TypeNames.{type_text, element_name}
use Rattle.sdf_values.specs.declared.type_name.ElementType.{ElementType}
use Rattle.sdf_values.specs.declared.type_name.TypeName.{TypeName}
use Rattle.sdf_values.specs.declared.value.Value.{Value}
use Rattle.spec_properties.specs.Entries.{MetaEntries, SampleEntries}
use Rattle.spec_properties.specs.declared.property.Property.{Property}
use Rattle.spec_properties.specs.declared.property.Property.TheVariants.{Attr, Rel}
use Rattle.usda_writer.specs.Texts.{path_text}
use Rattle.usda_writer.specs.Fields.{line, meta_lines}
use Rattle.usda_writer.specs.Properties.{flag_text, value_text, sample_line, sample_lines, attribute_line, targets_text, relationship_lines, property_lines}
use Rattle.value_texts.specs.Follows.{anything, may_follow, ends_number}
use Rattle.value_texts.specs.ValueWords.{name_said, number_said, open_bracket, close_bracket, open_brace, equals, dot, type_said}
use Rattle.value_texts.specs.Writable.{is_writable}
use Rattle.value_texts.proofs.Borders.{border_name}
use Rattle.value_texts.proofs.Dotted.{dotted}
use Rattle.value_texts.proofs.TokenCuts as cut
use Rattle.value_texts.proofs.TypeTexts.{type_is_text, type_is_name, type_is_word}
use Rattle.layer_texts.specs.Spelled.{IsSpelled}
use Rattle.layer_texts.specs.ListWords.{word, path_words}
use Rattle.layer_texts.specs.FieldWords.{meta_words}
use Rattle.layer_texts.specs.PropertyWords.{colon, flag_words, default_words, sample_words, typed_words, joined_words, samples_words, attribute_words, targets_words, named_words, relationship_words, property_words}
use Rattle.layer_texts.specs.Writable.{none_or, is_word, is_writable_target, is_writable_list, is_writable_meta, is_writable_sample, is_writable_property}
use Rattle.layer_texts.proofs.Fields.{edit_spelled, edit_lines_spelled, list_lines_spelled, meta_spelled}
use Rattle.layer_texts.proofs.Keywords.{word_spelled, custom_word, uniform_word, rel_word, timeSamples_word, connect_word}
use Rattle.layer_texts.proofs.Lines.{line_spelled, block_spelled, block_follows}
use Rattle.layer_texts.proofs.Lists.{path_spelled, explicit_spelled}
use Rattle.layer_texts.proofs.Marks.{space, bracket, bracket_end, brace_end, comma_mark, colon_space, equals_space, equals_brace}
use Rattle.layer_texts.proofs.Spelled.{of_cut, joined, then_more, silent, nothing, weaker, same_text, all_spelled}
use Rattle.layer_texts.proofs.Values.{value_spelled}

-- a word that stands where a flag holds, and a blank
flag_spelled : (flag : Bool) (t : List ℕ) → is_word t ≡ true → IsSpelled anything (flag_text flag (t ++ codes " ")) (flag_words flag t)
flag_spelled true t h = edit_spelled t h
flag_spelled false t h = nothing anything

-- types
element_spelled : (e : ElementType) → IsSpelled may_follow (element_name e) (word (element_name e))
element_spelled e = of_cut may_follow (element_name e) (word (element_name e)) refl (λ at rest k. cut.name_cut at (element_name e) rest (type_is_text e) (type_is_name e) (type_is_word e) (border_name rest k))

type_spelled : (ty : TypeName) → IsSpelled may_follow (type_text ty) (type_said ty)
type_spelled ty = test ty.array
  where
    test : (b : Bool) → IsSpelled may_follow (element_name ty.element ++ (if b then codes "[]" else [])) (name_said (element_name ty.element) ∷ (if b then open_bracket ∷ close_bracket ∷ [] else []))
    test true = weaker (joined (element_spelled ty.element) (then_more bracket bracket_end) (λ rest k. refl))
    test false = same_text (sym (append-nil (element_name ty.element))) (element_spelled ty.element)

-- the type and the name of an attribute
typed_start : (ty : TypeName) → IsSpelled anything (type_text ty ++ codes " ") (type_said ty)
typed_start ty = silent (type_spelled ty) space (λ rest k. refl)

typed_spelled : (ty : TypeName) (name : List ℕ) → is_word name ≡ true → IsSpelled may_follow (type_text ty ++ codes " " ++ name) (typed_words ty name)
typed_spelled ty name h = then_more (typed_start ty) (word_spelled name h)

-- two names with a point between them
part_spelled : (name part : List ℕ) → is_word name ≡ true → is_word part ≡ true → IsSpelled may_follow (name ++ 46 ∷ part) (name_said name ∷ dot ∷ name_said part ∷ [])
unfolding is_word
part_spelled name part h k =
    let p = and_parts _ _ h in let q = and_parts _ _ k in
    record { worded = λ at b rest n e. dotted at b name part rest p.0 p.1 q.0 q.1 (border_name rest e) n }

joined_spelled : (ty : TypeName) (name part : List ℕ) → is_word name ≡ true → is_word part ≡ true → IsSpelled may_follow ((type_text ty ++ codes " " ++ name) ++ 46 ∷ part) (joined_words ty name part)
joined_spelled ty name part h k = same_text (sym (append_assoc (type_text ty ++ codes " ") name (46 ∷ part))) (then_more (typed_start ty) (part_spelled name part h k))

-- samples
timed_start : (t : ℤ) → nat_le (unsigned_abs t) (10 ^ 30) ≡ true → IsSpelled anything (time_text t ++ codes ": ") (number_said (time_text t) ∷ colon ∷ [])
timed_start t h =
    joined (of_cut ends_number (time_text t) (number_said (time_text t) ∷ []) refl (λ at rest k. cut.time_cut at t rest h k)) colon_space (λ rest k. refl)

sample_spelled : (level : ℕ) (s : ℤ × Value) → is_writable_sample s ≡ true → IsSpelled anything (sample_line level s) (sample_words s)
sample_spelled level s h =
    let p = and_parts _ _ h in
    line_spelled level _ (weaker (joined (then_more (timed_start s.0 p.0) (value_spelled s.1 p.1 level)) comma_mark (λ rest k. refl)))

samples_start : (level : ℕ) (ty : TypeName) (name : List ℕ) → is_word name ≡ true
    → IsSpelled anything (line level ((type_text ty ++ codes " " ++ name) ++ codes ".timeSamples = {")) (joined_words ty name (codes "timeSamples") ++ (equals ∷ open_brace ∷ []))
samples_start level ty name h =
    line_spelled level _ (same_text (append_assoc (type_text ty ++ codes " " ++ name) (codes ".timeSamples") (codes " = {"))
    (weaker (joined (joined_spelled ty name (codes "timeSamples") h timeSamples_word) equals_brace (λ rest k. refl))))

samples_spelled : (level : ℕ) (ty : TypeName) (name : List ℕ) → is_word name ≡ true → (samples : SampleEntries) → list_all is_writable_sample samples ≡ true
    → IsSpelled anything (sample_lines level (type_text ty ++ codes " " ++ name) samples) (samples_words ty name samples)
samples_spelled level ty name n [] h = nothing anything
samples_spelled level ty name n (s ∷ ss) h =
    then_more (then_more (samples_start level ty name n) (all_spelled (sample_line (deeper level)) sample_words is_writable_sample (sample_spelled (deeper level)) (s ∷ ss) h))
    (line_spelled level (codes "}") (weaker brace_end))

-- the value behind a name
default_spelled : (level : ℕ) (default : Option Value) → none_or is_writable default ≡ true → IsSpelled may_follow (value_text level default) (default_words default)
default_spelled level None h = nothing may_follow
default_spelled level (Some v) h = then_more equals_space (value_spelled v h level)

default_follows : (level : ℕ) (default : Option Value) (rest : List ℕ) → may_follow rest ≡ true → may_follow (value_text level default ++ rest) ≡ true
default_follows level None rest k = k
default_follows level (Some v) rest k = refl

attribute_spelled : (level : ℕ) (ty : TypeName) (name : List ℕ) (custom uniform : Bool) (default : Option Value) (meta : MetaEntries) → is_word name ≡ true → none_or is_writable default ≡ true → is_writable_meta meta ≡ true
    → IsSpelled anything (attribute_line level (type_text ty ++ codes " " ++ name) custom uniform default meta) (attribute_words ty name custom uniform default meta)
attribute_spelled level ty name custom uniform default meta n d m =
    line_spelled level _ (joined
    (joined (then_more (then_more (flag_spelled custom (codes "custom") custom_word) (flag_spelled uniform (codes "uniform") uniform_word)) (typed_spelled ty name n))
    (default_spelled level default d) (default_follows level default))
    (block_spelled level (meta_lines (deeper level) meta) (meta_words meta) (meta_spelled (deeper level) meta m))
    (block_follows level (meta_lines (deeper level) meta)))

-- the targets behind a relationship's name
targets_spelled : (targets : Option (List (List Element))) → none_or (list_all is_writable_target) targets ≡ true → IsSpelled may_follow (targets_text targets) (targets_words targets)
targets_spelled None h = nothing may_follow
targets_spelled (Some paths) h = then_more equals_space (explicit_spelled path_text path_words is_writable_target (λ p u. weaker (path_spelled p u)) paths h)

targets_follow : (targets : Option (List (List Element))) (rest : List ℕ) → may_follow rest ≡ true → may_follow (targets_text targets ++ rest) ≡ true
targets_follow None rest k = k
targets_follow (Some paths) rest k = refl

named_spelled : (name : List ℕ) → is_word name ≡ true → IsSpelled may_follow (codes "rel " ++ name) (named_words name)
named_spelled name h = then_more (edit_spelled (codes "rel") rel_word) (word_spelled name h)

relationship_spelled : (level : ℕ) (name : List ℕ) (custom : Bool) (targets : ListOp (List Element)) (meta : MetaEntries) → is_word name ≡ true → is_writable_list is_writable_target targets ≡ true → is_writable_meta meta ≡ true
    → IsSpelled anything (relationship_lines level (codes "rel " ++ name) custom targets meta) (relationship_words name custom targets meta)
relationship_spelled level name custom targets meta n t m =
    let p = and_parts _ _ t in
    then_more
    (line_spelled level _ (joined
    (joined (then_more (flag_spelled custom (codes "custom") custom_word) (named_spelled name n)) (targets_spelled targets.explicit p.0) (targets_follow targets.explicit))
    (block_spelled level (meta_lines (deeper level) meta) (meta_words meta) (meta_spelled (deeper level) meta m))
    (block_follows level (meta_lines (deeper level) meta))))
    (edit_lines_spelled (codes "rel " ++ name) (named_words name) (named_spelled name n) path_text path_words is_writable_target (λ q u. weaker (path_spelled q u)) level targets p.1).spelled

-- the lines of a property
pub property_spelled : (level : ℕ) (p : Property) → is_writable_property p ≡ true → IsSpelled anything (property_lines level p) (property_words p)
property_spelled level (Attr name ty custom uniform default samples connections meta) h =
    let named = and_parts _ _ h in let valued = and_parts _ _ named.1 in let sampled = and_parts _ _ valued.1 in let connected = and_parts _ _ sampled.1 in
    then_more (then_more (attribute_spelled level ty name custom uniform default meta named.0 valued.0 connected.1) (samples_spelled level ty name named.0 samples sampled.0))
    (list_lines_spelled ((type_text ty ++ codes " " ++ name) ++ codes ".connect") (joined_words ty name (codes "connect")) (joined_spelled ty name (codes "connect") named.0 connect_word)
    path_text path_words is_writable_target (λ q u. weaker (path_spelled q u)) level connections connected.0).spelled
property_spelled level (Rel name custom targets meta) h =
    let named = and_parts _ _ h in let targeted = and_parts _ _ named.1 in
    relationship_spelled level name custom targets meta named.0 targeted.0 targeted.1
