-- The words of a property.
use Rattle.std.specs.Prelude.{ℕ, ℤ, Bool, if◌then◌else◌, List, [], ◌∷◌, ◌++◌, codes, Option, Some, None}
use Rattle.std.specs.List.{flat_map}
use Rattle.list_ops.specs.declared.op.ListOp.{ListOp}
use Rattle.sdf_paths.specs.declared.element.Element.{Element}
use Rattle.sdf_values.specs.Print.{time_text}
use Rattle.sdf_values.specs.declared.type_name.TypeName.{TypeName}
use Rattle.sdf_values.specs.declared.value.Value.{Value}
use Rattle.spec_properties.specs.Entries.{MetaEntries, SampleEntries}
use Rattle.spec_properties.specs.declared.property.Property.{Property}
use Rattle.spec_properties.specs.declared.property.Property.TheVariants.{Attr, Rel}
use Rattle.usda_lexer.specs.declared.token.Mark.TheVariants as mark
use Rattle.value_texts.specs.Cuts.{Said}
use Rattle.value_texts.specs.ValueWords.{name_said, number_said, mark_said, open_brace, close_brace, comma, equals, dot, type_said, words_of_value}
use Rattle.layer_texts.specs.ListWords.{word, path_words, explicit_words}
use Rattle.layer_texts.specs.FieldWords.{block_words, edits_words, list_words, meta_words}

-- the mark between a time and its value
abbrev pub colon : Said
colon = mark_said mark.Colon (codes ":")

-- a word that stands where a flag holds
abbrev pub flag_words : Bool → List ℕ → List Said
flag_words flag name = if flag then word name else []

-- the value behind a name
abbrev pub default_words : Option Value → List Said
default_words None = []
default_words (Some v) = equals ∷ words_of_value v

-- a time and its value
abbrev pub sample_words : ℤ × Value → List Said
sample_words s = number_said (time_text s.0) ∷ colon ∷ words_of_value s.1 ++ comma ∷ []

-- the type and the name of an attribute
abbrev pub typed_words : TypeName → List ℕ → List Said
typed_words ty name = type_said ty ++ name_said name ∷ []

-- the same, and behind a point what is said of the attribute
abbrev pub joined_words : TypeName → List ℕ → List ℕ → List Said
joined_words ty name part = type_said ty ++ name_said name ∷ dot ∷ name_said part ∷ []

-- the samples of an attribute, a comma behind each; without samples nothing is said
abbrev pub samples_words : TypeName → List ℕ → SampleEntries → List Said
samples_words ty name [] = []
samples_words ty name (s ∷ ss) = joined_words ty name (codes "timeSamples") ++ (equals ∷ open_brace ∷ []) ++ flat_map sample_words (s ∷ ss) ++ (close_brace ∷ [])

-- the declaration of an attribute: its flags, type and name, its default, and its metadata
abbrev pub attribute_words : TypeName → List ℕ → Bool → Bool → Option Value → MetaEntries → List Said
attribute_words ty name custom uniform default meta = flag_words custom (codes "custom") ++ flag_words uniform (codes "uniform") ++ typed_words ty name ++ default_words default ++ block_words (meta_words meta)

-- an attribute, and then its samples and connections without its flags
abbrev pub attributes_words : TypeName → List ℕ → Bool → Bool → Option Value → SampleEntries → ListOp (List Element) → MetaEntries → List Said
attributes_words ty name custom uniform default samples connections meta =
    attribute_words ty name custom uniform default meta ++ samples_words ty name samples ++ list_words (joined_words ty name (codes "connect")) path_words connections

-- the targets behind a relationship's name
abbrev pub targets_words : Option (List (List Element)) → List Said
targets_words None = []
targets_words (Some paths) = equals ∷ explicit_words path_words paths

-- `rel` and the name of a relationship
abbrev pub named_words : List ℕ → List Said
named_words name = name_said (codes "rel") ∷ name_said name ∷ []

-- a relationship with its explicit list, and then the edits of its targets
abbrev pub relationship_words : List ℕ → Bool → ListOp (List Element) → MetaEntries → List Said
relationship_words name custom targets meta =
    flag_words custom (codes "custom") ++ named_words name ++ targets_words targets.explicit ++ block_words (meta_words meta)
    ++ edits_words (named_words name) path_words targets

-- an attribute or a relationship, with all its statements
abbrev pub property_words : Property → List Said
property_words (Attr name ty custom uniform default samples connections meta) = attributes_words ty name custom uniform default samples connections meta
property_words (Rel name custom targets meta) = relationship_words name custom targets meta
