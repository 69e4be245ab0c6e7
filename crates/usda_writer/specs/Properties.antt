-- The lines of a property.
use Rattle.std.specs.Prelude.{ℕ, ℤ, Bool, if◌then◌else◌, List, [], ◌∷◌, ◌++◌, codes, Option, Some, None}
use Rattle.std.specs.List.{flat_map}
use Rattle.list_ops.specs.declared.op.ListOp.{ListOp}
use Rattle.sdf_paths.specs.Paths.{path_text}
use Rattle.sdf_paths.specs.declared.element.Element.{Element}
use Rattle.sdf_values.specs.Print.{deeper, print, time_text}
use Rattle.sdf_values.specs.TypeNames.{type_text}
use Rattle.sdf_values.specs.declared.value.Value.{Value}
use Rattle.spec_properties.specs.Entries.{MetaEntries, SampleEntries}
use Rattle.spec_properties.specs.declared.property.Property.{Property}
use Rattle.spec_properties.specs.declared.property.Property.TheVariants.{Attr, Rel}
use Rattle.usda_writer.specs.Texts.{Text, explicit_list, metadata_block}
use Rattle.usda_writer.specs.Fields.{edit_lines, line, list_lines, meta_lines}

-- a word that stands where a flag holds
abbrev pub flag_text : Bool → Text → Text
flag_text flag word = if flag then word else []

-- the value behind a name
abbrev pub value_text : ℕ → Option Value → Text
value_text level None = []
value_text level (Some v) = codes " = " ++ print v level

-- a time and its value
abbrev pub sample_line : ℕ → ℤ × Value → Text
sample_line level s = line level (time_text s.0 ++ codes ": " ++ print s.1 level ++ codes ",")

-- the samples between braces, a line each in their order; without samples there is no line
abbrev pub sample_lines : ℕ → Text → SampleEntries → Text
sample_lines level typed [] = []
sample_lines level typed (s ∷ ss) =
    line level (typed ++ codes ".timeSamples = {") ++ flat_map (sample_line (deeper level)) (s ∷ ss) ++ line level (codes "}")

-- the line of an attribute, which is always there
abbrev pub attribute_line : ℕ → Text → Bool → Bool → Option Value → MetaEntries → Text
attribute_line level typed custom uniform default meta =
    line level (flag_text custom (codes "custom ") ++ flag_text uniform (codes "uniform ") ++ typed ++ value_text level default ++ metadata_block level (meta_lines (deeper level) meta))

-- its samples and connections stand below it, without its flags
abbrev pub attribute_lines : ℕ → Text → Bool → Bool → Option Value → SampleEntries → ListOp (List Element) → MetaEntries → Text
attribute_lines level typed custom uniform default samples connections meta =
    attribute_line level typed custom uniform default meta ++ sample_lines level typed samples ++ list_lines level (typed ++ codes ".connect") path_text connections

-- the targets behind a relationship's name
abbrev pub targets_text : Option (List (List Element)) → Text
targets_text None = []
targets_text (Some paths) = codes " = " ++ explicit_list path_text paths

-- a relationship's line, with an explicit list; the edits of its targets stand below it
abbrev pub relationship_lines : ℕ → Text → Bool → ListOp (List Element) → MetaEntries → Text
relationship_lines level named custom targets meta =
    line level (flag_text custom (codes "custom ") ++ named ++ targets_text targets.explicit ++ metadata_block level (meta_lines (deeper level) meta))
    ++ edit_lines level named path_text targets

-- an attribute with its type before its name, a relationship with `rel`
abbrev pub property_lines : ℕ → Property → Text
property_lines level (Attr name ty custom uniform default samples connections meta) =
    attribute_lines level (type_text ty ++ codes " " ++ name) custom uniform default samples connections meta
property_lines level (Rel name custom targets meta) = relationship_lines level (codes "rel " ++ name) custom targets meta
