-- What comes back of values, metadata and properties, in terms of them alone.
use Rattle.std.specs.Prelude.{◌≡◌, ◌≤◌, Bool, true, List, []}
use Rattle.sdf_paths.specs.Paths.{IsPath, printed}
use Rattle.sdf_paths.specs.declared.element.Element.{Element}
use Rattle.sdf_values.specs.declared.type_name.TypeName.{TypeName}
use Rattle.sdf_values.specs.declared.value.Value.{Value}
use Rattle.spec_properties.specs.Entries.{MetaEntries}
use Rattle.spec_properties.specs.declared.property.Property.{Property}
use Rattle.spec_parts.specs.declared.spec.Head.{Head}
use Rattle.spec_parts.specs.declared.spec.Spec.{Spec}
use Rattle.usda_grammar.specs.declared.kinds.Keyword.{Keyword}
use Rattle.usda_values.specs.declared.shape.Shape.{Shape}
use Rattle.usda_values.specs.declared.shape.Shape.TheVariants.{Typed}
use Rattle.usda_writer.specs.Canonical.{with_default_prim}
use Rattle.value_texts.specs.Readable.{is_read_as, depth}
use Rattle.value_texts.specs.ValueWords.{words_of_value}
use Rattle.layer_reads.specs.Fixed.{AreFixed}
use Rattle.layer_reads.specs.Keys.{is_plain_head_key}
use Rattle.layer_reads.specs.Membered.{is_membered}
use Rattle.layer_reads.specs.Meta.{IsMetaKept}
use Rattle.layer_reads.specs.Specs.{IsSpecKept}
use Rattle.layer_reads.specs.Properties.{IsValueKept, IsPropertyKept}
use Rattle.value_returns.specs.Fields.{AreProperFields, IsProperHead}
use Rattle.value_returns.specs.FullPaths.{is_full_path, has_full_paths}
use Rattle.value_returns.specs.Proper.{IsProperValue, IsProperMeta, IsProperProperty}

-- the tuples of a value that is read have members
abbrev pub ReadValuesHaveMembers : Type 0
ReadValuesHaveMembers = (v : Value) (shape : Shape) (is_statement : Bool) → is_read_as v shape is_statement ≡ true → is_membered v ≡ true

-- a value that is read where a type is expected has at most three levels, as an array of matrices
abbrev pub TypedValuesAreShallow : Type 0
TypedValuesAreShallow = (v : Value) (ty : TypeName) (is_statement : Bool) → is_read_as v (Typed ty) is_statement ≡ true → depth v ≤ 3

-- a value that is read where a type is expected has no path but those from the root down
abbrev pub TypedValuesHaveFullPaths : Type 0
TypedValuesHaveFullPaths = (v : Value) (ty : TypeName) (is_statement : Bool) → is_read_as v (Typed ty) is_statement ≡ true → has_full_paths v ≡ true

-- the words of a value whose paths are from the root down mean the same below each prim
abbrev pub FullPathsAreFixed : Type 0
FullPathsAreFixed = (v : Value) → has_full_paths v ≡ true → (base : List Element) → AreFixed base (words_of_value v)

-- a proper value comes back below each prim
abbrev pub ProperValuesAreKept : Type 0
ProperValuesAreKept = (ty : TypeName) (v : Value) → IsProperValue ty v → (base : List Element) → IsValueKept base ty v

-- proper metadata come back below each prim
abbrev pub ProperMetaIsKept : Type 0
ProperMetaIsKept = (is_name : Keyword → Bool) (meta : MetaEntries) → IsProperMeta is_name meta → (base : List Element) → IsMetaKept is_name base meta

-- a proper property comes back below each prim
abbrev pub ProperPropertiesAreKept : Type 0
ProperPropertiesAreKept = (p : Property) → IsProperProperty p → (base : List Element) → IsPropertyKept base p

-- the text of a path in a value is a path from the root down, as paths are printed
abbrev pub PrintsAreFull : Type 0
PrintsAreFull = (path : List Element) → IsPath path → is_full_path (printed path) ≡ true

-- the proper fields of a prim or a variant come back below each prim
abbrev pub ProperFieldsAreKept : Type 0
ProperFieldsAreKept = (spec : Spec) → AreProperFields spec → (base : List Element) → IsSpecKept base spec

-- the proper keys of a layer come back, its default prim among them
abbrev pub ProperHeadKeysAreKept : Type 0
ProperHeadKeysAreKept = (head : Head) → IsProperHead head → IsMetaKept is_plain_head_key [] (with_default_prim head.default_prim head.meta)
