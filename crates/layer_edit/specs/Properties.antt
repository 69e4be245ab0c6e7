-- Adding properties, and their defaults and samples.
use Rattle.std.specs.Prelude.{ℕ, ℤ, Bool, not, List, [], ◌∷◌, Option, Some, None, Ok}
use Rattle.std.specs.Ordering.{int_cmp}
use Rattle.list_ops.specs.Blank.{no_edits}
use Rattle.sdf_paths.specs.declared.element.Element.{Element}
use Rattle.sdf_paths.specs.declared.element.Element.TheVariants.{Property as Named}
use Rattle.sdf_specs.specs.Layers.{LayerTable, has_parent}
use Rattle.sdf_values.specs.declared.decimal.Num.{Num}
use Rattle.sdf_values.specs.declared.type_name.TypeName.{TypeName}
use Rattle.sdf_values.specs.declared.value.Value.{Value}
use Rattle.spec_properties.specs.Properties.{with_property}
use Rattle.spec_properties.specs.declared.property.Property.{Property}
use Rattle.spec_properties.specs.declared.property.Property.TheVariants.{Attr, Rel}
use Rattle.spec_tables.specs.Tables.{with_key, without_key}
use Rattle.layer_edit.specs.Outcomes.{Made, passing, given}
use Rattle.layer_edit.specs.Places.{last_element, above, is_property_path, property_in, has_spec, changed_spec, with_properties, changed_property}
use Rattle.layer_edit.specs.Typing.{has_form, typed, time_at}
use Rattle.edit_batches.specs.declared.fault.EditFault.TheVariants.{WrongPath, NoParent, NoSpec, SpecThere, NoSuchType, ValueShape, TimeRange}

-- ---- new properties

-- a new attribute has a type and its flags, and no value, connection or metadata
abbrev pub blank_attribute : List ℕ → TypeName → Bool → Bool → Property
blank_attribute name ty custom uniform = Attr name ty custom uniform None [] no_edits []

-- a new relationship has its flag, and no target or metadata
abbrev pub blank_relationship : List ℕ → Bool → Property
blank_relationship name custom = Rel name custom no_edits []

-- the properties with a new one of the name in which the path ends; a path of no property adds none
abbrev pub named_property : Option Element → (List ℕ → Property) → List Property → List Property
named_property (Some (Named name)) blank properties = with_property (blank name) properties
named_property last blank properties = properties

-- with a property at a path, the last of its owner
unfoldable pub with_new_property : List Element → (List ℕ → Property) → LayerTable → LayerTable
with_new_property path blank layer = changed_spec (above path) (λ s. with_properties (named_property (last_element path) blank s.body.properties) s) layer

-- an attribute is added at a path of a property where none stands, below a spec; that its type is one is asked last
unfoldable pub attribute_added : List Element → Option TypeName → Bool → Bool → LayerTable → Made LayerTable
attribute_added path ty custom uniform layer =
    passing ((not (is_property_path path), WrongPath) ∷ (not (has_parent path layer.specs), NoParent) ∷ (has_spec path layer, SpecThere) ∷ [])
    (given NoSuchType ty (λ ty. Ok (with_new_property path (λ name. blank_attribute name ty custom uniform) layer)))

-- a relationship is added at a path of a property where none stands, below a spec
unfoldable pub relationship_added : List Element → Bool → LayerTable → Made LayerTable
relationship_added path custom layer =
    passing ((not (is_property_path path), WrongPath) ∷ (not (has_parent path layer.specs), NoParent) ∷ (has_spec path layer, SpecThere) ∷ [])
    (Ok (with_new_property path (λ name. blank_relationship name custom) layer))

-- ---- defaults and samples

-- the type of an attribute; a relationship has none
abbrev pub type_of : Option Property → Option TypeName
type_of (Some (Attr name ty custom uniform default samples connections meta)) = Some ty
type_of p = None

-- an attribute with this default or with none; a relationship stays as it is
abbrev pub with_default : Option Value → Property → Property
with_default v (Attr name ty custom uniform default samples connections meta) = Attr name ty custom uniform v samples connections meta
with_default v p = p

-- an attribute with this value at a time, whatever it had then; a relationship stays as it is
abbrev pub with_sample : ℤ → Value → Property → Property
with_sample t v (Attr name ty custom uniform default samples connections meta) = Attr name ty custom uniform default (with_key int_cmp t v samples) connections meta
with_sample t v p = p

-- an attribute without a value at a time, its other samples kept; a relationship stays as it is
abbrev pub without_sample : ℤ → Property → Property
without_sample t (Attr name ty custom uniform default samples connections meta) = Attr name ty custom uniform default (without_key int_cmp t samples) connections meta
without_sample t p = p

-- what is made of an attribute's type; a relationship counts as none
abbrev pub at_attribute : {A : Type 0} → List Element → LayerTable → (TypeName → Made A) → Made A
at_attribute path layer make = passing ((not (is_property_path path), WrongPath) ∷ []) (given NoSpec (type_of (property_in path layer)) make)

-- the default of an attribute of this type: a value without its form is `ValueShape`, and one of its form whose times are out of range `TimeRange`
unfoldable pub default_given : List Element → TypeName → Value → LayerTable → Made LayerTable
default_given path ty v layer =
    passing ((not (has_form ty v), ValueShape) ∷ [])
    (given TimeRange (typed ty v) (λ v. Ok (changed_property path (with_default (Some v)) layer)))

-- the default of an attribute that is there: its form is judged first, and then its times
unfoldable pub default_set : List Element → Value → LayerTable → Made LayerTable
default_set path v layer = at_attribute path layer (λ ty. default_given path ty v layer)

-- the default is taken away, whether or not there is one
unfoldable pub default_dropped : List Element → LayerTable → Made LayerTable
default_dropped path layer = Ok (changed_property path (with_default None) layer)

-- the default of an attribute that is there is taken away
unfoldable pub default_cleared : List Element → LayerTable → Made LayerTable
default_cleared path layer = at_attribute path layer (λ ty. default_dropped path layer)

-- a value has to have the form of the type, and then the time of the sample and those in the value to be in range
unfoldable pub sample_given : List Element → TypeName → Num → Value → LayerTable → Made LayerTable
sample_given path ty time v layer =
    passing ((not (has_form ty v), ValueShape) ∷ [])
    (given TimeRange (time_at time) (λ t.
    given TimeRange (typed ty v) (λ v. Ok (changed_property path (with_sample t v) layer))))

-- the value at a time of an attribute that is there
unfoldable pub sample_set : List Element → Num → Value → LayerTable → Made LayerTable
sample_set path time v layer = at_attribute path layer (λ ty. sample_given path ty time v layer)

-- the value at a time is taken away, whether or not there is one; the time has to be in range
unfoldable pub sample_dropped : List Element → Num → LayerTable → Made LayerTable
sample_dropped path time layer = given TimeRange (time_at time) (λ t. Ok (changed_property path (without_sample t) layer))

-- the value at a time of an attribute that is there is taken away
unfoldable pub sample_cleared : List Element → Num → LayerTable → Made LayerTable
sample_cleared path time layer = at_attribute path layer (λ ty. sample_dropped path time layer)
