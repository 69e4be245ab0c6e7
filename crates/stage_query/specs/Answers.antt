-- What questions on a stage answer.
use Rattle.std.specs.Prelude.{ℕ, ℤ, true, false, List, [], ◌∷◌, Option, Some, None}
use denote.Ref.{Bor}
use Rattle.composition.specs.Values.{value_at}
use Rattle.prim_view.specs.Looks.{property_of}
use Rattle.prim_view.specs.declared.view.PrimView.{PrimView}
use Rattle.prim_view.specs.declared.view.PropertyView.{PropertyView}
use Rattle.prim_view.specs.declared.view.PropertyView.TheVariants.{Attr, Rel}
use Rattle.sdf_paths.specs.Order.{path_cmp}
use Rattle.sdf_paths.specs.declared.element.Element.{Element}
use Rattle.sdf_values.specs.Conforms.{is_block}
use Rattle.sdf_values.specs.declared.value.Value.{Value}
use Rattle.spec_properties.specs.Entries.{SampleEntries}
use Rattle.stage_publish.specs.Editions.{item_at}
use Rattle.stage_query.specs.declared.answer.Answer.{Answer}
use Rattle.stage_query.specs.declared.answer.Answer.TheVariants.{Is, NoPrim, NoProperty, NoValue, Blocked}

-- paths and what stands there
abbrev pub Stage : Type 0
Stage = List (List Element × PrimView)

-- an answer with what it borrows
abbrev pub answer_copied : {T : Type 0} → Answer (Bor T) → Answer T
answer_copied (Is x) = Is x.now
answer_copied NoPrim = NoPrim
answer_copied NoProperty = NoProperty
answer_copied NoValue = NoValue
answer_copied Blocked = Blocked

-- the view of a path
abbrev pub view_at : List Element → Stage → Option PrimView
view_at path stage = item_at path_cmp path stage

-- a question on a prim: there may be none
abbrev pub of_prim : {T : Type 0} → (PrimView → Answer T) → Option PrimView → Answer T
of_prim answer None = NoPrim
of_prim answer (Some view) = answer view

-- a question on a property: the prim may have none of that name
abbrev pub of_property : {T : Type 0} → (PropertyView → Answer T) → Option PropertyView → Answer T
of_property answer None = NoProperty
of_property answer (Some property) = answer property

-- a question on a property of a path: the stage may have no prim there, and the prim no such property
abbrev pub at_property : {T : Type 0} → (PropertyView → Answer T) → List Element → List ℕ → Stage → Answer T
at_property answer path name stage = of_prim (λ view. of_property answer (property_of name view.properties)) (view_at path stage)

-- the value that decides; a block is told as such
abbrev pub decided : Option Value → Answer Value
decided None = NoValue
decided (Some value) = elim (is_block value) [ true ↦ Blocked | false ↦ Is value ]

-- a list on which there may be no opinion
abbrev pub opinion : {T : Type 0} → Option (List T) → Answer (List T)
opinion None = NoValue
opinion (Some items) = Is items

-- samples, where there are any
abbrev pub sampled : SampleEntries → Answer SampleEntries
sampled [] = NoValue
sampled (e ∷ es) = Is (e ∷ es)

-- what an attribute has at a time; a relationship has no value
abbrev pub value_of : ℤ → PropertyView → Answer Value
value_of t (Attr name ty custom uniform default samples connections meta) = decided (value_at default samples t)
value_of t (Rel name custom targets meta) = NoProperty

-- the default of an attribute; a relationship has none
abbrev pub default_value : PropertyView → Answer Value
default_value (Attr name ty custom uniform default samples connections meta) = decided default
default_value (Rel name custom targets meta) = NoProperty

-- the samples of an attribute, where they decide; a relationship has none
abbrev pub samples_in : PropertyView → Answer SampleEntries
samples_in (Attr name ty custom uniform default samples connections meta) = sampled samples
samples_in (Rel name custom targets meta) = NoProperty

-- the targets of a relationship, and the connections of an attribute
abbrev pub targets_in : PropertyView → Answer (List (List Element))
targets_in (Attr name ty custom uniform default samples connections meta) = opinion connections
targets_in (Rel name custom targets meta) = opinion targets

-- ---- the questions

-- the value of an attribute at a time
abbrev pub value_answer : List Element → List ℕ → ℤ → Stage → Answer Value
value_answer path name t stage = at_property (value_of t) path name stage

-- the default of an attribute
abbrev pub default_answer : List Element → List ℕ → Stage → Answer Value
default_answer path name stage = at_property default_value path name stage

-- the samples of an attribute
abbrev pub samples_answer : List Element → List ℕ → Stage → Answer SampleEntries
samples_answer path name stage = at_property samples_in path name stage

-- the targets of a relationship, or the connections of an attribute
abbrev pub targets_answer : List Element → List ℕ → Stage → Answer (List (List Element))
targets_answer path name stage = at_property targets_in path name stage

-- the names of the children of a prim, in order
abbrev pub children_answer : List Element → Stage → Answer (List (List ℕ))
children_answer path stage = of_prim (λ view. Is view.children) (view_at path stage)

-- all that composition makes of a prim
abbrev pub view_answer : List Element → Stage → Answer PrimView
view_answer path stage = of_prim (λ view. Is view) (view_at path stage)
