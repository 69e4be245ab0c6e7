-- Names and lists of strings of a prim, as they are folded.
use Rattle.std.specs.Prelude.{List, [], ◌∷◌, Option, Some, None}
use Rattle.list_ops.specs.ListEdits.{firsts}
use Rattle.list_ops.specs.declared.op.ListOp.{ListOp}
use Rattle.spec_parts.specs.declared.spec.BodyPart.{BodyPart}
use Rattle.spec_properties.specs.Properties.{property_names}
use Rattle.spec_properties.specs.Entries.{MetaEntries}
use Rattle.spec_parts.specs.declared.items.Specifier.{Specifier}
use Rattle.composition.specs.Arcs.{strongest_folded}
use Rattle.composition.specs.Fields.{naming_edit, children_naming, all_children, all_properties, specifier_of, type_of, strings_of, meta_of}
use Rattle.composition.specs.Opinions.{Said}
use Rattle.composition.specs.Texts.{Text, same_text}

-- what a body says of names of children, as an edit; what is no name of a prim is passed over
abbrev pub children_edit : BodyPart → ListOp Text
children_edit b = naming_edit (children_naming b.children b.child_order)

-- what it says of names of properties, as an edit
abbrev pub properties_edit : BodyPart → ListOp Text
properties_edit b = naming_edit (record { names = property_names b.properties; order = b.property_order })

-- what edits, given from the strongest to the weakest, make of the empty list
unfoldable pub folded_texts : List (ListOp Text) → List Text
folded_texts edits = strongest_folded same_text edits

-- each text once
unfoldable pub texts_once : List Text → List Text
texts_once texts = firsts same_text texts

-- what edits make, where there is an opinion
abbrev pub if_any : List (ListOp Text) → Option (List Text)
if_any [] = None
if_any (op ∷ ops) = Some (folded_texts (op ∷ ops))

-- ---- the definitions of composition under names of their own

-- the names of children, in the order of a prim
unfoldable pub children_on : List Said → List Text
children_on said = all_children said

-- the names of properties, in the order of a prim
unfoldable pub properties_on : List Said → List Text
properties_on said = all_properties said

-- the specifier of a prim: sites to which no class arc leads go first, and `def` and `class` before `over`
unfoldable pub specifier_on : List Said → Specifier
specifier_on said = specifier_of said

-- the strongest type that is given
unfoldable pub type_on : List Said → Option Text
type_on said = type_of said

-- the folded list of applied schemas, if there is an opinion on it
unfoldable pub schemas_on : List Said → Option (List Text)
schemas_on said = strings_of (λ s. s.spec.body.api_schemas) said

-- the folded list of clip sets, if there is an opinion on it
unfoldable pub clips_on : List Said → Option (List Text)
clips_on said = strings_of (λ s. s.spec.body.clip_sets) said

-- the metadata: dictionaries merged key by key, of everything else the strongest
unfoldable pub meta_on : List Said → MetaEntries
meta_on said = meta_of said
