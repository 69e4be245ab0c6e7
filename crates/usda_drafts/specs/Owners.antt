-- The owners of statements: a prim, a variant, or the layer itself. The layer's path is `/`, its children are the root prims, and its
-- metadata is that of the head.
use Rattle.std.specs.Prelude.{ℕ, Bool, true, List, [], ◌∷◌, ◌++◌, Option, Some, None, is_some, unwrap_or, Result, if◌then◌else◌}
use Rattle.plain_data.specs.Ends.{last, front}
use Rattle.sdf_paths.specs.Order.{text_cmp}
use Rattle.sdf_paths.specs.declared.element.Element.{Element}
use Rattle.sdf_values.specs.declared.refusal.RefusalKind.{RefusalKind}
use Rattle.spec_parts.specs.declared.items.Specifier.{Specifier}
use Rattle.spec_parts.specs.declared.items.VariantSet.{VariantSet}
use Rattle.spec_parts.specs.declared.spec.Spec.{Spec}
use Rattle.spec_properties.specs.Properties.{property_at, with_property, blank_relationship}
use Rattle.spec_tables.specs.Tables.{at_key, with_key}
use Rattle.usda_fields.specs.Owners.{owner_at}
use Rattle.usda_statements.specs.PropertyDrafts.{no_marks, joined, property_of, is_in_hand}
use Rattle.usda_statements.specs.declared.heading.Heading.{Heading}
use Rattle.usda_statements.specs.declared.property.PropertyDraft.{PropertyDraft}
use Rattle.usda_statements.specs.declared.property.PropertyMarks.{PropertyMarks}
use Rattle.usda_drafts.specs.declared.owner.Owner.{Owner}

-- an owner of which nothing is said yet but its type
unfoldable pub owner_of : List Element → Specifier → Option (List ℕ) → Owner
owner_of path specifier type_name = record {
  said = owner_at path specifier;
  type_name = type_name;
  children = [];
  properties = [];
  marks = [];
  sets = [];
  set_names = [];
  set = [];
}

-- the spec that the statements make
unfoldable pub spec_of : Owner → Spec
spec_of o = record o.said.spec { body = record o.said.spec.body { type_name = o.type_name; children = o.children; properties = o.properties; variant_names = o.sets } }

-- one child more, behind the others
unfoldable pub with_child : List ℕ → Owner → Owner
with_child name o = record o { children = o.children ++ name ∷ [] }

-- ---- variant sets

-- a variant set of this name has begun before
unfoldable pub has_set : List ℕ → Owner → Bool
has_set name o = is_some (at_key text_cmp name o.set_names)

-- a variant set that begins, behind the others; it may stay without variants
unfoldable pub with_set : List ℕ → Owner → Owner
with_set name o = record o { sets = o.sets ++ record { set = name; variants = [] } ∷ []; set_names = with_key text_cmp name true o.set_names; set = name }

-- a variant more in the last set, behind the others
abbrev pub and_variant : List ℕ → Option VariantSet → List VariantSet → List VariantSet
and_variant name None sets = front sets
and_variant name (Some s) sets = front sets ++ record s { variants = s.variants ++ name ∷ [] } ∷ []

-- a variant of the set that is read
unfoldable pub with_variant : List ℕ → Owner → Owner
with_variant name o = record o { sets = and_variant name (last o.sets) o.sets }

-- ---- properties

-- what earlier statements on a property have given once
unfoldable pub marks_at : List ℕ → Owner → PropertyMarks
marks_at name o = unwrap_or (at_key text_cmp name o.marks) no_marks

-- the property of a name for a further statement, or a new one
unfoldable pub property_for : Heading → List ℕ → Owner → Result PropertyDraft RefusalKind
property_for h name o = joined h name (marks_at name o) (property_at name o.properties)

-- a property is in hand: its place is kept
unfoldable pub with_place : List ℕ → Owner → Owner
with_place name o = record o { properties = with_property (blank_relationship name) o.properties }

-- the property that was in hand goes to its place
unfoldable pub with_returned : PropertyDraft → Owner → Owner
with_returned p o = record o { properties = with_property (property_of p) o.properties; marks = with_key text_cmp p.name p.marks o.marks }

-- the statement in hand is over
unfoldable pub settled : PropertyDraft → Owner → Owner
settled p o = if is_in_hand p then with_returned p o else o
