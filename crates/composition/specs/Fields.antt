-- Names and fields of a prim: its children and properties in order, specifier, type, metadata and lists of strings.
-- docs/COMPOSITION.md, 'Names and fields'.
use Rattle.std.specs.Prelude.{Bool, false, not, List, [], ◌∷◌, ◌++◌, map, filter, Option, Some, None}
use Rattle.list_ops.specs.ListEdits.{firsts}
use Rattle.list_ops.specs.Opinions.{is_opinion}
use Rattle.list_ops.specs.declared.op.ListOp.{ListOp}
use Rattle.sdf_paths.specs.Order.{text_cmp}
use Rattle.sdf_paths.specs.declared.element.Element.TheVariants.{Prim}
use Rattle.spec_properties.specs.Entries.{MetaEntries}
use Rattle.spec_properties.specs.Properties.{property_names}
use Rattle.spec_tables.specs.Tables.{at_key}
use Rattle.spec_parts.specs.declared.items.Specifier.{Specifier}
use Rattle.spec_parts.specs.declared.items.Specifier.TheVariants.{Def, Over, Class}
use Rattle.sdf_values.specs.declared.value.Value.{Value, fold-Value}
use Rattle.sdf_values.specs.declared.value.Value.TheOpen.{Value-F, DictItem-F}
use Rattle.std.specs.Prelude.{codes}
use Rattle.composition.specs.Names.{is_name}
use Rattle.composition.specs.Texts.{Text, same_text, first_of}
use Rattle.composition.specs.Paths.{Path, Limits, fits}
use Rattle.composition.specs.Arcs.{strongest_folded}
use Rattle.composition.specs.Opinions.{Said}
use Rattle.composition.specs.Merging.{merged_all}

-- names that a spec adds, and its reorder of all names so far
pub record Naming : Type 0 where
  pub names : List Text
  pub order : List Text

-- what a spec says of names as an edit of the names so far: new ones come last, and then its reorder is applied
abbrev pub naming_edit : Naming → ListOp Text
naming_edit n = record { explicit = None; deleted = []; added = n.names; prepended = []; appended = []; ordered = n.order }

-- the names of all specs, which are given from the strongest to the weakest; each name once
abbrev pub names_of : List Naming → List Text
names_of namings = firsts same_text (strongest_folded same_text (map naming_edit namings))

-- a text that is no name of a prim is passed over
abbrev pub children_naming : List Text → List Text → Naming
children_naming names order = record { names = filter is_name names; order = order }

-- the names of children that the opinions on a prim give, with their reorders
abbrev pub all_children : List Said → List Text
all_children said = names_of (map (λ s. children_naming s.spec.body.children s.spec.body.child_order) said)

-- the names of properties that they give, with their reorders, and not in the order of a dictionary
abbrev pub all_properties : List Said → List Text
all_properties said = names_of (map (λ s. record { names = property_names s.spec.body.properties; order = s.spec.body.property_order }) said)

-- the path of the child of a name
abbrev pub child_path : Path → Text → Path
child_path p name = p ++ Prim name ∷ []

module _ (l : Limits) where
  -- the children whose paths are within the limits of paths
  abbrev pub listed_children : Path → List Text → List Text
  listed_children p names = filter (λ name. fits l (child_path p name)) names

  -- the children that are not listed, since their paths pass a limit
  abbrev pub unlisted_children : Path → List Text → List Text
  unlisted_children p names = filter (λ name. not (fits l (child_path p name))) names

-- a specifier that is `def` or `class`
abbrev pub if_defining : Specifier → Option Specifier
if_defining Def = Some Def
if_defining Over = None
if_defining Class = Some Class

-- the strongest `def` or `class` among some specs
abbrev pub defining : List Said → Option Specifier
defining said = first_of (λ s. if_defining s.spec.body.specifier) said

-- the first of two that is there
abbrev pub or_else : {T : Type 0} → Option T → Option T → Option T
or_else (Some x) y = Some x
or_else None y = y

-- where no spec says `def` or `class`, the prim is an `over`
abbrev pub or_over : Option Specifier → Specifier
or_over (Some s) = s
or_over None = Over

-- the strongest `def` or `class` among the sites to which no class arc leads, else among the others, else `over`
abbrev pub specifier_of : List Said → Specifier
specifier_of said =
    or_over (or_else (defining (filter (λ s. not s.site.by_class) said)) (defining (filter (λ s. s.site.by_class) said)))

-- the strongest type that is given
abbrev pub type_of : List Said → Option Text
type_of said = first_of (λ s. s.spec.body.type_name) said

-- what the opinions on a list of strings make together; none where there is no opinion
abbrev pub strings_of : (Said → ListOp Text) → List Said → Option (List Text)
strings_of field said =
    elim (filter is_opinion (map field said)) [ [] ↦ None | op ∷ ops ↦ Some (strongest_folded same_text (op ∷ ops)) ]

-- the metadata of a prim, merged over all opinions on it
abbrev pub meta_of : List Said → MetaEntries
meta_of said = merged_all (map (λ s. s.spec.body.meta) said)

-- the value `false`, and nothing else
abbrev pub false_step : Value-F Bool Bool → Bool
false_step (Value-F.Bool b) = not b
false_step _ = false

-- an entry of a dictionary is not that value
abbrev pub false_item : DictItem-F Bool Bool → Bool
false_item item = false

-- the value is there, and is `false`
abbrev pub is_false : Option Value → Bool
is_false None = false
is_false (Some v) = fold-Value Bool Bool false_step false_item v

-- the metadata says `active = false`
abbrev pub is_inactive : MetaEntries → Bool
is_inactive meta = is_false (at_key text_cmp (codes "active") meta)
