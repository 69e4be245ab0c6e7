-- A world of 1 layers.
use Rattle.std.specs.Prelude.{codes, pos, false, [], ◌∷◌, Some, None}
use Rattle.sdf_paths.specs.declared.element.Element.TheVariants.{Prim, Property}
use Rattle.spec_parts.specs.Blank.{no_edits}
use Rattle.spec_parts.specs.declared.items.Specifier.TheVariants.{Def}
use Rattle.spec_properties.specs.declared.property.Property.TheVariants.{Attr}
use Rattle.sdf_values.specs.declared.type_name.ElementType.TheVariants as element
use Rattle.sdf_values.specs.declared.value.DictType.TheVariants as dict_type
use Rattle.sdf_values.specs.declared.value.Value.TheVariants as value
use Rattle.composition.specs.World.{World}
use Rattle.composition_worlds.specs.Listed.{present, listed_world}

abbrev pub world : World
world = listed_world (codes "root.usda") None ((
  (codes "root.usda"),
  present (record {
    head = record { sublayers = ([]); default_prim = None; meta = ([]); root_names = ((codes "M") ∷ []); root_order = ([]) };
    specs = (
        ((Prim (codes "M") ∷ []), (record { arcs = record { inherits = no_edits; specializes = no_edits; references = no_edits; payloads = no_edits; variant_sets = no_edits; selections = ([]) }; body = record { specifier = Def; type_name = None; meta = ([]); api_schemas = no_edits; clip_sets = no_edits; children = ([]); child_order = ([]); properties = ((Attr (codes "x") (record { element = element.Int; array = false }) false false (Some (value.Whole (pos 60))) ([]) no_edits ([])) ∷ (Attr (codes "y") (record { element = element.Int; array = false }) false false None ([]) (record { explicit = None; deleted = ([]); added = ([]); prepended = ((Prim (codes "M") ∷ Property (codes "q") ∷ []) ∷ (Prim (codes "M") ∷ []) ∷ []); appended = ([]); ordered = ([]) }) ([])) ∷ (Attr (codes "p:q") (record { element = element.Int; array = false }) false false (Some (value.Whole (pos 26))) ([]) no_edits (((codes "customData"), (value.Dict ((record { key = (codes "a"); ty = (dict_type.Plain (record { element = element.Int; array = false })); value = (value.Whole (pos 0)) }) ∷ []))) ∷ [])) ∷ []); property_order = ([]); variant_names = ([]) } })) ∷ []);
  }),
) ∷
    [])
