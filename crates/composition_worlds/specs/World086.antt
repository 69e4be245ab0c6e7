-- A world of 1 layers.
use Rattle.std.specs.Prelude.{codes, false, [], ◌∷◌, Some, None}
use Rattle.sdf_paths.specs.declared.element.Element.TheVariants.{Prim, Property}
use Rattle.spec_parts.specs.Blank.{no_edits}
use Rattle.spec_parts.specs.declared.items.Specifier.TheVariants.{Over}
use Rattle.spec_properties.specs.declared.property.Property.TheVariants.{Rel}
use Rattle.composition.specs.World.{World}
use Rattle.composition_worlds.specs.Listed.{present, listed_world}

abbrev pub world : World
world = listed_world (codes "root.usda") None ((
  (codes "root.usda"),
  present (record {
    head = record { sublayers = ([]); default_prim = (Some (codes "G")); meta = ([]); root_names = ((codes "G") ∷ []); root_order = ([]) };
    specs = (
        ((Prim (codes "G") ∷ []), (record { arcs = record { inherits = no_edits; specializes = no_edits; references = no_edits; payloads = no_edits; variant_sets = no_edits; selections = ([]) }; body = record { specifier = Over; type_name = None; meta = ([]); api_schemas = no_edits; clip_sets = no_edits; children = ([]); child_order = ([]); properties = ((Rel (codes "r") false (record { explicit = None; deleted = ((Prim (codes "G") ∷ []) ∷ []); added = ([]); prepended = ([]); appended = ([]); ordered = ((Prim (codes "G") ∷ Prim (codes "G") ∷ Property (codes "q") ∷ []) ∷ []) }) ([])) ∷ []); property_order = ([]); variant_names = ([]) } })) ∷ []);
  }),
) ∷
    [])
