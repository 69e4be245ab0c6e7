-- A world of 1 layers.
use Rattle.std.specs.Prelude.{codes, [], ◌∷◌, Some, None}
use Rattle.sdf_paths.specs.declared.element.Element.TheVariants.{Prim}
use Rattle.spec_parts.specs.Blank.{no_edits}
use Rattle.spec_parts.specs.declared.items.Specifier.TheVariants.{Class}
use Rattle.composition.specs.World.{World}
use Rattle.composition_worlds.specs.Listed.{present, listed_world}

abbrev pub world : World
world = listed_world (codes "root.usda") None ((
  (codes "root.usda"),
  present (record {
    head = record { sublayers = ([]); default_prim = None; meta = ([]); root_names = ((codes "C") ∷ []); root_order = ([]) };
    specs = (
        ((Prim (codes "C") ∷ []), (record { arcs = record { inherits = (record { explicit = (Some ((Prim (codes "C") ∷ Prim (codes "k") ∷ []) ∷ [])); deleted = ([]); added = ([]); prepended = ([]); appended = ([]); ordered = ([]) }); specializes = no_edits; references = no_edits; payloads = no_edits; variant_sets = no_edits; selections = ([]) }; body = record { specifier = Class; type_name = None; meta = ([]); api_schemas = no_edits; clip_sets = no_edits; children = ([]); child_order = ([]); properties = ([]); property_order = ([]); variant_names = ([]) } })) ∷ []);
  }),
) ∷
    [])
