-- A world of 2 layers.
use Rattle.std.specs.Prelude.{codes, pos, [], ◌∷◌, Some, None}
use Rattle.sdf_paths.specs.declared.element.Element.TheVariants.{Prim}
use Rattle.spec_parts.specs.Blank.{no_edits}
use Rattle.spec_parts.specs.declared.items.Specifier.TheVariants.{Def, Over}
use Rattle.composition.specs.World.{World}
use Rattle.composition_worlds.specs.Listed.{present, listed_world}

abbrev pub world : World
world = listed_world (codes "root.usda") None ((
  (codes "root.usda"),
  present (record {
    head = record { sublayers = ((record { asset = (codes "a.usda"); offset = (record { offset = (pos 0); scale = (pos 1) }) }) ∷ []); default_prim = None; meta = ([]); root_names = ((codes "M") ∷ []); root_order = ([]) };
    specs = (
        ((Prim (codes "M") ∷ []), (record { arcs = record { inherits = no_edits; specializes = no_edits; references = no_edits; payloads = no_edits; variant_sets = no_edits; selections = ([]) }; body = record { specifier = Over; type_name = None; meta = ([]); api_schemas = no_edits; clip_sets = no_edits; children = ([]); child_order = ([]); properties = ([]); property_order = ([]); variant_names = ([]) } })) ∷ []);
  }),
) ∷ (
  (codes "a.usda"),
  present (record {
    head = record { sublayers = ([]); default_prim = (Some (codes "M")); meta = ([]); root_names = ((codes "M") ∷ []); root_order = ([]) };
    specs = (
        ((Prim (codes "M") ∷ []), (record { arcs = record { inherits = no_edits; specializes = no_edits; references = no_edits; payloads = no_edits; variant_sets = no_edits; selections = ([]) }; body = record { specifier = Def; type_name = (Some (codes "Scope")); meta = ([]); api_schemas = no_edits; clip_sets = no_edits; children = ([]); child_order = ([]); properties = ([]); property_order = ([]); variant_names = ([]) } })) ∷ []);
  }),
) ∷
    [])
