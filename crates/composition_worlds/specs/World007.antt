-- A world of 2 layers.
use Rattle.std.specs.Prelude.{codes, pos, [], ◌∷◌, Some, None}
use Rattle.sdf_paths.specs.declared.element.Element.TheVariants.{Prim}
use Rattle.spec_parts.specs.Blank.{no_edits}
use Rattle.spec_parts.specs.declared.items.Specifier.TheVariants.{Def}
use Rattle.sdf_values.specs.declared.refusal.RefusalKind.TheVariants.{Crate}
use Rattle.composition.specs.World.{World}
use Rattle.composition_worlds.specs.Listed.{present, broken, listed_world}

abbrev pub world : World
world = listed_world (codes "root.usda") None ((
  (codes "root.usda"),
  present (record {
    head = record { sublayers = ((record { asset = (codes "none.usda"); offset = (record { offset = (pos 0); scale = (pos 1) }) }) ∷ []); default_prim = None; meta = ([]); root_names = ((codes "A") ∷ (codes "B") ∷ []); root_order = ([]) };
    specs = (
        ((Prim (codes "A") ∷ []), (record { arcs = record { inherits = (record { explicit = (Some ((Prim (codes "B") ∷ []) ∷ (Prim (codes "A") ∷ Prim (codes "c") ∷ []) ∷ [])); deleted = ([]); added = ([]); prepended = ([]); appended = ([]); ordered = ([]) }); specializes = no_edits; references = (record { explicit = (Some ((record { asset = None; path = (Some (Prim (codes "A") ∷ [])); offset = (record { offset = (pos 0); scale = (pos 1) }) }) ∷ (record { asset = (Some (codes "no.usda")); path = None; offset = (record { offset = (pos 0); scale = (pos 1) }) }) ∷ (record { asset = None; path = (Some (Prim (codes "B") ∷ [])); offset = (record { offset = (pos 0); scale = (pos 1) }) }) ∷ (record { asset = (Some (codes "x.usdc")); path = None; offset = (record { offset = (pos 0); scale = (pos 1) }) }) ∷ (record { asset = None; path = (Some (Prim (codes "U") ∷ [])); offset = (record { offset = (pos 0); scale = (pos 1) }) }) ∷ [])); deleted = ([]); added = ([]); prepended = ([]); appended = ([]); ordered = ([]) }); payloads = no_edits; variant_sets = no_edits; selections = ([]) }; body = record { specifier = Def; type_name = None; meta = ([]); api_schemas = no_edits; clip_sets = no_edits; children = ((codes "k") ∷ []); child_order = ([]); properties = ([]); property_order = ([]); variant_names = ([]) } })) ∷
        ((Prim (codes "A") ∷ Prim (codes "k") ∷ []), (record { arcs = record { inherits = no_edits; specializes = no_edits; references = (record { explicit = (Some ((record { asset = None; path = (Some (Prim (codes "A") ∷ Prim (codes "c") ∷ [])); offset = (record { offset = (pos 0); scale = (pos 1) }) }) ∷ [])); deleted = ([]); added = ([]); prepended = ([]); appended = ([]); ordered = ([]) }); payloads = no_edits; variant_sets = no_edits; selections = ([]) }; body = record { specifier = Def; type_name = None; meta = ([]); api_schemas = no_edits; clip_sets = no_edits; children = ([]); child_order = ([]); properties = ([]); property_order = ([]); variant_names = ([]) } })) ∷
        ((Prim (codes "B") ∷ []), (record { arcs = record { inherits = no_edits; specializes = no_edits; references = no_edits; payloads = no_edits; variant_sets = no_edits; selections = ([]) }; body = record { specifier = Def; type_name = None; meta = ([]); api_schemas = no_edits; clip_sets = no_edits; children = ([]); child_order = ([]); properties = ([]); property_order = ([]); variant_names = ([]) } })) ∷ []);
  }),
) ∷
    ((codes "x.usdc"), broken (record { kind = Crate; line = 1; column = 1 })) ∷
    [])
