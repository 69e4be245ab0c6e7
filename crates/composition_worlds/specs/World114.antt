-- A world of 3 layers.
use Rattle.std.specs.Prelude.{codes, pos, true, false, [], ◌∷◌, Some, None}
use Rattle.sdf_paths.specs.declared.element.Element.TheVariants.{Prim}
use Rattle.spec_parts.specs.Blank.{no_edits}
use Rattle.spec_parts.specs.declared.items.Specifier.TheVariants.{Def, Over, Class}
use Rattle.spec_properties.specs.declared.property.Property.TheVariants.{Attr}
use Rattle.sdf_values.specs.declared.refusal.RefusalKind.TheVariants.{Syntax}
use Rattle.sdf_values.specs.declared.type_name.ElementType.TheVariants as element
use Rattle.sdf_values.specs.declared.value.Value.TheVariants as value
use Rattle.composition.specs.World.{World}
use Rattle.composition_worlds.specs.Listed.{present, broken, listed_world}

abbrev pub world : World
world = listed_world (codes "root.usda") None ((
  (codes "root.usda"),
  present (record {
    head = record { sublayers = ((record { asset = (codes "zz/../sub/d.usda"); offset = (record { offset = (pos 0); scale = (pos 1) }) }) ∷ (record { asset = (codes "sub/c.usda"); offset = (record { offset = (pos 1); scale = (pos 2) }) }) ∷ []); default_prim = (Some (codes "H")); meta = ([]); root_names = ((codes "H") ∷ []); root_order = ([]) };
    specs = (
        ((Prim (codes "H") ∷ []), (record { arcs = record { inherits = no_edits; specializes = no_edits; references = (record { explicit = None; deleted = ((record { asset = (Some (codes "sub/d.usda")); path = (Some (Prim (codes "_c") ∷ Prim (codes "_c") ∷ Prim (codes "H") ∷ [])); offset = (record { offset = (pos 0); scale = (pos 1) }) }) ∷ []); added = ([]); prepended = ([]); appended = ([]); ordered = ([]) }); payloads = no_edits; variant_sets = no_edits; selections = ([]) }; body = record { specifier = Class; type_name = None; meta = ([]); api_schemas = no_edits; clip_sets = no_edits; children = ((codes "F") ∷ []); child_order = ((codes "_c") ∷ []); properties = ([]); property_order = ([]); variant_names = ([]) } })) ∷
        ((Prim (codes "H") ∷ Prim (codes "F") ∷ []), (record { arcs = record { inherits = no_edits; specializes = no_edits; references = no_edits; payloads = no_edits; variant_sets = no_edits; selections = ([]) }; body = record { specifier = Def; type_name = None; meta = ([]); api_schemas = no_edits; clip_sets = no_edits; children = ((codes "_c") ∷ []); child_order = ([]); properties = ([]); property_order = ([]); variant_names = ([]) } })) ∷
        ((Prim (codes "H") ∷ Prim (codes "F") ∷ Prim (codes "_c") ∷ []), (record { arcs = record { inherits = no_edits; specializes = (record { explicit = None; deleted = ([]); added = ([]); prepended = ([]); appended = ((Prim (codes "H") ∷ Prim (codes "F") ∷ Prim (codes "_c") ∷ []) ∷ []); ordered = ([]) }); references = no_edits; payloads = no_edits; variant_sets = no_edits; selections = ([]) }; body = record { specifier = Over; type_name = None; meta = ([]); api_schemas = (record { explicit = (Some ((codes "S") ∷ (codes "P") ∷ (codes "Q") ∷ [])); deleted = ([]); added = ([]); prepended = ([]); appended = ([]); ordered = ([]) }); clip_sets = no_edits; children = ([]); child_order = ([]); properties = ([]); property_order = ([]); variant_names = ([]) } })) ∷ []);
  }),
) ∷
    ((codes "sub/d.usda"), broken (record { kind = Syntax; line = 23; column = 15 })) ∷ (
      (codes "sub/c.usda"),
      present (record {
        head = record { sublayers = ([]); default_prim = (Some (codes "H")); meta = ([]); root_names = ((codes "H") ∷ []); root_order = ((codes "F") ∷ (codes "_c") ∷ (codes "M") ∷ []) };
        specs = (
            ((Prim (codes "H") ∷ []), (record { arcs = record { inherits = no_edits; specializes = no_edits; references = no_edits; payloads = (record { explicit = None; deleted = ([]); added = ([]); prepended = ((record { asset = (Some (codes "d.usda")); path = (Some (Prim (codes "_c") ∷ Prim (codes "_c") ∷ [])); offset = (record { offset = (pos 0); scale = (pos 1) }) }) ∷ []); appended = ([]); ordered = ([]) }); variant_sets = no_edits; selections = ([]) }; body = record { specifier = Class; type_name = None; meta = ([]); api_schemas = no_edits; clip_sets = no_edits; children = ((codes "A") ∷ (codes "F") ∷ []); child_order = ([]); properties = ((Attr (codes "y") (record { element = element.Int; array = false }) false true (Some (value.Whole (pos 89))) ([]) (record { explicit = None; deleted = ([]); added = ([]); prepended = ((Prim (codes "H") ∷ []) ∷ (Prim (codes "H") ∷ Prim (codes "F") ∷ []) ∷ []); appended = ([]); ordered = ([]) }) ([])) ∷ []); property_order = ([]); variant_names = ([]) } })) ∷
            ((Prim (codes "H") ∷ Prim (codes "A") ∷ []), (record { arcs = record { inherits = no_edits; specializes = no_edits; references = no_edits; payloads = no_edits; variant_sets = no_edits; selections = ([]) }; body = record { specifier = Def; type_name = None; meta = ([]); api_schemas = no_edits; clip_sets = no_edits; children = ([]); child_order = ([]); properties = ([]); property_order = ([]); variant_names = ([]) } })) ∷
            ((Prim (codes "H") ∷ Prim (codes "F") ∷ []), (record { arcs = record { inherits = no_edits; specializes = no_edits; references = no_edits; payloads = no_edits; variant_sets = no_edits; selections = ([]) }; body = record { specifier = Def; type_name = None; meta = ([]); api_schemas = no_edits; clip_sets = no_edits; children = ([]); child_order = ([]); properties = ([]); property_order = ([]); variant_names = ([]) } })) ∷ []);
      }),
    ) ∷
    [])
