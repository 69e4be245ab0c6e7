-- A world of 1 layers.
use Rattle.std.specs.Prelude.{codes, pos, true, false, [], ◌∷◌, Some, None}
use Rattle.sdf_paths.specs.declared.element.Element.TheVariants.{Prim, Selection, Property}
use Rattle.spec_parts.specs.Blank.{no_edits}
use Rattle.spec_parts.specs.declared.items.Specifier.TheVariants.{Def, Over, Class}
use Rattle.spec_properties.specs.declared.property.Property.TheVariants.{Attr, Rel}
use Rattle.sdf_values.specs.declared.type_name.ElementType.TheVariants as element
use Rattle.sdf_values.specs.declared.value.Value.TheVariants as value
use Rattle.composition.specs.World.{World}
use Rattle.composition_worlds.specs.Listed.{present, listed_world}

abbrev pub world : World
world = listed_world (codes "root.usda") None ((
  (codes "root.usda"),
  present (record {
    head = record { sublayers = ([]); default_prim = None; meta = ([]); root_names = ((codes "R2") ∷ (codes "_c") ∷ (codes "R1") ∷ (codes "R3") ∷ []); root_order = ([]) };
    specs = (
        ((Prim (codes "R2") ∷ []), (record { arcs = record { inherits = (record { explicit = None; deleted = ([]); added = ([]); prepended = ((Prim (codes "_c") ∷ Prim (codes "a") ∷ []) ∷ []); appended = ((Prim (codes "_c") ∷ Prim (codes "a") ∷ []) ∷ []); ordered = ([]) }); specializes = no_edits; references = (record { explicit = None; deleted = ((record { asset = None; path = (Some (Prim (codes "R1") ∷ [])); offset = (record { offset = (pos 0); scale = (pos 1) }) }) ∷ []); added = ([]); prepended = ([]); appended = ([]); ordered = ([]) }); payloads = no_edits; variant_sets = no_edits; selections = ([]) }; body = record { specifier = Def; type_name = None; meta = ([]); api_schemas = no_edits; clip_sets = no_edits; children = ((codes "a") ∷ []); child_order = ([]); properties = ((Attr (codes "x") (record { element = element.Int; array = false }) true false (Some (value.Whole (pos 39))) (((pos 1000000000000000000), (value.Whole (pos 98))) ∷ ((pos 5000000000000000000), (value.Whole (pos 69))) ∷ ((pos 10000000000000000000), (value.Whole (pos 21))) ∷ []) no_edits ([])) ∷ []); property_order = ([]); variant_names = ([]) } })) ∷
        ((Prim (codes "R2") ∷ Prim (codes "a") ∷ []), (record { arcs = record { inherits = (record { explicit = None; deleted = ([]); added = ((Prim (codes "R3") ∷ Prim (codes "a") ∷ []) ∷ (Prim (codes "_c") ∷ Prim (codes "a") ∷ []) ∷ []); prepended = ((Prim (codes "_c") ∷ Prim (codes "a") ∷ []) ∷ (Prim (codes "R3") ∷ Prim (codes "a") ∷ []) ∷ []); appended = ((Prim (codes "R3") ∷ Prim (codes "a") ∷ []) ∷ (Prim (codes "_c") ∷ Prim (codes "a") ∷ []) ∷ []); ordered = ((Prim (codes "_c") ∷ Prim (codes "a") ∷ []) ∷ []) }); specializes = (record { explicit = None; deleted = ((Prim (codes "_c") ∷ []) ∷ []); added = ([]); prepended = ([]); appended = ([]); ordered = ([]) }); references = no_edits; payloads = no_edits; variant_sets = (record { explicit = (Some ((codes "u") ∷ [])); deleted = ([]); added = ([]); prepended = ([]); appended = ([]); ordered = ([]) }); selections = ([]) }; body = record { specifier = Def; type_name = None; meta = ([]); api_schemas = no_edits; clip_sets = no_edits; children = ([]); child_order = ([]); properties = ([]); property_order = ([]); variant_names = ([]) } })) ∷
        ((Prim (codes "_c") ∷ []), (record { arcs = record { inherits = no_edits; specializes = no_edits; references = no_edits; payloads = no_edits; variant_sets = no_edits; selections = ([]) }; body = record { specifier = Class; type_name = None; meta = ([]); api_schemas = no_edits; clip_sets = no_edits; children = ((codes "a") ∷ []); child_order = ([]); properties = ([]); property_order = ([]); variant_names = ([]) } })) ∷
        ((Prim (codes "_c") ∷ Prim (codes "a") ∷ []), (record { arcs = record { inherits = (record { explicit = None; deleted = ((Prim (codes "_c") ∷ []) ∷ (Prim (codes "R2") ∷ Prim (codes "a") ∷ []) ∷ []); added = ([]); prepended = ([]); appended = ([]); ordered = ([]) }); specializes = no_edits; references = no_edits; payloads = no_edits; variant_sets = no_edits; selections = ([]) }; body = record { specifier = Class; type_name = (Some (codes "Xform")); meta = ([]); api_schemas = no_edits; clip_sets = no_edits; children = ((codes "a") ∷ []); child_order = ([]); properties = ((Attr (codes "x") (record { element = element.Int; array = false }) false false (Some (value.Whole (pos 65))) (((pos 1000000000000000000000000000000), (value.Whole (pos 11))) ∷ []) (record { explicit = None; deleted = ([]); added = ([]); prepended = ((Prim (codes "_c") ∷ []) ∷ (Prim (codes "R0") ∷ []) ∷ []); appended = ([]); ordered = ([]) }) ([])) ∷ []); property_order = ([]); variant_names = ([]) } })) ∷
        ((Prim (codes "_c") ∷ Prim (codes "a") ∷ Prim (codes "a") ∷ []), (record { arcs = record { inherits = no_edits; specializes = no_edits; references = no_edits; payloads = no_edits; variant_sets = no_edits; selections = ([]) }; body = record { specifier = Over; type_name = None; meta = ([]); api_schemas = no_edits; clip_sets = no_edits; children = ([]); child_order = ([]); properties = ([]); property_order = ([]); variant_names = ([]) } })) ∷
        ((Prim (codes "R1") ∷ []), (record { arcs = record { inherits = no_edits; specializes = no_edits; references = no_edits; payloads = no_edits; variant_sets = (record { explicit = (Some ((codes "t") ∷ [])); deleted = ([]); added = ([]); prepended = ([]); appended = ([]); ordered = ([]) }); selections = (((codes "s"), (codes "z")) ∷ []) }; body = record { specifier = Over; type_name = None; meta = ([]); api_schemas = no_edits; clip_sets = no_edits; children = ((codes "a") ∷ []); child_order = ([]); properties = ([]); property_order = ([]); variant_names = ([]) } })) ∷
        ((Prim (codes "R1") ∷ Prim (codes "a") ∷ []), (record { arcs = record { inherits = no_edits; specializes = no_edits; references = no_edits; payloads = no_edits; variant_sets = (record { explicit = (Some ((codes "s") ∷ [])); deleted = ([]); added = ([]); prepended = ([]); appended = ([]); ordered = ([]) }); selections = (((codes "s"), (codes "z")) ∷ []) }; body = record { specifier = Def; type_name = None; meta = ([]); api_schemas = no_edits; clip_sets = no_edits; children = ([]); child_order = ([]); properties = ([]); property_order = ([]); variant_names = ((record { set = (codes "s"); variants = ((codes "y") ∷ (codes "x") ∷ (codes "z") ∷ []) }) ∷ []) } })) ∷
        ((Prim (codes "R1") ∷ Prim (codes "a") ∷ Selection (codes "s") (codes "y") ∷ []), (record { arcs = record { inherits = no_edits; specializes = no_edits; references = no_edits; payloads = no_edits; variant_sets = no_edits; selections = ([]) }; body = record { specifier = Over; type_name = None; meta = ([]); api_schemas = no_edits; clip_sets = no_edits; children = ((codes "R1") ∷ []); child_order = ([]); properties = ((Rel (codes "q") false (record { explicit = None; deleted = ((Prim (codes "R1") ∷ Prim (codes "a") ∷ []) ∷ []); added = ([]); prepended = ((Prim (codes "R1") ∷ Prim (codes "a") ∷ Prim (codes "R0") ∷ Property (codes "x") ∷ []) ∷ (Prim (codes "R3") ∷ Property (codes "r") ∷ []) ∷ []); appended = ((Prim (codes "R1") ∷ Prim (codes "a") ∷ Prim (codes "R0") ∷ []) ∷ []); ordered = ((Prim (codes "R1") ∷ Prim (codes "a") ∷ Prim (codes "a") ∷ []) ∷ (Prim (codes "R1") ∷ Prim (codes "R0") ∷ []) ∷ (Prim (codes "R1") ∷ Prim (codes "a") ∷ Prim (codes "R1") ∷ []) ∷ []) }) ([])) ∷ []); property_order = ([]); variant_names = ([]) } })) ∷
        ((Prim (codes "R1") ∷ Prim (codes "a") ∷ Selection (codes "s") (codes "y") ∷ Prim (codes "R1") ∷ []), (record { arcs = record { inherits = no_edits; specializes = no_edits; references = no_edits; payloads = no_edits; variant_sets = (record { explicit = None; deleted = ([]); added = ([]); prepended = ((codes "u") ∷ (codes "s") ∷ []); appended = ([]); ordered = ([]) }); selections = ([]) }; body = record { specifier = Class; type_name = None; meta = ([]); api_schemas = no_edits; clip_sets = (record { explicit = None; deleted = ([]); added = ([]); prepended = ([]); appended = ((codes "S") ∷ (codes "R") ∷ []); ordered = ([]) }); children = ([]); child_order = ([]); properties = ([]); property_order = ([]); variant_names = ((record { set = (codes "u"); variants = ((codes "z") ∷ (codes "x") ∷ []) }) ∷ (record { set = (codes "s"); variants = ((codes "z") ∷ (codes "x") ∷ []) }) ∷ []) } })) ∷
        ((Prim (codes "R1") ∷ Prim (codes "a") ∷ Selection (codes "s") (codes "y") ∷ Prim (codes "R1") ∷ Selection (codes "u") (codes "z") ∷ []), (record { arcs = record { inherits = no_edits; specializes = no_edits; references = no_edits; payloads = no_edits; variant_sets = no_edits; selections = ([]) }; body = record { specifier = Over; type_name = None; meta = ([]); api_schemas = no_edits; clip_sets = no_edits; children = ((codes "a") ∷ []); child_order = ([]); properties = ([]); property_order = ([]); variant_names = ([]) } })) ∷
        ((Prim (codes "R1") ∷ Prim (codes "a") ∷ Selection (codes "s") (codes "y") ∷ Prim (codes "R1") ∷ Selection (codes "u") (codes "z") ∷ Prim (codes "a") ∷ []), (record { arcs = record { inherits = no_edits; specializes = no_edits; references = no_edits; payloads = no_edits; variant_sets = no_edits; selections = ([]) }; body = record { specifier = Over; type_name = None; meta = ([]); api_schemas = no_edits; clip_sets = no_edits; children = ([]); child_order = ([]); properties = ([]); property_order = ([]); variant_names = ([]) } })) ∷
        ((Prim (codes "R1") ∷ Prim (codes "a") ∷ Selection (codes "s") (codes "y") ∷ Prim (codes "R1") ∷ Selection (codes "u") (codes "x") ∷ []), (record { arcs = record { inherits = no_edits; specializes = no_edits; references = no_edits; payloads = no_edits; variant_sets = no_edits; selections = ([]) }; body = record { specifier = Over; type_name = None; meta = ([]); api_schemas = no_edits; clip_sets = no_edits; children = ([]); child_order = ([]); properties = ([]); property_order = ([]); variant_names = ([]) } })) ∷
        ((Prim (codes "R1") ∷ Prim (codes "a") ∷ Selection (codes "s") (codes "y") ∷ Prim (codes "R1") ∷ Selection (codes "s") (codes "z") ∷ []), (record { arcs = record { inherits = no_edits; specializes = no_edits; references = no_edits; payloads = no_edits; variant_sets = no_edits; selections = ([]) }; body = record { specifier = Over; type_name = None; meta = ([]); api_schemas = no_edits; clip_sets = no_edits; children = ([]); child_order = ([]); properties = ([]); property_order = ([]); variant_names = ([]) } })) ∷
        ((Prim (codes "R1") ∷ Prim (codes "a") ∷ Selection (codes "s") (codes "y") ∷ Prim (codes "R1") ∷ Selection (codes "s") (codes "x") ∷ []), (record { arcs = record { inherits = no_edits; specializes = no_edits; references = no_edits; payloads = no_edits; variant_sets = no_edits; selections = ([]) }; body = record { specifier = Over; type_name = None; meta = ([]); api_schemas = no_edits; clip_sets = no_edits; children = ([]); child_order = ([]); properties = ([]); property_order = ([]); variant_names = ([]) } })) ∷
        ((Prim (codes "R1") ∷ Prim (codes "a") ∷ Selection (codes "s") (codes "x") ∷ []), (record { arcs = record { inherits = no_edits; specializes = no_edits; references = no_edits; payloads = no_edits; variant_sets = (record { explicit = (Some ((codes "u") ∷ [])); deleted = ([]); added = ([]); prepended = ([]); appended = ([]); ordered = ([]) }); selections = ([]) }; body = record { specifier = Over; type_name = None; meta = ([]); api_schemas = no_edits; clip_sets = no_edits; children = ((codes "R1") ∷ []); child_order = ((codes "a") ∷ (codes "R1") ∷ (codes "_c") ∷ []); properties = ([]); property_order = ([]); variant_names = ([]) } })) ∷
        ((Prim (codes "R1") ∷ Prim (codes "a") ∷ Selection (codes "s") (codes "x") ∷ Prim (codes "R1") ∷ []), (record { arcs = record { inherits = no_edits; specializes = no_edits; references = no_edits; payloads = no_edits; variant_sets = no_edits; selections = ([]) }; body = record { specifier = Over; type_name = None; meta = (((codes "odd"), (value.Whole (pos 3))) ∷ []); api_schemas = no_edits; clip_sets = no_edits; children = ([]); child_order = ([]); properties = ([]); property_order = ([]); variant_names = ([]) } })) ∷
        ((Prim (codes "R1") ∷ Prim (codes "a") ∷ Selection (codes "s") (codes "z") ∷ []), (record { arcs = record { inherits = no_edits; specializes = no_edits; references = no_edits; payloads = no_edits; variant_sets = no_edits; selections = ([]) }; body = record { specifier = Over; type_name = None; meta = ([]); api_schemas = no_edits; clip_sets = no_edits; children = ((codes "R1") ∷ (codes "a") ∷ []); child_order = ([]); properties = ([]); property_order = ([]); variant_names = ([]) } })) ∷
        ((Prim (codes "R1") ∷ Prim (codes "a") ∷ Selection (codes "s") (codes "z") ∷ Prim (codes "R1") ∷ []), (record { arcs = record { inherits = no_edits; specializes = no_edits; references = no_edits; payloads = no_edits; variant_sets = no_edits; selections = (((codes "u"), (codes "y")) ∷ []) }; body = record { specifier = Over; type_name = None; meta = ([]); api_schemas = no_edits; clip_sets = no_edits; children = ([]); child_order = ([]); properties = ([]); property_order = ([]); variant_names = ([]) } })) ∷
        ((Prim (codes "R1") ∷ Prim (codes "a") ∷ Selection (codes "s") (codes "z") ∷ Prim (codes "a") ∷ []), (record { arcs = record { inherits = no_edits; specializes = no_edits; references = no_edits; payloads = no_edits; variant_sets = no_edits; selections = ([]) }; body = record { specifier = Over; type_name = None; meta = ([]); api_schemas = no_edits; clip_sets = no_edits; children = ([]); child_order = ([]); properties = ((Attr (codes "x") (record { element = element.Int; array = false }) false false (Some (value.Whole (pos 45))) ([]) no_edits ([])) ∷ (Rel (codes "r") false (record { explicit = None; deleted = ([]); added = ([]); prepended = ((Prim (codes "R0") ∷ Property (codes "w") ∷ []) ∷ []); appended = ([]); ordered = ([]) }) ([])) ∷ []); property_order = ([]); variant_names = ([]) } })) ∷
        ((Prim (codes "R3") ∷ []), (record { arcs = record { inherits = no_edits; specializes = no_edits; references = no_edits; payloads = no_edits; variant_sets = no_edits; selections = ([]) }; body = record { specifier = Class; type_name = None; meta = ([]); api_schemas = no_edits; clip_sets = no_edits; children = ((codes "a") ∷ []); child_order = ([]); properties = ((Attr (codes "x") (record { element = element.Int; array = false }) false false (Some (value.Whole (pos 10))) ([]) no_edits ([])) ∷ []); property_order = ([]); variant_names = ([]) } })) ∷
        ((Prim (codes "R3") ∷ Prim (codes "a") ∷ []), (record { arcs = record { inherits = no_edits; specializes = no_edits; references = no_edits; payloads = no_edits; variant_sets = no_edits; selections = ([]) }; body = record { specifier = Class; type_name = None; meta = ([]); api_schemas = no_edits; clip_sets = no_edits; children = ([]); child_order = ([]); properties = ((Rel (codes "y") false (record { explicit = (Some ((Prim (codes "R1") ∷ Prim (codes "a") ∷ Property (codes "r") ∷ []) ∷ [])); deleted = ([]); added = ([]); prepended = ([]); appended = ([]); ordered = ([]) }) ([])) ∷ []); property_order = ([]); variant_names = ([]) } })) ∷ []);
  }),
) ∷
    [])
