-- A world of 1 layers.
use Rattle.std.specs.Prelude.{codes, pos, true, false, [], ◌∷◌, Some, None}
use Rattle.sdf_paths.specs.declared.element.Element.TheVariants.{Prim, Selection, Property}
use Rattle.spec_parts.specs.Blank.{no_edits}
use Rattle.spec_parts.specs.declared.items.Specifier.TheVariants.{Def, Over, Class}
use Rattle.spec_properties.specs.declared.property.Property.TheVariants.{Attr, Rel}
use Rattle.sdf_values.specs.declared.type_name.ElementType.TheVariants as element
use Rattle.sdf_values.specs.declared.value.Value.TheVariants as value
use Rattle.composition.specs.World.{World}
use Rattle.composition_worlds.specs.Listed.{present, listed_world}

abbrev pub world : World
world = listed_world (codes "root.usda") None ((
  (codes "root.usda"),
  present (record {
    head = record { sublayers = ([]); default_prim = (Some (codes "M")); meta = ([]); root_names = ((codes "H") ∷ (codes "M") ∷ []); root_order = ([]) };
    specs = (
        ((Prim (codes "H") ∷ []), (record { arcs = record { inherits = no_edits; specializes = no_edits; references = no_edits; payloads = no_edits; variant_sets = no_edits; selections = ([]) }; body = record { specifier = Class; type_name = None; meta = (((codes "comment"), (value.Text (codes "a comment"))) ∷ []); api_schemas = no_edits; clip_sets = no_edits; children = ((codes "A") ∷ []); child_order = ([]); properties = ([]); property_order = ([]); variant_names = ([]) } })) ∷
        ((Prim (codes "H") ∷ Prim (codes "A") ∷ []), (record { arcs = record { inherits = (record { explicit = (Some ((Prim (codes "M") ∷ Prim (codes "E") ∷ []) ∷ [])); deleted = ([]); added = ([]); prepended = ([]); appended = ([]); ordered = ([]) }); specializes = no_edits; references = (record { explicit = None; deleted = ((record { asset = None; path = (Some (Prim (codes "H") ∷ Prim (codes "H") ∷ [])); offset = (record { offset = (pos 0); scale = (pos 1) }) }) ∷ []); added = ([]); prepended = ([]); appended = ((record { asset = None; path = (Some (Prim (codes "H") ∷ Prim (codes "H") ∷ [])); offset = (record { offset = (pos 0); scale = (pos 1) }) }) ∷ []); ordered = ([]) }); payloads = no_edits; variant_sets = no_edits; selections = ([]) }; body = record { specifier = Def; type_name = (Some (codes "Xform")); meta = (((codes "kind"), (value.Text (codes "component"))) ∷ []); api_schemas = no_edits; clip_sets = no_edits; children = ((codes "A") ∷ (codes "D") ∷ []); child_order = ([]); properties = ([]); property_order = ([]); variant_names = ([]) } })) ∷
        ((Prim (codes "H") ∷ Prim (codes "A") ∷ Prim (codes "A") ∷ []), (record { arcs = record { inherits = no_edits; specializes = (record { explicit = (Some ((Prim (codes "H") ∷ []) ∷ (Prim (codes "H") ∷ Prim (codes "A") ∷ Prim (codes "A") ∷ []) ∷ [])); deleted = ([]); added = ([]); prepended = ([]); appended = ([]); ordered = ([]) }); references = no_edits; payloads = no_edits; variant_sets = no_edits; selections = ([]) }; body = record { specifier = Class; type_name = None; meta = ([]); api_schemas = no_edits; clip_sets = no_edits; children = ((codes "E") ∷ []); child_order = ([]); properties = ([]); property_order = ([]); variant_names = ([]) } })) ∷
        ((Prim (codes "H") ∷ Prim (codes "A") ∷ Prim (codes "A") ∷ Prim (codes "E") ∷ []), (record { arcs = record { inherits = no_edits; specializes = no_edits; references = no_edits; payloads = no_edits; variant_sets = (record { explicit = (Some ((codes "t") ∷ (codes "u") ∷ [])); deleted = ([]); added = ([]); prepended = ([]); appended = ([]); ordered = ([]) }); selections = (((codes "t"), (codes "y")) ∷ ((codes "u"), (codes "x")) ∷ []) }; body = record { specifier = Class; type_name = None; meta = ([]); api_schemas = no_edits; clip_sets = no_edits; children = ([]); child_order = ([]); properties = ([]); property_order = ([]); variant_names = ((record { set = (codes "t"); variants = ((codes "z") ∷ (codes "x") ∷ (codes "y") ∷ []) }) ∷ (record { set = (codes "u"); variants = ((codes "x") ∷ (codes "z") ∷ (codes ".1") ∷ []) }) ∷ []) } })) ∷
        ((Prim (codes "H") ∷ Prim (codes "A") ∷ Prim (codes "A") ∷ Prim (codes "E") ∷ Selection (codes "t") (codes "z") ∷ []), (record { arcs = record { inherits = no_edits; specializes = no_edits; references = no_edits; payloads = no_edits; variant_sets = no_edits; selections = ([]) }; body = record { specifier = Over; type_name = None; meta = ([]); api_schemas = no_edits; clip_sets = no_edits; children = ([]); child_order = ([]); properties = ([]); property_order = ([]); variant_names = ([]) } })) ∷
        ((Prim (codes "H") ∷ Prim (codes "A") ∷ Prim (codes "A") ∷ Prim (codes "E") ∷ Selection (codes "t") (codes "x") ∷ []), (record { arcs = record { inherits = no_edits; specializes = no_edits; references = no_edits; payloads = no_edits; variant_sets = no_edits; selections = ([]) }; body = record { specifier = Over; type_name = None; meta = ([]); api_schemas = no_edits; clip_sets = no_edits; children = ((codes "E") ∷ []); child_order = ([]); properties = ([]); property_order = ([]); variant_names = ([]) } })) ∷
        ((Prim (codes "H") ∷ Prim (codes "A") ∷ Prim (codes "A") ∷ Prim (codes "E") ∷ Selection (codes "t") (codes "x") ∷ Prim (codes "E") ∷ []), (record { arcs = record { inherits = no_edits; specializes = no_edits; references = no_edits; payloads = no_edits; variant_sets = no_edits; selections = ([]) }; body = record { specifier = Over; type_name = None; meta = ([]); api_schemas = no_edits; clip_sets = no_edits; children = ([]); child_order = ([]); properties = ((Rel (codes "q") true (record { explicit = None; deleted = ((Prim (codes "H") ∷ Prim (codes "A") ∷ Prim (codes "A") ∷ Prim (codes "E") ∷ Prim (codes "E") ∷ Prim (codes "_c") ∷ Property (codes "q") ∷ []) ∷ []); added = ([]); prepended = ((Prim (codes "H") ∷ Prim (codes "A") ∷ Prim (codes "A") ∷ Prim (codes "E") ∷ Property (codes "q") ∷ []) ∷ []); appended = ([]); ordered = ([]) }) ([])) ∷ []); property_order = ([]); variant_names = ([]) } })) ∷
        ((Prim (codes "H") ∷ Prim (codes "A") ∷ Prim (codes "A") ∷ Prim (codes "E") ∷ Selection (codes "t") (codes "y") ∷ []), (record { arcs = record { inherits = no_edits; specializes = no_edits; references = no_edits; payloads = no_edits; variant_sets = no_edits; selections = ([]) }; body = record { specifier = Over; type_name = None; meta = ([]); api_schemas = no_edits; clip_sets = no_edits; children = ((codes "F") ∷ (codes "E") ∷ []); child_order = ([]); properties = ([]); property_order = ([]); variant_names = ([]) } })) ∷
        ((Prim (codes "H") ∷ Prim (codes "A") ∷ Prim (codes "A") ∷ Prim (codes "E") ∷ Selection (codes "t") (codes "y") ∷ Prim (codes "F") ∷ []), (record { arcs = record { inherits = no_edits; specializes = no_edits; references = no_edits; payloads = no_edits; variant_sets = no_edits; selections = ([]) }; body = record { specifier = Def; type_name = None; meta = ([]); api_schemas = no_edits; clip_sets = no_edits; children = ([]); child_order = ([]); properties = ([]); property_order = ([]); variant_names = ([]) } })) ∷
        ((Prim (codes "H") ∷ Prim (codes "A") ∷ Prim (codes "A") ∷ Prim (codes "E") ∷ Selection (codes "t") (codes "y") ∷ Prim (codes "E") ∷ []), (record { arcs = record { inherits = no_edits; specializes = no_edits; references = no_edits; payloads = no_edits; variant_sets = no_edits; selections = ([]) }; body = record { specifier = Def; type_name = None; meta = ([]); api_schemas = no_edits; clip_sets = no_edits; children = ([]); child_order = ([]); properties = ([]); property_order = ([]); variant_names = ([]) } })) ∷
        ((Prim (codes "H") ∷ Prim (codes "A") ∷ Prim (codes "A") ∷ Prim (codes "E") ∷ Selection (codes "u") (codes "x") ∷ []), (record { arcs = record { inherits = no_edits; specializes = no_edits; references = no_edits; payloads = no_edits; variant_sets = no_edits; selections = ([]) }; body = record { specifier = Over; type_name = None; meta = ([]); api_schemas = no_edits; clip_sets = no_edits; children = ([]); child_order = ([]); properties = ([]); property_order = ([]); variant_names = ([]) } })) ∷
        ((Prim (codes "H") ∷ Prim (codes "A") ∷ Prim (codes "A") ∷ Prim (codes "E") ∷ Selection (codes "u") (codes "z") ∷ []), (record { arcs = record { inherits = no_edits; specializes = no_edits; references = no_edits; payloads = no_edits; variant_sets = no_edits; selections = ([]) }; body = record { specifier = Over; type_name = None; meta = ([]); api_schemas = no_edits; clip_sets = no_edits; children = ([]); child_order = ([]); properties = ([]); property_order = ([]); variant_names = ([]) } })) ∷
        ((Prim (codes "H") ∷ Prim (codes "A") ∷ Prim (codes "A") ∷ Prim (codes "E") ∷ Selection (codes "u") (codes ".1") ∷ []), (record { arcs = record { inherits = no_edits; specializes = no_edits; references = no_edits; payloads = no_edits; variant_sets = no_edits; selections = ([]) }; body = record { specifier = Over; type_name = None; meta = ([]); api_schemas = no_edits; clip_sets = no_edits; children = ([]); child_order = ([]); properties = ([]); property_order = ([]); variant_names = ([]) } })) ∷
        ((Prim (codes "H") ∷ Prim (codes "A") ∷ Prim (codes "D") ∷ []), (record { arcs = record { inherits = no_edits; specializes = no_edits; references = no_edits; payloads = no_edits; variant_sets = no_edits; selections = ([]) }; body = record { specifier = Over; type_name = None; meta = ([]); api_schemas = no_edits; clip_sets = no_edits; children = ([]); child_order = ([]); properties = ([]); property_order = ([]); variant_names = ([]) } })) ∷
        ((Prim (codes "M") ∷ []), (record { arcs = record { inherits = no_edits; specializes = no_edits; references = no_edits; payloads = no_edits; variant_sets = no_edits; selections = ([]) }; body = record { specifier = Def; type_name = None; meta = ([]); api_schemas = no_edits; clip_sets = no_edits; children = ((codes "E") ∷ []); child_order = ([]); properties = ((Attr (codes "x") (record { element = element.Int; array = false }) true false (Some (value.Whole (pos 18))) (((pos 1000000000000000000), (value.Whole (pos 62))) ∷ ((pos 2000000000000000000), (value.Whole (pos 48))) ∷ []) (record { explicit = None; deleted = ([]); added = ([]); prepended = ([]); appended = ((Prim (codes "M") ∷ Prim (codes "E") ∷ Prim (codes "F") ∷ Prim (codes "H") ∷ []) ∷ []); ordered = ((Prim (codes "M") ∷ Prim (codes "E") ∷ Prim (codes "F") ∷ []) ∷ []) }) ([])) ∷ []); property_order = ([]); variant_names = ([]) } })) ∷
        ((Prim (codes "M") ∷ Prim (codes "E") ∷ []), (record { arcs = record { inherits = no_edits; specializes = no_edits; references = no_edits; payloads = no_edits; variant_sets = no_edits; selections = (((codes "s"), []) ∷ ((codes "t"), (codes ".1")) ∷ []) }; body = record { specifier = Over; type_name = (Some (codes "Scope")); meta = ([]); api_schemas = no_edits; clip_sets = no_edits; children = ((codes "F") ∷ []); child_order = ([]); properties = ([]); property_order = ([]); variant_names = ([]) } })) ∷
        ((Prim (codes "M") ∷ Prim (codes "E") ∷ Prim (codes "F") ∷ []), (record { arcs = record { inherits = no_edits; specializes = no_edits; references = no_edits; payloads = no_edits; variant_sets = no_edits; selections = (((codes "t"), (codes "z")) ∷ []) }; body = record { specifier = Over; type_name = None; meta = ([]); api_schemas = no_edits; clip_sets = no_edits; children = ((codes "H") ∷ []); child_order = ([]); properties = ([]); property_order = ([]); variant_names = ([]) } })) ∷
        ((Prim (codes "M") ∷ Prim (codes "E") ∷ Prim (codes "F") ∷ Prim (codes "H") ∷ []), (record { arcs = record { inherits = no_edits; specializes = no_edits; references = no_edits; payloads = no_edits; variant_sets = no_edits; selections = ([]) }; body = record { specifier = Def; type_name = None; meta = ([]); api_schemas = no_edits; clip_sets = no_edits; children = ([]); child_order = ([]); properties = ([]); property_order = ([]); variant_names = ([]) } })) ∷ []);
  }),
) ∷
    [])
