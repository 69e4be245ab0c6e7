-- A world of 1 layers.
use Rattle.std.specs.Prelude.{codes, pos, false, [], ◌∷◌, Some, None}
use Rattle.sdf_paths.specs.declared.element.Element.TheVariants.{Prim, Selection, Property}
use Rattle.spec_parts.specs.Blank.{no_edits}
use Rattle.spec_parts.specs.declared.items.Specifier.TheVariants.{Def, Over, Class}
use Rattle.spec_properties.specs.declared.property.Property.TheVariants.{Attr, Rel}
use Rattle.sdf_values.specs.declared.type_name.ElementType.TheVariants as element
use Rattle.sdf_values.specs.declared.value.DictType.TheVariants as dict_type
use Rattle.sdf_values.specs.declared.value.Value.TheVariants as value
use Rattle.composition.specs.World.{World}
use Rattle.composition_worlds.specs.Listed.{present, listed_world}

abbrev pub world : World
world = listed_world (codes "root.usda") None ((
  (codes "root.usda"),
  present (record {
    head = record { sublayers = ([]); default_prim = None; meta = ([]); root_names = ((codes "D") ∷ (codes "_k") ∷ (codes "E") ∷ (codes "H") ∷ []); root_order = ([]) };
    specs = (
        ((Prim (codes "D") ∷ []), (record { arcs = record { inherits = no_edits; specializes = no_edits; references = no_edits; payloads = no_edits; variant_sets = no_edits; selections = ([]) }; body = record { specifier = Def; type_name = None; meta = ([]); api_schemas = no_edits; clip_sets = no_edits; children = ((codes "_k") ∷ []); child_order = ([]); properties = ([]); property_order = ([]); variant_names = ([]) } })) ∷
        ((Prim (codes "D") ∷ Prim (codes "_k") ∷ []), (record { arcs = record { inherits = no_edits; specializes = no_edits; references = no_edits; payloads = no_edits; variant_sets = no_edits; selections = (((codes "t"), (codes "x")) ∷ []) }; body = record { specifier = Class; type_name = None; meta = ([]); api_schemas = no_edits; clip_sets = no_edits; children = ([]); child_order = ([]); properties = ([]); property_order = ([]); variant_names = ([]) } })) ∷
        ((Prim (codes "_k") ∷ []), (record { arcs = record { inherits = no_edits; specializes = no_edits; references = no_edits; payloads = no_edits; variant_sets = (record { explicit = (Some ((codes "u") ∷ [])); deleted = ([]); added = ([]); prepended = ([]); appended = ([]); ordered = ([]) }); selections = (((codes "t"), (codes "x")) ∷ []) }; body = record { specifier = Class; type_name = None; meta = ([]); api_schemas = no_edits; clip_sets = no_edits; children = ((codes "A") ∷ (codes "B") ∷ (codes "G") ∷ []); child_order = ([]); properties = ([]); property_order = ([]); variant_names = ([]) } })) ∷
        ((Prim (codes "_k") ∷ Prim (codes "A") ∷ []), (record { arcs = record { inherits = no_edits; specializes = no_edits; references = no_edits; payloads = no_edits; variant_sets = (record { explicit = None; deleted = ([]); added = ([]); prepended = ((codes "s") ∷ []); appended = ([]); ordered = ([]) }); selections = (((codes "t"), (codes "x")) ∷ ((codes "u"), (codes "x")) ∷ []) }; body = record { specifier = Def; type_name = None; meta = (((codes "customData"), (value.Dict ((record { key = (codes "b"); ty = dict_type.Dictionary; value = (value.Dict ((record { key = (codes "a"); ty = dict_type.Dictionary; value = (value.Dict ((record { key = (codes "a"); ty = (dict_type.Plain (record { element = element.Int; array = false })); value = (value.Whole (pos 1)) }) ∷ (record { key = (codes "k e"); ty = (dict_type.Plain (record { element = element.Int; array = false })); value = (value.Whole (pos 5)) }) ∷ [])) }) ∷ (record { key = (codes "c"); ty = (dict_type.Plain (record { element = element.String; array = false })); value = (value.Text (codes "v")) }) ∷ [])) }) ∷ (record { key = (codes "c"); ty = dict_type.Dictionary; value = (value.Dict ((record { key = (codes "k e"); ty = (dict_type.Plain (record { element = element.Int; array = false })); value = (value.Whole (pos 4)) }) ∷ [])) }) ∷ []))) ∷ []); api_schemas = no_edits; clip_sets = no_edits; children = ([]); child_order = ([]); properties = ((Rel (codes "q") false (record { explicit = None; deleted = ([]); added = ([]); prepended = ([]); appended = ((Prim (codes "_k") ∷ Prim (codes "E") ∷ Property (codes "x") ∷ []) ∷ (Prim (codes "H") ∷ []) ∷ (Prim (codes "D") ∷ Property (codes "x") ∷ []) ∷ []); ordered = ([]) }) ([])) ∷ []); property_order = ([]); variant_names = ((record { set = (codes "s"); variants = ((codes "z") ∷ (codes "x") ∷ []) }) ∷ []) } })) ∷
        ((Prim (codes "_k") ∷ Prim (codes "A") ∷ Selection (codes "s") (codes "z") ∷ []), (record { arcs = record { inherits = no_edits; specializes = no_edits; references = (record { explicit = (Some ((record { asset = (Some (codes "root.usda")); path = (Some (Prim (codes "_k") ∷ Prim (codes "B") ∷ Prim (codes "A") ∷ [])); offset = (record { offset = (pos 0); scale = (pos 1) }) }) ∷ (record { asset = (Some (codes "root.usda")); path = (Some (Prim (codes "A") ∷ Prim (codes "G") ∷ Prim (codes "H") ∷ [])); offset = (record { offset = (pos 0); scale = (pos 1) }) }) ∷ (record { asset = None; path = (Some (Prim (codes "_k") ∷ Prim (codes "A") ∷ Prim (codes "G") ∷ [])); offset = (record { offset = (pos 0); scale = (pos 1) }) }) ∷ [])); deleted = ([]); added = ([]); prepended = ([]); appended = ([]); ordered = ([]) }); payloads = no_edits; variant_sets = no_edits; selections = (((codes "s"), (codes "x")) ∷ []) }; body = record { specifier = Over; type_name = None; meta = ([]); api_schemas = no_edits; clip_sets = no_edits; children = ((codes "E") ∷ []); child_order = ([]); properties = ([]); property_order = ([]); variant_names = ([]) } })) ∷
        ((Prim (codes "_k") ∷ Prim (codes "A") ∷ Selection (codes "s") (codes "z") ∷ Prim (codes "E") ∷ []), (record { arcs = record { inherits = no_edits; specializes = no_edits; references = no_edits; payloads = no_edits; variant_sets = no_edits; selections = ([]) }; body = record { specifier = Over; type_name = None; meta = ([]); api_schemas = no_edits; clip_sets = no_edits; children = ([]); child_order = ([]); properties = ([]); property_order = ([]); variant_names = ([]) } })) ∷
        ((Prim (codes "_k") ∷ Prim (codes "A") ∷ Selection (codes "s") (codes "x") ∷ []), (record { arcs = record { inherits = no_edits; specializes = (record { explicit = (Some ((Prim (codes "H") ∷ []) ∷ [])); deleted = ([]); added = ([]); prepended = ([]); appended = ([]); ordered = ([]) }); references = no_edits; payloads = no_edits; variant_sets = (record { explicit = (Some ((codes "t") ∷ [])); deleted = ([]); added = ([]); prepended = ([]); appended = ([]); ordered = ([]) }); selections = ([]) }; body = record { specifier = Over; type_name = None; meta = ([]); api_schemas = no_edits; clip_sets = no_edits; children = ((codes "H") ∷ []); child_order = ([]); properties = ([]); property_order = ([]); variant_names = ((record { set = (codes "t"); variants = ((codes "z") ∷ (codes "y") ∷ (codes "x") ∷ []) }) ∷ []) } })) ∷
        ((Prim (codes "_k") ∷ Prim (codes "A") ∷ Selection (codes "s") (codes "x") ∷ Prim (codes "H") ∷ []), (record { arcs = record { inherits = no_edits; specializes = no_edits; references = no_edits; payloads = no_edits; variant_sets = no_edits; selections = ([]) }; body = record { specifier = Def; type_name = (Some (codes "Mesh")); meta = ([]); api_schemas = no_edits; clip_sets = no_edits; children = ([]); child_order = ([]); properties = ((Attr (codes "x") (record { element = element.Int; array = false }) false false None (((pos 2000000000000000000), (value.Whole (pos 48))) ∷ []) no_edits ([])) ∷ []); property_order = ([]); variant_names = ([]) } })) ∷
        ((Prim (codes "_k") ∷ Prim (codes "A") ∷ Selection (codes "s") (codes "x") ∷ Selection (codes "t") (codes "z") ∷ []), (record { arcs = record { inherits = no_edits; specializes = no_edits; references = no_edits; payloads = no_edits; variant_sets = no_edits; selections = ([]) }; body = record { specifier = Over; type_name = None; meta = ([]); api_schemas = (record { explicit = None; deleted = ([]); added = ([]); prepended = ([]); appended = ((codes "Q") ∷ (codes "R") ∷ (codes "P") ∷ []); ordered = ([]) }); clip_sets = no_edits; children = ([]); child_order = ([]); properties = ([]); property_order = ([]); variant_names = ([]) } })) ∷
        ((Prim (codes "_k") ∷ Prim (codes "A") ∷ Selection (codes "s") (codes "x") ∷ Selection (codes "t") (codes "y") ∷ []), (record { arcs = record { inherits = no_edits; specializes = no_edits; references = no_edits; payloads = no_edits; variant_sets = no_edits; selections = ([]) }; body = record { specifier = Over; type_name = None; meta = ([]); api_schemas = no_edits; clip_sets = no_edits; children = ((codes "_c") ∷ []); child_order = ([]); properties = ([]); property_order = ([]); variant_names = ([]) } })) ∷
        ((Prim (codes "_k") ∷ Prim (codes "A") ∷ Selection (codes "s") (codes "x") ∷ Selection (codes "t") (codes "y") ∷ Prim (codes "_c") ∷ []), (record { arcs = record { inherits = no_edits; specializes = no_edits; references = no_edits; payloads = (record { explicit = None; deleted = ([]); added = ([]); prepended = ((record { asset = (Some (codes "root.usda")); path = None; offset = (record { offset = (pos 0); scale = (pos 1) }) }) ∷ (record { asset = (Some (codes "root.usda")); path = (Some (Prim (codes "H") ∷ [])); offset = (record { offset = (pos 0); scale = (pos 1) }) }) ∷ []); appended = ([]); ordered = ([]) }); variant_sets = no_edits; selections = ([]) }; body = record { specifier = Class; type_name = None; meta = ([]); api_schemas = no_edits; clip_sets = no_edits; children = ([]); child_order = ([]); properties = ([]); property_order = ([]); variant_names = ([]) } })) ∷
        ((Prim (codes "_k") ∷ Prim (codes "A") ∷ Selection (codes "s") (codes "x") ∷ Selection (codes "t") (codes "x") ∷ []), (record { arcs = record { inherits = no_edits; specializes = no_edits; references = no_edits; payloads = no_edits; variant_sets = no_edits; selections = ([]) }; body = record { specifier = Over; type_name = None; meta = ([]); api_schemas = no_edits; clip_sets = (record { explicit = None; deleted = ([]); added = ((codes "Q") ∷ []); prepended = ([]); appended = ([]); ordered = ([]) }); children = ([]); child_order = ([]); properties = ([]); property_order = ([]); variant_names = ([]) } })) ∷
        ((Prim (codes "_k") ∷ Prim (codes "B") ∷ []), (record { arcs = record { inherits = no_edits; specializes = no_edits; references = no_edits; payloads = no_edits; variant_sets = no_edits; selections = ([]) }; body = record { specifier = Over; type_name = None; meta = ([]); api_schemas = no_edits; clip_sets = no_edits; children = ((codes "A") ∷ (codes "E") ∷ []); child_order = ([]); properties = ([]); property_order = ([]); variant_names = ([]) } })) ∷
        ((Prim (codes "_k") ∷ Prim (codes "B") ∷ Prim (codes "A") ∷ []), (record { arcs = record { inherits = no_edits; specializes = no_edits; references = no_edits; payloads = no_edits; variant_sets = no_edits; selections = ([]) }; body = record { specifier = Over; type_name = None; meta = ([]); api_schemas = no_edits; clip_sets = no_edits; children = ([]); child_order = ([]); properties = ((Rel (codes "q") false (record { explicit = None; deleted = ([]); added = ([]); prepended = ((Prim (codes "D") ∷ Property (codes "y") ∷ []) ∷ []); appended = ((Prim (codes "_k") ∷ Prim (codes "_c") ∷ []) ∷ (Prim (codes "E") ∷ []) ∷ (Prim (codes "D") ∷ []) ∷ []); ordered = ((Prim (codes "_k") ∷ Prim (codes "A") ∷ []) ∷ (Prim (codes "H") ∷ []) ∷ (Prim (codes "_k") ∷ Prim (codes "B") ∷ Prim (codes "B") ∷ Property (codes "r") ∷ []) ∷ []) }) ([])) ∷ []); property_order = ([]); variant_names = ([]) } })) ∷
        ((Prim (codes "_k") ∷ Prim (codes "B") ∷ Prim (codes "E") ∷ []), (record { arcs = record { inherits = no_edits; specializes = no_edits; references = no_edits; payloads = no_edits; variant_sets = no_edits; selections = (((codes "t"), (codes "a|b")) ∷ ((codes "u"), (codes "y")) ∷ []) }; body = record { specifier = Class; type_name = None; meta = ([]); api_schemas = no_edits; clip_sets = no_edits; children = ((codes "E") ∷ []); child_order = ([]); properties = ([]); property_order = ([]); variant_names = ([]) } })) ∷
        ((Prim (codes "_k") ∷ Prim (codes "B") ∷ Prim (codes "E") ∷ Prim (codes "E") ∷ []), (record { arcs = record { inherits = (record { explicit = None; deleted = ([]); added = ([]); prepended = ((Prim (codes "H") ∷ []) ∷ []); appended = ([]); ordered = ([]) }); specializes = no_edits; references = no_edits; payloads = no_edits; variant_sets = no_edits; selections = ([]) }; body = record { specifier = Over; type_name = None; meta = ([]); api_schemas = no_edits; clip_sets = no_edits; children = ([]); child_order = ([]); properties = ([]); property_order = ([]); variant_names = ([]) } })) ∷
        ((Prim (codes "_k") ∷ Prim (codes "G") ∷ []), (record { arcs = record { inherits = no_edits; specializes = no_edits; references = no_edits; payloads = no_edits; variant_sets = no_edits; selections = ([]) }; body = record { specifier = Def; type_name = None; meta = ([]); api_schemas = no_edits; clip_sets = no_edits; children = ([]); child_order = ([]); properties = ([]); property_order = ([]); variant_names = ([]) } })) ∷
        ((Prim (codes "E") ∷ []), (record { arcs = record { inherits = (record { explicit = (Some ((Prim (codes "_k") ∷ Prim (codes "G") ∷ []) ∷ [])); deleted = ([]); added = ([]); prepended = ([]); appended = ([]); ordered = ([]) }); specializes = no_edits; references = no_edits; payloads = no_edits; variant_sets = no_edits; selections = ([]) }; body = record { specifier = Over; type_name = None; meta = ([]); api_schemas = no_edits; clip_sets = no_edits; children = ([]); child_order = ([]); properties = ([]); property_order = ([]); variant_names = ([]) } })) ∷
        ((Prim (codes "H") ∷ []), (record { arcs = record { inherits = no_edits; specializes = no_edits; references = no_edits; payloads = no_edits; variant_sets = no_edits; selections = ([]) }; body = record { specifier = Def; type_name = None; meta = ([]); api_schemas = no_edits; clip_sets = no_edits; children = ([]); child_order = ([]); properties = ([]); property_order = ([]); variant_names = ([]) } })) ∷ []);
  }),
) ∷
    [])
