-- A world of 2 layers.
use Rattle.std.specs.Prelude.{codes, pos, true, false, [], ◌∷◌, Some, None}
use Rattle.sdf_paths.specs.declared.element.Element.TheVariants.{Prim, Selection, Property}
use Rattle.spec_parts.specs.Blank.{no_edits}
use Rattle.spec_parts.specs.declared.items.Specifier.TheVariants.{Def, Over, Class}
use Rattle.spec_properties.specs.declared.property.Property.TheVariants.{Attr, Rel}
use Rattle.sdf_values.specs.declared.type_name.ElementType.TheVariants as element
use Rattle.sdf_values.specs.declared.value.DictType.TheVariants as dict_type
use Rattle.sdf_values.specs.declared.value.Value.TheVariants as value
use Rattle.composition.specs.World.{World}
use Rattle.composition_worlds.specs.Listed.{present, listed_world}

abbrev pub world : World
world = listed_world (codes "root.usda") (Some (codes "sub/c.usda")) ((
  (codes "root.usda"),
  present (record {
    head = record { sublayers = ([]); default_prim = None; meta = ([]); root_names = ((codes "C") ∷ (codes "_k") ∷ (codes "D") ∷ []); root_order = ([]) };
    specs = (
        ((Prim (codes "C") ∷ []), (record { arcs = record { inherits = (record { explicit = None; deleted = ([]); added = ([]); prepended = ((Prim (codes "C") ∷ Prim (codes "C") ∷ []) ∷ []); appended = ([]); ordered = ([]) }); specializes = (record { explicit = None; deleted = ((Prim (codes "D") ∷ Prim (codes "D") ∷ []) ∷ []); added = ((Prim (codes "D") ∷ Prim (codes "D") ∷ []) ∷ []); prepended = ([]); appended = ([]); ordered = ([]) }); references = no_edits; payloads = no_edits; variant_sets = no_edits; selections = ([]) }; body = record { specifier = Over; type_name = None; meta = ([]); api_schemas = no_edits; clip_sets = no_edits; children = ([]); child_order = ([]); properties = ((Rel (codes "r") false (record { explicit = None; deleted = ([]); added = ([]); prepended = ((Prim (codes "_k") ∷ []) ∷ (Prim (codes "C") ∷ []) ∷ (Prim (codes "C") ∷ Prim (codes "H") ∷ []) ∷ []); appended = ([]); ordered = ([]) }) ([])) ∷ []); property_order = ([]); variant_names = ([]) } })) ∷
        ((Prim (codes "_k") ∷ []), (record { arcs = record { inherits = (record { explicit = None; deleted = ([]); added = ([]); prepended = ((Prim (codes "H") ∷ Prim (codes "A") ∷ Prim (codes "D") ∷ []) ∷ (Prim (codes "_k") ∷ []) ∷ []); appended = ([]); ordered = ([]) }); specializes = no_edits; references = no_edits; payloads = no_edits; variant_sets = no_edits; selections = ([]) }; body = record { specifier = Class; type_name = None; meta = (((codes "customData"), (value.Dict ((record { key = (codes "a"); ty = (dict_type.Plain (record { element = element.String; array = false })); value = (value.Text (codes "w")) }) ∷ (record { key = (codes "b"); ty = (dict_type.Plain (record { element = element.Int; array = false })); value = (value.Whole (pos 1)) }) ∷ []))) ∷ []); api_schemas = no_edits; clip_sets = no_edits; children = ((codes "D") ∷ (codes "_k") ∷ []); child_order = ([]); properties = ([]); property_order = ([]); variant_names = ([]) } })) ∷
        ((Prim (codes "_k") ∷ Prim (codes "D") ∷ []), (record { arcs = record { inherits = no_edits; specializes = no_edits; references = no_edits; payloads = no_edits; variant_sets = no_edits; selections = ([]) }; body = record { specifier = Def; type_name = None; meta = ([]); api_schemas = no_edits; clip_sets = no_edits; children = ([]); child_order = ([]); properties = ([]); property_order = ([]); variant_names = ([]) } })) ∷
        ((Prim (codes "_k") ∷ Prim (codes "_k") ∷ []), (record { arcs = record { inherits = no_edits; specializes = no_edits; references = no_edits; payloads = no_edits; variant_sets = no_edits; selections = ([]) }; body = record { specifier = Class; type_name = None; meta = (((codes "kind"), (value.Text (codes "assembly"))) ∷ []); api_schemas = (record { explicit = (Some ((codes "S") ∷ (codes "R") ∷ [])); deleted = ([]); added = ([]); prepended = ([]); appended = ([]); ordered = ([]) }); clip_sets = no_edits; children = ((codes "D") ∷ []); child_order = ([]); properties = ((Attr (codes "w") (record { element = element.Int; array = false }) false false (Some (value.Whole (pos 33))) ([]) (record { explicit = None; deleted = ([]); added = ([]); prepended = ([]); appended = ((Prim (codes "_k") ∷ Prim (codes "D") ∷ []) ∷ []); ordered = ((Prim (codes "_k") ∷ Prim (codes "_k") ∷ Prim (codes "A") ∷ Property (codes "r") ∷ []) ∷ (Prim (codes "_k") ∷ Property (codes "y") ∷ []) ∷ []) }) ([])) ∷ []); property_order = ((codes "x") ∷ (codes "p:q") ∷ (codes "w") ∷ (codes "q") ∷ []); variant_names = ([]) } })) ∷
        ((Prim (codes "_k") ∷ Prim (codes "_k") ∷ Prim (codes "D") ∷ []), (record { arcs = record { inherits = no_edits; specializes = no_edits; references = no_edits; payloads = no_edits; variant_sets = no_edits; selections = ([]) }; body = record { specifier = Def; type_name = None; meta = ([]); api_schemas = (record { explicit = None; deleted = ([]); added = ([]); prepended = ((codes "Q") ∷ (codes "P") ∷ []); appended = ([]); ordered = ([]) }); clip_sets = no_edits; children = ((codes "A") ∷ (codes "_k") ∷ []); child_order = ((codes "D") ∷ (codes "H") ∷ (codes "F") ∷ []); properties = ([]); property_order = ([]); variant_names = ([]) } })) ∷
        ((Prim (codes "_k") ∷ Prim (codes "_k") ∷ Prim (codes "D") ∷ Prim (codes "A") ∷ []), (record { arcs = record { inherits = no_edits; specializes = (record { explicit = None; deleted = ([]); added = ([]); prepended = ((Prim (codes "_k") ∷ Prim (codes "_k") ∷ []) ∷ []); appended = ([]); ordered = ([]) }); references = no_edits; payloads = no_edits; variant_sets = (record { explicit = (Some ((codes "s") ∷ [])); deleted = ([]); added = ([]); prepended = ([]); appended = ([]); ordered = ([]) }); selections = ([]) }; body = record { specifier = Class; type_name = None; meta = ([]); api_schemas = no_edits; clip_sets = no_edits; children = ([]); child_order = ([]); properties = ([]); property_order = ([]); variant_names = ((record { set = (codes "s"); variants = ((codes "y") ∷ (codes "x") ∷ (codes "z") ∷ []) }) ∷ []) } })) ∷
        ((Prim (codes "_k") ∷ Prim (codes "_k") ∷ Prim (codes "D") ∷ Prim (codes "A") ∷ Selection (codes "s") (codes "y") ∷ []), (record { arcs = record { inherits = no_edits; specializes = no_edits; references = no_edits; payloads = no_edits; variant_sets = no_edits; selections = ([]) }; body = record { specifier = Over; type_name = None; meta = (((codes "customData"), (value.Dict ((record { key = (codes "b"); ty = dict_type.Dictionary; value = (value.Dict ((record { key = (codes "c"); ty = (dict_type.Plain (record { element = element.Int; array = false })); value = (value.Whole (pos 0)) }) ∷ [])) }) ∷ (record { key = (codes "c"); ty = (dict_type.Plain (record { element = element.Int; array = false })); value = (value.Whole (pos 8)) }) ∷ (record { key = (codes "k e"); ty = (dict_type.Plain (record { element = element.Int; array = false })); value = (value.Whole (pos 4)) }) ∷ []))) ∷ []); api_schemas = no_edits; clip_sets = no_edits; children = ((codes "H") ∷ []); child_order = ([]); properties = ([]); property_order = ([]); variant_names = ([]) } })) ∷
        ((Prim (codes "_k") ∷ Prim (codes "_k") ∷ Prim (codes "D") ∷ Prim (codes "A") ∷ Selection (codes "s") (codes "y") ∷ Prim (codes "H") ∷ []), (record { arcs = record { inherits = (record { explicit = None; deleted = ([]); added = ([]); prepended = ((Prim (codes "_k") ∷ Prim (codes "_k") ∷ Prim (codes "D") ∷ []) ∷ []); appended = ([]); ordered = ([]) }); specializes = no_edits; references = (record { explicit = None; deleted = ([]); added = ((record { asset = (Some (codes "root.usda")); path = (Some (Prim (codes "_k") ∷ Prim (codes "_k") ∷ Prim (codes "D") ∷ Prim (codes "A") ∷ [])); offset = (record { offset = (pos 0); scale = (pos 1) }) }) ∷ (record { asset = None; path = (Some (Prim (codes "C") ∷ [])); offset = (record { offset = (pos 0); scale = (pos 1) }) }) ∷ (record { asset = None; path = (Some (Prim (codes "D") ∷ [])); offset = (record { offset = (pos 0); scale = (pos 1) }) }) ∷ []); prepended = ((record { asset = None; path = (Some (Prim (codes "D") ∷ [])); offset = (record { offset = (pos 0); scale = (pos 1) }) }) ∷ (record { asset = (Some (codes "root.usda")); path = (Some (Prim (codes "_k") ∷ Prim (codes "_k") ∷ Prim (codes "D") ∷ Prim (codes "A") ∷ [])); offset = (record { offset = (pos 0); scale = (pos 1) }) }) ∷ (record { asset = None; path = (Some (Prim (codes "C") ∷ [])); offset = (record { offset = (pos 0); scale = (pos 1) }) }) ∷ []); appended = ([]); ordered = ((record { asset = (Some (codes "root.usda")); path = (Some (Prim (codes "_k") ∷ Prim (codes "_k") ∷ Prim (codes "D") ∷ Prim (codes "A") ∷ [])); offset = (record { offset = (pos 0); scale = (pos 1) }) }) ∷ (record { asset = None; path = (Some (Prim (codes "D") ∷ [])); offset = (record { offset = (pos 0); scale = (pos 1) }) }) ∷ []) }); payloads = no_edits; variant_sets = no_edits; selections = ([]) }; body = record { specifier = Def; type_name = None; meta = (((codes "odd"), (value.Dict ((record { key = (codes "a"); ty = (dict_type.Plain (record { element = element.Int; array = false })); value = (value.Whole (pos 1)) }) ∷ []))) ∷ []); api_schemas = no_edits; clip_sets = no_edits; children = ((codes "C") ∷ []); child_order = ([]); properties = ([]); property_order = ([]); variant_names = ([]) } })) ∷
        ((Prim (codes "_k") ∷ Prim (codes "_k") ∷ Prim (codes "D") ∷ Prim (codes "A") ∷ Selection (codes "s") (codes "y") ∷ Prim (codes "H") ∷ Prim (codes "C") ∷ []), (record { arcs = record { inherits = no_edits; specializes = no_edits; references = no_edits; payloads = no_edits; variant_sets = no_edits; selections = ([]) }; body = record { specifier = Def; type_name = None; meta = (((codes "customData"), (value.Dict ((record { key = (codes "b"); ty = (dict_type.Plain (record { element = element.Int; array = false })); value = (value.Whole (pos 4)) }) ∷ []))) ∷ []); api_schemas = no_edits; clip_sets = no_edits; children = ([]); child_order = ([]); properties = ([]); property_order = ([]); variant_names = ([]) } })) ∷
        ((Prim (codes "_k") ∷ Prim (codes "_k") ∷ Prim (codes "D") ∷ Prim (codes "A") ∷ Selection (codes "s") (codes "x") ∷ []), (record { arcs = record { inherits = no_edits; specializes = (record { explicit = None; deleted = ([]); added = ([]); prepended = ((Prim (codes "_k") ∷ Prim (codes "_k") ∷ []) ∷ []); appended = ([]); ordered = ((Prim (codes "_k") ∷ Prim (codes "_k") ∷ []) ∷ []) }); references = no_edits; payloads = no_edits; variant_sets = (record { explicit = (Some ((codes "s") ∷ [])); deleted = ([]); added = ([]); prepended = ([]); appended = ([]); ordered = ([]) }); selections = ([]) }; body = record { specifier = Over; type_name = None; meta = ([]); api_schemas = no_edits; clip_sets = no_edits; children = ([]); child_order = ([]); properties = ((Attr (codes "p:q") (record { element = element.Int; array = false }) false false None ([]) no_edits ([])) ∷ []); property_order = ([]); variant_names = ([]) } })) ∷
        ((Prim (codes "_k") ∷ Prim (codes "_k") ∷ Prim (codes "D") ∷ Prim (codes "A") ∷ Selection (codes "s") (codes "z") ∷ []), (record { arcs = record { inherits = no_edits; specializes = no_edits; references = (record { explicit = None; deleted = ([]); added = ([]); prepended = ((record { asset = (Some (codes "sub/c.usda")); path = (Some (Prim (codes "A") ∷ Prim (codes "_c") ∷ Prim (codes "H") ∷ Prim (codes "C") ∷ [])); offset = (record { offset = (pos 1); scale = (pos 3) }) }) ∷ []); appended = ([]); ordered = ([]) }); payloads = no_edits; variant_sets = no_edits; selections = ([]) }; body = record { specifier = Over; type_name = None; meta = ([]); api_schemas = no_edits; clip_sets = no_edits; children = ((codes "D") ∷ []); child_order = ([]); properties = ([]); property_order = ([]); variant_names = ([]) } })) ∷
        ((Prim (codes "_k") ∷ Prim (codes "_k") ∷ Prim (codes "D") ∷ Prim (codes "A") ∷ Selection (codes "s") (codes "z") ∷ Prim (codes "D") ∷ []), (record { arcs = record { inherits = no_edits; specializes = no_edits; references = no_edits; payloads = no_edits; variant_sets = no_edits; selections = ([]) }; body = record { specifier = Class; type_name = None; meta = (((codes "kind"), (value.Text (codes "assembly"))) ∷ []); api_schemas = no_edits; clip_sets = no_edits; children = ([]); child_order = ([]); properties = ((Rel (codes "q") false (record { explicit = None; deleted = ((Prim (codes "_k") ∷ Prim (codes "_k") ∷ Property (codes "r") ∷ []) ∷ []); added = ([]); prepended = ([]); appended = ([]); ordered = ([]) }) ([])) ∷ []); property_order = ([]); variant_names = ([]) } })) ∷
        ((Prim (codes "_k") ∷ Prim (codes "_k") ∷ Prim (codes "D") ∷ Prim (codes "_k") ∷ []), (record { arcs = record { inherits = no_edits; specializes = no_edits; references = no_edits; payloads = no_edits; variant_sets = no_edits; selections = ([]) }; body = record { specifier = Class; type_name = None; meta = ([]); api_schemas = no_edits; clip_sets = no_edits; children = ([]); child_order = ([]); properties = ([]); property_order = ([]); variant_names = ([]) } })) ∷
        ((Prim (codes "D") ∷ []), (record { arcs = record { inherits = no_edits; specializes = no_edits; references = no_edits; payloads = no_edits; variant_sets = no_edits; selections = ([]) }; body = record { specifier = Def; type_name = None; meta = ([]); api_schemas = no_edits; clip_sets = no_edits; children = ([]); child_order = ([]); properties = ([]); property_order = ([]); variant_names = ([]) } })) ∷ []);
  }),
) ∷ (
  (codes "sub/c.usda"),
  present (record {
    head = record { sublayers = ([]); default_prim = (Some (codes "/A/_c/H/_c")); meta = ([]); root_names = ((codes "A") ∷ (codes "H") ∷ (codes "D") ∷ []); root_order = ([]) };
    specs = (
        ((Prim (codes "A") ∷ []), (record { arcs = record { inherits = no_edits; specializes = no_edits; references = no_edits; payloads = no_edits; variant_sets = no_edits; selections = ([]) }; body = record { specifier = Def; type_name = None; meta = ([]); api_schemas = no_edits; clip_sets = no_edits; children = ((codes "C") ∷ (codes "_c") ∷ []); child_order = ([]); properties = ([]); property_order = ([]); variant_names = ([]) } })) ∷
        ((Prim (codes "A") ∷ Prim (codes "C") ∷ []), (record { arcs = record { inherits = no_edits; specializes = no_edits; references = no_edits; payloads = no_edits; variant_sets = no_edits; selections = ([]) }; body = record { specifier = Over; type_name = None; meta = ([]); api_schemas = no_edits; clip_sets = no_edits; children = ((codes "C") ∷ []); child_order = ([]); properties = ((Attr (codes "y") (record { element = element.String; array = false }) true false None ([]) (record { explicit = None; deleted = ((Prim (codes "A") ∷ Property (codes "r") ∷ []) ∷ (Prim (codes "A") ∷ Prim (codes "C") ∷ Prim (codes "A") ∷ []) ∷ []); added = ([]); prepended = ([]); appended = ([]); ordered = ((Prim (codes "A") ∷ Prim (codes "C") ∷ Prim (codes "_c") ∷ []) ∷ (Prim (codes "A") ∷ Prim (codes "C") ∷ []) ∷ []) }) ([])) ∷ []); property_order = ((codes "x") ∷ (codes "r") ∷ (codes "y") ∷ (codes "q") ∷ []); variant_names = ([]) } })) ∷
        ((Prim (codes "A") ∷ Prim (codes "C") ∷ Prim (codes "C") ∷ []), (record { arcs = record { inherits = no_edits; specializes = no_edits; references = no_edits; payloads = no_edits; variant_sets = (record { explicit = None; deleted = ([]); added = ([]); prepended = ([]); appended = ((codes "t") ∷ (codes "s") ∷ []); ordered = ([]) }); selections = ([]) }; body = record { specifier = Class; type_name = None; meta = ([]); api_schemas = (record { explicit = None; deleted = ([]); added = ([]); prepended = ([]); appended = ((codes "P") ∷ []); ordered = ([]) }); clip_sets = no_edits; children = ((codes "D") ∷ (codes "F") ∷ (codes "H") ∷ []); child_order = ([]); properties = ([]); property_order = ([]); variant_names = ((record { set = (codes "t"); variants = ((codes "z") ∷ (codes "y") ∷ []) }) ∷ (record { set = (codes "s"); variants = ((codes "z") ∷ (codes "x") ∷ (codes "y") ∷ []) }) ∷ []) } })) ∷
        ((Prim (codes "A") ∷ Prim (codes "C") ∷ Prim (codes "C") ∷ Prim (codes "D") ∷ []), (record { arcs = record { inherits = no_edits; specializes = no_edits; references = no_edits; payloads = no_edits; variant_sets = no_edits; selections = ([]) }; body = record { specifier = Def; type_name = None; meta = ([]); api_schemas = no_edits; clip_sets = no_edits; children = ([]); child_order = ([]); properties = ([]); property_order = ([]); variant_names = ([]) } })) ∷
        ((Prim (codes "A") ∷ Prim (codes "C") ∷ Prim (codes "C") ∷ Prim (codes "F") ∷ []), (record { arcs = record { inherits = no_edits; specializes = no_edits; references = no_edits; payloads = no_edits; variant_sets = no_edits; selections = ([]) }; body = record { specifier = Def; type_name = None; meta = (((codes "odd"), (value.Text (codes "s"))) ∷ []); api_schemas = no_edits; clip_sets = no_edits; children = ([]); child_order = ([]); properties = ([]); property_order = ([]); variant_names = ([]) } })) ∷
        ((Prim (codes "A") ∷ Prim (codes "C") ∷ Prim (codes "C") ∷ Prim (codes "H") ∷ []), (record { arcs = record { inherits = no_edits; specializes = no_edits; references = (record { explicit = None; deleted = ([]); added = ((record { asset = None; path = (Some (Prim (codes "A") ∷ Prim (codes "C") ∷ Prim (codes "C") ∷ Prim (codes "F") ∷ [])); offset = (record { offset = (pos 0); scale = (pos 1) }) }) ∷ []); prepended = ([]); appended = ([]); ordered = ([]) }); payloads = no_edits; variant_sets = no_edits; selections = ([]) }; body = record { specifier = Class; type_name = None; meta = ([]); api_schemas = no_edits; clip_sets = no_edits; children = ([]); child_order = ([]); properties = ((Attr (codes "w") (record { element = element.String; array = false }) false false (Some (value.Text (codes "a"))) ([]) no_edits ([])) ∷ []); property_order = ([]); variant_names = ([]) } })) ∷
        ((Prim (codes "A") ∷ Prim (codes "C") ∷ Prim (codes "C") ∷ Selection (codes "t") (codes "z") ∷ []), (record { arcs = record { inherits = no_edits; specializes = no_edits; references = no_edits; payloads = no_edits; variant_sets = no_edits; selections = ([]) }; body = record { specifier = Over; type_name = None; meta = ([]); api_schemas = no_edits; clip_sets = no_edits; children = ((codes "_c") ∷ (codes "A") ∷ []); child_order = ([]); properties = ([]); property_order = ([]); variant_names = ([]) } })) ∷
        ((Prim (codes "A") ∷ Prim (codes "C") ∷ Prim (codes "C") ∷ Selection (codes "t") (codes "z") ∷ Prim (codes "_c") ∷ []), (record { arcs = record { inherits = no_edits; specializes = no_edits; references = no_edits; payloads = no_edits; variant_sets = no_edits; selections = ([]) }; body = record { specifier = Class; type_name = None; meta = ([]); api_schemas = no_edits; clip_sets = no_edits; children = ([]); child_order = ([]); properties = ((Rel (codes "r") false (record { explicit = (Some ((Prim (codes "A") ∷ []) ∷ (Prim (codes "A") ∷ Prim (codes "C") ∷ []) ∷ [])); deleted = ([]); added = ([]); prepended = ([]); appended = ([]); ordered = ([]) }) ([])) ∷ (Rel (codes "q") false (record { explicit = (Some ((Prim (codes "D") ∷ []) ∷ (Prim (codes "A") ∷ []) ∷ (Prim (codes "H") ∷ Property (codes "y") ∷ []) ∷ [])); deleted = ([]); added = ([]); prepended = ([]); appended = ([]); ordered = ([]) }) ([])) ∷ []); property_order = ([]); variant_names = ([]) } })) ∷
        ((Prim (codes "A") ∷ Prim (codes "C") ∷ Prim (codes "C") ∷ Selection (codes "t") (codes "z") ∷ Prim (codes "A") ∷ []), (record { arcs = record { inherits = no_edits; specializes = no_edits; references = no_edits; payloads = no_edits; variant_sets = no_edits; selections = ([]) }; body = record { specifier = Def; type_name = None; meta = ([]); api_schemas = no_edits; clip_sets = no_edits; children = ([]); child_order = ([]); properties = ([]); property_order = ([]); variant_names = ([]) } })) ∷
        ((Prim (codes "A") ∷ Prim (codes "C") ∷ Prim (codes "C") ∷ Selection (codes "t") (codes "y") ∷ []), (record { arcs = record { inherits = no_edits; specializes = no_edits; references = no_edits; payloads = no_edits; variant_sets = no_edits; selections = ([]) }; body = record { specifier = Over; type_name = None; meta = ([]); api_schemas = no_edits; clip_sets = no_edits; children = ((codes "_c") ∷ []); child_order = ([]); properties = ([]); property_order = ([]); variant_names = ([]) } })) ∷
        ((Prim (codes "A") ∷ Prim (codes "C") ∷ Prim (codes "C") ∷ Selection (codes "t") (codes "y") ∷ Prim (codes "_c") ∷ []), (record { arcs = record { inherits = no_edits; specializes = no_edits; references = no_edits; payloads = no_edits; variant_sets = no_edits; selections = ([]) }; body = record { specifier = Over; type_name = None; meta = ([]); api_schemas = no_edits; clip_sets = no_edits; children = ([]); child_order = ([]); properties = ([]); property_order = ([]); variant_names = ([]) } })) ∷
        ((Prim (codes "A") ∷ Prim (codes "C") ∷ Prim (codes "C") ∷ Selection (codes "s") (codes "z") ∷ []), (record { arcs = record { inherits = no_edits; specializes = no_edits; references = no_edits; payloads = no_edits; variant_sets = no_edits; selections = ([]) }; body = record { specifier = Over; type_name = None; meta = ([]); api_schemas = no_edits; clip_sets = no_edits; children = ((codes "D") ∷ []); child_order = ([]); properties = ([]); property_order = ([]); variant_names = ([]) } })) ∷
        ((Prim (codes "A") ∷ Prim (codes "C") ∷ Prim (codes "C") ∷ Selection (codes "s") (codes "z") ∷ Prim (codes "D") ∷ []), (record { arcs = record { inherits = no_edits; specializes = no_edits; references = no_edits; payloads = no_edits; variant_sets = no_edits; selections = ([]) }; body = record { specifier = Over; type_name = None; meta = ([]); api_schemas = no_edits; clip_sets = no_edits; children = ([]); child_order = ([]); properties = ([]); property_order = ([]); variant_names = ([]) } })) ∷
        ((Prim (codes "A") ∷ Prim (codes "C") ∷ Prim (codes "C") ∷ Selection (codes "s") (codes "x") ∷ []), (record { arcs = record { inherits = no_edits; specializes = no_edits; references = no_edits; payloads = no_edits; variant_sets = no_edits; selections = ([]) }; body = record { specifier = Over; type_name = None; meta = ([]); api_schemas = no_edits; clip_sets = no_edits; children = ((codes "C") ∷ (codes "H") ∷ []); child_order = ([]); properties = ((Attr (codes "x") (record { element = element.Int; array = false }) false false (Some (value.Whole (pos 28))) ([]) no_edits (((codes "comment"), (value.Text (codes "c"))) ∷ [])) ∷ []); property_order = ([]); variant_names = ([]) } })) ∷
        ((Prim (codes "A") ∷ Prim (codes "C") ∷ Prim (codes "C") ∷ Selection (codes "s") (codes "x") ∷ Prim (codes "C") ∷ []), (record { arcs = record { inherits = no_edits; specializes = no_edits; references = no_edits; payloads = no_edits; variant_sets = no_edits; selections = ([]) }; body = record { specifier = Def; type_name = None; meta = ([]); api_schemas = no_edits; clip_sets = no_edits; children = ([]); child_order = ([]); properties = ([]); property_order = ([]); variant_names = ([]) } })) ∷
        ((Prim (codes "A") ∷ Prim (codes "C") ∷ Prim (codes "C") ∷ Selection (codes "s") (codes "x") ∷ Prim (codes "H") ∷ []), (record { arcs = record { inherits = no_edits; specializes = no_edits; references = no_edits; payloads = no_edits; variant_sets = no_edits; selections = ([]) }; body = record { specifier = Class; type_name = None; meta = ([]); api_schemas = no_edits; clip_sets = no_edits; children = ([]); child_order = ([]); properties = ([]); property_order = ([]); variant_names = ([]) } })) ∷
        ((Prim (codes "A") ∷ Prim (codes "C") ∷ Prim (codes "C") ∷ Selection (codes "s") (codes "y") ∷ []), (record { arcs = record { inherits = no_edits; specializes = no_edits; references = no_edits; payloads = no_edits; variant_sets = no_edits; selections = ([]) }; body = record { specifier = Over; type_name = None; meta = ([]); api_schemas = no_edits; clip_sets = no_edits; children = ([]); child_order = ([]); properties = ([]); property_order = ([]); variant_names = ([]) } })) ∷
        ((Prim (codes "A") ∷ Prim (codes "_c") ∷ []), (record { arcs = record { inherits = no_edits; specializes = no_edits; references = no_edits; payloads = no_edits; variant_sets = no_edits; selections = ([]) }; body = record { specifier = Class; type_name = (Some (codes "Mesh")); meta = (((codes "customData"), (value.Dict ((record { key = (codes "a"); ty = dict_type.Dictionary; value = (value.Dict ((record { key = (codes "a"); ty = dict_type.Dictionary; value = (value.Dict ((record { key = (codes "a"); ty = (dict_type.Plain (record { element = element.String; array = false })); value = (value.Text (codes "v")) }) ∷ [])) }) ∷ (record { key = (codes "b"); ty = dict_type.Dictionary; value = (value.Dict ((record { key = (codes "b"); ty = (dict_type.Plain (record { element = element.String; array = false })); value = (value.Text (codes "w")) }) ∷ (record { key = (codes "c"); ty = (dict_type.Plain (record { element = element.Int; array = false })); value = (value.Whole (pos 8)) }) ∷ (record { key = (codes "k e"); ty = (dict_type.Plain (record { element = element.Int; array = false })); value = (value.Whole (pos 2)) }) ∷ [])) }) ∷ (record { key = (codes "c"); ty = (dict_type.Plain (record { element = element.String; array = false })); value = (value.Text (codes "w")) }) ∷ [])) }) ∷ (record { key = (codes "b"); ty = (dict_type.Plain (record { element = element.String; array = false })); value = (value.Text (codes "v")) }) ∷ (record { key = (codes "k e"); ty = dict_type.Dictionary; value = (value.Dict ((record { key = (codes "a"); ty = dict_type.Dictionary; value = (value.Dict ((record { key = (codes "a"); ty = (dict_type.Plain (record { element = element.Int; array = false })); value = (value.Whole (pos 4)) }) ∷ (record { key = (codes "c"); ty = (dict_type.Plain (record { element = element.Int; array = false })); value = (value.Whole (pos 3)) }) ∷ (record { key = (codes "k e"); ty = (dict_type.Plain (record { element = element.Int; array = false })); value = (value.Whole (pos 4)) }) ∷ [])) }) ∷ (record { key = (codes "b"); ty = (dict_type.Plain (record { element = element.String; array = false })); value = (value.Text (codes "u")) }) ∷ (record { key = (codes "k e"); ty = dict_type.Dictionary; value = (value.Dict ((record { key = (codes "a"); ty = (dict_type.Plain (record { element = element.Int; array = false })); value = (value.Whole (pos 1)) }) ∷ [])) }) ∷ [])) }) ∷ []))) ∷ []); api_schemas = no_edits; clip_sets = no_edits; children = ((codes "H") ∷ []); child_order = ((codes "_c") ∷ (codes "H") ∷ (codes "_k") ∷ (codes "F") ∷ []); properties = ([]); property_order = ([]); variant_names = ([]) } })) ∷
        ((Prim (codes "A") ∷ Prim (codes "_c") ∷ Prim (codes "H") ∷ []), (record { arcs = record { inherits = no_edits; specializes = no_edits; references = no_edits; payloads = no_edits; variant_sets = no_edits; selections = ([]) }; body = record { specifier = Over; type_name = None; meta = ([]); api_schemas = no_edits; clip_sets = no_edits; children = ((codes "C") ∷ (codes "H") ∷ (codes "_c") ∷ []); child_order = ((codes "C") ∷ (codes "H") ∷ (codes "A") ∷ (codes "_c") ∷ []); properties = ((Attr (codes "x") (record { element = element.Int; array = false }) false false None ([]) no_edits ([])) ∷ (Rel (codes "r") false (record { explicit = None; deleted = ([]); added = ([]); prepended = ((Prim (codes "_k") ∷ Prim (codes "_k") ∷ Prim (codes "D") ∷ Prim (codes "A") ∷ Property (codes "w") ∷ []) ∷ []); appended = ([]); ordered = ([]) }) ([])) ∷ []); property_order = ([]); variant_names = ([]) } })) ∷
        ((Prim (codes "A") ∷ Prim (codes "_c") ∷ Prim (codes "H") ∷ Prim (codes "C") ∷ []), (record { arcs = record { inherits = no_edits; specializes = no_edits; references = no_edits; payloads = no_edits; variant_sets = no_edits; selections = ([]) }; body = record { specifier = Over; type_name = None; meta = ([]); api_schemas = no_edits; clip_sets = no_edits; children = ([]); child_order = ([]); properties = ((Attr (codes "w") (record { element = element.Int; array = false }) false false None ([]) no_edits ([])) ∷ []); property_order = ([]); variant_names = ([]) } })) ∷
        ((Prim (codes "A") ∷ Prim (codes "_c") ∷ Prim (codes "H") ∷ Prim (codes "H") ∷ []), (record { arcs = record { inherits = no_edits; specializes = no_edits; references = no_edits; payloads = no_edits; variant_sets = no_edits; selections = ([]) }; body = record { specifier = Def; type_name = (Some (codes "Mesh")); meta = ([]); api_schemas = no_edits; clip_sets = no_edits; children = ([]); child_order = ([]); properties = ((Attr (codes "x") (record { element = element.Int; array = false }) false false (Some (value.Whole (pos 6))) (((pos 1000000000000000000), (value.Whole (pos 90))) ∷ ((pos 7500000000000000000), value.Block) ∷ []) no_edits ([])) ∷ []); property_order = ([]); variant_names = ([]) } })) ∷
        ((Prim (codes "A") ∷ Prim (codes "_c") ∷ Prim (codes "H") ∷ Prim (codes "_c") ∷ []), (record { arcs = record { inherits = no_edits; specializes = no_edits; references = no_edits; payloads = no_edits; variant_sets = no_edits; selections = ([]) }; body = record { specifier = Class; type_name = None; meta = ([]); api_schemas = no_edits; clip_sets = no_edits; children = ([]); child_order = ([]); properties = ([]); property_order = ([]); variant_names = ([]) } })) ∷
        ((Prim (codes "H") ∷ []), (record { arcs = record { inherits = no_edits; specializes = no_edits; references = no_edits; payloads = no_edits; variant_sets = no_edits; selections = ([]) }; body = record { specifier = Class; type_name = None; meta = (((codes "customData"), (value.Dict ((record { key = (codes "a"); ty = dict_type.Dictionary; value = (value.Dict ((record { key = (codes "c"); ty = dict_type.Dictionary; value = (value.Dict ((record { key = (codes "a"); ty = (dict_type.Plain (record { element = element.Int; array = false })); value = (value.Whole (pos 9)) }) ∷ (record { key = (codes "b"); ty = (dict_type.Plain (record { element = element.Int; array = false })); value = (value.Whole (pos 6)) }) ∷ (record { key = (codes "c"); ty = (dict_type.Plain (record { element = element.String; array = false })); value = (value.Text (codes "u")) }) ∷ [])) }) ∷ [])) }) ∷ (record { key = (codes "b"); ty = dict_type.Dictionary; value = (value.Dict ((record { key = (codes "b"); ty = (dict_type.Plain (record { element = element.String; array = false })); value = (value.Text (codes "u")) }) ∷ (record { key = (codes "c"); ty = dict_type.Dictionary; value = (value.Dict ((record { key = (codes "b"); ty = (dict_type.Plain (record { element = element.Int; array = false })); value = (value.Whole (pos 5)) }) ∷ [])) }) ∷ (record { key = (codes "k e"); ty = (dict_type.Plain (record { element = element.Int; array = false })); value = (value.Whole (pos 4)) }) ∷ [])) }) ∷ (record { key = (codes "c"); ty = dict_type.Dictionary; value = (value.Dict ((record { key = (codes "a"); ty = (dict_type.Plain (record { element = element.String; array = false })); value = (value.Text (codes "v")) }) ∷ (record { key = (codes "b"); ty = (dict_type.Plain (record { element = element.Int; array = false })); value = (value.Whole (pos 5)) }) ∷ (record { key = (codes "k e"); ty = (dict_type.Plain (record { element = element.Int; array = false })); value = (value.Whole (pos 8)) }) ∷ [])) }) ∷ []))) ∷ []); api_schemas = no_edits; clip_sets = no_edits; children = ([]); child_order = ([]); properties = ([]); property_order = ([]); variant_names = ([]) } })) ∷
        ((Prim (codes "D") ∷ []), (record { arcs = record { inherits = no_edits; specializes = no_edits; references = no_edits; payloads = no_edits; variant_sets = no_edits; selections = ([]) }; body = record { specifier = Over; type_name = None; meta = ([]); api_schemas = no_edits; clip_sets = no_edits; children = ((codes "C") ∷ (codes "F") ∷ []); child_order = ([]); properties = ([]); property_order = ([]); variant_names = ([]) } })) ∷
        ((Prim (codes "D") ∷ Prim (codes "C") ∷ []), (record { arcs = record { inherits = no_edits; specializes = no_edits; references = no_edits; payloads = no_edits; variant_sets = no_edits; selections = (((codes "s"), (codes "y")) ∷ ((codes "u"), (codes "z")) ∷ []) }; body = record { specifier = Def; type_name = None; meta = ([]); api_schemas = no_edits; clip_sets = no_edits; children = ([]); child_order = ([]); properties = ([]); property_order = ([]); variant_names = ([]) } })) ∷
        ((Prim (codes "D") ∷ Prim (codes "F") ∷ []), (record { arcs = record { inherits = no_edits; specializes = no_edits; references = no_edits; payloads = no_edits; variant_sets = no_edits; selections = ([]) }; body = record { specifier = Def; type_name = None; meta = ([]); api_schemas = no_edits; clip_sets = no_edits; children = ([]); child_order = ([]); properties = ([]); property_order = ([]); variant_names = ([]) } })) ∷ []);
  }),
) ∷
    [])
