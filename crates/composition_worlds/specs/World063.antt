-- A world of 1 layers.
use Rattle.std.specs.Prelude.{codes, pos, false, [], ◌∷◌, Some, None}
use Rattle.sdf_paths.specs.declared.element.Element.TheVariants.{Prim}
use Rattle.spec_parts.specs.Blank.{no_edits}
use Rattle.spec_parts.specs.declared.items.Specifier.TheVariants.{Def, Over, Class}
use Rattle.sdf_values.specs.declared.type_name.ElementType.TheVariants as element
use Rattle.sdf_values.specs.declared.value.DictType.TheVariants as dict_type
use Rattle.sdf_values.specs.declared.value.Value.TheVariants as value
use Rattle.composition.specs.World.{World}
use Rattle.composition_worlds.specs.Listed.{present, listed_world}

abbrev pub world : World
world = listed_world (codes "root.usda") None ((
  (codes "root.usda"),
  present (record {
    head = record { sublayers = ([]); default_prim = (Some (codes "A")); meta = ([]); root_names = ((codes "_k") ∷ (codes "A") ∷ (codes "H") ∷ []); root_order = ([]) };
    specs = (
        ((Prim (codes "_k") ∷ []), (record { arcs = record { inherits = no_edits; specializes = (record { explicit = None; deleted = ([]); added = ([]); prepended = ([]); appended = ((Prim (codes "_k") ∷ Prim (codes "D") ∷ []) ∷ []); ordered = ((Prim (codes "_k") ∷ Prim (codes "D") ∷ []) ∷ []) }); references = no_edits; payloads = no_edits; variant_sets = no_edits; selections = ([]) }; body = record { specifier = Class; type_name = None; meta = (((codes "kind"), (value.Text (codes "assembly"))) ∷ []); api_schemas = no_edits; clip_sets = no_edits; children = ((codes "D") ∷ (codes "E") ∷ []); child_order = ([]); properties = ([]); property_order = ([]); variant_names = ([]) } })) ∷
        ((Prim (codes "_k") ∷ Prim (codes "D") ∷ []), (record { arcs = record { inherits = no_edits; specializes = no_edits; references = no_edits; payloads = no_edits; variant_sets = no_edits; selections = ([]) }; body = record { specifier = Over; type_name = None; meta = ([]); api_schemas = no_edits; clip_sets = no_edits; children = ((codes "_k") ∷ []); child_order = ([]); properties = ([]); property_order = ([]); variant_names = ([]) } })) ∷
        ((Prim (codes "_k") ∷ Prim (codes "D") ∷ Prim (codes "_k") ∷ []), (record { arcs = record { inherits = no_edits; specializes = no_edits; references = no_edits; payloads = no_edits; variant_sets = no_edits; selections = ([]) }; body = record { specifier = Over; type_name = None; meta = ([]); api_schemas = no_edits; clip_sets = no_edits; children = ((codes "E") ∷ []); child_order = ([]); properties = ([]); property_order = ([]); variant_names = ([]) } })) ∷
        ((Prim (codes "_k") ∷ Prim (codes "D") ∷ Prim (codes "_k") ∷ Prim (codes "E") ∷ []), (record { arcs = record { inherits = no_edits; specializes = no_edits; references = no_edits; payloads = no_edits; variant_sets = no_edits; selections = ([]) }; body = record { specifier = Over; type_name = None; meta = (((codes "kind"), (value.Text (codes "assembly"))) ∷ []); api_schemas = no_edits; clip_sets = no_edits; children = ([]); child_order = ([]); properties = ([]); property_order = ([]); variant_names = ([]) } })) ∷
        ((Prim (codes "_k") ∷ Prim (codes "E") ∷ []), (record { arcs = record { inherits = no_edits; specializes = no_edits; references = no_edits; payloads = no_edits; variant_sets = no_edits; selections = ([]) }; body = record { specifier = Def; type_name = None; meta = ([]); api_schemas = no_edits; clip_sets = no_edits; children = ((codes "A") ∷ []); child_order = ([]); properties = ([]); property_order = ([]); variant_names = ([]) } })) ∷
        ((Prim (codes "_k") ∷ Prim (codes "E") ∷ Prim (codes "A") ∷ []), (record { arcs = record { inherits = (record { explicit = None; deleted = ((Prim (codes "A") ∷ Prim (codes "B") ∷ []) ∷ (Prim (codes "_k") ∷ Prim (codes "D") ∷ []) ∷ []); added = ([]); prepended = ([]); appended = ([]); ordered = ([]) }); specializes = no_edits; references = no_edits; payloads = no_edits; variant_sets = no_edits; selections = ([]) }; body = record { specifier = Def; type_name = None; meta = (((codes "odd"), (value.Whole (pos 3))) ∷ []); api_schemas = no_edits; clip_sets = no_edits; children = ((codes "A") ∷ []); child_order = ((codes "K") ∷ (codes "H") ∷ []); properties = ([]); property_order = ([]); variant_names = ([]) } })) ∷
        ((Prim (codes "_k") ∷ Prim (codes "E") ∷ Prim (codes "A") ∷ Prim (codes "A") ∷ []), (record { arcs = record { inherits = no_edits; specializes = no_edits; references = no_edits; payloads = no_edits; variant_sets = no_edits; selections = ([]) }; body = record { specifier = Def; type_name = None; meta = ([]); api_schemas = no_edits; clip_sets = no_edits; children = ([]); child_order = ([]); properties = ([]); property_order = ([]); variant_names = ([]) } })) ∷
        ((Prim (codes "A") ∷ []), (record { arcs = record { inherits = (record { explicit = None; deleted = ([]); added = ((Prim (codes "H") ∷ []) ∷ []); prepended = ([]); appended = ([]); ordered = ([]) }); specializes = no_edits; references = no_edits; payloads = no_edits; variant_sets = no_edits; selections = ([]) }; body = record { specifier = Def; type_name = None; meta = ([]); api_schemas = no_edits; clip_sets = no_edits; children = ((codes "B") ∷ (codes "_c") ∷ []); child_order = ([]); properties = ([]); property_order = ([]); variant_names = ([]) } })) ∷
        ((Prim (codes "A") ∷ Prim (codes "B") ∷ []), (record { arcs = record { inherits = (record { explicit = None; deleted = ((Prim (codes "_k") ∷ []) ∷ (Prim (codes "A") ∷ Prim (codes "B") ∷ []) ∷ []); added = ([]); prepended = ([]); appended = ([]); ordered = ([]) }); specializes = no_edits; references = no_edits; payloads = no_edits; variant_sets = no_edits; selections = ([]) }; body = record { specifier = Over; type_name = None; meta = ([]); api_schemas = no_edits; clip_sets = no_edits; children = ([]); child_order = ([]); properties = ([]); property_order = ([]); variant_names = ([]) } })) ∷
        ((Prim (codes "A") ∷ Prim (codes "_c") ∷ []), (record { arcs = record { inherits = no_edits; specializes = no_edits; references = no_edits; payloads = no_edits; variant_sets = no_edits; selections = ([]) }; body = record { specifier = Class; type_name = (Some (codes "Mesh")); meta = (((codes "customData"), (value.Dict ((record { key = (codes "c"); ty = (dict_type.Plain (record { element = element.String; array = false })); value = (value.Text (codes "w")) }) ∷ []))) ∷ []); api_schemas = (record { explicit = None; deleted = ([]); added = ([]); prepended = ((codes "S") ∷ []); appended = ([]); ordered = ((codes "S") ∷ []) }); clip_sets = no_edits; children = ((codes "B") ∷ []); child_order = ((codes "G") ∷ (codes "A") ∷ []); properties = ([]); property_order = ([]); variant_names = ([]) } })) ∷
        ((Prim (codes "A") ∷ Prim (codes "_c") ∷ Prim (codes "B") ∷ []), (record { arcs = record { inherits = no_edits; specializes = no_edits; references = no_edits; payloads = (record { explicit = None; deleted = ([]); added = ([]); prepended = ([]); appended = ((record { asset = None; path = (Some (Prim (codes "H") ∷ [])); offset = (record { offset = (pos 10); scale = (pos 2) }) }) ∷ []); ordered = ([]) }); variant_sets = no_edits; selections = ([]) }; body = record { specifier = Class; type_name = None; meta = (((codes "customData"), (value.Dict ((record { key = (codes "a"); ty = (dict_type.Plain (record { element = element.Int; array = false })); value = (value.Whole (pos 0)) }) ∷ (record { key = (codes "b"); ty = dict_type.Dictionary; value = (value.Dict ((record { key = (codes "c"); ty = dict_type.Dictionary; value = (value.Dict ((record { key = (codes "a"); ty = (dict_type.Plain (record { element = element.Int; array = false })); value = (value.Whole (pos 8)) }) ∷ (record { key = (codes "b"); ty = (dict_type.Plain (record { element = element.Int; array = false })); value = (value.Whole (pos 1)) }) ∷ [])) }) ∷ [])) }) ∷ []))) ∷ []); api_schemas = no_edits; clip_sets = (record { explicit = None; deleted = ([]); added = ([]); prepended = ([]); appended = ((codes "R") ∷ []); ordered = ([]) }); children = ([]); child_order = ([]); properties = ([]); property_order = ([]); variant_names = ([]) } })) ∷
        ((Prim (codes "H") ∷ []), (record { arcs = record { inherits = no_edits; specializes = (record { explicit = (Some ((Prim (codes "A") ∷ []) ∷ (Prim (codes "_k") ∷ []) ∷ [])); deleted = ([]); added = ([]); prepended = ([]); appended = ([]); ordered = ([]) }); references = no_edits; payloads = no_edits; variant_sets = no_edits; selections = ([]) }; body = record { specifier = Over; type_name = None; meta = (((codes "kind"), (value.Text (codes "component"))) ∷ []); api_schemas = no_edits; clip_sets = no_edits; children = ([]); child_order = ([]); properties = ([]); property_order = ([]); variant_names = ([]) } })) ∷ []);
  }),
) ∷
    [])
