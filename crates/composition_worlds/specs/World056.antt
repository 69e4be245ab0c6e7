-- A world of 2 layers.
use Rattle.std.specs.Prelude.{codes, pos, negsuc, false, [], ◌∷◌, Some, None}
use Rattle.sdf_paths.specs.declared.element.Element.TheVariants.{Prim, Property}
use Rattle.spec_parts.specs.Blank.{no_edits}
use Rattle.spec_parts.specs.declared.items.Specifier.TheVariants.{Def, Over, Class}
use Rattle.spec_properties.specs.declared.property.Property.TheVariants.{Attr, Rel}
use Rattle.sdf_values.specs.declared.type_name.ElementType.TheVariants as element
use Rattle.sdf_values.specs.declared.value.DictType.TheVariants as dict_type
use Rattle.sdf_values.specs.declared.value.Value.TheVariants as value
use Rattle.composition.specs.World.{World}
use Rattle.composition_worlds.specs.Listed.{present, listed_world}

abbrev pub world : World
world = listed_world (codes "root.usda") None ((
  (codes "root.usda"),
  present (record {
    head = record { sublayers = ((record { asset = (codes "a.usda"); offset = (record { offset = (pos 0); scale = (pos 1) }) }) ∷ []); default_prim = (Some (codes "F")); meta = ([]); root_names = ((codes "F") ∷ []); root_order = ([]) };
    specs = (
        ((Prim (codes "F") ∷ []), (record { arcs = record { inherits = no_edits; specializes = no_edits; references = no_edits; payloads = no_edits; variant_sets = no_edits; selections = ([]) }; body = record { specifier = Def; type_name = None; meta = ([]); api_schemas = no_edits; clip_sets = no_edits; children = ([]); child_order = ([]); properties = ([]); property_order = ([]); variant_names = ([]) } })) ∷ []);
  }),
) ∷ (
  (codes "a.usda"),
  present (record {
    head = record { sublayers = ([]); default_prim = None; meta = ([]); root_names = ((codes "B") ∷ (codes "H") ∷ (codes "C") ∷ (codes "D") ∷ []); root_order = ((codes "D") ∷ (codes "F") ∷ (codes "_c") ∷ []) };
    specs = (
        ((Prim (codes "B") ∷ []), (record { arcs = record { inherits = no_edits; specializes = no_edits; references = no_edits; payloads = no_edits; variant_sets = no_edits; selections = ([]) }; body = record { specifier = Over; type_name = None; meta = ([]); api_schemas = no_edits; clip_sets = no_edits; children = ((codes "H") ∷ []); child_order = ([]); properties = ([]); property_order = ([]); variant_names = ([]) } })) ∷
        ((Prim (codes "B") ∷ Prim (codes "H") ∷ []), (record { arcs = record { inherits = no_edits; specializes = no_edits; references = no_edits; payloads = no_edits; variant_sets = no_edits; selections = ([]) }; body = record { specifier = Def; type_name = (Some (codes "Mesh")); meta = (((codes "customData"), (value.Dict ((record { key = (codes "b"); ty = (dict_type.Plain (record { element = element.Int; array = false })); value = (value.Whole (pos 9)) }) ∷ (record { key = (codes "c"); ty = dict_type.Dictionary; value = (value.Dict ((record { key = (codes "a"); ty = dict_type.Dictionary; value = (value.Dict ((record { key = (codes "a"); ty = (dict_type.Plain (record { element = element.String; array = false })); value = (value.Text (codes "v")) }) ∷ (record { key = (codes "b"); ty = (dict_type.Plain (record { element = element.Int; array = false })); value = (value.Whole (pos 0)) }) ∷ (record { key = (codes "c"); ty = (dict_type.Plain (record { element = element.Int; array = false })); value = (value.Whole (pos 6)) }) ∷ [])) }) ∷ (record { key = (codes "c"); ty = (dict_type.Plain (record { element = element.String; array = false })); value = (value.Text (codes "v")) }) ∷ (record { key = (codes "k e"); ty = (dict_type.Plain (record { element = element.String; array = false })); value = (value.Text (codes "v")) }) ∷ [])) }) ∷ (record { key = (codes "k e"); ty = dict_type.Dictionary; value = (value.Dict ((record { key = (codes "b"); ty = (dict_type.Plain (record { element = element.Int; array = false })); value = (value.Whole (pos 3)) }) ∷ (record { key = (codes "c"); ty = dict_type.Dictionary; value = (value.Dict ((record { key = (codes "a"); ty = (dict_type.Plain (record { element = element.Int; array = false })); value = (value.Whole (pos 0)) }) ∷ (record { key = (codes "c"); ty = (dict_type.Plain (record { element = element.Int; array = false })); value = (value.Whole (pos 8)) }) ∷ [])) }) ∷ [])) }) ∷ []))) ∷ []); api_schemas = no_edits; clip_sets = no_edits; children = ((codes "_c") ∷ []); child_order = ([]); properties = ([]); property_order = ([]); variant_names = ([]) } })) ∷
        ((Prim (codes "B") ∷ Prim (codes "H") ∷ Prim (codes "_c") ∷ []), (record { arcs = record { inherits = no_edits; specializes = (record { explicit = None; deleted = ([]); added = ([]); prepended = ((Prim (codes "C") ∷ Prim (codes "F") ∷ Prim (codes "H") ∷ []) ∷ (Prim (codes "B") ∷ Prim (codes "H") ∷ Prim (codes "_c") ∷ []) ∷ []); appended = ([]); ordered = ([]) }); references = (record { explicit = None; deleted = ([]); added = ([]); prepended = ([]); appended = ((record { asset = (Some (codes "root.usda")); path = (Some (Prim (codes "D") ∷ [])); offset = (record { offset = (pos 0); scale = (pos 1) }) }) ∷ (record { asset = None; path = (Some (Prim (codes "B") ∷ [])); offset = (record { offset = (pos 0); scale = (pos 1) }) }) ∷ (record { asset = None; path = (Some (Prim (codes "D") ∷ [])); offset = (record { offset = (pos 0); scale = (pos 1) }) }) ∷ []); ordered = ([]) }); payloads = no_edits; variant_sets = no_edits; selections = ([]) }; body = record { specifier = Over; type_name = None; meta = ([]); api_schemas = no_edits; clip_sets = (record { explicit = None; deleted = ([]); added = ([]); prepended = ((codes "Q") ∷ []); appended = ([]); ordered = ([]) }); children = ((codes "D") ∷ (codes "_c") ∷ []); child_order = ([]); properties = ([]); property_order = ([]); variant_names = ([]) } })) ∷
        ((Prim (codes "B") ∷ Prim (codes "H") ∷ Prim (codes "_c") ∷ Prim (codes "D") ∷ []), (record { arcs = record { inherits = no_edits; specializes = (record { explicit = None; deleted = ((Prim (codes "B") ∷ Prim (codes "H") ∷ Prim (codes "_c") ∷ Prim (codes "_c") ∷ []) ∷ (Prim (codes "D") ∷ []) ∷ []); added = ([]); prepended = ([]); appended = ([]); ordered = ([]) }); references = no_edits; payloads = no_edits; variant_sets = no_edits; selections = ([]) }; body = record { specifier = Def; type_name = (Some (codes "Scope")); meta = ([]); api_schemas = no_edits; clip_sets = no_edits; children = ([]); child_order = ([]); properties = ([]); property_order = ([]); variant_names = ([]) } })) ∷
        ((Prim (codes "B") ∷ Prim (codes "H") ∷ Prim (codes "_c") ∷ Prim (codes "_c") ∷ []), (record { arcs = record { inherits = no_edits; specializes = no_edits; references = no_edits; payloads = no_edits; variant_sets = no_edits; selections = ([]) }; body = record { specifier = Class; type_name = (Some (codes "Scope")); meta = ([]); api_schemas = no_edits; clip_sets = no_edits; children = ([]); child_order = ([]); properties = ((Rel (codes "q") false (record { explicit = None; deleted = ([]); added = ([]); prepended = ((Prim (codes "D") ∷ Property (codes "w") ∷ []) ∷ (Prim (codes "C") ∷ Prim (codes "F") ∷ Prim (codes "H") ∷ Prim (codes "D") ∷ []) ∷ []); appended = ([]); ordered = ([]) }) ([])) ∷ []); property_order = ([]); variant_names = ([]) } })) ∷
        ((Prim (codes "H") ∷ []), (record { arcs = record { inherits = no_edits; specializes = no_edits; references = no_edits; payloads = no_edits; variant_sets = no_edits; selections = ([]) }; body = record { specifier = Def; type_name = None; meta = ([]); api_schemas = no_edits; clip_sets = no_edits; children = ([]); child_order = ([]); properties = ([]); property_order = ([]); variant_names = ([]) } })) ∷
        ((Prim (codes "C") ∷ []), (record { arcs = record { inherits = no_edits; specializes = no_edits; references = no_edits; payloads = no_edits; variant_sets = no_edits; selections = ([]) }; body = record { specifier = Over; type_name = None; meta = ([]); api_schemas = no_edits; clip_sets = no_edits; children = ((codes "F") ∷ []); child_order = ([]); properties = ([]); property_order = ([]); variant_names = ([]) } })) ∷
        ((Prim (codes "C") ∷ Prim (codes "F") ∷ []), (record { arcs = record { inherits = no_edits; specializes = no_edits; references = no_edits; payloads = no_edits; variant_sets = no_edits; selections = ([]) }; body = record { specifier = Over; type_name = (Some (codes "Xform")); meta = ([]); api_schemas = no_edits; clip_sets = no_edits; children = ((codes "H") ∷ []); child_order = ([]); properties = ((Rel (codes "r") false (record { explicit = None; deleted = ([]); added = ((Prim (codes "C") ∷ Prim (codes "F") ∷ Prim (codes "H") ∷ []) ∷ []); prepended = ([]); appended = ((Prim (codes "C") ∷ Prim (codes "F") ∷ Prim (codes "C") ∷ []) ∷ []); ordered = ([]) }) ([])) ∷ []); property_order = ([]); variant_names = ([]) } })) ∷
        ((Prim (codes "C") ∷ Prim (codes "F") ∷ Prim (codes "H") ∷ []), (record { arcs = record { inherits = no_edits; specializes = (record { explicit = None; deleted = ([]); added = ([]); prepended = ([]); appended = ((Prim (codes "C") ∷ []) ∷ []); ordered = ([]) }); references = no_edits; payloads = no_edits; variant_sets = no_edits; selections = ([]) }; body = record { specifier = Over; type_name = None; meta = ([]); api_schemas = no_edits; clip_sets = no_edits; children = ((codes "B") ∷ (codes "D") ∷ (codes "_c") ∷ []); child_order = ([]); properties = ([]); property_order = ([]); variant_names = ([]) } })) ∷
        ((Prim (codes "C") ∷ Prim (codes "F") ∷ Prim (codes "H") ∷ Prim (codes "B") ∷ []), (record { arcs = record { inherits = no_edits; specializes = (record { explicit = None; deleted = ([]); added = ([]); prepended = ((Prim (codes "C") ∷ Prim (codes "F") ∷ Prim (codes "H") ∷ Prim (codes "C") ∷ []) ∷ []); appended = ([]); ordered = ([]) }); references = no_edits; payloads = no_edits; variant_sets = no_edits; selections = ([]) }; body = record { specifier = Over; type_name = None; meta = (((codes "customData"), (value.Dict ((record { key = (codes "a"); ty = dict_type.Dictionary; value = (value.Dict ((record { key = (codes "a"); ty = (dict_type.Plain (record { element = element.Int; array = false })); value = (value.Whole (pos 7)) }) ∷ (record { key = (codes "b"); ty = (dict_type.Plain (record { element = element.Int; array = false })); value = (value.Whole (pos 7)) }) ∷ [])) }) ∷ (record { key = (codes "b"); ty = (dict_type.Plain (record { element = element.String; array = false })); value = (value.Text (codes "u")) }) ∷ []))) ∷ []); api_schemas = no_edits; clip_sets = no_edits; children = ([]); child_order = ([]); properties = ((Attr (codes "y") (record { element = element.Int; array = false }) false false (Some (value.Whole (pos 25))) (((negsuc 2999999999999999999), (value.Whole (pos 65))) ∷ ((pos 2000000000000000000), (value.Whole (pos 6))) ∷ ((pos 7500000000000000000), (value.Whole (pos 58))) ∷ []) no_edits (((codes "customData"), (value.Dict ((record { key = (codes "b"); ty = (dict_type.Plain (record { element = element.Int; array = false })); value = (value.Whole (pos 6)) }) ∷ (record { key = (codes "c"); ty = dict_type.Dictionary; value = (value.Dict ((record { key = (codes "c"); ty = (dict_type.Plain (record { element = element.Int; array = false })); value = (value.Whole (pos 9)) }) ∷ (record { key = (codes "k e"); ty = (dict_type.Plain (record { element = element.Int; array = false })); value = (value.Whole (pos 1)) }) ∷ [])) }) ∷ (record { key = (codes "k e"); ty = dict_type.Dictionary; value = (value.Dict ((record { key = (codes "b"); ty = (dict_type.Plain (record { element = element.Int; array = false })); value = (value.Whole (pos 8)) }) ∷ [])) }) ∷ []))) ∷ [])) ∷ []); property_order = ([]); variant_names = ([]) } })) ∷
        ((Prim (codes "C") ∷ Prim (codes "F") ∷ Prim (codes "H") ∷ Prim (codes "D") ∷ []), (record { arcs = record { inherits = no_edits; specializes = (record { explicit = (Some ((Prim (codes "D") ∷ []) ∷ (Prim (codes "C") ∷ []) ∷ [])); deleted = ([]); added = ([]); prepended = ([]); appended = ([]); ordered = ([]) }); references = no_edits; payloads = no_edits; variant_sets = no_edits; selections = ([]) }; body = record { specifier = Def; type_name = None; meta = ([]); api_schemas = no_edits; clip_sets = no_edits; children = ([]); child_order = ([]); properties = ([]); property_order = ([]); variant_names = ([]) } })) ∷
        ((Prim (codes "C") ∷ Prim (codes "F") ∷ Prim (codes "H") ∷ Prim (codes "_c") ∷ []), (record { arcs = record { inherits = no_edits; specializes = no_edits; references = no_edits; payloads = no_edits; variant_sets = no_edits; selections = ([]) }; body = record { specifier = Class; type_name = None; meta = ([]); api_schemas = no_edits; clip_sets = no_edits; children = ([]); child_order = ([]); properties = ((Attr (codes "y") (record { element = element.Int; array = false }) false false (Some value.Block) ([]) (record { explicit = None; deleted = ([]); added = ((Prim (codes "C") ∷ Prim (codes "F") ∷ Prim (codes "H") ∷ Prim (codes "_c") ∷ []) ∷ []); prepended = ([]); appended = ([]); ordered = ([]) }) ([])) ∷ (Rel (codes "w") false (record { explicit = (Some ((Prim (codes "C") ∷ Prim (codes "F") ∷ Prim (codes "H") ∷ []) ∷ [])); deleted = ([]); added = ([]); prepended = ([]); appended = ([]); ordered = ([]) }) ([])) ∷ []); property_order = ([]); variant_names = ([]) } })) ∷
        ((Prim (codes "D") ∷ []), (record { arcs = record { inherits = no_edits; specializes = no_edits; references = no_edits; payloads = no_edits; variant_sets = no_edits; selections = (((codes "t"), (codes "y")) ∷ ((codes "u"), (codes "x")) ∷ []) }; body = record { specifier = Over; type_name = None; meta = ([]); api_schemas = no_edits; clip_sets = no_edits; children = ([]); child_order = ([]); properties = ([]); property_order = ([]); variant_names = ([]) } })) ∷ []);
  }),
) ∷
    [])
