-- A world of 1 layers.
use Rattle.std.specs.Prelude.{codes, pos, false, [], ◌∷◌, Some, None}
use Rattle.sdf_paths.specs.declared.element.Element.TheVariants.{Prim}
use Rattle.spec_parts.specs.Blank.{no_edits}
use Rattle.spec_parts.specs.declared.items.Specifier.TheVariants.{Def, Over, Class}
use Rattle.sdf_values.specs.declared.type_name.ElementType.TheVariants as element
use Rattle.sdf_values.specs.declared.value.DictType.TheVariants as dict_type
use Rattle.sdf_values.specs.declared.value.Value.TheVariants as value
use Rattle.composition.specs.World.{World}
use Rattle.composition_worlds.specs.Listed.{present, listed_world}

abbrev pub world : World
world = listed_world (codes "root.usda") None ((
  (codes "root.usda"),
  present (record {
    head = record { sublayers = ((record { asset = (codes "bro\tken"); offset = (record { offset = (pos 0); scale = (pos 1) }) }) ∷ []); default_prim = (Some (codes "/D/E/E")); meta = (((codes "customLayerData"), (value.Dict ((record { key = (codes "a"); ty = dict_type.Dictionary; value = (value.Dict ((record { key = (codes "a"); ty = dict_type.Dictionary; value = (value.Dict ((record { key = (codes "b"); ty = (dict_type.Plain (record { element = element.String; array = false })); value = (value.Text (codes "w")) }) ∷ (record { key = (codes "c"); ty = (dict_type.Plain (record { element = element.String; array = false })); value = (value.Text (codes "v")) }) ∷ (record { key = (codes "k e"); ty = (dict_type.Plain (record { element = element.Int; array = false })); value = (value.Whole (pos 9)) }) ∷ [])) }) ∷ (record { key = (codes "b"); ty = dict_type.Dictionary; value = (value.Dict ((record { key = (codes "a"); ty = (dict_type.Plain (record { element = element.String; array = false })); value = (value.Text (codes "w")) }) ∷ (record { key = (codes "b"); ty = (dict_type.Plain (record { element = element.Int; array = false })); value = (value.Whole (pos 9)) }) ∷ (record { key = (codes "c"); ty = (dict_type.Plain (record { element = element.Int; array = false })); value = (value.Whole (pos 9)) }) ∷ [])) }) ∷ [])) }) ∷ []))) ∷ []); root_names = ((codes "D") ∷ (codes "K") ∷ (codes "F") ∷ []); root_order = ([]) };
    specs = (
        ((Prim (codes "D") ∷ []), (record { arcs = record { inherits = no_edits; specializes = no_edits; references = no_edits; payloads = no_edits; variant_sets = no_edits; selections = ([]) }; body = record { specifier = Def; type_name = None; meta = (((codes "customData"), (value.Dict ((record { key = (codes "a"); ty = dict_type.Dictionary; value = (value.Dict ((record { key = (codes "c"); ty = dict_type.Dictionary; value = (value.Dict ((record { key = (codes "b"); ty = (dict_type.Plain (record { element = element.Int; array = false })); value = (value.Whole (pos 7)) }) ∷ [])) }) ∷ (record { key = (codes "k e"); ty = dict_type.Dictionary; value = (value.Dict ((record { key = (codes "a"); ty = (dict_type.Plain (record { element = element.Int; array = false })); value = (value.Whole (pos 6)) }) ∷ (record { key = (codes "c"); ty = (dict_type.Plain (record { element = element.Int; array = false })); value = (value.Whole (pos 6)) }) ∷ [])) }) ∷ [])) }) ∷ (record { key = (codes "b"); ty = (dict_type.Plain (record { element = element.String; array = false })); value = (value.Text (codes "w")) }) ∷ (record { key = (codes "c"); ty = dict_type.Dictionary; value = (value.Dict ((record { key = (codes "b"); ty = (dict_type.Plain (record { element = element.Int; array = false })); value = (value.Whole (pos 3)) }) ∷ (record { key = (codes "c"); ty = (dict_type.Plain (record { element = element.Int; array = false })); value = (value.Whole (pos 4)) }) ∷ (record { key = (codes "k e"); ty = (dict_type.Plain (record { element = element.Int; array = false })); value = (value.Whole (pos 2)) }) ∷ [])) }) ∷ []))) ∷ []); api_schemas = no_edits; clip_sets = no_edits; children = ((codes "E") ∷ (codes "_k") ∷ []); child_order = ((codes "G") ∷ (codes "_k") ∷ []); properties = ([]); property_order = ([]); variant_names = ([]) } })) ∷
        ((Prim (codes "D") ∷ Prim (codes "E") ∷ []), (record { arcs = record { inherits = (record { explicit = None; deleted = ([]); added = ((Prim (codes "D") ∷ []) ∷ []); prepended = ([]); appended = ([]); ordered = ([]) }); specializes = no_edits; references = no_edits; payloads = no_edits; variant_sets = no_edits; selections = (((codes "t"), (codes "y")) ∷ []) }; body = record { specifier = Class; type_name = None; meta = ([]); api_schemas = no_edits; clip_sets = no_edits; children = ((codes "E") ∷ []); child_order = ((codes "K") ∷ (codes "G") ∷ (codes "F") ∷ (codes "D") ∷ []); properties = ([]); property_order = ([]); variant_names = ([]) } })) ∷
        ((Prim (codes "D") ∷ Prim (codes "E") ∷ Prim (codes "E") ∷ []), (record { arcs = record { inherits = no_edits; specializes = no_edits; references = no_edits; payloads = no_edits; variant_sets = no_edits; selections = ([]) }; body = record { specifier = Def; type_name = None; meta = ([]); api_schemas = no_edits; clip_sets = no_edits; children = ((codes "E") ∷ []); child_order = ([]); properties = ([]); property_order = ([]); variant_names = ([]) } })) ∷
        ((Prim (codes "D") ∷ Prim (codes "E") ∷ Prim (codes "E") ∷ Prim (codes "E") ∷ []), (record { arcs = record { inherits = (record { explicit = None; deleted = ([]); added = ([]); prepended = ((Prim (codes "D") ∷ Prim (codes "E") ∷ Prim (codes "E") ∷ []) ∷ []); appended = ([]); ordered = ([]) }); specializes = no_edits; references = no_edits; payloads = no_edits; variant_sets = no_edits; selections = ([]) }; body = record { specifier = Over; type_name = None; meta = ([]); api_schemas = no_edits; clip_sets = no_edits; children = ([]); child_order = ([]); properties = ([]); property_order = ([]); variant_names = ([]) } })) ∷
        ((Prim (codes "D") ∷ Prim (codes "_k") ∷ []), (record { arcs = record { inherits = no_edits; specializes = no_edits; references = no_edits; payloads = no_edits; variant_sets = no_edits; selections = ([]) }; body = record { specifier = Over; type_name = (Some (codes "Mesh")); meta = ([]); api_schemas = no_edits; clip_sets = no_edits; children = ((codes "A") ∷ []); child_order = ([]); properties = ([]); property_order = ([]); variant_names = ([]) } })) ∷
        ((Prim (codes "D") ∷ Prim (codes "_k") ∷ Prim (codes "A") ∷ []), (record { arcs = record { inherits = no_edits; specializes = no_edits; references = no_edits; payloads = no_edits; variant_sets = no_edits; selections = ([]) }; body = record { specifier = Over; type_name = None; meta = (((codes "kind"), (value.Text (codes "assembly"))) ∷ []); api_schemas = no_edits; clip_sets = no_edits; children = ([]); child_order = ([]); properties = ([]); property_order = ([]); variant_names = ([]) } })) ∷
        ((Prim (codes "K") ∷ []), (record { arcs = record { inherits = no_edits; specializes = no_edits; references = no_edits; payloads = no_edits; variant_sets = no_edits; selections = ([]) }; body = record { specifier = Over; type_name = None; meta = (((codes "comment"), (value.Text (codes "a comment"))) ∷ []); api_schemas = no_edits; clip_sets = no_edits; children = ([]); child_order = ([]); properties = ([]); property_order = ([]); variant_names = ([]) } })) ∷
        ((Prim (codes "F") ∷ []), (record { arcs = record { inherits = (record { explicit = (Some ([])); deleted = ([]); added = ([]); prepended = ([]); appended = ([]); ordered = ([]) }); specializes = no_edits; references = no_edits; payloads = no_edits; variant_sets = no_edits; selections = (((codes "s"), (codes "y")) ∷ ((codes "u"), (codes "z")) ∷ []) }; body = record { specifier = Def; type_name = None; meta = (((codes "customData"), (value.Dict ((record { key = (codes "c"); ty = (dict_type.Plain (record { element = element.Int; array = false })); value = (value.Whole (pos 9)) }) ∷ (record { key = (codes "k e"); ty = (dict_type.Plain (record { element = element.Int; array = false })); value = (value.Whole (pos 5)) }) ∷ []))) ∷ ((codes "odd"), (value.Array ((value.Whole (pos 1)) ∷ (value.Whole (pos 2)) ∷ []))) ∷ []); api_schemas = no_edits; clip_sets = no_edits; children = ((codes "G") ∷ []); child_order = ([]); properties = ([]); property_order = ([]); variant_names = ([]) } })) ∷
        ((Prim (codes "F") ∷ Prim (codes "G") ∷ []), (record { arcs = record { inherits = no_edits; specializes = no_edits; references = no_edits; payloads = no_edits; variant_sets = no_edits; selections = ([]) }; body = record { specifier = Def; type_name = None; meta = ([]); api_schemas = no_edits; clip_sets = no_edits; children = ([]); child_order = ([]); properties = ([]); property_order = ([]); variant_names = ([]) } })) ∷ []);
  }),
) ∷
    [])
