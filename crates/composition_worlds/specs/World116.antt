-- A world of 1 layers.
use Rattle.std.specs.Prelude.{codes, pos, true, false, [], ◌∷◌, Some, None}
use Rattle.sdf_paths.specs.declared.element.Element.TheVariants.{Prim, Selection, Property}
use Rattle.spec_parts.specs.Blank.{no_edits}
use Rattle.spec_parts.specs.declared.items.Specifier.TheVariants.{Def, Over, Class}
use Rattle.spec_properties.specs.declared.property.Property.TheVariants.{Attr, Rel}
use Rattle.sdf_values.specs.declared.decimal.Num.TheVariants as num
use Rattle.sdf_values.specs.declared.type_name.ElementType.TheVariants as element
use Rattle.sdf_values.specs.declared.type_name.Precision.TheVariants as precision
use Rattle.sdf_values.specs.declared.value.DictType.TheVariants as dict_type
use Rattle.sdf_values.specs.declared.value.Value.TheVariants as value
use Rattle.composition.specs.World.{World}
use Rattle.composition_worlds.specs.Listed.{present, listed_world}

abbrev pub world : World
world = listed_world (codes "root.usda") None ((
  (codes "root.usda"),
  present (record {
    head = record { sublayers = ([]); default_prim = (Some (codes "/_c")); meta = ([]); root_names = ((codes "_c") ∷ (codes "R2") ∷ (codes "R1") ∷ (codes "R0") ∷ []); root_order = ([]) };
    specs = (
        ((Prim (codes "_c") ∷ []), (record { arcs = record { inherits = no_edits; specializes = no_edits; references = no_edits; payloads = no_edits; variant_sets = no_edits; selections = ([]) }; body = record { specifier = Class; type_name = None; meta = ([]); api_schemas = no_edits; clip_sets = no_edits; children = ((codes "b") ∷ (codes "e") ∷ []); child_order = ([]); properties = ((Attr (codes "y") (record { element = element.Int; array = false }) false false (Some (value.Whole (pos 39))) ([]) (record { explicit = (Some ((Prim (codes "_c") ∷ []) ∷ [])); deleted = ([]); added = ([]); prepended = ([]); appended = ([]); ordered = ([]) }) ([])) ∷ (Attr (codes "p:q") (record { element = element.Int; array = false }) false false None ([]) no_edits ([])) ∷ []); property_order = ([]); variant_names = ([]) } })) ∷
        ((Prim (codes "_c") ∷ Prim (codes "b") ∷ []), (record { arcs = record { inherits = (record { explicit = None; deleted = ([]); added = ((Prim (codes "_c") ∷ Prim (codes "e") ∷ []) ∷ []); prepended = ([]); appended = ([]); ordered = ([]) }); specializes = no_edits; references = no_edits; payloads = no_edits; variant_sets = no_edits; selections = ([]) }; body = record { specifier = Over; type_name = None; meta = ([]); api_schemas = no_edits; clip_sets = no_edits; children = ([]); child_order = ([]); properties = ([]); property_order = ([]); variant_names = ([]) } })) ∷
        ((Prim (codes "_c") ∷ Prim (codes "e") ∷ []), (record { arcs = record { inherits = no_edits; specializes = no_edits; references = no_edits; payloads = no_edits; variant_sets = no_edits; selections = (((codes "t"), (codes "x")) ∷ ((codes "u"), (codes "x")) ∷ []) }; body = record { specifier = Def; type_name = None; meta = ([]); api_schemas = no_edits; clip_sets = no_edits; children = ((codes "b") ∷ []); child_order = ((codes "b") ∷ (codes "e") ∷ []); properties = ([]); property_order = ([]); variant_names = ([]) } })) ∷
        ((Prim (codes "_c") ∷ Prim (codes "e") ∷ Prim (codes "b") ∷ []), (record { arcs = record { inherits = no_edits; specializes = no_edits; references = no_edits; payloads = no_edits; variant_sets = no_edits; selections = ([]) }; body = record { specifier = Def; type_name = None; meta = ([]); api_schemas = no_edits; clip_sets = no_edits; children = ([]); child_order = ([]); properties = ([]); property_order = ([]); variant_names = ([]) } })) ∷
        ((Prim (codes "R2") ∷ []), (record { arcs = record { inherits = no_edits; specializes = no_edits; references = no_edits; payloads = (record { explicit = None; deleted = ([]); added = ((record { asset = (Some (codes "root.usda")); path = (Some (Prim (codes "R1") ∷ Prim (codes "geo") ∷ [])); offset = (record { offset = (pos 0); scale = (pos 1) }) }) ∷ (record { asset = (Some (codes "root.usda")); path = (Some (Prim (codes "R2") ∷ [])); offset = (record { offset = (pos 0); scale = (pos 1) }) }) ∷ []); prepended = ([]); appended = ([]); ordered = ((record { asset = (Some (codes "root.usda")); path = (Some (Prim (codes "R1") ∷ Prim (codes "geo") ∷ [])); offset = (record { offset = (pos 0); scale = (pos 1) }) }) ∷ (record { asset = (Some (codes "root.usda")); path = (Some (Prim (codes "R2") ∷ [])); offset = (record { offset = (pos 0); scale = (pos 1) }) }) ∷ []) }); variant_sets = no_edits; selections = (((codes "u"), (codes "y")) ∷ []) }; body = record { specifier = Def; type_name = None; meta = ([]); api_schemas = no_edits; clip_sets = no_edits; children = ((codes "b") ∷ (codes "e") ∷ (codes "geo") ∷ []); child_order = ([]); properties = ([]); property_order = ([]); variant_names = ([]) } })) ∷
        ((Prim (codes "R2") ∷ Prim (codes "b") ∷ []), (record { arcs = record { inherits = (record { explicit = (Some ((Prim (codes "R2") ∷ Prim (codes "geo") ∷ []) ∷ [])); deleted = ([]); added = ([]); prepended = ([]); appended = ([]); ordered = ([]) }); specializes = no_edits; references = no_edits; payloads = no_edits; variant_sets = no_edits; selections = ([]) }; body = record { specifier = Def; type_name = None; meta = ([]); api_schemas = no_edits; clip_sets = no_edits; children = ([]); child_order = ([]); properties = ((Rel (codes "q") false (record { explicit = None; deleted = ([]); added = ([]); prepended = ([]); appended = ((Prim (codes "R0") ∷ Property (codes "q") ∷ []) ∷ (Prim (codes "R2") ∷ Prim (codes "b") ∷ Property (codes "x") ∷ []) ∷ []); ordered = ([]) }) ([])) ∷ []); property_order = ([]); variant_names = ([]) } })) ∷
        ((Prim (codes "R2") ∷ Prim (codes "e") ∷ []), (record { arcs = record { inherits = no_edits; specializes = no_edits; references = no_edits; payloads = no_edits; variant_sets = no_edits; selections = ([]) }; body = record { specifier = Def; type_name = None; meta = ([]); api_schemas = no_edits; clip_sets = no_edits; children = ((codes "b") ∷ []); child_order = ([]); properties = ((Attr (codes "x") (record { element = (element.Real precision.Double); array = false }) false false None (((pos 5000000000000000000), (value.Number (num.Finite (record { digits = (pos 85); exp = (pos 0) })))) ∷ []) no_edits ([])) ∷ []); property_order = ((codes "q") ∷ (codes "r") ∷ (codes "w") ∷ []); variant_names = ([]) } })) ∷
        ((Prim (codes "R2") ∷ Prim (codes "e") ∷ Prim (codes "b") ∷ []), (record { arcs = record { inherits = (record { explicit = None; deleted = ((Prim (codes "R2") ∷ Prim (codes "geo") ∷ []) ∷ (Prim (codes "R2") ∷ Prim (codes "e") ∷ []) ∷ []); added = ([]); prepended = ((Prim (codes "R2") ∷ Prim (codes "geo") ∷ []) ∷ (Prim (codes "R2") ∷ Prim (codes "e") ∷ []) ∷ []); appended = ((Prim (codes "R2") ∷ Prim (codes "e") ∷ []) ∷ (Prim (codes "R2") ∷ Prim (codes "geo") ∷ []) ∷ []); ordered = ((Prim (codes "R2") ∷ Prim (codes "geo") ∷ []) ∷ (Prim (codes "R2") ∷ Prim (codes "e") ∷ []) ∷ []) }); specializes = no_edits; references = no_edits; payloads = no_edits; variant_sets = no_edits; selections = (((codes "t"), (codes "x")) ∷ ((codes "u"), (codes "x")) ∷ []) }; body = record { specifier = Def; type_name = None; meta = ([]); api_schemas = no_edits; clip_sets = no_edits; children = ([]); child_order = ([]); properties = ((Attr (codes "w") (record { element = element.Int; array = false }) false true (Some (value.Whole (pos 93))) ([]) no_edits (((codes "customData"), (value.Dict ((record { key = (codes "a"); ty = dict_type.Dictionary; value = (value.Dict ((record { key = (codes "a"); ty = (dict_type.Plain (record { element = element.String; array = false })); value = (value.Text (codes "v")) }) ∷ (record { key = (codes "b"); ty = (dict_type.Plain (record { element = element.Int; array = false })); value = (value.Whole (pos 8)) }) ∷ (record { key = (codes "c"); ty = dict_type.Dictionary; value = (value.Dict ((record { key = (codes "a"); ty = (dict_type.Plain (record { element = element.Int; array = false })); value = (value.Whole (pos 6)) }) ∷ (record { key = (codes "b"); ty = (dict_type.Plain (record { element = element.Int; array = false })); value = (value.Whole (pos 3)) }) ∷ (record { key = (codes "c"); ty = (dict_type.Plain (record { element = element.Int; array = false })); value = (value.Whole (pos 4)) }) ∷ [])) }) ∷ [])) }) ∷ (record { key = (codes "b"); ty = dict_type.Dictionary; value = (value.Dict ((record { key = (codes "c"); ty = dict_type.Dictionary; value = (value.Dict ((record { key = (codes "a"); ty = (dict_type.Plain (record { element = element.String; array = false })); value = (value.Text (codes "w")) }) ∷ (record { key = (codes "b"); ty = (dict_type.Plain (record { element = element.Int; array = false })); value = (value.Whole (pos 6)) }) ∷ (record { key = (codes "c"); ty = (dict_type.Plain (record { element = element.Int; array = false })); value = (value.Whole (pos 6)) }) ∷ [])) }) ∷ [])) }) ∷ (record { key = (codes "c"); ty = dict_type.Dictionary; value = (value.Dict ((record { key = (codes "a"); ty = dict_type.Dictionary; value = (value.Dict ((record { key = (codes "a"); ty = (dict_type.Plain (record { element = element.String; array = false })); value = (value.Text (codes "w")) }) ∷ (record { key = (codes "c"); ty = (dict_type.Plain (record { element = element.Int; array = false })); value = (value.Whole (pos 1)) }) ∷ [])) }) ∷ [])) }) ∷ []))) ∷ [])) ∷ []); property_order = ([]); variant_names = ([]) } })) ∷
        ((Prim (codes "R2") ∷ Prim (codes "geo") ∷ []), (record { arcs = record { inherits = no_edits; specializes = no_edits; references = (record { explicit = None; deleted = ((record { asset = None; path = (Some (Prim (codes "R0") ∷ [])); offset = (record { offset = (pos 0); scale = (pos 1) }) }) ∷ []); added = ([]); prepended = ((record { asset = None; path = (Some (Prim (codes "R0") ∷ [])); offset = (record { offset = (pos 0); scale = (pos 1) }) }) ∷ []); appended = ([]); ordered = ((record { asset = None; path = (Some (Prim (codes "R0") ∷ [])); offset = (record { offset = (pos 0); scale = (pos 1) }) }) ∷ []) }); payloads = no_edits; variant_sets = no_edits; selections = (((codes "s"), (codes "z")) ∷ ((codes "u"), (codes "x")) ∷ []) }; body = record { specifier = Over; type_name = None; meta = ([]); api_schemas = no_edits; clip_sets = no_edits; children = ([]); child_order = ([]); properties = ([]); property_order = ([]); variant_names = ((record { set = (codes "u"); variants = ((codes "y") ∷ (codes "x") ∷ []) }) ∷ (record { set = (codes "s"); variants = ((codes "x") ∷ []) }) ∷ []) } })) ∷
        ((Prim (codes "R2") ∷ Prim (codes "geo") ∷ Selection (codes "u") (codes "y") ∷ []), (record { arcs = record { inherits = (record { explicit = None; deleted = ([]); added = ((Prim (codes "R2") ∷ Prim (codes "e") ∷ []) ∷ (Prim (codes "R2") ∷ Prim (codes "b") ∷ Prim (codes "b") ∷ []) ∷ []); prepended = ([]); appended = ((Prim (codes "R2") ∷ Prim (codes "b") ∷ Prim (codes "b") ∷ []) ∷ (Prim (codes "R2") ∷ Prim (codes "e") ∷ []) ∷ []); ordered = ((Prim (codes "R2") ∷ Prim (codes "b") ∷ Prim (codes "b") ∷ []) ∷ (Prim (codes "R2") ∷ Prim (codes "e") ∷ []) ∷ (Prim (codes "_c") ∷ Prim (codes "e") ∷ []) ∷ []) }); specializes = no_edits; references = no_edits; payloads = no_edits; variant_sets = no_edits; selections = ([]) }; body = record { specifier = Over; type_name = None; meta = ([]); api_schemas = no_edits; clip_sets = no_edits; children = ((codes "e") ∷ []); child_order = ([]); properties = ([]); property_order = ([]); variant_names = ([]) } })) ∷
        ((Prim (codes "R2") ∷ Prim (codes "geo") ∷ Selection (codes "u") (codes "y") ∷ Prim (codes "e") ∷ []), (record { arcs = record { inherits = (record { explicit = None; deleted = ([]); added = ([]); prepended = ((Prim (codes "_c") ∷ []) ∷ (Prim (codes "_c") ∷ Prim (codes "geo") ∷ []) ∷ (Prim (codes "R2") ∷ Prim (codes "geo") ∷ Prim (codes "geo") ∷ []) ∷ []); appended = ([]); ordered = ([]) }); specializes = (record { explicit = None; deleted = ([]); added = ([]); prepended = ([]); appended = ((Prim (codes "_c") ∷ Prim (codes "b") ∷ []) ∷ []); ordered = ([]) }); references = no_edits; payloads = no_edits; variant_sets = no_edits; selections = ([]) }; body = record { specifier = Def; type_name = None; meta = ([]); api_schemas = no_edits; clip_sets = no_edits; children = ([]); child_order = ([]); properties = ([]); property_order = ([]); variant_names = ([]) } })) ∷
        ((Prim (codes "R2") ∷ Prim (codes "geo") ∷ Selection (codes "u") (codes "x") ∷ []), (record { arcs = record { inherits = no_edits; specializes = no_edits; references = no_edits; payloads = no_edits; variant_sets = (record { explicit = (Some ((codes "u") ∷ [])); deleted = ([]); added = ([]); prepended = ([]); appended = ([]); ordered = ([]) }); selections = ([]) }; body = record { specifier = Over; type_name = None; meta = ([]); api_schemas = no_edits; clip_sets = no_edits; children = ((codes "_c") ∷ []); child_order = ([]); properties = ([]); property_order = ([]); variant_names = ([]) } })) ∷
        ((Prim (codes "R2") ∷ Prim (codes "geo") ∷ Selection (codes "u") (codes "x") ∷ Prim (codes "_c") ∷ []), (record { arcs = record { inherits = no_edits; specializes = no_edits; references = no_edits; payloads = no_edits; variant_sets = no_edits; selections = ([]) }; body = record { specifier = Class; type_name = None; meta = ([]); api_schemas = no_edits; clip_sets = no_edits; children = ([]); child_order = ([]); properties = ([]); property_order = ([]); variant_names = ([]) } })) ∷
        ((Prim (codes "R2") ∷ Prim (codes "geo") ∷ Selection (codes "s") (codes "x") ∷ []), (record { arcs = record { inherits = no_edits; specializes = no_edits; references = no_edits; payloads = no_edits; variant_sets = no_edits; selections = ([]) }; body = record { specifier = Over; type_name = None; meta = ([]); api_schemas = no_edits; clip_sets = no_edits; children = ((codes "R1") ∷ []); child_order = ([]); properties = ([]); property_order = ([]); variant_names = ([]) } })) ∷
        ((Prim (codes "R2") ∷ Prim (codes "geo") ∷ Selection (codes "s") (codes "x") ∷ Prim (codes "R1") ∷ []), (record { arcs = record { inherits = no_edits; specializes = no_edits; references = no_edits; payloads = no_edits; variant_sets = no_edits; selections = ([]) }; body = record { specifier = Def; type_name = None; meta = ([]); api_schemas = no_edits; clip_sets = no_edits; children = ([]); child_order = ([]); properties = ([]); property_order = ([]); variant_names = ([]) } })) ∷
        ((Prim (codes "R1") ∷ []), (record { arcs = record { inherits = no_edits; specializes = no_edits; references = no_edits; payloads = no_edits; variant_sets = no_edits; selections = ([]) }; body = record { specifier = Class; type_name = None; meta = ([]); api_schemas = no_edits; clip_sets = no_edits; children = ((codes "b") ∷ (codes "e") ∷ []); child_order = ((codes "e") ∷ []); properties = ((Rel (codes "q") false (record { explicit = None; deleted = ([]); added = ([]); prepended = ([]); appended = ((Prim (codes "R1") ∷ Property (codes "y") ∷ []) ∷ (Prim (codes "R1") ∷ []) ∷ (Prim (codes "R1") ∷ Prim (codes "e") ∷ []) ∷ []); ordered = ([]) }) ([])) ∷ []); property_order = ([]); variant_names = ([]) } })) ∷
        ((Prim (codes "R1") ∷ Prim (codes "b") ∷ []), (record { arcs = record { inherits = no_edits; specializes = no_edits; references = no_edits; payloads = no_edits; variant_sets = no_edits; selections = ([]) }; body = record { specifier = Over; type_name = None; meta = (((codes "comment"), (value.Text (codes "a comment"))) ∷ []); api_schemas = no_edits; clip_sets = no_edits; children = ((codes "b") ∷ []); child_order = ([]); properties = ((Attr (codes "y") (record { element = element.String; array = false }) false false None ([]) no_edits ([])) ∷ []); property_order = ([]); variant_names = ([]) } })) ∷
        ((Prim (codes "R1") ∷ Prim (codes "b") ∷ Prim (codes "b") ∷ []), (record { arcs = record { inherits = no_edits; specializes = no_edits; references = no_edits; payloads = no_edits; variant_sets = no_edits; selections = ([]) }; body = record { specifier = Class; type_name = None; meta = ([]); api_schemas = no_edits; clip_sets = no_edits; children = ([]); child_order = ([]); properties = ([]); property_order = ([]); variant_names = ([]) } })) ∷
        ((Prim (codes "R1") ∷ Prim (codes "e") ∷ []), (record { arcs = record { inherits = no_edits; specializes = no_edits; references = no_edits; payloads = no_edits; variant_sets = no_edits; selections = ([]) }; body = record { specifier = Def; type_name = None; meta = (((codes "odd"), (value.Whole (pos 3))) ∷ []); api_schemas = no_edits; clip_sets = no_edits; children = ((codes "e") ∷ []); child_order = ((codes "_c") ∷ (codes "R0") ∷ (codes "b") ∷ []); properties = ([]); property_order = ([]); variant_names = ([]) } })) ∷
        ((Prim (codes "R1") ∷ Prim (codes "e") ∷ Prim (codes "e") ∷ []), (record { arcs = record { inherits = no_edits; specializes = no_edits; references = no_edits; payloads = no_edits; variant_sets = no_edits; selections = ([]) }; body = record { specifier = Over; type_name = None; meta = (((codes "kind"), (value.Text (codes "component"))) ∷ ((codes "odd"), (value.Dict ((record { key = (codes "a"); ty = (dict_type.Plain (record { element = element.Int; array = false })); value = (value.Whole (pos 1)) }) ∷ []))) ∷ []); api_schemas = no_edits; clip_sets = no_edits; children = ([]); child_order = ([]); properties = ([]); property_order = ([]); variant_names = ([]) } })) ∷
        ((Prim (codes "R0") ∷ []), (record { arcs = record { inherits = no_edits; specializes = no_edits; references = no_edits; payloads = no_edits; variant_sets = no_edits; selections = ([]) }; body = record { specifier = Class; type_name = None; meta = ([]); api_schemas = no_edits; clip_sets = no_edits; children = ((codes "b") ∷ (codes "geo") ∷ []); child_order = ([]); properties = ((Attr (codes "y") (record { element = element.Int; array = false }) false false (Some (value.Whole (pos 61))) ([]) (record { explicit = None; deleted = ((Prim (codes "R0") ∷ Prim (codes "_c") ∷ Property (codes "q") ∷ []) ∷ []); added = ([]); prepended = ((Prim (codes "R0") ∷ Prim (codes "e") ∷ []) ∷ (Prim (codes "R1") ∷ []) ∷ []); appended = ((Prim (codes "R0") ∷ []) ∷ (Prim (codes "R0") ∷ Property (codes "p:q") ∷ []) ∷ []); ordered = ((Prim (codes "R0") ∷ Prim (codes "_c") ∷ []) ∷ []) }) ([])) ∷ []); property_order = ((codes "y") ∷ (codes "w") ∷ (codes "r") ∷ (codes "p:q") ∷ []); variant_names = ([]) } })) ∷
        ((Prim (codes "R0") ∷ Prim (codes "b") ∷ []), (record { arcs = record { inherits = no_edits; specializes = no_edits; references = no_edits; payloads = no_edits; variant_sets = no_edits; selections = ([]) }; body = record { specifier = Over; type_name = None; meta = ([]); api_schemas = no_edits; clip_sets = no_edits; children = ((codes "geo") ∷ []); child_order = ([]); properties = ((Rel (codes "q") false (record { explicit = None; deleted = ([]); added = ([]); prepended = ([]); appended = ([]); ordered = ((Prim (codes "R0") ∷ Property (codes "y") ∷ []) ∷ (Prim (codes "R0") ∷ Prim (codes "R1") ∷ []) ∷ (Prim (codes "R0") ∷ Prim (codes "b") ∷ Prim (codes "e") ∷ []) ∷ []) }) ([])) ∷ []); property_order = ([]); variant_names = ([]) } })) ∷
        ((Prim (codes "R0") ∷ Prim (codes "b") ∷ Prim (codes "geo") ∷ []), (record { arcs = record { inherits = no_edits; specializes = no_edits; references = no_edits; payloads = no_edits; variant_sets = no_edits; selections = ([]) }; body = record { specifier = Def; type_name = (Some (codes "Scope")); meta = ([]); api_schemas = no_edits; clip_sets = no_edits; children = ([]); child_order = ([]); properties = ([]); property_order = ([]); variant_names = ([]) } })) ∷
        ((Prim (codes "R0") ∷ Prim (codes "geo") ∷ []), (record { arcs = record { inherits = no_edits; specializes = no_edits; references = no_edits; payloads = no_edits; variant_sets = no_edits; selections = ([]) }; body = record { specifier = Def; type_name = None; meta = ([]); api_schemas = no_edits; clip_sets = no_edits; children = ([]); child_order = ([]); properties = ([]); property_order = ([]); variant_names = ([]) } })) ∷ []);
  }),
) ∷
    [])
