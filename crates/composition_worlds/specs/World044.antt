-- A world of 5 layers.
use Rattle.std.specs.Prelude.{codes, pos, negsuc, true, false, [], ◌∷◌, Some, None}
use Rattle.sdf_paths.specs.declared.element.Element.TheVariants.{Prim, Selection, Property}
use Rattle.spec_parts.specs.Blank.{no_edits}
use Rattle.spec_parts.specs.declared.items.Specifier.TheVariants.{Def, Over, Class}
use Rattle.spec_properties.specs.declared.property.Property.TheVariants.{Attr, Rel}
use Rattle.sdf_values.specs.declared.refusal.RefusalKind.TheVariants.{Syntax}
use Rattle.sdf_values.specs.declared.type_name.ElementType.TheVariants as element
use Rattle.sdf_values.specs.declared.value.DictType.TheVariants as dict_type
use Rattle.sdf_values.specs.declared.value.Value.TheVariants as value
use Rattle.composition.specs.World.{World}
use Rattle.composition_worlds.specs.Listed.{present, broken, listed_world}

abbrev pub world : World
world = listed_world (codes "root.usda") (Some (codes "b.usda")) ((
  (codes "root.usda"),
  present (record {
    head = record { sublayers = ((record { asset = (codes "sub/c.usda"); offset = (record { offset = (pos 0); scale = (pos 1) }) }) ∷ (record { asset = (codes "a.usda"); offset = (record { offset = (pos 0); scale = (pos 1) }) }) ∷ []); default_prim = (Some (codes "/E")); meta = (((codes "customLayerData"), (value.Dict ((record { key = (codes "a"); ty = (dict_type.Plain (record { element = element.Int; array = false })); value = (value.Whole (pos 1)) }) ∷ (record { key = (codes "b"); ty = (dict_type.Plain (record { element = element.String; array = false })); value = (value.Text (codes "w")) }) ∷ (record { key = (codes "k e"); ty = dict_type.Dictionary; value = (value.Dict ((record { key = (codes "a"); ty = (dict_type.Plain (record { element = element.String; array = false })); value = (value.Text (codes "w")) }) ∷ (record { key = (codes "b"); ty = dict_type.Dictionary; value = (value.Dict ((record { key = (codes "k e"); ty = (dict_type.Plain (record { element = element.Int; array = false })); value = (value.Whole (pos 6)) }) ∷ [])) }) ∷ (record { key = (codes "k e"); ty = (dict_type.Plain (record { element = element.String; array = false })); value = (value.Text (codes "u")) }) ∷ [])) }) ∷ []))) ∷ ((codes "upAxis"), (value.Text (codes "Z"))) ∷ []); root_names = ((codes "E") ∷ []); root_order = ([]) };
    specs = (
        ((Prim (codes "E") ∷ []), (record { arcs = record { inherits = no_edits; specializes = no_edits; references = no_edits; payloads = no_edits; variant_sets = no_edits; selections = ([]) }; body = record { specifier = Def; type_name = None; meta = ([]); api_schemas = no_edits; clip_sets = no_edits; children = ([]); child_order = ([]); properties = ([]); property_order = ([]); variant_names = ([]) } })) ∷ []);
  }),
) ∷ (
  (codes "b.usda"),
  present (record {
    head = record { sublayers = ([]); default_prim = (Some (codes "H")); meta = ([]); root_names = ((codes "H") ∷ []); root_order = ([]) };
    specs = (
        ((Prim (codes "H") ∷ []), (record { arcs = record { inherits = no_edits; specializes = (record { explicit = (Some ((Prim (codes "H") ∷ Prim (codes "H") ∷ []) ∷ (Prim (codes "H") ∷ []) ∷ [])); deleted = ([]); added = ([]); prepended = ([]); appended = ([]); ordered = ([]) }); references = (record { explicit = None; deleted = ([]); added = ([]); prepended = ((record { asset = (Some (codes "broken.usda")); path = (Some (Prim (codes "E") ∷ [])); offset = (record { offset = (pos 0); scale = (pos 1) }) }) ∷ (record { asset = (Some (codes "b.usda")); path = (Some (Prim (codes "H") ∷ Prim (codes "E") ∷ [])); offset = (record { offset = (pos 0); scale = (pos 1) }) }) ∷ []); appended = ([]); ordered = ([]) }); payloads = no_edits; variant_sets = (record { explicit = None; deleted = ([]); added = ([]); prepended = ((codes "t") ∷ []); appended = ([]); ordered = ([]) }); selections = ([]) }; body = record { specifier = Def; type_name = None; meta = ([]); api_schemas = no_edits; clip_sets = no_edits; children = ((codes "E") ∷ []); child_order = ([]); properties = ([]); property_order = ([]); variant_names = ((record { set = (codes "t"); variants = ((codes "z") ∷ (codes "x") ∷ []) }) ∷ []) } })) ∷
        ((Prim (codes "H") ∷ Prim (codes "E") ∷ []), (record { arcs = record { inherits = (record { explicit = None; deleted = ([]); added = ([]); prepended = ([]); appended = ((Prim (codes "H") ∷ Prim (codes "E") ∷ Prim (codes "B") ∷ []) ∷ []); ordered = ([]) }); specializes = no_edits; references = no_edits; payloads = no_edits; variant_sets = no_edits; selections = ([]) }; body = record { specifier = Class; type_name = (Some (codes "Mesh")); meta = (((codes "kind"), (value.Text (codes "component"))) ∷ []); api_schemas = no_edits; clip_sets = no_edits; children = ([]); child_order = ([]); properties = ([]); property_order = ([]); variant_names = ([]) } })) ∷
        ((Prim (codes "H") ∷ Selection (codes "t") (codes "z") ∷ []), (record { arcs = record { inherits = (record { explicit = None; deleted = ([]); added = ([]); prepended = ([]); appended = ([]); ordered = ((Prim (codes "E") ∷ []) ∷ []) }); specializes = no_edits; references = no_edits; payloads = no_edits; variant_sets = (record { explicit = (Some ((codes "s") ∷ [])); deleted = ([]); added = ([]); prepended = ([]); appended = ([]); ordered = ([]) }); selections = ([]) }; body = record { specifier = Over; type_name = None; meta = ([]); api_schemas = no_edits; clip_sets = no_edits; children = ((codes "A") ∷ (codes "_c") ∷ []); child_order = ([]); properties = ((Attr (codes "x") (record { element = element.Int; array = false }) false false (Some (value.Whole (pos 94))) (((pos 2000000000000000000), (value.Whole (pos 49))) ∷ []) no_edits ([])) ∷ []); property_order = ([]); variant_names = ([]) } })) ∷
        ((Prim (codes "H") ∷ Selection (codes "t") (codes "z") ∷ Prim (codes "A") ∷ []), (record { arcs = record { inherits = no_edits; specializes = no_edits; references = no_edits; payloads = no_edits; variant_sets = (record { explicit = None; deleted = ([]); added = ([]); prepended = ([]); appended = ((codes "s") ∷ (codes "u") ∷ []); ordered = ([]) }); selections = (((codes "s"), (codes "z")) ∷ ((codes "u"), (codes "x")) ∷ []) }; body = record { specifier = Class; type_name = None; meta = ([]); api_schemas = no_edits; clip_sets = no_edits; children = ([]); child_order = ([]); properties = ((Attr (codes "w") (record { element = element.Int; array = false }) false false (Some value.Block) ([]) no_edits ([])) ∷ []); property_order = ([]); variant_names = ((record { set = (codes "s"); variants = ((codes "y") ∷ []) }) ∷ (record { set = (codes "u"); variants = ((codes "x") ∷ (codes "y") ∷ []) }) ∷ []) } })) ∷
        ((Prim (codes "H") ∷ Selection (codes "t") (codes "z") ∷ Prim (codes "A") ∷ Selection (codes "s") (codes "y") ∷ []), (record { arcs = record { inherits = no_edits; specializes = no_edits; references = no_edits; payloads = no_edits; variant_sets = no_edits; selections = ([]) }; body = record { specifier = Over; type_name = None; meta = ([]); api_schemas = no_edits; clip_sets = no_edits; children = ([]); child_order = ([]); properties = ((Attr (codes "p:q") (record { element = element.String; array = false }) false false None ([]) no_edits ([])) ∷ []); property_order = ([]); variant_names = ([]) } })) ∷
        ((Prim (codes "H") ∷ Selection (codes "t") (codes "z") ∷ Prim (codes "A") ∷ Selection (codes "u") (codes "x") ∷ []), (record { arcs = record { inherits = no_edits; specializes = no_edits; references = no_edits; payloads = no_edits; variant_sets = no_edits; selections = ([]) }; body = record { specifier = Over; type_name = None; meta = ([]); api_schemas = no_edits; clip_sets = no_edits; children = ([]); child_order = ([]); properties = ([]); property_order = ([]); variant_names = ([]) } })) ∷
        ((Prim (codes "H") ∷ Selection (codes "t") (codes "z") ∷ Prim (codes "A") ∷ Selection (codes "u") (codes "y") ∷ []), (record { arcs = record { inherits = no_edits; specializes = no_edits; references = no_edits; payloads = no_edits; variant_sets = no_edits; selections = ([]) }; body = record { specifier = Over; type_name = None; meta = ([]); api_schemas = no_edits; clip_sets = no_edits; children = ([]); child_order = ([]); properties = ((Attr (codes "x") (record { element = element.Int; array = false }) false false (Some (value.Whole (pos 54))) (((negsuc 2999999999999999999), (value.Whole (pos 68))) ∷ ((pos 1000000000000000000), (value.Whole (pos 22))) ∷ ((pos 1000000000000000000000000000000), (value.Whole (pos 30))) ∷ []) no_edits ([])) ∷ []); property_order = ([]); variant_names = ([]) } })) ∷
        ((Prim (codes "H") ∷ Selection (codes "t") (codes "z") ∷ Prim (codes "_c") ∷ []), (record { arcs = record { inherits = no_edits; specializes = no_edits; references = no_edits; payloads = no_edits; variant_sets = no_edits; selections = ([]) }; body = record { specifier = Class; type_name = None; meta = ([]); api_schemas = no_edits; clip_sets = no_edits; children = ([]); child_order = ([]); properties = ([]); property_order = ([]); variant_names = ([]) } })) ∷
        ((Prim (codes "H") ∷ Selection (codes "t") (codes "x") ∷ []), (record { arcs = record { inherits = no_edits; specializes = no_edits; references = no_edits; payloads = no_edits; variant_sets = no_edits; selections = ([]) }; body = record { specifier = Over; type_name = None; meta = ([]); api_schemas = no_edits; clip_sets = no_edits; children = ((codes "A") ∷ (codes "B") ∷ []); child_order = ([]); properties = ([]); property_order = ([]); variant_names = ([]) } })) ∷
        ((Prim (codes "H") ∷ Selection (codes "t") (codes "x") ∷ Prim (codes "A") ∷ []), (record { arcs = record { inherits = no_edits; specializes = no_edits; references = no_edits; payloads = no_edits; variant_sets = no_edits; selections = ([]) }; body = record { specifier = Def; type_name = None; meta = ([]); api_schemas = no_edits; clip_sets = no_edits; children = ([]); child_order = ([]); properties = ([]); property_order = ([]); variant_names = ([]) } })) ∷
        ((Prim (codes "H") ∷ Selection (codes "t") (codes "x") ∷ Prim (codes "B") ∷ []), (record { arcs = record { inherits = no_edits; specializes = no_edits; references = no_edits; payloads = no_edits; variant_sets = no_edits; selections = ([]) }; body = record { specifier = Over; type_name = None; meta = ([]); api_schemas = no_edits; clip_sets = no_edits; children = ([]); child_order = ([]); properties = ([]); property_order = ([]); variant_names = ([]) } })) ∷ []);
  }),
) ∷ (
  (codes "sub/c.usda"),
  present (record {
    head = record { sublayers = ([]); default_prim = (Some (codes "E")); meta = ([]); root_names = ((codes "E") ∷ []); root_order = ([]) };
    specs = (
        ((Prim (codes "E") ∷ []), (record { arcs = record { inherits = no_edits; specializes = (record { explicit = None; deleted = ((Prim (codes "E") ∷ Prim (codes "_c") ∷ []) ∷ []); added = ([]); prepended = ((Prim (codes "H") ∷ []) ∷ []); appended = ((Prim (codes "E") ∷ Prim (codes "_c") ∷ []) ∷ []); ordered = ([]) }); references = no_edits; payloads = no_edits; variant_sets = no_edits; selections = (((codes "s"), (codes "y")) ∷ ((codes "u"), (codes "z")) ∷ []) }; body = record { specifier = Class; type_name = None; meta = ([]); api_schemas = no_edits; clip_sets = no_edits; children = ([]); child_order = ([]); properties = ([]); property_order = ([]); variant_names = ([]) } })) ∷ []);
  }),
) ∷ (
  (codes "a.usda"),
  present (record {
    head = record { sublayers = ([]); default_prim = (Some (codes "E")); meta = ([]); root_names = ((codes "E") ∷ []); root_order = ((codes "_c") ∷ (codes "A") ∷ (codes "H") ∷ []) };
    specs = (
        ((Prim (codes "E") ∷ []), (record { arcs = record { inherits = no_edits; specializes = (record { explicit = None; deleted = ((Prim (codes "A") ∷ []) ∷ []); added = ([]); prepended = ((Prim (codes "A") ∷ []) ∷ (Prim (codes "E") ∷ []) ∷ []); appended = ((Prim (codes "E") ∷ []) ∷ []); ordered = ([]) }); references = no_edits; payloads = no_edits; variant_sets = no_edits; selections = ([]) }; body = record { specifier = Class; type_name = None; meta = ([]); api_schemas = no_edits; clip_sets = no_edits; children = ([]); child_order = ([]); properties = ((Rel (codes "r") true (record { explicit = (Some ((Prim (codes "E") ∷ Prim (codes "E") ∷ Property (codes "y") ∷ []) ∷ [])); deleted = ([]); added = ([]); prepended = ([]); appended = ([]); ordered = ([]) }) ([])) ∷ []); property_order = ([]); variant_names = ([]) } })) ∷ []);
  }),
) ∷
    ((codes "broken.usda"), broken (record { kind = Syntax; line = 2; column = 5 })) ∷
    [])
