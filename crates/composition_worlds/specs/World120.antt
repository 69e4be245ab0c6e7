-- A world of 3 layers.
use Rattle.std.specs.Prelude.{codes, pos, true, false, [], ◌∷◌, Some, None}
use Rattle.sdf_paths.specs.declared.element.Element.TheVariants.{Prim}
use Rattle.spec_parts.specs.Blank.{no_edits}
use Rattle.spec_parts.specs.declared.items.Specifier.TheVariants.{Def, Over, Class}
use Rattle.spec_properties.specs.declared.property.Property.TheVariants.{Attr}
use Rattle.sdf_values.specs.declared.decimal.Num.TheVariants as num
use Rattle.sdf_values.specs.declared.type_name.ElementType.TheVariants as element
use Rattle.sdf_values.specs.declared.type_name.Precision.TheVariants as precision
use Rattle.sdf_values.specs.declared.value.DictType.TheVariants as dict_type
use Rattle.sdf_values.specs.declared.value.Value.TheVariants as value
use Rattle.composition.specs.World.{World}
use Rattle.composition_worlds.specs.Listed.{present, listed_world}

abbrev pub world : World
world = listed_world (codes "root.usda") None ((
  (codes "root.usda"),
  present (record {
    head = record { sublayers = ((record { asset = (codes "sub/d.usda"); offset = (record { offset = (pos 0); scale = (pos 1) }) }) ∷ []); default_prim = (Some (codes "M")); meta = ([]); root_names = ((codes "M") ∷ (codes "_c") ∷ (codes "B") ∷ []); root_order = ([]) };
    specs = (
        ((Prim (codes "M") ∷ []), (record { arcs = record { inherits = no_edits; specializes = no_edits; references = (record { explicit = (Some ((record { asset = (Some (codes "sub/d.usda")); path = (Some (Prim (codes "M") ∷ Prim (codes "G") ∷ [])); offset = (record { offset = (pos 0); scale = (pos 3) }) }) ∷ [])); deleted = ([]); added = ([]); prepended = ([]); appended = ([]); ordered = ([]) }); payloads = no_edits; variant_sets = no_edits; selections = ([]) }; body = record { specifier = Class; type_name = None; meta = ([]); api_schemas = (record { explicit = None; deleted = ([]); added = ((codes "P") ∷ (codes "S") ∷ []); prepended = ((codes "P") ∷ (codes "S") ∷ []); appended = ((codes "S") ∷ (codes "P") ∷ []); ordered = ([]) }); clip_sets = no_edits; children = ([]); child_order = ([]); properties = ((Attr (codes "p:q") (record { element = element.Int; array = false }) false false None ([]) no_edits ([])) ∷ []); property_order = ([]); variant_names = ([]) } })) ∷
        ((Prim (codes "_c") ∷ []), (record { arcs = record { inherits = no_edits; specializes = no_edits; references = no_edits; payloads = no_edits; variant_sets = no_edits; selections = ([]) }; body = record { specifier = Class; type_name = None; meta = (((codes "customData"), (value.Dict ((record { key = (codes "b"); ty = (dict_type.Plain (record { element = element.String; array = false })); value = (value.Text (codes "w")) }) ∷ (record { key = (codes "c"); ty = dict_type.Dictionary; value = (value.Dict ((record { key = (codes "a"); ty = (dict_type.Plain (record { element = element.String; array = false })); value = (value.Text (codes "w")) }) ∷ (record { key = (codes "c"); ty = dict_type.Dictionary; value = (value.Dict ((record { key = (codes "a"); ty = (dict_type.Plain (record { element = element.String; array = false })); value = (value.Text (codes "v")) }) ∷ (record { key = (codes "c"); ty = (dict_type.Plain (record { element = element.Int; array = false })); value = (value.Whole (pos 1)) }) ∷ (record { key = (codes "k e"); ty = (dict_type.Plain (record { element = element.String; array = false })); value = (value.Text (codes "u")) }) ∷ [])) }) ∷ [])) }) ∷ []))) ∷ []); api_schemas = no_edits; clip_sets = no_edits; children = ([]); child_order = ([]); properties = ((Attr (codes "x") (record { element = (element.Real precision.Double); array = false }) true false (Some (value.Number (num.Finite (record { digits = (pos 68); exp = (pos 0) })))) (((pos 1000000000000000000), (value.Number (num.Finite (record { digits = (pos 29); exp = (pos 0) })))) ∷ ((pos 1000000000000000000000000000000), (value.Number (num.Finite (record { digits = (pos 14); exp = (pos 0) })))) ∷ []) no_edits ([])) ∷ (Attr (codes "p:q") (record { element = element.Int; array = false }) false false (Some (value.Whole (pos 70))) ([]) (record { explicit = None; deleted = ([]); added = ([]); prepended = ([]); appended = ((Prim (codes "_c") ∷ []) ∷ []); ordered = ((Prim (codes "K") ∷ []) ∷ []) }) ([])) ∷ []); property_order = ([]); variant_names = ([]) } })) ∷
        ((Prim (codes "B") ∷ []), (record { arcs = record { inherits = no_edits; specializes = no_edits; references = (record { explicit = None; deleted = ((record { asset = (Some (codes "zz/../root.usda")); path = (Some (Prim (codes "_c") ∷ [])); offset = (record { offset = (pos 5); scale = (pos 1) }) }) ∷ (record { asset = (Some (codes "b.usda")); path = (Some (Prim (codes "M") ∷ Prim (codes "A") ∷ [])); offset = (record { offset = (pos 0); scale = (pos 1) }) }) ∷ []); added = ([]); prepended = ((record { asset = (Some (codes "b.usda")); path = (Some (Prim (codes "M") ∷ Prim (codes "A") ∷ [])); offset = (record { offset = (pos 0); scale = (pos 1) }) }) ∷ (record { asset = (Some (codes "zz/../root.usda")); path = (Some (Prim (codes "_c") ∷ [])); offset = (record { offset = (pos 5); scale = (pos 1) }) }) ∷ []); appended = ([]); ordered = ([]) }); payloads = no_edits; variant_sets = no_edits; selections = ([]) }; body = record { specifier = Def; type_name = None; meta = ([]); api_schemas = no_edits; clip_sets = no_edits; children = ([]); child_order = ([]); properties = ([]); property_order = ([]); variant_names = ([]) } })) ∷ []);
  }),
) ∷ (
  (codes "sub/d.usda"),
  present (record {
    head = record { sublayers = ((record { asset = (codes "../b.usda"); offset = (record { offset = (pos 0); scale = (pos 1) }) }) ∷ []); default_prim = (Some (codes "K")); meta = ([]); root_names = ((codes "K") ∷ []); root_order = ([]) };
    specs = (
        ((Prim (codes "K") ∷ []), (record { arcs = record { inherits = no_edits; specializes = no_edits; references = no_edits; payloads = no_edits; variant_sets = no_edits; selections = ([]) }; body = record { specifier = Over; type_name = (Some (codes "Scope")); meta = ([]); api_schemas = no_edits; clip_sets = no_edits; children = ([]); child_order = ([]); properties = ([]); property_order = ([]); variant_names = ([]) } })) ∷ []);
  }),
) ∷ (
  (codes "b.usda"),
  present (record {
    head = record { sublayers = ([]); default_prim = (Some (codes "/B")); meta = (((codes "customLayerData"), (value.Dict ((record { key = (codes "b"); ty = (dict_type.Plain (record { element = element.String; array = false })); value = (value.Text (codes "u")) }) ∷ []))) ∷ []); root_names = ((codes "B") ∷ []); root_order = ([]) };
    specs = (
        ((Prim (codes "B") ∷ []), (record { arcs = record { inherits = no_edits; specializes = no_edits; references = no_edits; payloads = no_edits; variant_sets = no_edits; selections = ([]) }; body = record { specifier = Class; type_name = None; meta = ([]); api_schemas = no_edits; clip_sets = no_edits; children = ([]); child_order = ([]); properties = ([]); property_order = ([]); variant_names = ([]) } })) ∷ []);
  }),
) ∷
    [])
