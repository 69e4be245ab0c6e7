-- A world of 2 layers.
use Rattle.std.specs.Prelude.{codes, pos, false, [], ◌∷◌, Some, None}
use Rattle.sdf_paths.specs.declared.element.Element.TheVariants.{Prim, Property}
use Rattle.spec_parts.specs.Blank.{no_edits}
use Rattle.spec_parts.specs.declared.items.Specifier.TheVariants.{Def, Over, Class}
use Rattle.spec_properties.specs.declared.property.Property.TheVariants.{Rel}
use Rattle.sdf_values.specs.declared.refusal.RefusalKind.TheVariants.{Syntax}
use Rattle.sdf_values.specs.declared.type_name.ElementType.TheVariants as element
use Rattle.sdf_values.specs.declared.value.DictType.TheVariants as dict_type
use Rattle.sdf_values.specs.declared.value.Value.TheVariants as value
use Rattle.composition.specs.World.{World}
use Rattle.composition_worlds.specs.Listed.{present, broken, listed_world}

abbrev pub world : World
world = listed_world (codes "root.usda") None ((
  (codes "root.usda"),
  present (record {
    head = record { sublayers = ([]); default_prim = (Some (codes "/_k{s=x}M")); meta = ([]); root_names = ((codes "_k") ∷ (codes "B") ∷ (codes "F") ∷ (codes "E") ∷ []); root_order = ([]) };
    specs = (
        ((Prim (codes "_k") ∷ []), (record { arcs = record { inherits = no_edits; specializes = no_edits; references = no_edits; payloads = no_edits; variant_sets = no_edits; selections = ([]) }; body = record { specifier = Class; type_name = (Some (codes "Scope")); meta = ([]); api_schemas = no_edits; clip_sets = no_edits; children = ((codes "B") ∷ []); child_order = ([]); properties = ([]); property_order = ([]); variant_names = ([]) } })) ∷
        ((Prim (codes "_k") ∷ Prim (codes "B") ∷ []), (record { arcs = record { inherits = no_edits; specializes = no_edits; references = (record { explicit = None; deleted = ([]); added = ([]); prepended = ([]); appended = ([]); ordered = ((record { asset = None; path = (Some (Prim (codes "F") ∷ [])); offset = (record { offset = (pos 0); scale = (pos 1) }) }) ∷ []) }); payloads = no_edits; variant_sets = no_edits; selections = ([]) }; body = record { specifier = Def; type_name = None; meta = ([]); api_schemas = no_edits; clip_sets = no_edits; children = ((codes "_c") ∷ (codes "_k") ∷ []); child_order = ([]); properties = ((Rel (codes "q") false (record { explicit = None; deleted = ([]); added = ([]); prepended = ((Prim (codes "E") ∷ []) ∷ (Prim (codes "_k") ∷ Prim (codes "B") ∷ Prim (codes "_k") ∷ Property (codes "q") ∷ []) ∷ (Prim (codes "_k") ∷ Prim (codes "B") ∷ Prim (codes "_k") ∷ []) ∷ []); appended = ([]); ordered = ([]) }) ([])) ∷ []); property_order = ((codes "x") ∷ (codes "r") ∷ []); variant_names = ([]) } })) ∷
        ((Prim (codes "_k") ∷ Prim (codes "B") ∷ Prim (codes "_c") ∷ []), (record { arcs = record { inherits = no_edits; specializes = no_edits; references = no_edits; payloads = no_edits; variant_sets = no_edits; selections = ([]) }; body = record { specifier = Over; type_name = None; meta = ([]); api_schemas = no_edits; clip_sets = no_edits; children = ((codes "_c") ∷ []); child_order = ([]); properties = ([]); property_order = ([]); variant_names = ([]) } })) ∷
        ((Prim (codes "_k") ∷ Prim (codes "B") ∷ Prim (codes "_c") ∷ Prim (codes "_c") ∷ []), (record { arcs = record { inherits = no_edits; specializes = (record { explicit = None; deleted = ((Prim (codes "_k") ∷ Prim (codes "E") ∷ []) ∷ []); added = ([]); prepended = ((Prim (codes "_k") ∷ Prim (codes "E") ∷ []) ∷ []); appended = ((Prim (codes "_k") ∷ Prim (codes "E") ∷ []) ∷ []); ordered = ([]) }); references = no_edits; payloads = no_edits; variant_sets = no_edits; selections = (((codes "s"), (codes "x")) ∷ ((codes "u"), (codes "x")) ∷ []) }; body = record { specifier = Over; type_name = None; meta = (((codes "kind"), (value.Text (codes "component"))) ∷ []); api_schemas = no_edits; clip_sets = no_edits; children = ([]); child_order = ([]); properties = ([]); property_order = ([]); variant_names = ([]) } })) ∷
        ((Prim (codes "_k") ∷ Prim (codes "B") ∷ Prim (codes "_k") ∷ []), (record { arcs = record { inherits = no_edits; specializes = no_edits; references = no_edits; payloads = (record { explicit = None; deleted = ([]); added = ((record { asset = (Some (codes "./root.usda")); path = (Some (Prim (codes "_k") ∷ Prim (codes "B") ∷ Prim (codes "_c") ∷ [])); offset = (record { offset = (pos 0); scale = (pos 1) }) }) ∷ (record { asset = (Some (codes "broken.usda")); path = (Some (Prim (codes "_k") ∷ Prim (codes "B") ∷ Prim (codes "_c") ∷ [])); offset = (record { offset = (pos 0); scale = (pos 3) }) }) ∷ []); prepended = ([]); appended = ([]); ordered = ([]) }); variant_sets = no_edits; selections = ([]) }; body = record { specifier = Class; type_name = None; meta = ([]); api_schemas = no_edits; clip_sets = no_edits; children = ((codes "C") ∷ []); child_order = ([]); properties = ([]); property_order = ([]); variant_names = ([]) } })) ∷
        ((Prim (codes "_k") ∷ Prim (codes "B") ∷ Prim (codes "_k") ∷ Prim (codes "C") ∷ []), (record { arcs = record { inherits = no_edits; specializes = no_edits; references = no_edits; payloads = no_edits; variant_sets = no_edits; selections = ([]) }; body = record { specifier = Over; type_name = None; meta = (((codes "customData"), (value.Dict ((record { key = (codes "a"); ty = dict_type.Dictionary; value = (value.Dict ((record { key = (codes "k e"); ty = (dict_type.Plain (record { element = element.String; array = false })); value = (value.Text (codes "v")) }) ∷ [])) }) ∷ (record { key = (codes "c"); ty = (dict_type.Plain (record { element = element.String; array = false })); value = (value.Text (codes "w")) }) ∷ (record { key = (codes "k e"); ty = dict_type.Dictionary; value = (value.Dict ((record { key = (codes "b"); ty = (dict_type.Plain (record { element = element.Int; array = false })); value = (value.Whole (pos 1)) }) ∷ (record { key = (codes "c"); ty = dict_type.Dictionary; value = (value.Dict ((record { key = (codes "a"); ty = (dict_type.Plain (record { element = element.String; array = false })); value = (value.Text (codes "u")) }) ∷ (record { key = (codes "c"); ty = (dict_type.Plain (record { element = element.String; array = false })); value = (value.Text (codes "u")) }) ∷ (record { key = (codes "k e"); ty = (dict_type.Plain (record { element = element.Int; array = false })); value = (value.Whole (pos 0)) }) ∷ [])) }) ∷ (record { key = (codes "k e"); ty = dict_type.Dictionary; value = (value.Dict ((record { key = (codes "b"); ty = (dict_type.Plain (record { element = element.Int; array = false })); value = (value.Whole (pos 3)) }) ∷ [])) }) ∷ [])) }) ∷ []))) ∷ []); api_schemas = no_edits; clip_sets = no_edits; children = ([]); child_order = ([]); properties = ([]); property_order = ([]); variant_names = ([]) } })) ∷
        ((Prim (codes "B") ∷ []), (record { arcs = record { inherits = no_edits; specializes = no_edits; references = no_edits; payloads = no_edits; variant_sets = no_edits; selections = ([]) }; body = record { specifier = Def; type_name = None; meta = ([]); api_schemas = no_edits; clip_sets = no_edits; children = ([]); child_order = ([]); properties = ([]); property_order = ([]); variant_names = ([]) } })) ∷
        ((Prim (codes "F") ∷ []), (record { arcs = record { inherits = no_edits; specializes = no_edits; references = no_edits; payloads = no_edits; variant_sets = no_edits; selections = ([]) }; body = record { specifier = Over; type_name = (Some (codes "Xform")); meta = ([]); api_schemas = no_edits; clip_sets = no_edits; children = ([]); child_order = ([]); properties = ([]); property_order = ([]); variant_names = ([]) } })) ∷
        ((Prim (codes "E") ∷ []), (record { arcs = record { inherits = no_edits; specializes = no_edits; references = no_edits; payloads = no_edits; variant_sets = no_edits; selections = ([]) }; body = record { specifier = Over; type_name = None; meta = ([]); api_schemas = no_edits; clip_sets = no_edits; children = ([]); child_order = ([]); properties = ([]); property_order = ([]); variant_names = ([]) } })) ∷ []);
  }),
) ∷
    ((codes "broken.usda"), broken (record { kind = Syntax; line = 2; column = 5 })) ∷
    [])
