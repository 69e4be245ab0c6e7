-- A world of 2 layers.
use Rattle.std.specs.Prelude.{codes, pos, false, [], ◌∷◌, Some, None}
use Rattle.sdf_paths.specs.declared.element.Element.TheVariants.{Prim}
use Rattle.spec_parts.specs.Blank.{no_edits}
use Rattle.spec_parts.specs.declared.items.Specifier.TheVariants.{Class}
use Rattle.spec_properties.specs.declared.property.Property.TheVariants.{Attr}
use Rattle.sdf_values.specs.declared.refusal.RefusalKind.TheVariants.{Syntax}
use Rattle.sdf_values.specs.declared.type_name.ElementType.TheVariants as element
use Rattle.sdf_values.specs.declared.value.DictType.TheVariants as dict_type
use Rattle.sdf_values.specs.declared.value.Value.TheVariants as value
use Rattle.composition.specs.World.{World}
use Rattle.composition_worlds.specs.Listed.{present, broken, listed_world}

abbrev pub world : World
world = listed_world (codes "root.usda") None ((
  (codes "root.usda"),
  present (record {
    head = record { sublayers = ((record { asset = (codes "sub/d.usda"); offset = (record { offset = (pos 0); scale = (pos 1) }) }) ∷ []); default_prim = (Some (codes "B")); meta = ([]); root_names = ((codes "B") ∷ []); root_order = ([]) };
    specs = (
        ((Prim (codes "B") ∷ []), (record { arcs = record { inherits = no_edits; specializes = no_edits; references = no_edits; payloads = no_edits; variant_sets = no_edits; selections = ([]) }; body = record { specifier = Class; type_name = None; meta = (((codes "customData"), (value.Dict ((record { key = (codes "c"); ty = (dict_type.Plain (record { element = element.Int; array = false })); value = (value.Whole (pos 1)) }) ∷ (record { key = (codes "k e"); ty = dict_type.Dictionary; value = (value.Dict ((record { key = (codes "a"); ty = dict_type.Dictionary; value = (value.Dict ((record { key = (codes "a"); ty = (dict_type.Plain (record { element = element.Int; array = false })); value = (value.Whole (pos 5)) }) ∷ [])) }) ∷ [])) }) ∷ []))) ∷ ((codes "kind"), (value.Text (codes "component"))) ∷ []); api_schemas = no_edits; clip_sets = no_edits; children = ([]); child_order = ([]); properties = ((Attr (codes "x") (record { element = element.Int; array = false }) false false (Some (value.Whole (pos 52))) ([]) no_edits ([])) ∷ []); property_order = ([]); variant_names = ([]) } })) ∷ []);
  }),
) ∷
    ((codes "sub/d.usda"), broken (record { kind = Syntax; line = 1; column = 1 })) ∷
    [])
