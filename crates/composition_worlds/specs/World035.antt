-- A world of 2 layers.
use Rattle.std.specs.Prelude.{codes, pos, false, [], ◌∷◌, Some, None}
use Rattle.sdf_paths.specs.declared.element.Element.TheVariants.{Prim, Property}
use Rattle.spec_parts.specs.Blank.{no_edits}
use Rattle.spec_parts.specs.declared.items.Specifier.TheVariants.{Over}
use Rattle.spec_properties.specs.declared.property.Property.TheVariants.{Attr, Rel}
use Rattle.sdf_values.specs.declared.type_name.ElementType.TheVariants as element
use Rattle.sdf_values.specs.declared.value.Value.TheVariants as value
use Rattle.composition.specs.World.{World}
use Rattle.composition_worlds.specs.Listed.{present, listed_world}

abbrev pub world : World
world = listed_world (codes "root.usda") (Some (codes "sub/c.usda")) ((
  (codes "root.usda"),
  present (record {
    head = record { sublayers = ((record { asset = (codes "sub/c.usda"); offset = (record { offset = (pos 0); scale = (pos 1) }) }) ∷ []); default_prim = (Some (codes "H")); meta = ([]); root_names = ((codes "H") ∷ []); root_order = ((codes "C") ∷ (codes "H") ∷ (codes "M") ∷ []) };
    specs = (
        ((Prim (codes "H") ∷ []), (record { arcs = record { inherits = (record { explicit = None; deleted = ([]); added = ([]); prepended = ((Prim (codes "H") ∷ []) ∷ (Prim (codes "A") ∷ []) ∷ []); appended = ([]); ordered = ([]) }); specializes = no_edits; references = no_edits; payloads = no_edits; variant_sets = no_edits; selections = ([]) }; body = record { specifier = Over; type_name = None; meta = (((codes "comment"), (value.Text (codes "a comment"))) ∷ []); api_schemas = no_edits; clip_sets = no_edits; children = ([]); child_order = ([]); properties = ((Attr (codes "p:q") (record { element = element.Int; array = false }) false false None ([]) no_edits ([])) ∷ (Rel (codes "r") false (record { explicit = None; deleted = ([]); added = ((Prim (codes "H") ∷ []) ∷ (Prim (codes "H") ∷ Property (codes "w") ∷ []) ∷ (Prim (codes "H") ∷ Prim (codes "H") ∷ []) ∷ []); prepended = ((Prim (codes "H") ∷ Prim (codes "A") ∷ Property (codes "r") ∷ []) ∷ (Prim (codes "H") ∷ Property (codes "y") ∷ []) ∷ []); appended = ((Prim (codes "H") ∷ Prim (codes "D") ∷ []) ∷ (Prim (codes "H") ∷ []) ∷ (Prim (codes "H") ∷ Prim (codes "H") ∷ []) ∷ []); ordered = ([]) }) ([])) ∷ []); property_order = ((codes "y") ∷ []); variant_names = ([]) } })) ∷ []);
  }),
) ∷ (
  (codes "sub/c.usda"),
  present (record {
    head = record { sublayers = ([]); default_prim = (Some (codes "M")); meta = ([]); root_names = ((codes "M") ∷ []); root_order = ([]) };
    specs = (
        ((Prim (codes "M") ∷ []), (record { arcs = record { inherits = no_edits; specializes = no_edits; references = no_edits; payloads = no_edits; variant_sets = no_edits; selections = ([]) }; body = record { specifier = Over; type_name = None; meta = ([]); api_schemas = no_edits; clip_sets = no_edits; children = ([]); child_order = ([]); properties = ((Rel (codes "r") false (record { explicit = None; deleted = ([]); added = ((Prim (codes "M") ∷ []) ∷ []); prepended = ([]); appended = ([]); ordered = ((Prim (codes "M") ∷ []) ∷ []) }) ([])) ∷ []); property_order = ([]); variant_names = ([]) } })) ∷ []);
  }),
) ∷
    [])
