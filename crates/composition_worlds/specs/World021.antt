-- A world of 1 layers.
use Rattle.std.specs.Prelude.{codes, pos, false, [], ◌∷◌, Some, None}
use Rattle.sdf_paths.specs.declared.element.Element.TheVariants.{Prim, Selection, Property}
use Rattle.spec_parts.specs.Blank.{no_edits}
use Rattle.spec_parts.specs.declared.items.Specifier.TheVariants.{Def, Over, Class}
use Rattle.spec_properties.specs.declared.property.Property.TheVariants.{Attr, Rel}
use Rattle.sdf_values.specs.declared.type_name.ElementType.TheVariants as element
use Rattle.sdf_values.specs.declared.value.Value.TheVariants as value
use Rattle.composition.specs.World.{World}
use Rattle.composition_worlds.specs.Listed.{present, listed_world}

abbrev pub world : World
world = listed_world (codes "root.usda") None ((
  (codes "root.usda"),
  present (record {
    head = record { sublayers = ([]); default_prim = (Some (codes "/_g/geo")); meta = ([]); root_names = ((codes "_g") ∷ (codes "R1") ∷ (codes "_c") ∷ []); root_order = ([]) };
    specs = (
        ((Prim (codes "_g") ∷ []), (record { arcs = record { inherits = (record { explicit = None; deleted = ([]); added = ([]); prepended = ((Prim (codes "_c") ∷ []) ∷ (Prim (codes "R2") ∷ []) ∷ (Prim (codes "R0") ∷ []) ∷ []); appended = ([]); ordered = ([]) }); specializes = no_edits; references = no_edits; payloads = no_edits; variant_sets = no_edits; selections = ([]) }; body = record { specifier = Class; type_name = None; meta = ([]); api_schemas = no_edits; clip_sets = no_edits; children = ((codes "geo") ∷ []); child_order = ([]); properties = ([]); property_order = ([]); variant_names = ([]) } })) ∷
        ((Prim (codes "_g") ∷ Prim (codes "geo") ∷ []), (record { arcs = record { inherits = (record { explicit = None; deleted = ((Prim (codes "_c") ∷ []) ∷ (Prim (codes "_g") ∷ Prim (codes "a") ∷ []) ∷ []); added = ([]); prepended = ((Prim (codes "_c") ∷ []) ∷ []); appended = ([]); ordered = ((Prim (codes "_g") ∷ Prim (codes "a") ∷ []) ∷ (Prim (codes "_c") ∷ []) ∷ []) }); specializes = no_edits; references = no_edits; payloads = no_edits; variant_sets = no_edits; selections = ([]) }; body = record { specifier = Def; type_name = None; meta = ([]); api_schemas = no_edits; clip_sets = no_edits; children = ([]); child_order = ([]); properties = ([]); property_order = ([]); variant_names = ([]) } })) ∷
        ((Prim (codes "R1") ∷ []), (record { arcs = record { inherits = (record { explicit = None; deleted = ([]); added = ([]); prepended = ([]); appended = ((Prim (codes "_g") ∷ Prim (codes "a") ∷ []) ∷ []); ordered = ([]) }); specializes = no_edits; references = (record { explicit = None; deleted = ([]); added = ([]); prepended = ((record { asset = (Some (codes "root.usda")); path = (Some (Prim (codes "R1") ∷ [])); offset = (record { offset = (pos 0); scale = (pos 1) }) }) ∷ (record { asset = (Some (codes "root.usda")); path = (Some (Prim (codes "R0") ∷ [])); offset = (record { offset = (pos 0); scale = (pos 1) }) }) ∷ []); appended = ([]); ordered = ([]) }); payloads = no_edits; variant_sets = (record { explicit = (Some ((codes "u") ∷ (codes "t") ∷ [])); deleted = ([]); added = ([]); prepended = ([]); appended = ([]); ordered = ([]) }); selections = ([]) }; body = record { specifier = Class; type_name = None; meta = ([]); api_schemas = no_edits; clip_sets = no_edits; children = ((codes "a") ∷ []); child_order = ([]); properties = ([]); property_order = ([]); variant_names = ((record { set = (codes "u"); variants = ((codes "x") ∷ (codes "y") ∷ []) }) ∷ (record { set = (codes "t"); variants = ((codes "y") ∷ []) }) ∷ []) } })) ∷
        ((Prim (codes "R1") ∷ Prim (codes "a") ∷ []), (record { arcs = record { inherits = (record { explicit = None; deleted = ([]); added = ([]); prepended = ([]); appended = ([]); ordered = ((Prim (codes "R1") ∷ Prim (codes "R0") ∷ []) ∷ []) }); specializes = (record { explicit = (Some ((Prim (codes "_g") ∷ []) ∷ [])); deleted = ([]); added = ([]); prepended = ([]); appended = ([]); ordered = ([]) }); references = no_edits; payloads = no_edits; variant_sets = no_edits; selections = ([]) }; body = record { specifier = Def; type_name = None; meta = ([]); api_schemas = no_edits; clip_sets = no_edits; children = ((codes "geo") ∷ []); child_order = ((codes "R1") ∷ (codes "a") ∷ (codes "geo") ∷ []); properties = ((Attr (codes "w") (record { element = element.Int; array = false }) false false (Some (value.Whole (pos 39))) ([]) no_edits ([])) ∷ (Rel (codes "q") false (record { explicit = None; deleted = ([]); added = ((Prim (codes "R1") ∷ Prim (codes "a") ∷ []) ∷ []); prepended = ([]); appended = ([]); ordered = ([]) }) ([])) ∷ []); property_order = ([]); variant_names = ([]) } })) ∷
        ((Prim (codes "R1") ∷ Prim (codes "a") ∷ Prim (codes "geo") ∷ []), (record { arcs = record { inherits = (record { explicit = None; deleted = ([]); added = ([]); prepended = ((Prim (codes "R1") ∷ Prim (codes "a") ∷ Prim (codes "_k") ∷ []) ∷ []); appended = ([]); ordered = ([]) }); specializes = no_edits; references = no_edits; payloads = no_edits; variant_sets = no_edits; selections = (((codes "t"), (codes "z")) ∷ ((codes "u"), (codes "z")) ∷ []) }; body = record { specifier = Def; type_name = None; meta = ([]); api_schemas = (record { explicit = None; deleted = ([]); added = ((codes "S") ∷ []); prepended = ([]); appended = ((codes "S") ∷ []); ordered = ([]) }); clip_sets = no_edits; children = ([]); child_order = ([]); properties = ((Attr (codes "p:q") (record { element = element.Int; array = false }) false false None ([]) (record { explicit = None; deleted = ([]); added = ([]); prepended = ((Prim (codes "R1") ∷ []) ∷ []); appended = ((Prim (codes "R1") ∷ Prim (codes "a") ∷ Prim (codes "geo") ∷ Prim (codes "R1") ∷ []) ∷ (Prim (codes "R1") ∷ []) ∷ []); ordered = ((Prim (codes "R2") ∷ Property (codes "p:q") ∷ []) ∷ (Prim (codes "R1") ∷ []) ∷ []) }) ([])) ∷ []); property_order = ((codes "y") ∷ (codes "q") ∷ (codes "r") ∷ (codes "x") ∷ []); variant_names = ([]) } })) ∷
        ((Prim (codes "R1") ∷ Selection (codes "u") (codes "x") ∷ []), (record { arcs = record { inherits = no_edits; specializes = (record { explicit = None; deleted = ((Prim (codes "_c") ∷ []) ∷ []); added = ([]); prepended = ([]); appended = ([]); ordered = ((Prim (codes "_c") ∷ []) ∷ []) }); references = no_edits; payloads = no_edits; variant_sets = no_edits; selections = ([]) }; body = record { specifier = Over; type_name = None; meta = (((codes "comment"), (value.Text (codes "a comment"))) ∷ []); api_schemas = (record { explicit = None; deleted = ([]); added = ([]); prepended = ([]); appended = ([]); ordered = ((codes "P") ∷ (codes "R") ∷ []) }); clip_sets = no_edits; children = ((codes "a") ∷ []); child_order = ([]); properties = ((Attr (codes "w") (record { element = element.String; array = false }) false false (Some (value.Text (codes "a"))) ([]) no_edits ([])) ∷ []); property_order = ([]); variant_names = ([]) } })) ∷
        ((Prim (codes "R1") ∷ Selection (codes "u") (codes "x") ∷ Prim (codes "a") ∷ []), (record { arcs = record { inherits = (record { explicit = None; deleted = ([]); added = ((Prim (codes "_g") ∷ Prim (codes "geo") ∷ []) ∷ []); prepended = ([]); appended = ([]); ordered = ([]) }); specializes = no_edits; references = no_edits; payloads = no_edits; variant_sets = no_edits; selections = (((codes "u"), (codes "x")) ∷ []) }; body = record { specifier = Over; type_name = None; meta = ([]); api_schemas = no_edits; clip_sets = no_edits; children = ([]); child_order = ([]); properties = ((Rel (codes "r") false (record { explicit = (Some ((Prim (codes "R1") ∷ Property (codes "q") ∷ []) ∷ [])); deleted = ([]); added = ([]); prepended = ([]); appended = ([]); ordered = ([]) }) ([])) ∷ []); property_order = ([]); variant_names = ([]) } })) ∷
        ((Prim (codes "R1") ∷ Selection (codes "u") (codes "y") ∷ []), (record { arcs = record { inherits = no_edits; specializes = no_edits; references = no_edits; payloads = no_edits; variant_sets = no_edits; selections = ([]) }; body = record { specifier = Over; type_name = None; meta = ([]); api_schemas = no_edits; clip_sets = no_edits; children = ((codes "a") ∷ []); child_order = ([]); properties = ([]); property_order = ([]); variant_names = ([]) } })) ∷
        ((Prim (codes "R1") ∷ Selection (codes "u") (codes "y") ∷ Prim (codes "a") ∷ []), (record { arcs = record { inherits = no_edits; specializes = no_edits; references = no_edits; payloads = no_edits; variant_sets = no_edits; selections = ([]) }; body = record { specifier = Def; type_name = None; meta = ([]); api_schemas = no_edits; clip_sets = no_edits; children = ([]); child_order = ([]); properties = ((Rel (codes "r") false (record { explicit = (Some ((Prim (codes "R0") ∷ []) ∷ [])); deleted = ([]); added = ([]); prepended = ([]); appended = ([]); ordered = ([]) }) ([])) ∷ []); property_order = ([]); variant_names = ([]) } })) ∷
        ((Prim (codes "R1") ∷ Selection (codes "t") (codes "y") ∷ []), (record { arcs = record { inherits = no_edits; specializes = no_edits; references = no_edits; payloads = no_edits; variant_sets = no_edits; selections = ([]) }; body = record { specifier = Over; type_name = None; meta = ([]); api_schemas = no_edits; clip_sets = no_edits; children = ([]); child_order = ([]); properties = ([]); property_order = ([]); variant_names = ([]) } })) ∷
        ((Prim (codes "_c") ∷ []), (record { arcs = record { inherits = no_edits; specializes = no_edits; references = no_edits; payloads = no_edits; variant_sets = no_edits; selections = ([]) }; body = record { specifier = Over; type_name = (Some (codes "Mesh")); meta = ([]); api_schemas = no_edits; clip_sets = no_edits; children = ((codes "_k") ∷ (codes "a") ∷ (codes "geo") ∷ []); child_order = ([]); properties = ((Attr (codes "x") (record { element = element.Int; array = false }) false false (Some value.Block) (((pos 1000000000000000000), (value.Whole (pos 56))) ∷ ((pos 7500000000000000000), (value.Whole (pos 7))) ∷ ((pos 10000000000000000000), (value.Whole (pos 8))) ∷ []) no_edits ([])) ∷ []); property_order = ([]); variant_names = ([]) } })) ∷
        ((Prim (codes "_c") ∷ Prim (codes "_k") ∷ []), (record { arcs = record { inherits = no_edits; specializes = no_edits; references = no_edits; payloads = no_edits; variant_sets = no_edits; selections = ([]) }; body = record { specifier = Class; type_name = None; meta = ([]); api_schemas = no_edits; clip_sets = no_edits; children = ([]); child_order = ([]); properties = ([]); property_order = ([]); variant_names = ([]) } })) ∷
        ((Prim (codes "_c") ∷ Prim (codes "a") ∷ []), (record { arcs = record { inherits = no_edits; specializes = no_edits; references = no_edits; payloads = no_edits; variant_sets = no_edits; selections = ([]) }; body = record { specifier = Def; type_name = None; meta = ([]); api_schemas = no_edits; clip_sets = no_edits; children = ([]); child_order = ([]); properties = ([]); property_order = ([]); variant_names = ([]) } })) ∷
        ((Prim (codes "_c") ∷ Prim (codes "geo") ∷ []), (record { arcs = record { inherits = no_edits; specializes = no_edits; references = no_edits; payloads = no_edits; variant_sets = no_edits; selections = ([]) }; body = record { specifier = Def; type_name = None; meta = ([]); api_schemas = no_edits; clip_sets = no_edits; children = ([]); child_order = ([]); properties = ([]); property_order = ([]); variant_names = ([]) } })) ∷ []);
  }),
) ∷
    [])
