-- A world of 1 layers.
use Rattle.std.specs.Prelude.{codes, pos, [], ◌∷◌, Some, None}
use Rattle.sdf_paths.specs.declared.element.Element.TheVariants.{Prim}
use Rattle.spec_parts.specs.Blank.{no_edits}
use Rattle.spec_parts.specs.declared.items.Specifier.TheVariants.{Def}
use Rattle.composition.specs.World.{World}
use Rattle.composition_worlds.specs.Listed.{present, listed_world}

abbrev pub world : World
world = listed_world (codes "root.usda") None ((
  (codes "root.usda"),
  present (record {
    head = record { sublayers = ([]); default_prim = None; meta = ([]); root_names = ((codes "c0") ∷ (codes "c1") ∷ (codes "c2") ∷ (codes "c3") ∷ (codes "c4") ∷ (codes "c5") ∷ (codes "c6") ∷ (codes "c7") ∷ (codes "c8") ∷ (codes "c9") ∷ (codes "c10") ∷ (codes "c11") ∷ (codes "c12") ∷ (codes "c13") ∷ (codes "c14") ∷ (codes "c15") ∷ (codes "c16") ∷ (codes "c17") ∷ (codes "c18") ∷ (codes "c19") ∷ (codes "c20") ∷ (codes "c21") ∷ (codes "c22") ∷ (codes "c23") ∷ (codes "c24") ∷ (codes "c25") ∷ (codes "c26") ∷ (codes "c27") ∷ (codes "c28") ∷ (codes "c29") ∷ (codes "c30") ∷ (codes "c31") ∷ (codes "c32") ∷ (codes "c33") ∷ (codes "c34") ∷ (codes "c35") ∷ (codes "c36") ∷ (codes "c37") ∷ (codes "c38") ∷ (codes "c39") ∷ (codes "c40") ∷ (codes "c41") ∷ (codes "c42") ∷ (codes "c43") ∷ (codes "c44") ∷ (codes "c45") ∷ (codes "c46") ∷ (codes "c47") ∷ (codes "c48") ∷ (codes "c49") ∷ (codes "c50") ∷ (codes "c51") ∷ (codes "c52") ∷ (codes "c53") ∷ (codes "c54") ∷ (codes "c55") ∷ (codes "c56") ∷ (codes "c57") ∷ (codes "c58") ∷ (codes "c59") ∷ (codes "c60") ∷ (codes "c61") ∷ (codes "c62") ∷ (codes "c63") ∷ (codes "c64") ∷ []); root_order = ([]) };
    specs = (
        ((Prim (codes "c0") ∷ []), (record { arcs = record { inherits = no_edits; specializes = no_edits; references = (record { explicit = (Some ((record { asset = None; path = (Some (Prim (codes "c1") ∷ [])); offset = (record { offset = (pos 0); scale = (pos 1) }) }) ∷ [])); deleted = ([]); added = ([]); prepended = ([]); appended = ([]); ordered = ([]) }); payloads = no_edits; variant_sets = no_edits; selections = ([]) }; body = record { specifier = Def; type_name = None; meta = ([]); api_schemas = no_edits; clip_sets = no_edits; children = ([]); child_order = ([]); properties = ([]); property_order = ([]); variant_names = ([]) } })) ∷
        ((Prim (codes "c1") ∷ []), (record { arcs = record { inherits = no_edits; specializes = no_edits; references = (record { explicit = (Some ((record { asset = None; path = (Some (Prim (codes "c2") ∷ [])); offset = (record { offset = (pos 0); scale = (pos 1) }) }) ∷ [])); deleted = ([]); added = ([]); prepended = ([]); appended = ([]); ordered = ([]) }); payloads = no_edits; variant_sets = no_edits; selections = ([]) }; body = record { specifier = Def; type_name = None; meta = ([]); api_schemas = no_edits; clip_sets = no_edits; children = ([]); child_order = ([]); properties = ([]); property_order = ([]); variant_names = ([]) } })) ∷
        ((Prim (codes "c2") ∷ []), (record { arcs = record { inherits = no_edits; specializes = no_edits; references = (record { explicit = (Some ((record { asset = None; path = (Some (Prim (codes "c3") ∷ [])); offset = (record { offset = (pos 0); scale = (pos 1) }) }) ∷ [])); deleted = ([]); added = ([]); prepended = ([]); appended = ([]); ordered = ([]) }); payloads = no_edits; variant_sets = no_edits; selections = ([]) }; body = record { specifier = Def; type_name = None; meta = ([]); api_schemas = no_edits; clip_sets = no_edits; children = ([]); child_order = ([]); properties = ([]); property_order = ([]); variant_names = ([]) } })) ∷
        ((Prim (codes "c3") ∷ []), (record { arcs = record { inherits = no_edits; specializes = no_edits; references = (record { explicit = (Some ((record { asset = None; path = (Some (Prim (codes "c4") ∷ [])); offset = (record { offset = (pos 0); scale = (pos 1) }) }) ∷ [])); deleted = ([]); added = ([]); prepended = ([]); appended = ([]); ordered = ([]) }); payloads = no_edits; variant_sets = no_edits; selections = ([]) }; body = record { specifier = Def; type_name = None; meta = ([]); api_schemas = no_edits; clip_sets = no_edits; children = ([]); child_order = ([]); properties = ([]); property_order = ([]); variant_names = ([]) } })) ∷
        ((Prim (codes "c4") ∷ []), (record { arcs = record { inherits = no_edits; specializes = no_edits; references = (record { explicit = (Some ((record { asset = None; path = (Some (Prim (codes "c5") ∷ [])); offset = (record { offset = (pos 0); scale = (pos 1) }) }) ∷ [])); deleted = ([]); added = ([]); prepended = ([]); appended = ([]); ordered = ([]) }); payloads = no_edits; variant_sets = no_edits; selections = ([]) }; body = record { specifier = Def; type_name = None; meta = ([]); api_schemas = no_edits; clip_sets = no_edits; children = ([]); child_order = ([]); properties = ([]); property_order = ([]); variant_names = ([]) } })) ∷
        ((Prim (codes "c5") ∷ []), (record { arcs = record { inherits = no_edits; specializes = no_edits; references = (record { explicit = (Some ((record { asset = None; path = (Some (Prim (codes "c6") ∷ [])); offset = (record { offset = (pos 0); scale = (pos 1) }) }) ∷ [])); deleted = ([]); added = ([]); prepended = ([]); appended = ([]); ordered = ([]) }); payloads = no_edits; variant_sets = no_edits; selections = ([]) }; body = record { specifier = Def; type_name = None; meta = ([]); api_schemas = no_edits; clip_sets = no_edits; children = ([]); child_order = ([]); properties = ([]); property_order = ([]); variant_names = ([]) } })) ∷
        ((Prim (codes "c6") ∷ []), (record { arcs = record { inherits = no_edits; specializes = no_edits; references = (record { explicit = (Some ((record { asset = None; path = (Some (Prim (codes "c7") ∷ [])); offset = (record { offset = (pos 0); scale = (pos 1) }) }) ∷ [])); deleted = ([]); added = ([]); prepended = ([]); appended = ([]); ordered = ([]) }); payloads = no_edits; variant_sets = no_edits; selections = ([]) }; body = record { specifier = Def; type_name = None; meta = ([]); api_schemas = no_edits; clip_sets = no_edits; children = ([]); child_order = ([]); properties = ([]); property_order = ([]); variant_names = ([]) } })) ∷
        ((Prim (codes "c7") ∷ []), (record { arcs = record { inherits = no_edits; specializes = no_edits; references = (record { explicit = (Some ((record { asset = None; path = (Some (Prim (codes "c8") ∷ [])); offset = (record { offset = (pos 0); scale = (pos 1) }) }) ∷ [])); deleted = ([]); added = ([]); prepended = ([]); appended = ([]); ordered = ([]) }); payloads = no_edits; variant_sets = no_edits; selections = ([]) }; body = record { specifier = Def; type_name = None; meta = ([]); api_schemas = no_edits; clip_sets = no_edits; children = ([]); child_order = ([]); properties = ([]); property_order = ([]); variant_names = ([]) } })) ∷
        ((Prim (codes "c8") ∷ []), (record { arcs = record { inherits = no_edits; specializes = no_edits; references = (record { explicit = (Some ((record { asset = None; path = (Some (Prim (codes "c9") ∷ [])); offset = (record { offset = (pos 0); scale = (pos 1) }) }) ∷ [])); deleted = ([]); added = ([]); prepended = ([]); appended = ([]); ordered = ([]) }); payloads = no_edits; variant_sets = no_edits; selections = ([]) }; body = record { specifier = Def; type_name = None; meta = ([]); api_schemas = no_edits; clip_sets = no_edits; children = ([]); child_order = ([]); properties = ([]); property_order = ([]); variant_names = ([]) } })) ∷
        ((Prim (codes "c9") ∷ []), (record { arcs = record { inherits = no_edits; specializes = no_edits; references = (record { explicit = (Some ((record { asset = None; path = (Some (Prim (codes "c10") ∷ [])); offset = (record { offset = (pos 0); scale = (pos 1) }) }) ∷ [])); deleted = ([]); added = ([]); prepended = ([]); appended = ([]); ordered = ([]) }); payloads = no_edits; variant_sets = no_edits; selections = ([]) }; body = record { specifier = Def; type_name = None; meta = ([]); api_schemas = no_edits; clip_sets = no_edits; children = ([]); child_order = ([]); properties = ([]); property_order = ([]); variant_names = ([]) } })) ∷
        ((Prim (codes "c10") ∷ []), (record { arcs = record { inherits = no_edits; specializes = no_edits; references = (record { explicit = (Some ((record { asset = None; path = (Some (Prim (codes "c11") ∷ [])); offset = (record { offset = (pos 0); scale = (pos 1) }) }) ∷ [])); deleted = ([]); added = ([]); prepended = ([]); appended = ([]); ordered = ([]) }); payloads = no_edits; variant_sets = no_edits; selections = ([]) }; body = record { specifier = Def; type_name = None; meta = ([]); api_schemas = no_edits; clip_sets = no_edits; children = ([]); child_order = ([]); properties = ([]); property_order = ([]); variant_names = ([]) } })) ∷
        ((Prim (codes "c11") ∷ []), (record { arcs = record { inherits = no_edits; specializes = no_edits; references = (record { explicit = (Some ((record { asset = None; path = (Some (Prim (codes "c12") ∷ [])); offset = (record { offset = (pos 0); scale = (pos 1) }) }) ∷ [])); deleted = ([]); added = ([]); prepended = ([]); appended = ([]); ordered = ([]) }); payloads = no_edits; variant_sets = no_edits; selections = ([]) }; body = record { specifier = Def; type_name = None; meta = ([]); api_schemas = no_edits; clip_sets = no_edits; children = ([]); child_order = ([]); properties = ([]); property_order = ([]); variant_names = ([]) } })) ∷
        ((Prim (codes "c12") ∷ []), (record { arcs = record { inherits = no_edits; specializes = no_edits; references = (record { explicit = (Some ((record { asset = None; path = (Some (Prim (codes "c13") ∷ [])); offset = (record { offset = (pos 0); scale = (pos 1) }) }) ∷ [])); deleted = ([]); added = ([]); prepended = ([]); appended = ([]); ordered = ([]) }); payloads = no_edits; variant_sets = no_edits; selections = ([]) }; body = record { specifier = Def; type_name = None; meta = ([]); api_schemas = no_edits; clip_sets = no_edits; children = ([]); child_order = ([]); properties = ([]); property_order = ([]); variant_names = ([]) } })) ∷
        ((Prim (codes "c13") ∷ []), (record { arcs = record { inherits = no_edits; specializes = no_edits; references = (record { explicit = (Some ((record { asset = None; path = (Some (Prim (codes "c14") ∷ [])); offset = (record { offset = (pos 0); scale = (pos 1) }) }) ∷ [])); deleted = ([]); added = ([]); prepended = ([]); appended = ([]); ordered = ([]) }); payloads = no_edits; variant_sets = no_edits; selections = ([]) }; body = record { specifier = Def; type_name = None; meta = ([]); api_schemas = no_edits; clip_sets = no_edits; children = ([]); child_order = ([]); properties = ([]); property_order = ([]); variant_names = ([]) } })) ∷
        ((Prim (codes "c14") ∷ []), (record { arcs = record { inherits = no_edits; specializes = no_edits; references = (record { explicit = (Some ((record { asset = None; path = (Some (Prim (codes "c15") ∷ [])); offset = (record { offset = (pos 0); scale = (pos 1) }) }) ∷ [])); deleted = ([]); added = ([]); prepended = ([]); appended = ([]); ordered = ([]) }); payloads = no_edits; variant_sets = no_edits; selections = ([]) }; body = record { specifier = Def; type_name = None; meta = ([]); api_schemas = no_edits; clip_sets = no_edits; children = ([]); child_order = ([]); properties = ([]); property_order = ([]); variant_names = ([]) } })) ∷
        ((Prim (codes "c15") ∷ []), (record { arcs = record { inherits = no_edits; specializes = no_edits; references = (record { explicit = (Some ((record { asset = None; path = (Some (Prim (codes "c16") ∷ [])); offset = (record { offset = (pos 0); scale = (pos 1) }) }) ∷ [])); deleted = ([]); added = ([]); prepended = ([]); appended = ([]); ordered = ([]) }); payloads = no_edits; variant_sets = no_edits; selections = ([]) }; body = record { specifier = Def; type_name = None; meta = ([]); api_schemas = no_edits; clip_sets = no_edits; children = ([]); child_order = ([]); properties = ([]); property_order = ([]); variant_names = ([]) } })) ∷
        ((Prim (codes "c16") ∷ []), (record { arcs = record { inherits = no_edits; specializes = no_edits; references = (record { explicit = (Some ((record { asset = None; path = (Some (Prim (codes "c17") ∷ [])); offset = (record { offset = (pos 0); scale = (pos 1) }) }) ∷ [])); deleted = ([]); added = ([]); prepended = ([]); appended = ([]); ordered = ([]) }); payloads = no_edits; variant_sets = no_edits; selections = ([]) }; body = record { specifier = Def; type_name = None; meta = ([]); api_schemas = no_edits; clip_sets = no_edits; children = ([]); child_order = ([]); properties = ([]); property_order = ([]); variant_names = ([]) } })) ∷
        ((Prim (codes "c17") ∷ []), (record { arcs = record { inherits = no_edits; specializes = no_edits; references = (record { explicit = (Some ((record { asset = None; path = (Some (Prim (codes "c18") ∷ [])); offset = (record { offset = (pos 0); scale = (pos 1) }) }) ∷ [])); deleted = ([]); added = ([]); prepended = ([]); appended = ([]); ordered = ([]) }); payloads = no_edits; variant_sets = no_edits; selections = ([]) }; body = record { specifier = Def; type_name = None; meta = ([]); api_schemas = no_edits; clip_sets = no_edits; children = ([]); child_order = ([]); properties = ([]); property_order = ([]); variant_names = ([]) } })) ∷
        ((Prim (codes "c18") ∷ []), (record { arcs = record { inherits = no_edits; specializes = no_edits; references = (record { explicit = (Some ((record { asset = None; path = (Some (Prim (codes "c19") ∷ [])); offset = (record { offset = (pos 0); scale = (pos 1) }) }) ∷ [])); deleted = ([]); added = ([]); prepended = ([]); appended = ([]); ordered = ([]) }); payloads = no_edits; variant_sets = no_edits; selections = ([]) }; body = record { specifier = Def; type_name = None; meta = ([]); api_schemas = no_edits; clip_sets = no_edits; children = ([]); child_order = ([]); properties = ([]); property_order = ([]); variant_names = ([]) } })) ∷
        ((Prim (codes "c19") ∷ []), (record { arcs = record { inherits = no_edits; specializes = no_edits; references = (record { explicit = (Some ((record { asset = None; path = (Some (Prim (codes "c20") ∷ [])); offset = (record { offset = (pos 0); scale = (pos 1) }) }) ∷ [])); deleted = ([]); added = ([]); prepended = ([]); appended = ([]); ordered = ([]) }); payloads = no_edits; variant_sets = no_edits; selections = ([]) }; body = record { specifier = Def; type_name = None; meta = ([]); api_schemas = no_edits; clip_sets = no_edits; children = ([]); child_order = ([]); properties = ([]); property_order = ([]); variant_names = ([]) } })) ∷
        ((Prim (codes "c20") ∷ []), (record { arcs = record { inherits = no_edits; specializes = no_edits; references = (record { explicit = (Some ((record { asset = None; path = (Some (Prim (codes "c21") ∷ [])); offset = (record { offset = (pos 0); scale = (pos 1) }) }) ∷ [])); deleted = ([]); added = ([]); prepended = ([]); appended = ([]); ordered = ([]) }); payloads = no_edits; variant_sets = no_edits; selections = ([]) }; body = record { specifier = Def; type_name = None; meta = ([]); api_schemas = no_edits; clip_sets = no_edits; children = ([]); child_order = ([]); properties = ([]); property_order = ([]); variant_names = ([]) } })) ∷
        ((Prim (codes "c21") ∷ []), (record { arcs = record { inherits = no_edits; specializes = no_edits; references = (record { explicit = (Some ((record { asset = None; path = (Some (Prim (codes "c22") ∷ [])); offset = (record { offset = (pos 0); scale = (pos 1) }) }) ∷ [])); deleted = ([]); added = ([]); prepended = ([]); appended = ([]); ordered = ([]) }); payloads = no_edits; variant_sets = no_edits; selections = ([]) }; body = record { specifier = Def; type_name = None; meta = ([]); api_schemas = no_edits; clip_sets = no_edits; children = ([]); child_order = ([]); properties = ([]); property_order = ([]); variant_names = ([]) } })) ∷
        ((Prim (codes "c22") ∷ []), (record { arcs = record { inherits = no_edits; specializes = no_edits; references = (record { explicit = (Some ((record { asset = None; path = (Some (Prim (codes "c23") ∷ [])); offset = (record { offset = (pos 0); scale = (pos 1) }) }) ∷ [])); deleted = ([]); added = ([]); prepended = ([]); appended = ([]); ordered = ([]) }); payloads = no_edits; variant_sets = no_edits; selections = ([]) }; body = record { specifier = Def; type_name = None; meta = ([]); api_schemas = no_edits; clip_sets = no_edits; children = ([]); child_order = ([]); properties = ([]); property_order = ([]); variant_names = ([]) } })) ∷
        ((Prim (codes "c23") ∷ []), (record { arcs = record { inherits = no_edits; specializes = no_edits; references = (record { explicit = (Some ((record { asset = None; path = (Some (Prim (codes "c24") ∷ [])); offset = (record { offset = (pos 0); scale = (pos 1) }) }) ∷ [])); deleted = ([]); added = ([]); prepended = ([]); appended = ([]); ordered = ([]) }); payloads = no_edits; variant_sets = no_edits; selections = ([]) }; body = record { specifier = Def; type_name = None; meta = ([]); api_schemas = no_edits; clip_sets = no_edits; children = ([]); child_order = ([]); properties = ([]); property_order = ([]); variant_names = ([]) } })) ∷
        ((Prim (codes "c24") ∷ []), (record { arcs = record { inherits = no_edits; specializes = no_edits; references = (record { explicit = (Some ((record { asset = None; path = (Some (Prim (codes "c25") ∷ [])); offset = (record { offset = (pos 0); scale = (pos 1) }) }) ∷ [])); deleted = ([]); added = ([]); prepended = ([]); appended = ([]); ordered = ([]) }); payloads = no_edits; variant_sets = no_edits; selections = ([]) }; body = record { specifier = Def; type_name = None; meta = ([]); api_schemas = no_edits; clip_sets = no_edits; children = ([]); child_order = ([]); properties = ([]); property_order = ([]); variant_names = ([]) } })) ∷
        ((Prim (codes "c25") ∷ []), (record { arcs = record { inherits = no_edits; specializes = no_edits; references = (record { explicit = (Some ((record { asset = None; path = (Some (Prim (codes "c26") ∷ [])); offset = (record { offset = (pos 0); scale = (pos 1) }) }) ∷ [])); deleted = ([]); added = ([]); prepended = ([]); appended = ([]); ordered = ([]) }); payloads = no_edits; variant_sets = no_edits; selections = ([]) }; body = record { specifier = Def; type_name = None; meta = ([]); api_schemas = no_edits; clip_sets = no_edits; children = ([]); child_order = ([]); properties = ([]); property_order = ([]); variant_names = ([]) } })) ∷
        ((Prim (codes "c26") ∷ []), (record { arcs = record { inherits = no_edits; specializes = no_edits; references = (record { explicit = (Some ((record { asset = None; path = (Some (Prim (codes "c27") ∷ [])); offset = (record { offset = (pos 0); scale = (pos 1) }) }) ∷ [])); deleted = ([]); added = ([]); prepended = ([]); appended = ([]); ordered = ([]) }); payloads = no_edits; variant_sets = no_edits; selections = ([]) }; body = record { specifier = Def; type_name = None; meta = ([]); api_schemas = no_edits; clip_sets = no_edits; children = ([]); child_order = ([]); properties = ([]); property_order = ([]); variant_names = ([]) } })) ∷
        ((Prim (codes "c27") ∷ []), (record { arcs = record { inherits = no_edits; specializes = no_edits; references = (record { explicit = (Some ((record { asset = None; path = (Some (Prim (codes "c28") ∷ [])); offset = (record { offset = (pos 0); scale = (pos 1) }) }) ∷ [])); deleted = ([]); added = ([]); prepended = ([]); appended = ([]); ordered = ([]) }); payloads = no_edits; variant_sets = no_edits; selections = ([]) }; body = record { specifier = Def; type_name = None; meta = ([]); api_schemas = no_edits; clip_sets = no_edits; children = ([]); child_order = ([]); properties = ([]); property_order = ([]); variant_names = ([]) } })) ∷
        ((Prim (codes "c28") ∷ []), (record { arcs = record { inherits = no_edits; specializes = no_edits; references = (record { explicit = (Some ((record { asset = None; path = (Some (Prim (codes "c29") ∷ [])); offset = (record { offset = (pos 0); scale = (pos 1) }) }) ∷ [])); deleted = ([]); added = ([]); prepended = ([]); appended = ([]); ordered = ([]) }); payloads = no_edits; variant_sets = no_edits; selections = ([]) }; body = record { specifier = Def; type_name = None; meta = ([]); api_schemas = no_edits; clip_sets = no_edits; children = ([]); child_order = ([]); properties = ([]); property_order = ([]); variant_names = ([]) } })) ∷
        ((Prim (codes "c29") ∷ []), (record { arcs = record { inherits = no_edits; specializes = no_edits; references = (record { explicit = (Some ((record { asset = None; path = (Some (Prim (codes "c30") ∷ [])); offset = (record { offset = (pos 0); scale = (pos 1) }) }) ∷ [])); deleted = ([]); added = ([]); prepended = ([]); appended = ([]); ordered = ([]) }); payloads = no_edits; variant_sets = no_edits; selections = ([]) }; body = record { specifier = Def; type_name = None; meta = ([]); api_schemas = no_edits; clip_sets = no_edits; children = ([]); child_order = ([]); properties = ([]); property_order = ([]); variant_names = ([]) } })) ∷
        ((Prim (codes "c30") ∷ []), (record { arcs = record { inherits = no_edits; specializes = no_edits; references = (record { explicit = (Some ((record { asset = None; path = (Some (Prim (codes "c31") ∷ [])); offset = (record { offset = (pos 0); scale = (pos 1) }) }) ∷ [])); deleted = ([]); added = ([]); prepended = ([]); appended = ([]); ordered = ([]) }); payloads = no_edits; variant_sets = no_edits; selections = ([]) }; body = record { specifier = Def; type_name = None; meta = ([]); api_schemas = no_edits; clip_sets = no_edits; children = ([]); child_order = ([]); properties = ([]); property_order = ([]); variant_names = ([]) } })) ∷
        ((Prim (codes "c31") ∷ []), (record { arcs = record { inherits = no_edits; specializes = no_edits; references = (record { explicit = (Some ((record { asset = None; path = (Some (Prim (codes "c32") ∷ [])); offset = (record { offset = (pos 0); scale = (pos 1) }) }) ∷ [])); deleted = ([]); added = ([]); prepended = ([]); appended = ([]); ordered = ([]) }); payloads = no_edits; variant_sets = no_edits; selections = ([]) }; body = record { specifier = Def; type_name = None; meta = ([]); api_schemas = no_edits; clip_sets = no_edits; children = ([]); child_order = ([]); properties = ([]); property_order = ([]); variant_names = ([]) } })) ∷
        ((Prim (codes "c32") ∷ []), (record { arcs = record { inherits = no_edits; specializes = no_edits; references = (record { explicit = (Some ((record { asset = None; path = (Some (Prim (codes "c33") ∷ [])); offset = (record { offset = (pos 0); scale = (pos 1) }) }) ∷ [])); deleted = ([]); added = ([]); prepended = ([]); appended = ([]); ordered = ([]) }); payloads = no_edits; variant_sets = no_edits; selections = ([]) }; body = record { specifier = Def; type_name = None; meta = ([]); api_schemas = no_edits; clip_sets = no_edits; children = ([]); child_order = ([]); properties = ([]); property_order = ([]); variant_names = ([]) } })) ∷
        ((Prim (codes "c33") ∷ []), (record { arcs = record { inherits = no_edits; specializes = no_edits; references = (record { explicit = (Some ((record { asset = None; path = (Some (Prim (codes "c34") ∷ [])); offset = (record { offset = (pos 0); scale = (pos 1) }) }) ∷ [])); deleted = ([]); added = ([]); prepended = ([]); appended = ([]); ordered = ([]) }); payloads = no_edits; variant_sets = no_edits; selections = ([]) }; body = record { specifier = Def; type_name = None; meta = ([]); api_schemas = no_edits; clip_sets = no_edits; children = ([]); child_order = ([]); properties = ([]); property_order = ([]); variant_names = ([]) } })) ∷
        ((Prim (codes "c34") ∷ []), (record { arcs = record { inherits = no_edits; specializes = no_edits; references = (record { explicit = (Some ((record { asset = None; path = (Some (Prim (codes "c35") ∷ [])); offset = (record { offset = (pos 0); scale = (pos 1) }) }) ∷ [])); deleted = ([]); added = ([]); prepended = ([]); appended = ([]); ordered = ([]) }); payloads = no_edits; variant_sets = no_edits; selections = ([]) }; body = record { specifier = Def; type_name = None; meta = ([]); api_schemas = no_edits; clip_sets = no_edits; children = ([]); child_order = ([]); properties = ([]); property_order = ([]); variant_names = ([]) } })) ∷
        ((Prim (codes "c35") ∷ []), (record { arcs = record { inherits = no_edits; specializes = no_edits; references = (record { explicit = (Some ((record { asset = None; path = (Some (Prim (codes "c36") ∷ [])); offset = (record { offset = (pos 0); scale = (pos 1) }) }) ∷ [])); deleted = ([]); added = ([]); prepended = ([]); appended = ([]); ordered = ([]) }); payloads = no_edits; variant_sets = no_edits; selections = ([]) }; body = record { specifier = Def; type_name = None; meta = ([]); api_schemas = no_edits; clip_sets = no_edits; children = ([]); child_order = ([]); properties = ([]); property_order = ([]); variant_names = ([]) } })) ∷
        ((Prim (codes "c36") ∷ []), (record { arcs = record { inherits = no_edits; specializes = no_edits; references = (record { explicit = (Some ((record { asset = None; path = (Some (Prim (codes "c37") ∷ [])); offset = (record { offset = (pos 0); scale = (pos 1) }) }) ∷ [])); deleted = ([]); added = ([]); prepended = ([]); appended = ([]); ordered = ([]) }); payloads = no_edits; variant_sets = no_edits; selections = ([]) }; body = record { specifier = Def; type_name = None; meta = ([]); api_schemas = no_edits; clip_sets = no_edits; children = ([]); child_order = ([]); properties = ([]); property_order = ([]); variant_names = ([]) } })) ∷
        ((Prim (codes "c37") ∷ []), (record { arcs = record { inherits = no_edits; specializes = no_edits; references = (record { explicit = (Some ((record { asset = None; path = (Some (Prim (codes "c38") ∷ [])); offset = (record { offset = (pos 0); scale = (pos 1) }) }) ∷ [])); deleted = ([]); added = ([]); prepended = ([]); appended = ([]); ordered = ([]) }); payloads = no_edits; variant_sets = no_edits; selections = ([]) }; body = record { specifier = Def; type_name = None; meta = ([]); api_schemas = no_edits; clip_sets = no_edits; children = ([]); child_order = ([]); properties = ([]); property_order = ([]); variant_names = ([]) } })) ∷
        ((Prim (codes "c38") ∷ []), (record { arcs = record { inherits = no_edits; specializes = no_edits; references = (record { explicit = (Some ((record { asset = None; path = (Some (Prim (codes "c39") ∷ [])); offset = (record { offset = (pos 0); scale = (pos 1) }) }) ∷ [])); deleted = ([]); added = ([]); prepended = ([]); appended = ([]); ordered = ([]) }); payloads = no_edits; variant_sets = no_edits; selections = ([]) }; body = record { specifier = Def; type_name = None; meta = ([]); api_schemas = no_edits; clip_sets = no_edits; children = ([]); child_order = ([]); properties = ([]); property_order = ([]); variant_names = ([]) } })) ∷
        ((Prim (codes "c39") ∷ []), (record { arcs = record { inherits = no_edits; specializes = no_edits; references = (record { explicit = (Some ((record { asset = None; path = (Some (Prim (codes "c40") ∷ [])); offset = (record { offset = (pos 0); scale = (pos 1) }) }) ∷ [])); deleted = ([]); added = ([]); prepended = ([]); appended = ([]); ordered = ([]) }); payloads = no_edits; variant_sets = no_edits; selections = ([]) }; body = record { specifier = Def; type_name = None; meta = ([]); api_schemas = no_edits; clip_sets = no_edits; children = ([]); child_order = ([]); properties = ([]); property_order = ([]); variant_names = ([]) } })) ∷
        ((Prim (codes "c40") ∷ []), (record { arcs = record { inherits = no_edits; specializes = no_edits; references = (record { explicit = (Some ((record { asset = None; path = (Some (Prim (codes "c41") ∷ [])); offset = (record { offset = (pos 0); scale = (pos 1) }) }) ∷ [])); deleted = ([]); added = ([]); prepended = ([]); appended = ([]); ordered = ([]) }); payloads = no_edits; variant_sets = no_edits; selections = ([]) }; body = record { specifier = Def; type_name = None; meta = ([]); api_schemas = no_edits; clip_sets = no_edits; children = ([]); child_order = ([]); properties = ([]); property_order = ([]); variant_names = ([]) } })) ∷
        ((Prim (codes "c41") ∷ []), (record { arcs = record { inherits = no_edits; specializes = no_edits; references = (record { explicit = (Some ((record { asset = None; path = (Some (Prim (codes "c42") ∷ [])); offset = (record { offset = (pos 0); scale = (pos 1) }) }) ∷ [])); deleted = ([]); added = ([]); prepended = ([]); appended = ([]); ordered = ([]) }); payloads = no_edits; variant_sets = no_edits; selections = ([]) }; body = record { specifier = Def; type_name = None; meta = ([]); api_schemas = no_edits; clip_sets = no_edits; children = ([]); child_order = ([]); properties = ([]); property_order = ([]); variant_names = ([]) } })) ∷
        ((Prim (codes "c42") ∷ []), (record { arcs = record { inherits = no_edits; specializes = no_edits; references = (record { explicit = (Some ((record { asset = None; path = (Some (Prim (codes "c43") ∷ [])); offset = (record { offset = (pos 0); scale = (pos 1) }) }) ∷ [])); deleted = ([]); added = ([]); prepended = ([]); appended = ([]); ordered = ([]) }); payloads = no_edits; variant_sets = no_edits; selections = ([]) }; body = record { specifier = Def; type_name = None; meta = ([]); api_schemas = no_edits; clip_sets = no_edits; children = ([]); child_order = ([]); properties = ([]); property_order = ([]); variant_names = ([]) } })) ∷
        ((Prim (codes "c43") ∷ []), (record { arcs = record { inherits = no_edits; specializes = no_edits; references = (record { explicit = (Some ((record { asset = None; path = (Some (Prim (codes "c44") ∷ [])); offset = (record { offset = (pos 0); scale = (pos 1) }) }) ∷ [])); deleted = ([]); added = ([]); prepended = ([]); appended = ([]); ordered = ([]) }); payloads = no_edits; variant_sets = no_edits; selections = ([]) }; body = record { specifier = Def; type_name = None; meta = ([]); api_schemas = no_edits; clip_sets = no_edits; children = ([]); child_order = ([]); properties = ([]); property_order = ([]); variant_names = ([]) } })) ∷
        ((Prim (codes "c44") ∷ []), (record { arcs = record { inherits = no_edits; specializes = no_edits; references = (record { explicit = (Some ((record { asset = None; path = (Some (Prim (codes "c45") ∷ [])); offset = (record { offset = (pos 0); scale = (pos 1) }) }) ∷ [])); deleted = ([]); added = ([]); prepended = ([]); appended = ([]); ordered = ([]) }); payloads = no_edits; variant_sets = no_edits; selections = ([]) }; body = record { specifier = Def; type_name = None; meta = ([]); api_schemas = no_edits; clip_sets = no_edits; children = ([]); child_order = ([]); properties = ([]); property_order = ([]); variant_names = ([]) } })) ∷
        ((Prim (codes "c45") ∷ []), (record { arcs = record { inherits = no_edits; specializes = no_edits; references = (record { explicit = (Some ((record { asset = None; path = (Some (Prim (codes "c46") ∷ [])); offset = (record { offset = (pos 0); scale = (pos 1) }) }) ∷ [])); deleted = ([]); added = ([]); prepended = ([]); appended = ([]); ordered = ([]) }); payloads = no_edits; variant_sets = no_edits; selections = ([]) }; body = record { specifier = Def; type_name = None; meta = ([]); api_schemas = no_edits; clip_sets = no_edits; children = ([]); child_order = ([]); properties = ([]); property_order = ([]); variant_names = ([]) } })) ∷
        ((Prim (codes "c46") ∷ []), (record { arcs = record { inherits = no_edits; specializes = no_edits; references = (record { explicit = (Some ((record { asset = None; path = (Some (Prim (codes "c47") ∷ [])); offset = (record { offset = (pos 0); scale = (pos 1) }) }) ∷ [])); deleted = ([]); added = ([]); prepended = ([]); appended = ([]); ordered = ([]) }); payloads = no_edits; variant_sets = no_edits; selections = ([]) }; body = record { specifier = Def; type_name = None; meta = ([]); api_schemas = no_edits; clip_sets = no_edits; children = ([]); child_order = ([]); properties = ([]); property_order = ([]); variant_names = ([]) } })) ∷
        ((Prim (codes "c47") ∷ []), (record { arcs = record { inherits = no_edits; specializes = no_edits; references = (record { explicit = (Some ((record { asset = None; path = (Some (Prim (codes "c48") ∷ [])); offset = (record { offset = (pos 0); scale = (pos 1) }) }) ∷ [])); deleted = ([]); added = ([]); prepended = ([]); appended = ([]); ordered = ([]) }); payloads = no_edits; variant_sets = no_edits; selections = ([]) }; body = record { specifier = Def; type_name = None; meta = ([]); api_schemas = no_edits; clip_sets = no_edits; children = ([]); child_order = ([]); properties = ([]); property_order = ([]); variant_names = ([]) } })) ∷
        ((Prim (codes "c48") ∷ []), (record { arcs = record { inherits = no_edits; specializes = no_edits; references = (record { explicit = (Some ((record { asset = None; path = (Some (Prim (codes "c49") ∷ [])); offset = (record { offset = (pos 0); scale = (pos 1) }) }) ∷ [])); deleted = ([]); added = ([]); prepended = ([]); appended = ([]); ordered = ([]) }); payloads = no_edits; variant_sets = no_edits; selections = ([]) }; body = record { specifier = Def; type_name = None; meta = ([]); api_schemas = no_edits; clip_sets = no_edits; children = ([]); child_order = ([]); properties = ([]); property_order = ([]); variant_names = ([]) } })) ∷
        ((Prim (codes "c49") ∷ []), (record { arcs = record { inherits = no_edits; specializes = no_edits; references = (record { explicit = (Some ((record { asset = None; path = (Some (Prim (codes "c50") ∷ [])); offset = (record { offset = (pos 0); scale = (pos 1) }) }) ∷ [])); deleted = ([]); added = ([]); prepended = ([]); appended = ([]); ordered = ([]) }); payloads = no_edits; variant_sets = no_edits; selections = ([]) }; body = record { specifier = Def; type_name = None; meta = ([]); api_schemas = no_edits; clip_sets = no_edits; children = ([]); child_order = ([]); properties = ([]); property_order = ([]); variant_names = ([]) } })) ∷
        ((Prim (codes "c50") ∷ []), (record { arcs = record { inherits = no_edits; specializes = no_edits; references = (record { explicit = (Some ((record { asset = None; path = (Some (Prim (codes "c51") ∷ [])); offset = (record { offset = (pos 0); scale = (pos 1) }) }) ∷ [])); deleted = ([]); added = ([]); prepended = ([]); appended = ([]); ordered = ([]) }); payloads = no_edits; variant_sets = no_edits; selections = ([]) }; body = record { specifier = Def; type_name = None; meta = ([]); api_schemas = no_edits; clip_sets = no_edits; children = ([]); child_order = ([]); properties = ([]); property_order = ([]); variant_names = ([]) } })) ∷
        ((Prim (codes "c51") ∷ []), (record { arcs = record { inherits = no_edits; specializes = no_edits; references = (record { explicit = (Some ((record { asset = None; path = (Some (Prim (codes "c52") ∷ [])); offset = (record { offset = (pos 0); scale = (pos 1) }) }) ∷ [])); deleted = ([]); added = ([]); prepended = ([]); appended = ([]); ordered = ([]) }); payloads = no_edits; variant_sets = no_edits; selections = ([]) }; body = record { specifier = Def; type_name = None; meta = ([]); api_schemas = no_edits; clip_sets = no_edits; children = ([]); child_order = ([]); properties = ([]); property_order = ([]); variant_names = ([]) } })) ∷
        ((Prim (codes "c52") ∷ []), (record { arcs = record { inherits = no_edits; specializes = no_edits; references = (record { explicit = (Some ((record { asset = None; path = (Some (Prim (codes "c53") ∷ [])); offset = (record { offset = (pos 0); scale = (pos 1) }) }) ∷ [])); deleted = ([]); added = ([]); prepended = ([]); appended = ([]); ordered = ([]) }); payloads = no_edits; variant_sets = no_edits; selections = ([]) }; body = record { specifier = Def; type_name = None; meta = ([]); api_schemas = no_edits; clip_sets = no_edits; children = ([]); child_order = ([]); properties = ([]); property_order = ([]); variant_names = ([]) } })) ∷
        ((Prim (codes "c53") ∷ []), (record { arcs = record { inherits = no_edits; specializes = no_edits; references = (record { explicit = (Some ((record { asset = None; path = (Some (Prim (codes "c54") ∷ [])); offset = (record { offset = (pos 0); scale = (pos 1) }) }) ∷ [])); deleted = ([]); added = ([]); prepended = ([]); appended = ([]); ordered = ([]) }); payloads = no_edits; variant_sets = no_edits; selections = ([]) }; body = record { specifier = Def; type_name = None; meta = ([]); api_schemas = no_edits; clip_sets = no_edits; children = ([]); child_order = ([]); properties = ([]); property_order = ([]); variant_names = ([]) } })) ∷
        ((Prim (codes "c54") ∷ []), (record { arcs = record { inherits = no_edits; specializes = no_edits; references = (record { explicit = (Some ((record { asset = None; path = (Some (Prim (codes "c55") ∷ [])); offset = (record { offset = (pos 0); scale = (pos 1) }) }) ∷ [])); deleted = ([]); added = ([]); prepended = ([]); appended = ([]); ordered = ([]) }); payloads = no_edits; variant_sets = no_edits; selections = ([]) }; body = record { specifier = Def; type_name = None; meta = ([]); api_schemas = no_edits; clip_sets = no_edits; children = ([]); child_order = ([]); properties = ([]); property_order = ([]); variant_names = ([]) } })) ∷
        ((Prim (codes "c55") ∷ []), (record { arcs = record { inherits = no_edits; specializes = no_edits; references = (record { explicit = (Some ((record { asset = None; path = (Some (Prim (codes "c56") ∷ [])); offset = (record { offset = (pos 0); scale = (pos 1) }) }) ∷ [])); deleted = ([]); added = ([]); prepended = ([]); appended = ([]); ordered = ([]) }); payloads = no_edits; variant_sets = no_edits; selections = ([]) }; body = record { specifier = Def; type_name = None; meta = ([]); api_schemas = no_edits; clip_sets = no_edits; children = ([]); child_order = ([]); properties = ([]); property_order = ([]); variant_names = ([]) } })) ∷
        ((Prim (codes "c56") ∷ []), (record { arcs = record { inherits = no_edits; specializes = no_edits; references = (record { explicit = (Some ((record { asset = None; path = (Some (Prim (codes "c57") ∷ [])); offset = (record { offset = (pos 0); scale = (pos 1) }) }) ∷ [])); deleted = ([]); added = ([]); prepended = ([]); appended = ([]); ordered = ([]) }); payloads = no_edits; variant_sets = no_edits; selections = ([]) }; body = record { specifier = Def; type_name = None; meta = ([]); api_schemas = no_edits; clip_sets = no_edits; children = ([]); child_order = ([]); properties = ([]); property_order = ([]); variant_names = ([]) } })) ∷
        ((Prim (codes "c57") ∷ []), (record { arcs = record { inherits = no_edits; specializes = no_edits; references = (record { explicit = (Some ((record { asset = None; path = (Some (Prim (codes "c58") ∷ [])); offset = (record { offset = (pos 0); scale = (pos 1) }) }) ∷ [])); deleted = ([]); added = ([]); prepended = ([]); appended = ([]); ordered = ([]) }); payloads = no_edits; variant_sets = no_edits; selections = ([]) }; body = record { specifier = Def; type_name = None; meta = ([]); api_schemas = no_edits; clip_sets = no_edits; children = ([]); child_order = ([]); properties = ([]); property_order = ([]); variant_names = ([]) } })) ∷
        ((Prim (codes "c58") ∷ []), (record { arcs = record { inherits = no_edits; specializes = no_edits; references = (record { explicit = (Some ((record { asset = None; path = (Some (Prim (codes "c59") ∷ [])); offset = (record { offset = (pos 0); scale = (pos 1) }) }) ∷ [])); deleted = ([]); added = ([]); prepended = ([]); appended = ([]); ordered = ([]) }); payloads = no_edits; variant_sets = no_edits; selections = ([]) }; body = record { specifier = Def; type_name = None; meta = ([]); api_schemas = no_edits; clip_sets = no_edits; children = ([]); child_order = ([]); properties = ([]); property_order = ([]); variant_names = ([]) } })) ∷
        ((Prim (codes "c59") ∷ []), (record { arcs = record { inherits = no_edits; specializes = no_edits; references = (record { explicit = (Some ((record { asset = None; path = (Some (Prim (codes "c60") ∷ [])); offset = (record { offset = (pos 0); scale = (pos 1) }) }) ∷ [])); deleted = ([]); added = ([]); prepended = ([]); appended = ([]); ordered = ([]) }); payloads = no_edits; variant_sets = no_edits; selections = ([]) }; body = record { specifier = Def; type_name = None; meta = ([]); api_schemas = no_edits; clip_sets = no_edits; children = ([]); child_order = ([]); properties = ([]); property_order = ([]); variant_names = ([]) } })) ∷
        ((Prim (codes "c60") ∷ []), (record { arcs = record { inherits = no_edits; specializes = no_edits; references = (record { explicit = (Some ((record { asset = None; path = (Some (Prim (codes "c61") ∷ [])); offset = (record { offset = (pos 0); scale = (pos 1) }) }) ∷ [])); deleted = ([]); added = ([]); prepended = ([]); appended = ([]); ordered = ([]) }); payloads = no_edits; variant_sets = no_edits; selections = ([]) }; body = record { specifier = Def; type_name = None; meta = ([]); api_schemas = no_edits; clip_sets = no_edits; children = ([]); child_order = ([]); properties = ([]); property_order = ([]); variant_names = ([]) } })) ∷
        ((Prim (codes "c61") ∷ []), (record { arcs = record { inherits = no_edits; specializes = no_edits; references = (record { explicit = (Some ((record { asset = None; path = (Some (Prim (codes "c62") ∷ [])); offset = (record { offset = (pos 0); scale = (pos 1) }) }) ∷ [])); deleted = ([]); added = ([]); prepended = ([]); appended = ([]); ordered = ([]) }); payloads = no_edits; variant_sets = no_edits; selections = ([]) }; body = record { specifier = Def; type_name = None; meta = ([]); api_schemas = no_edits; clip_sets = no_edits; children = ([]); child_order = ([]); properties = ([]); property_order = ([]); variant_names = ([]) } })) ∷
        ((Prim (codes "c62") ∷ []), (record { arcs = record { inherits = no_edits; specializes = no_edits; references = (record { explicit = (Some ((record { asset = None; path = (Some (Prim (codes "c63") ∷ [])); offset = (record { offset = (pos 0); scale = (pos 1) }) }) ∷ [])); deleted = ([]); added = ([]); prepended = ([]); appended = ([]); ordered = ([]) }); payloads = no_edits; variant_sets = no_edits; selections = ([]) }; body = record { specifier = Def; type_name = None; meta = ([]); api_schemas = no_edits; clip_sets = no_edits; children = ([]); child_order = ([]); properties = ([]); property_order = ([]); variant_names = ([]) } })) ∷
        ((Prim (codes "c63") ∷ []), (record { arcs = record { inherits = no_edits; specializes = no_edits; references = (record { explicit = (Some ((record { asset = None; path = (Some (Prim (codes "c64") ∷ [])); offset = (record { offset = (pos 0); scale = (pos 1) }) }) ∷ [])); deleted = ([]); added = ([]); prepended = ([]); appended = ([]); ordered = ([]) }); payloads = no_edits; variant_sets = no_edits; selections = ([]) }; body = record { specifier = Def; type_name = None; meta = ([]); api_schemas = no_edits; clip_sets = no_edits; children = ([]); child_order = ([]); properties = ([]); property_order = ([]); variant_names = ([]) } })) ∷
        ((Prim (codes "c64") ∷ []), (record { arcs = record { inherits = no_edits; specializes = no_edits; references = no_edits; payloads = no_edits; variant_sets = no_edits; selections = ([]) }; body = record { specifier = Def; type_name = None; meta = ([]); api_schemas = no_edits; clip_sets = no_edits; children = ([]); child_order = ([]); properties = ([]); property_order = ([]); variant_names = ([]) } })) ∷ []);
  }),
) ∷
    [])
