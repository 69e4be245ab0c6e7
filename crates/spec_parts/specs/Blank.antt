-- Heads and specs that say nothing.
use Rattle.std.specs.Prelude.{[], None}
pub use Rattle.list_ops.specs.Blank.{no_edits}
use Rattle.spec_parts.specs.declared.items.Specifier.{Specifier}
use Rattle.spec_parts.specs.declared.spec.Head.{Head}
use Rattle.spec_parts.specs.declared.spec.ArcPart.{ArcPart}
use Rattle.spec_parts.specs.declared.spec.BodyPart.{BodyPart}
use Rattle.spec_parts.specs.declared.spec.Spec.{Spec}

-- no sublayers, no default prim, no metadata and no root prims
abbrev pub blank_head : Head
blank_head = record { sublayers = []; default_prim = None; meta = []; root_names = []; root_order = [] }

-- no arcs, no variant sets and no selected variants
abbrev pub blank_arcs : ArcPart
blank_arcs = record { inherits = no_edits; specializes = no_edits; references = no_edits; payloads = no_edits; variant_sets = no_edits; selections = [] }

-- a specifier, and nothing below or besides it
abbrev pub blank_body : Specifier → BodyPart
blank_body specifier = record {
  specifier = specifier;
  type_name = None;
  meta = [];
  api_schemas = no_edits;
  clip_sets = no_edits;
  children = [];
  child_order = [];
  properties = [];
  property_order = [];
  variant_names = [];
}

-- a prim or a variant that says its specifier alone
abbrev pub blank_spec : Specifier → Spec
blank_spec specifier = record { arcs = blank_arcs; body = blank_body specifier }
