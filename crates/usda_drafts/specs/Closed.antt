-- The specs of the prims and variants that are closed.
use Rattle.std.specs.Prelude.{Bool, List, is_some}
use Rattle.sdf_paths.specs.declared.element.Element.{Element}
use Rattle.sdf_specs.specs.Layers.{SpecEntries, spec_at, with_spec}
use Rattle.spec_parts.specs.declared.spec.Spec.{Spec}
use Rattle.usda_drafts.specs.declared.owner.Owner.{Owner}
use Rattle.usda_drafts.specs.Owners.{spec_of}

-- a spec stands at the path
unfoldable pub is_closed : List Element → SpecEntries → Bool
is_closed path specs = is_some (spec_at path specs)

-- with the spec of a prim or a variant at its path
unfoldable pub with_spec_at : List Element → Spec → SpecEntries → SpecEntries
with_spec_at path spec specs = with_spec path spec specs

-- the specs with that of an owner that is over
abbrev pub with_closed : Owner → SpecEntries → SpecEntries
with_closed o specs = with_spec_at o.said.path (spec_of o) specs
