-- Specs that are found by their paths.
use Rattle.std.specs.Prelude.{◌≡◌, true, List, [], ◌∷◌, ◌++◌, Option, Some, None, is_some}
use Rattle.sdf_paths.specs.Paths.{IsPath}
use Rattle.sdf_paths.specs.declared.element.Element.{Element}
use Rattle.sdf_specs.specs.Layers.{SpecEntries, spec_at}
use Rattle.spec_parts.specs.declared.spec.Spec.{Spec}

-- the spec of a prim or a variant below a path
abbrev pub spec_below : SpecEntries → List Element → Element → Option Spec
spec_below specs path e = spec_at (path ++ e ∷ []) specs

-- a spec that was found at a path
abbrev pub IsAt : Option (List Element × Spec) → List Element → Option Spec → Type 0
IsAt None path there = there ≡ None
IsAt (Some f) path there = (f.0 ≡ path) × (there ≡ Some f.1)

-- a spec that was found below a path, with its own path
abbrev pub IsFound : Option (List Element × Spec) → List Element → Element → Option Spec → Type 0
IsFound None path e there = there ≡ None
IsFound (Some f) path e there = (f.0 ≡ path ++ e ∷ []) × (there ≡ Some f.1)

-- each spec stands at a path
abbrev pub StandAtPaths : SpecEntries → Type 0
StandAtPaths specs = (path : List Element) → is_some (spec_at path specs) ≡ true → IsPath path
