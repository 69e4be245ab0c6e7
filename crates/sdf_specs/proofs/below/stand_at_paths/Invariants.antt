use Rattle.std.proofs.Common.{◌≡◌, ◌⊎◌, true, List}
use Rattle.std.specs.Option.{is_some}
use Rattle.sdf_paths.specs.Paths.{IsPath}
use Rattle.sdf_paths.specs.declared.element.Element.{Element}
use Rattle.sdf_specs.specs.Layers.{spec_at}
use Rattle.sdf_specs.proofs.below.stand_at_paths.Given as goal

-- a spec stands at a path, or among those that are left
abbrev pub invariant-loop-path : goal.invariant-loop-path
invariant-loop-path l = (p : List Element) → is_some (spec_at p l.layer.specs) ≡ true → IsPath p ⊎ (is_some (spec_at p l.path-iterator) ≡ true)
