use Rattle.std.proofs.Common.{◌∙◌, ap, sym, inl, inr}
use Rattle.std.specs.Option.{is_some}
use Rattle.sdf_specs.specs.Layers.{SpecEntries, spec_at}
use Rattle.sdf_specs.proofs.Standing.{next_path}
use Rattle.sdf_specs.proofs.below.stand_at_paths.Goals as goal

pub loop-path-preserved : goal.loop-path-preserved
loop-path-preserved c = λ p h. elim (c.loop-path.invariant p h) [
  | inl is ↦ inl is
  | inr left ↦ next_path c.in-Some.path.now c.in-Some._spec.now c.next.new.self c.elements-elements.ensures.path p
      (ap (λ (es : SpecEntries). is_some (spec_at p es)) (sym c.in-Some.ensures.steps) ∙ left)
]
