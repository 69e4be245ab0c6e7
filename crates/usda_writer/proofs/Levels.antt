-- The statements of a prim, level by level.
use Rattle.std.proofs.Common.{◌≡◌, ℕ, zero, suc, ◌-◌, List, [], refl, ap, arith}
use Rattle.sdf_paths.specs.declared.element.Element.{Element}
use Rattle.sdf_specs.specs.Layers.{SpecEntries}
use Rattle.spec_parts.specs.declared.spec.Spec.{Spec}
use Rattle.usda_writer.specs.Canonical.{body_text, statements}

pub no_level : (specs : SpecEntries) (levels level : ℕ) (path : List Element) (spec : Spec) → levels ≡ 0 → body_text specs levels level path spec ≡ []
unfolding body_text
no_level specs zero level path spec is = refl
no_level specs (suc n) level path spec is = absurd (omega (arith, is))

pub one_level : (specs : SpecEntries) (levels level : ℕ) (path : List Element) (spec : Spec) → (levels ≡ 0 → ⊥)
    → body_text specs levels level path spec ≡ statements specs (body_text specs (levels - 1)) level path spec
unfolding body_text
one_level specs zero level path spec some = absurd (some refl)
one_level specs (suc n) level path spec some =
    let below : n ≡ suc n - 1 = omega arith in ap (λ (m : ℕ). statements specs (body_text specs m) level path spec) below
