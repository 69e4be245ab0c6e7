-- The assets within a prim, level by level.
use Rattle.std.proofs.Common.{◌≡◌, ℕ, zero, suc, ◌-◌, List, [], refl, ap, arith}
use Rattle.sdf_paths.specs.declared.element.Element.{Element}
use Rattle.sdf_specs.specs.Layers.{SpecEntries}
use Rattle.spec_parts.specs.declared.spec.Spec.{Spec}
use Rattle.layer_load.specs.Assets.{assets_between, assets_within}

pub no_level : (specs : SpecEntries) (levels : ℕ) (path : List Element) (spec : Spec) → levels ≡ 0 → assets_within specs levels path spec ≡ []
unfolding assets_within
no_level specs zero path spec is = refl
no_level specs (suc n) path spec is = absurd (omega (arith, is))

pub one_level : (specs : SpecEntries) (levels : ℕ) (path : List Element) (spec : Spec) → (levels ≡ 0 → ⊥)
    → assets_within specs levels path spec ≡ assets_between specs (assets_within specs (levels - 1)) path spec
unfolding assets_within
one_level specs zero path spec some = absurd (some refl)
one_level specs (suc n) path spec some = let below : n ≡ suc n - 1 = omega arith in ap (λ (m : ℕ). assets_between specs (assets_within specs m) path spec) below
