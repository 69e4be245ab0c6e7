-- A step that takes ten out.
use Rattle.std.proofs.Common.{◌≡◌, ◌∙◌, ℕ, zero, suc, ◌+◌, ◌-◌, ◌/◌, ◌%◌, ◌<◌, true, false, Some, ap, arith, eq-eqb}
use Rattle.usda_values.specs.Scalars.{stripped}

pub stripped_step : (k n t : ℕ) → 0 < k → n % 10 ≡ 0 → stripped k n t ≡ stripped (k - 1) (n / 10) (t + 1)
stripped_step zero n t some e = absurd (omega (arith, some))
stripped_step (suc k) n t some e =
    ap (λ b. elim b [ true ↦ stripped k (n / 10) (t + 1) | false ↦ Some (n, t) ]) (eq-eqb (n % 10) 0 e)
    ∙ ap (λ j. stripped j (n / 10) (t + 1)) (let f : k ≡ suc k - 1 = omega arith in f)
