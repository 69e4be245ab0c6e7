use Rattle.std.proofs.Common.{ℕ, ◌≡◌, ◌++◌, List, length, take, refl, arith, subst}
use Rattle.sdf_values.specs.NumberTexts.{is_number}
use Rattle.sdf_values.specs.Places.{accepts}
use Rattle.sdf_values.proofs.Texts.{fails, ends_soon}
use Rattle.sdf_values.proofs.parse.first_fault.Goals as goal

pub returns-in-None : goal.returns-in-None
returns-in-None c = fails c.args.text.now c.loop-at.at c.loop-at.place _ c.loop-at-test.true refl c.loop-at.invariant (λ rest. c.in-None.ensures rest)

pub returns-else-may_end : goal.returns-else-may_end
returns-else-may_end c =
    let end : c.loop-at.at ≡ length c.args.text.now = omega arith in
    ends_soon c.args.text.now c.loop-at.place
    (subst (λ (n : ℕ). (rest : List ℕ) → is_number (take n c.args.text.now ++ rest) ≡ accepts c.loop-at.place rest) end c.loop-at.invariant)
    (cc)
