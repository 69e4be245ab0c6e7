use Rattle.std.proofs.Common.{◌≡◌, ◌∙◌, ◌<◌, ◌+◌, ℕ, List, drop, arith, subst, ap, inl, inr}
use Rattle.std.proofs.lemmas.Bool.{cases_lt}
use Rattle.usda_lexer.specs.Forms.{EndsIn}
use Rattle.usda_lexer.proofs.Cuts.{ends_behind}
use Rattle.usda_lexer.proofs.forms.number_len.Goals as goal

ends_all : (bytes : List ℕ) (s m x : ℕ) → EndsIn 0 (drop s bytes) m → (0 < x → EndsIn 0 (drop m (drop s bytes)) x) → EndsIn 0 bytes (s + m + x)
ends_all bytes s m x mantissa exponent =
    elim (cases_lt 0 x) [
      | inl some ↦ subst (λ (n : ℕ). EndsIn 0 bytes n) (let e : s + (m + x) ≡ s + m + x = omega arith in e)
          (ends_behind bytes s (m + x) (ends_behind (drop s bytes) m x (exponent some)))
      | inr none ↦ subst (λ (n : ℕ). EndsIn 0 bytes n) (let e : s + m ≡ s + m + x = omega arith in e) (ends_behind bytes s m mantissa)
    ]

pub returns-clause-ends : goal.returns-clause-ends
returns-clause-ends c some =
    let s : ℕ = c.sign_len-sign.result in
    let m : ℕ = c.mantissa_len-mantissa.result in
    let x : ℕ = c.exponent_len.result in
    let rest : c.split_at.result.1.now ≡ drop s c.args.bytes.now = c.split_at.ensures.back in
    let behind : c.split_at-2.result.1.now ≡ drop m (drop s c.args.bytes.now) = c.split_at-2.ensures.back ∙ ap (drop m) rest in
    ends_all c.args.bytes.now s m x (subst (λ (t : List ℕ). EndsIn 0 t m) rest (c.mantissa_len-mantissa.ensures.ends (omega (arith, c.if-mantissa-eq0.false))))
    (λ h. subst (λ (t : List ℕ). EndsIn 0 t x) behind (c.exponent_len.ensures.ends h))
