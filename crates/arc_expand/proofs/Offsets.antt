-- Offsets that are composed fit two signed words.
use Rattle.std.proofs.Common.{◌≡◌, ◌∙◌, ap, ◌≤◌, ◌*◌, arith, to_z, of_z, w64}
use Rattle.std.specs.Prelude.{ℤ, pos, ◌+ℤ◌, ◌*ℤ◌, ◌≤ℤ◌, unsigned_abs}
use Rattle.std.proofs.Math.Nat.{mul-le-mul}
use Rattle.std.proofs.lemmas.Int.{ints, unsigned_abs-mul}

small : (a : ℤ) → unsigned_abs a ≤ 1000000000000000 → to_z w64 (of_z w64 a) ≡ a
small a h = omega (arith, ints)

sum : (a b : ℤ) → unsigned_abs a ≤ 1000000000000000 → unsigned_abs b ≤ 1000000000 → to_z w64 (of_z w64 (a +ℤ b)) ≡ a +ℤ b
sum a b h k = omega (arith, ints)

product : (a b : ℤ) → unsigned_abs a ≤ 1000000000 → unsigned_abs b ≤ 1000000 → unsigned_abs (a *ℤ b) ≤ 1000000000000000
product a b h k =
    let most : unsigned_abs a * unsigned_abs b ≤ 1000000000 * 1000000 = mul-le-mul h k in
    let same : unsigned_abs (a *ℤ b) ≡ unsigned_abs a * unsigned_abs b = unsigned_abs-mul a b in
    omega (arith, most, same)

pub scaled : (a b : ℤ) → unsigned_abs a ≤ 1000000000 → unsigned_abs b ≤ 1000000 → to_z w64 (of_z w64 (to_z w64 (of_z w64 a) *ℤ to_z w64 (of_z w64 b))) ≡ a *ℤ b
scaled a b h k =
    let first : to_z w64 (of_z w64 a) ≡ a = small a (omega (arith, h)) in
    let second : to_z w64 (of_z w64 b) ≡ b = small b (omega (arith, k)) in
    ap (λ (x : ℤ). to_z w64 (of_z w64 (x *ℤ to_z w64 (of_z w64 b)))) first
    ∙ (ap (λ (x : ℤ). to_z w64 (of_z w64 (a *ℤ x))) second ∙ small (a *ℤ b) (product a b h k))

pub shifted : (a b c : ℤ) → unsigned_abs a ≤ 1000000000 → unsigned_abs b ≤ 1000000 → unsigned_abs c ≤ 1000000000
    → to_z w64 (of_z w64 (to_z w64 (of_z w64 (to_z w64 (of_z w64 a) *ℤ to_z w64 (of_z w64 b))) +ℤ to_z w64 (of_z w64 c))) ≡ (a *ℤ b) +ℤ c
shifted a b c h k m =
    let last : to_z w64 (of_z w64 c) ≡ c = small c (omega (arith, m)) in
    ap (λ (x : ℤ). to_z w64 (of_z w64 (x +ℤ to_z w64 (of_z w64 c)))) (scaled a b h k)
    ∙ (ap (λ (x : ℤ). to_z w64 (of_z w64 ((a *ℤ b) +ℤ x))) last ∙ sum (a *ℤ b) c (product a b h k) m)

pub least : (s : ℤ) → pos 1 ≤ℤ s → s ≤ℤ pos 1000000 → unsigned_abs s ≤ 1000000
least s h k = omega (arith, ints)
