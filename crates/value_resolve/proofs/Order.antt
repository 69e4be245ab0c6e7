-- Times keep their order through an offset.
use Rattle.std.proofs.Common.{◌≡◌, sym, ℕ, zero, suc, ◌+◌, ◌*◌, ◌<◌, ◌≤◌, arith}
use Rattle.std.specs.Prelude.{ℤ, pos, negsuc, ◌+ℤ◌, ◌*ℤ◌, ◌≤ℤ◌, ◌<ℤ◌, neg_ℤ}
use Rattle.std.proofs.lemmas.Int.{ints}
use Rattle.std.proofs.Math.Nat.{mul-le-mul_left}
use Rattle.std.specs.Ordering.{int_cmp}
use Rattle.std.specs.Cmp.{int_cmp_is}
use Rattle.std.proofs.lemmas.Cmp.{int_ranked}
use Rattle.std.specs.declared.cmp.Ordering.TheVariants.{Less, Greater}

more_times : (k a b : ℕ) → a < b → a * suc k < b * suc k
more_times k a b h = omega (arith, mul-le-mul_left (suc k) (let l : a + 1 ≤ b = omega arith in l))

some_product : (k a : ℕ) → 0 < suc a * suc k
some_product k a = let l : 0 * suc k < suc a * suc k = more_times k 0 (suc a) (omega arith) in omega (arith, l)

below_some : (m n : ℕ) → 0 < n → neg_ℤ (pos n) <ℤ pos m
below_some m zero h = absurd (omega (arith, h))
below_some m (suc n) h = omega (arith, ints)

neg_less : (m n : ℕ) → m < n → neg_ℤ (pos n) <ℤ neg_ℤ (pos m)
neg_less m zero h = absurd (omega (arith, h))
neg_less zero (suc n) h = omega (arith, ints)
neg_less (suc m) (suc n) h = omega (arith, ints)

times_less : (k : ℕ) (x y : ℤ) → x <ℤ y → (x *ℤ pos (suc k)) <ℤ (y *ℤ pos (suc k))
times_less k (pos a) (pos b) h = let l : a < b = omega (arith, ints) in let m = more_times k a b l in omega (arith, ints)
times_less k (pos a) (negsuc b) h = absurd (omega (arith, ints))
times_less k (negsuc a) (pos b) h = below_some (b * suc k) (suc a * suc k) (some_product k a)
times_less k (negsuc a) (negsuc b) h = let l : suc b < suc a = omega (arith, ints) in neg_less (suc b * suc k) (suc a * suc k) (more_times k (suc b) (suc a) l)

shifted : (x y t : ℤ) → x <ℤ y → (x +ℤ t) <ℤ (y +ℤ t)
shifted x y t h = omega (arith, ints)

mapped_less : (s : ℤ) → pos 1 ≤ℤ s → (t x y : ℤ) → x <ℤ y → ((x *ℤ s) +ℤ t) <ℤ ((y *ℤ s) +ℤ t)
mapped_less (pos zero) h t x y l = absurd (omega (arith, ints))
mapped_less (pos (suc k)) h t x y l = shifted (x *ℤ pos (suc k)) (y *ℤ pos (suc k)) t (times_less k x y l)
mapped_less (negsuc n) h t x y l = absurd (omega (arith, ints))

pub mapped_greater : (s : ℤ) → pos 1 ≤ℤ s → (t x y : ℤ) → int_cmp x y ≡ Less → int_cmp ((y *ℤ s) +ℤ t) ((x *ℤ s) +ℤ t) ≡ Greater
mapped_greater s h t x y l = sym (int_cmp_is ((y *ℤ s) +ℤ t) ((x *ℤ s) +ℤ t) Greater (mapped_less s h t x y (int_ranked x y Less (sym l))))
