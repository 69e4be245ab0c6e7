-- Numbers and the tens that divide them, as they are printed.
use Rattle.std.proofs.Common.{◌≡◌, ◌≢◌, ◌∙◌, ℕ, zero, suc, ◌+◌, ◌-◌, ◌*◌, ◌/◌, ◌%◌, ◌^◌, ◌<◌, ◌≤◌, ◌==◌, nat_le, Bool, true, false, List, [], ◌∷◌, ◌++◌, append_assoc, append-nil, replicate, ap, sym, refl, subst, arith, eqb-true}
use Rattle.std.specs.Prelude.{if◌then◌else◌}
use Rattle.std.specs.Fmt.{decimal}
use Rattle.std.proofs.lemmas.Fmt.{decimal_step_wide}
use Rattle.std.proofs.lemmas.List.{replicate-append-replicate}
use Rattle.std.proofs.lemmas.Nat.{mod-mul-add}
use Rattle.std.proofs.lemmas.Bool.Decides.{nat_tests}
use Rattle.std.proofs.Math.Nat.{mul_assoc, mul-mod_left, mul-div_left, mul-div-mul_right, mul-lt-mul_of_pos_right, mod-lt, div-add-mod'}
use Rattle.std.proofs.Math.Pow.{pow-add}
use Rattle.sdf_values.specs.Print.{fraction_digits, fraction_text, point_text, whole_scaled}
use Rattle.sdf_values.proofs.Powers.{ten_some, ten_suc, some_product}
use Rattle.sdf_values.proofs.Fractions.{no_fraction, next_digit, not_zero, rest_below}

-- zeros at the end of a number
pub decimal_zeros : (m e : ℕ) → 0 < m → m * 10 ^ e < 10 ^ 64 → decimal (m * 10 ^ e) ≡ decimal m ++ replicate e 48
decimal_zeros m zero h low = ap decimal (let e : m * 10 ^ 0 ≡ m = omega arith in e) ∙ sym (append-nil (decimal m))
decimal_zeros m (suc e) h low =
    let k : ℕ = m * 10 ^ e in
    let some : 0 < k = some_product m (10 ^ e) h (ten_some e) in
    let is : m * 10 ^ suc e ≡ k * 10 = ap (λ t. m * t) (ten_suc e) ∙ sym (mul_assoc m (10 ^ e) 10) in
    ap decimal is ∙ decimal_step_wide (k * 10) (omega (arith, some)) (subst (λ n. n < 10 ^ 64) is low)
    ∙ ap (λ n. decimal n ++ (48 + k * 10 % 10) ∷ []) (mul-div_left k (let t : 0 < 10 = omega arith in t)) ∙ ap (λ n. decimal k ++ (48 + n) ∷ []) (mul-mod_left k 10)
    ∙ ap (λ l. l ++ 48 ∷ []) (decimal_zeros m e h (omega (arith, low, is, some)))
    ∙ append_assoc (decimal m) (replicate e 48) (48 ∷ []) ∙ ap (λ l. decimal m ++ l) (replicate-append-replicate e 1 48 ∙ ap (λ n. replicate n 48) (let t : e + 1 ≡ suc e = omega arith in t))

-- the rest of a division is as many times larger as both numbers are
scaled_rest : (x y t : ℕ) → 0 < y → 0 < t → (x * t) % (y * t) ≡ (x % y) * t
scaled_rest x y t some_y some_t =
    let parts : x * t ≡ x / y * (y * t) + x % y * t = (let s : x ≡ x / y * y + x % y = sym (div-add-mod' x y) in ap (λ k. k * t) s ∙ (let r : (x / y * y + x % y) * t ≡ x / y * (y * t) + x % y * t = grind arith in r)) in
    ap (λ k. k % (y * t)) parts ∙ mod-mul-add (x / y) (y * t) (x % y * t) (mul-lt-mul_of_pos_right (mod-lt x some_y) some_t)

-- a rest with zeros at its end has the digits of the one without them
fraction_zeros : (k z f : ℕ) → f < 10 ^ k → fraction_digits (k + z) (f * 10 ^ z) ≡ fraction_digits k f
fraction_zeros zero z f low =
    let none : f ≡ 0 = omega (arith, low) in
    ap (λ n. fraction_digits (0 + z) (n * 10 ^ z)) none ∙ ap (fraction_digits (0 + z)) (let t : 0 * 10 ^ z ≡ 0 = omega arith in t) ∙ no_fraction (0 + z) ∙ sym (no_fraction 0)
    ∙ ap (fraction_digits 0) (sym none)
fraction_zeros (suc k) z f low = cases (f == 0) refl (λ less. fraction_zeros k z (f % 10 ^ k) less)
  where
    cases : (b : Bool) → (f == 0) ≡ b → (f % 10 ^ k < 10 ^ k → fraction_digits (k + z) (f % 10 ^ k * 10 ^ z) ≡ fraction_digits k (f % 10 ^ k))
        → fraction_digits (suc k + z) (f * 10 ^ z) ≡ fraction_digits (suc k) f
    cases true e below =
        let none : f ≡ 0 = eqb-true f 0 e in
        ap (λ n. fraction_digits (suc k + z) (n * 10 ^ z)) none ∙ ap (fraction_digits (suc k + z)) (let t : 0 * 10 ^ z ≡ 0 = omega arith in t) ∙ no_fraction (suc k + z)
        ∙ sym (no_fraction (suc k)) ∙ ap (fraction_digits (suc k)) (sym none)
    cases false e below =
        let some : 0 < f = grind (arith, nat_tests) in
        let more : 0 < f * 10 ^ z = some_product f (10 ^ z) some (ten_some z) in
        let unit : 10 ^ (k + z) ≡ 10 ^ k * 10 ^ z = pow-add 10 k z in
        ap (λ n. fraction_digits n (f * 10 ^ z)) (let t : suc k + z ≡ suc (k + z) = omega arith in t) ∙ next_digit (k + z) (f * 10 ^ z) (not_zero (f * 10 ^ z) more)
        ∙ ap (λ u. (48 + f * 10 ^ z / u) ∷ fraction_digits (k + z) (f * 10 ^ z % u)) unit
        ∙ ap (λ d. (48 + d) ∷ fraction_digits (k + z) (f * 10 ^ z % (10 ^ k * 10 ^ z))) (mul-div-mul_right f (10 ^ k) (ten_some z))
        ∙ ap (λ r. (48 + f / 10 ^ k) ∷ fraction_digits (k + z) r) (scaled_rest f (10 ^ k) (10 ^ z) (ten_some k) (ten_some z))
        ∙ ap (λ l. (48 + f / 10 ^ k) ∷ l) (below (rest_below f k)) ∙ sym (next_digit k f e)

same_test : (f t : ℕ) → 0 < t → (f * t == 0) ≡ (f == 0)
same_test zero t h = ap (λ n. n == 0) (let e : 0 * t ≡ 0 = omega arith in e)
same_test (suc f) t h = not_zero (suc f * t) (grind arith) ∙ sym (not_zero (suc f) (omega arith))

-- so many units of a smaller size
pub point_zeros : (k z m : ℕ) → point_text (k + z) (m * 10 ^ z) ≡ point_text k m
point_zeros k z m =
    let unit : 10 ^ (k + z) ≡ 10 ^ k * 10 ^ z = pow-add 10 k z in
    ap (λ u. decimal (m * 10 ^ z / u) ++ fraction_text (k + z) (m * 10 ^ z % u)) unit
    ∙ ap (λ n. decimal n ++ fraction_text (k + z) (m * 10 ^ z % (10 ^ k * 10 ^ z))) (mul-div-mul_right m (10 ^ k) (ten_some z))
    ∙ ap (λ n. decimal (m / 10 ^ k) ++ fraction_text (k + z) n) (scaled_rest m (10 ^ k) (10 ^ z) (ten_some k) (ten_some z))
    ∙ ap (λ b. decimal (m / 10 ^ k) ++ (if b then [] else 46 ∷ fraction_digits (k + z) (m % 10 ^ k * 10 ^ z))) (same_test (m % 10 ^ k) (10 ^ z) (ten_some z))
    ∙ ap (λ l. decimal (m / 10 ^ k) ++ (if m % 10 ^ k == 0 then [] else 46 ∷ l)) (fraction_zeros k z (m % 10 ^ k) (rest_below m k))

pub point_whole : (k n : ℕ) → point_text k (n * 10 ^ k) ≡ decimal n
point_whole k n =
    ap (λ q. decimal q ++ fraction_text k (n * 10 ^ k % 10 ^ k)) (mul-div_left n (ten_some k)) ∙ ap (λ r. decimal n ++ fraction_text k r) (mul-mod_left n (10 ^ k)) ∙ append-nil (decimal n)

-- whether a power of ten divides a number
scaled_hit : (z m : ℕ) (zs : List ℕ) → whole_scaled (z ∷ zs) (m * 10 ^ z) ≡ decimal m ++ 101 ∷ decimal z
scaled_hit z m zs =
    ap (λ r. if r == 0 then decimal (m * 10 ^ z / 10 ^ z) ++ 101 ∷ decimal z else whole_scaled zs (m * 10 ^ z)) (mul-mod_left m (10 ^ z))
    ∙ ap (λ q. decimal q ++ 101 ∷ decimal z) (mul-div_left m (ten_some z))

no_more_tens : (z j m : ℕ) → m % 10 ≢ 0 → m * 10 ^ z % 10 ^ (suc j + z) ≢ 0
no_more_tens z j m last none =
    let unit : 10 ^ (suc j + z) ≡ 10 ^ suc j * 10 ^ z = pow-add 10 (suc j) z in
    let rest : m % 10 ^ suc j * 10 ^ z ≡ 0 = sym (scaled_rest m (10 ^ suc j) (10 ^ z) (ten_some (suc j)) (ten_some z)) ∙ ap (λ u. m * 10 ^ z % u) (sym unit) ∙ none in
    let zero_rest : m % 10 ^ suc j ≡ 0 = no_product (m % 10 ^ suc j) (10 ^ z) (ten_some z) rest in
    last (tens m j zero_rest)
  where
    no_product : (a t : ℕ) → 0 < t → a * t ≡ 0 → a ≡ 0
    no_product zero t h e = refl
    no_product (suc a) t h e = absurd (let p : 0 < suc a * t = grind arith in omega (arith, p, e))

    tens : (m j : ℕ) → m % 10 ^ suc j ≡ 0 → m % 10 ≡ 0
    tens m j e =
        let q : ℕ = m / 10 ^ suc j in
        let is : m ≡ q * 10 ^ j * 10 = sym (div-add-mod' m (10 ^ suc j)) ∙ ap (λ r. q * 10 ^ suc j + r) e ∙ (let t : q * 10 ^ suc j + 0 ≡ q * 10 ^ suc j = omega arith in t) ∙ ap (λ u. q * u) (ten_suc j) ∙ sym (mul_assoc q (10 ^ j) 10) in
        ap (λ k. k % 10) is ∙ mul-mod_left (q * 10 ^ j) 10

scaled_miss : (z j m : ℕ) (zs : List ℕ) → m % 10 ≢ 0 → whole_scaled ((suc j + z) ∷ zs) (m * 10 ^ z) ≡ whole_scaled zs (m * 10 ^ z)
scaled_miss z j m zs last = test (m * 10 ^ z % 10 ^ (suc j + z) == 0) refl
  where
    test : (b : Bool) → (m * 10 ^ z % 10 ^ (suc j + z) == 0) ≡ b
        → (if b then decimal (m * 10 ^ z / 10 ^ (suc j + z)) ++ 101 ∷ decimal (suc j + z) else whole_scaled zs (m * 10 ^ z)) ≡ whole_scaled zs (m * 10 ^ z)
    test false e = refl
    test true e = absurd (no_more_tens z j m last (eqb-true (m * 10 ^ z % 10 ^ (suc j + z)) 0 e))

miss_at : (y z m : ℕ) (zs : List ℕ) → z < y → m % 10 ≢ 0 → whole_scaled (y ∷ zs) (m * 10 ^ z) ≡ whole_scaled zs (m * 10 ^ z)
miss_at y z m zs above last = ap (λ k. whole_scaled (k ∷ zs) (m * 10 ^ z)) (let e : y ≡ suc (y - suc z) + z = omega (arith, above) in e) ∙ scaled_miss z (y - suc z) m zs last

hit_at : (y z m : ℕ) (zs : List ℕ) → z ≡ y → whole_scaled (y ∷ zs) (m * 10 ^ z) ≡ decimal m ++ 101 ∷ decimal z
hit_at y z m zs e = ap (λ k. whole_scaled (k ∷ zs) (m * 10 ^ z)) (sym e) ∙ scaled_hit z m zs

abbrev end_of : ℕ → List ℕ
end_of z = if nat_le z 34 then replicate z 48 else 101 ∷ decimal z

-- what is written of a number with so many tens
pub scaled_all : (z m : ℕ) → z < 39 → m % 10 ≢ 0 → 0 < m → m * 10 ^ z < 10 ^ 64 → whole_scaled (38 ∷ 37 ∷ 36 ∷ 35 ∷ []) (m * 10 ^ z) ≡ decimal m ++ end_of z
scaled_all z m few last some low =
    below 38 (37 ∷ 36 ∷ 35 ∷ [])
    (λ h38. below 37 (36 ∷ 35 ∷ []) (λ h37. below 36 (35 ∷ []) (λ h36. below 35 [] (λ h35. short (omega (arith, h35))) (omega arith) h36) (omega arith) h37) (omega arith) h38) (omega arith) few
  where
    long : (34 < z) → decimal m ++ 101 ∷ decimal z ≡ decimal m ++ end_of z
    long h = ap (λ b. decimal m ++ (if b then replicate z 48 else 101 ∷ decimal z)) (let t : false ≡ nat_le z 34 = grind (arith, nat_tests) in t)

    short : z ≤ 34 → decimal (m * 10 ^ z) ≡ decimal m ++ end_of z
    short h = decimal_zeros m z some low ∙ ap (λ b. decimal m ++ (if b then replicate z 48 else 101 ∷ decimal z)) (let t : true ≡ nat_le z 34 = grind (arith, nat_tests) in t)

    below : (y : ℕ) (zs : List ℕ) → (z < y → whole_scaled zs (m * 10 ^ z) ≡ decimal m ++ end_of z) → 34 < y → z < suc y → whole_scaled (y ∷ zs) (m * 10 ^ z) ≡ decimal m ++ end_of z
    below y zs less high h = cases (z == y) refl
      where
        cases : (b : Bool) → (z == y) ≡ b → whole_scaled (y ∷ zs) (m * 10 ^ z) ≡ decimal m ++ end_of z
        cases true e = (let same : z ≡ y = eqb-true z y e in hit_at y z m zs same ∙ long (omega (arith, same, high)))
        cases false e = (let lower : z < y = grind (arith, nat_tests) in miss_at y z m zs lower last ∙ less lower)
