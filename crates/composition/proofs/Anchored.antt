-- Names that texts give, and texts that give none.
use Rattle.std.proofs.Common.{◌≡◌, ◌∙◌, sym, ap, refl, arith, ℕ, zero, suc, ◌<◌, ◌≤◌, Bool, true, false, ◌||◌, [], ◌∷◌, length, Option, Some, None}
use Rattle.std.specs.List.{list_any}
use Rattle.std.specs.Prelude.{nat_lt, nat_le, slice_index}
use Rattle.std.proofs.lemmas.Bool.{both_ways, ltb-true, lt-ltb, leb-true, ltb-false, leb-false}
use Rattle.asset_names.specs.Anchoring.{anchored_name, IsBad, control, empty, long}
use Rattle.composition.specs.Texts.{Text}
use Rattle.composition.specs.Assets.{anchor, if_short}
use Rattle.composition.proofs.Tests.{by_test}

abbrev has_low : Text → Bool
has_low t = list_any (λ x. nat_lt x 32) t

-- the first character below space
record FirstLow (t : Text) : Type 0 where
  at : ℕ
  within : at < length t
  here : slice_index t at < 32
  before : (k : ℕ) → k < at → 32 ≤ slice_index t k

later : (c : ℕ) (t : Text) (at : ℕ) → 32 ≤ c → ((k : ℕ) → k < at → 32 ≤ slice_index t k) → (k : ℕ) → k < suc at → 32 ≤ slice_index (c ∷ t) k
later c t at high before zero lt = high
later c t at high before (suc k) lt = before k (omega (arith, lt))

first_low : (t : Text) → has_low t ≡ true → FirstLow t
first_low [] h = absurd cc
first_low (c ∷ t) h =
    by_test (nat_lt c 32)
    (λ on. record { at = 0; within = omega arith; here = ltb-true c 32 on; before = λ k lt. absurd (omega (arith, lt)) })
    (λ off.
    let rest : FirstLow t = first_low t (sym (ap (λ (b : Bool). b || has_low t) off) ∙ h) in
    record { at = suc rest.at; within = omega (arith, rest.within); here = rest.here; before = later c t rest.at (ltb-false c 32 off) rest.before })

some_low : (t : Text) (at : ℕ) → at < length t → slice_index t at < 32 → has_low t ≡ true
some_low [] at within here = absurd (omega (arith, within))
some_low (c ∷ t) zero within here = ap (λ (b : Bool). b || has_low t) (lt-ltb c 32 here)
some_low (c ∷ t) (suc at) within here = by_test (nat_lt c 32) (λ on. ap (λ (b : Bool). b || has_low t) on) (λ off. ap (λ (b : Bool). b || has_low t) off ∙ some_low t at (omega (arith, within)) here)

all_high : (t : Text) → has_low t ≡ false → (k : ℕ) → k < length t → 32 ≤ slice_index t k
all_high t none k within =
    by_test (nat_lt (slice_index t k) 32)
    (λ on. absurd (both_ways (has_low t) none (some_low t k within (ltb-true (slice_index t k) 32 on))))
    (λ off. ltb-false (slice_index t k) 32 off)

-- the name that a text gives, if this is the name of the text; none where the text is empty, has a character below space, or its name
-- is too long
abbrev pub given : Text → Text → Option Text
given [] name = None
given (c ∷ t) name = elim (has_low (c ∷ t)) as (λ _. Option Text) [ true ↦ None | false ↦ if_short name ]

module _ (c : ℕ) (t name : Text) where
  abbrev by_low : Bool → Option Text
  by_low b = elim b as (λ _. Option Text) [ true ↦ None | false ↦ if_short name ]

  abbrev by_short : Bool → Option Text
  by_short b = elim b as (λ _. Option Text) [ true ↦ Some name | false ↦ None ]

  is_low : has_low (c ∷ t) ≡ true → given (c ∷ t) name ≡ None
  is_low h = ap by_low h

  is_short : has_low (c ∷ t) ≡ false → nat_le (length name) 4096 ≡ true → given (c ∷ t) name ≡ Some name
  is_short h s = ap by_low h ∙ ap by_short s

  is_long : has_low (c ∷ t) ≡ false → nat_le (length name) 4096 ≡ false → given (c ∷ t) name ≡ None
  is_long h s = ap by_low h ∙ ap by_short s

-- a text that is not bad gives its name
pub given_some : (text name : Text) → ((at : ℕ) → IsBad text name at → ⊥) → given text name ≡ Some name
given_some [] name good = absurd (good 0 (empty refl))
given_some (c ∷ t) name good =
    by_test (has_low (c ∷ t))
    (λ on. let f : FirstLow (c ∷ t) = first_low (c ∷ t) on in absurd (good f.at (control f.at f.within f.here f.before)))
    (λ off. by_test (nat_le (length name) 4096)
    (λ short. is_short c t name off short)
    (λ over. absurd (good 4096 (long (all_high (c ∷ t) off) (leb-false (length name) 4096 over)))))

-- a bad text gives none
pub given_none : (text name : Text) (at : ℕ) → IsBad text name at → given text name ≡ None
given_none [] name at bad = refl
given_none (c ∷ t) name at (control at' within here before) = is_low c t name (some_low (c ∷ t) at' within here)
given_none (c ∷ t) name at (empty none) = absurd cc
given_none (c ∷ t) name at (long high over) =
    by_test (has_low (c ∷ t))
    (λ on. is_low c t name on)
    (λ off. by_test (nat_le (length name) 4096)
    (λ short. let fits : length name ≤ 4096 = leb-true (length name) 4096 short in absurd (omega (arith, fits, over)))
    (λ past. is_long c t name off past))

-- the name that an asset has in a layer is what it gives there
anchor_is : (layer asset : Text) → anchor layer asset ≡ given asset (anchored_name layer asset)
anchor_is layer [] = refl
anchor_is layer (c ∷ t) = refl

pub anchored_some : (layer asset : Text) → ((at : ℕ) → IsBad asset (anchored_name layer asset) at → ⊥) → anchor layer asset ≡ Some (anchored_name layer asset)
anchored_some layer asset good = anchor_is layer asset ∙ given_some asset (anchored_name layer asset) good

pub anchored_none : (layer asset : Text) (at : ℕ) → IsBad asset (anchored_name layer asset) at → anchor layer asset ≡ None
anchored_none layer asset at bad = anchor_is layer asset ∙ given_none asset (anchored_name layer asset) at bad
