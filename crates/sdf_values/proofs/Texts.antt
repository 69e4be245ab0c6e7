-- Where a number's text fails.
use Rattle.std.proofs.Common.{ℕ, zero, suc, inl, inr, ◌≡◌, ◌+◌, ◌-◌, ◌<◌, ◌≤◌, ◌∙◌, sym, ap, refl, arith, Bool, true, false, List, [], ◌∷◌, ◌++◌, length, take, drop, get_or, append_assoc}
use Rattle.std.proofs.lemmas.List.{take_more, take-append-drop, drop_all, drop-take}
use Rattle.std.proofs.lemmas.Bool.{cases_order}
use Rattle.sdf_values.specs.NumberTexts.{is_number, GoesOn, FailsAt}
use Rattle.sdf_values.specs.Places.{accepts}
use Rattle.sdf_values.specs.declared.parse.Place.{Place}
use Rattle.sdf_values.specs.declared.parse.Place.TheVariants as place

-- what ends a number at each place
completion : Place → List ℕ
completion place.Whole = []
completion place.Fraction = []
completion place.Exponent = []
completion _ = 48 ∷ []

accepts_completion : (p : Place) → accepts p (completion p) ≡ true
unfolding completion
accepts_completion place.Start = refl
accepts_completion place.Signed = refl
accepts_completion place.Whole = refl
accepts_completion place.Point = refl
accepts_completion place.Fraction = refl
accepts_completion place.Mark = refl
accepts_completion place.MarkSigned = refl
accepts_completion place.Exponent = refl

more : (t rest : List ℕ) (at b : ℕ) → at < length t → b ≡ get_or t at 0 → take (at + 1) t ++ rest ≡ take at t ++ b ∷ rest
more t rest at b h is = ap (λ l. l ++ rest) (take_more t at 0 h) ∙ ap (λ c. (take at t ++ c ∷ []) ++ rest) (sym is) ∙ append_assoc (take at t) (b ∷ []) rest

-- a test does not both hold and fail
pub clash : (b : Bool) → b ≡ true → b ≡ false → ⊥
clash b p q = absurd cc

whole : (t : List ℕ) (at b : ℕ) → at < length t → b ≡ get_or t at 0 → t ≡ take at t ++ b ∷ drop (at + 1) t
whole t at b h is = sym (take-append-drop (at + 1) t) ∙ more t (drop (at + 1) t) at b h is

pub fails : (t : List ℕ) (at : ℕ) (p : Place) (b : ℕ) → at < length t → b ≡ get_or t at 0 → ((rest : List ℕ) → is_number (take at t ++ rest) ≡ accepts p rest)
    → ((rest : List ℕ) → accepts p (b ∷ rest) ≡ false) → FailsAt t at
fails t at p b h is read none = record {
  no_number = ap is_number (whole t at b h is) ∙ read (b ∷ drop (at + 1) t) ∙ none (drop (at + 1) t);
  within = omega arith;
  good_before = (completion p, read (completion p) ∙ accepts_completion p);
  bad_there = λ _ goes. clash _ goes.1 (ap is_number (more t goes.0 at b h is) ∙ read (b ∷ goes.0) ∙ none goes.0);
}

take_whole : (t : List ℕ) → take (length t) t ++ [] ≡ t
take_whole t = ap (λ l. take (length t) t ++ l) (sym (drop_all (length t) t (omega arith))) ∙ take-append-drop (length t) t

pub ends_soon : (t : List ℕ) (p : Place) → ((rest : List ℕ) → is_number (take (length t) t ++ rest) ≡ accepts p rest) → accepts p [] ≡ false → FailsAt t (length t)
ends_soon t p read none = record {
  no_number = ap is_number (sym (take_whole t)) ∙ read [] ∙ none;
  within = omega arith;
  good_before = (completion p, read (completion p) ∙ accepts_completion p);
  bad_there = λ h _. absurd (omega (arith, h));
}

take_of_take : (t : List ℕ) (a k : ℕ) → take a (take (a + k) t) ≡ take a t
take_of_take t zero k = refl
take_of_take [] (suc a) k = ap (λ n. take (suc a) (take n [])) (let e : suc a + k ≡ suc (a + k) = omega arith in e)
take_of_take (x ∷ t) (suc a) k = ap (λ n. take (suc a) (take n (x ∷ t))) (let e : suc a + k ≡ suc (a + k) = omega arith in e) ∙ ap (λ l. x ∷ l) (take_of_take t a k)

-- a text fails at one place
first_part : (t : List ℕ) (a b : ℕ) → a ≤ b → take b t ≡ take a t ++ take (b - a) (drop a t)
first_part t a b h =
    ap (λ n. take n t) (let e : b ≡ a + (b - a) = omega arith in e) ∙ sym (take-append-drop a (take (a + (b - a)) t))
    ∙ ap (λ l. l ++ drop a (take (a + (b - a)) t)) (take_of_take t a (b - a)) ∙ ap (λ l. take a t ++ l) (drop-take a (b - a) t)

goes_on_before : (t : List ℕ) (a b : ℕ) → a ≤ b → GoesOn (take b t) → GoesOn (take a t)
goes_on_before t a b h goes = (
  take (b - a) (drop a t) ++ goes.0,
  ap is_number (sym (append_assoc (take a t) (take (b - a) (drop a t)) goes.0) ∙ ap (λ l. l ++ goes.0) (sym (first_part t a b h))) ∙ goes.1,
)

pub one_fault : (t : List ℕ) (a b : ℕ) → FailsAt t a → FailsAt t b → a ≡ b
one_fault t a b p q =
    elim (cases_order a b) [
      | inl e ↦ e
      | inr u ↦ elim u [
        | inl h ↦ absurd (p.bad_there (omega (arith, q.within)) (goes_on_before t (a + 1) b (omega arith) q.good_before))
        | inr h ↦ absurd (q.bad_there (omega (arith, p.within)) (goes_on_before t (b + 1) a (omega arith) p.good_before))
      ]
    ]
