-- A walk along the segments of a text, one byte at a time.
use Rattle.std.proofs.Common.{ℕ, ◌≡◌, ◌∙◌, ◌+◌, ◌-◌, ◌<◌, ◌≤◌, sym, ap, refl, arith, Bool, true, false, List, [], ◌∷◌, ◌++◌, length, take, drop, get_or, ◌||◌}
use Rattle.std.specs.Prelude.{◌==◌}
use Rattle.std.proofs.lemmas.List.{length-drop, take_all, drop_all}
use Rattle.std.proofs.lemmas.Bool.Decides.{nat_tests}
use Rattle.plain_data.proofs.Pieces.{rest_of, no_bytes, one_more}
use Rattle.asset_names.specs.Anchoring.{segments_from, walk, step, has_inside, begins_with, IsBad, IsClean, control, empty, long}

-- the segments from a byte on, by whether it is a slash
parts : List ℕ → ℕ → List ℕ → Bool → List (List ℕ)
parts begun c t slash = elim slash [ true ↦ begun ∷ segments_from [] t | false ↦ segments_from (begun ++ c ∷ []) t ]

at_byte : (begun : List ℕ) (c : ℕ) (t : List ℕ) → segments_from begun (c ∷ t) ≡ parts begun c t (c == 47)
unfolding parts
at_byte begun c t = refl

at_slash : (begun : List ℕ) (c : ℕ) (t : List ℕ) → parts begun c t true ≡ begun ∷ segments_from [] t
unfolding parts
at_slash begun c t = refl

at_other : (begun : List ℕ) (c : ℕ) (t : List ℕ) → parts begun c t false ≡ segments_from (begun ++ c ∷ []) t
unfolding parts
at_other begun c t = refl

is_slash : (c : ℕ) → c ≡ 47 → (c == 47) ≡ true
is_slash c h = grind (arith, nat_tests)

pub no_slash : (c : ℕ) → (c ≡ 47 → ⊥) → (c == 47) ≡ false
no_slash c h = grind (arith, nat_tests)

pub slash_step : (absolute : Bool) (t : List ℕ) (start i b : ℕ) (folders next goal : List (List ℕ)) → i < length t → b ≡ get_or t i 0 → b ≡ 47
    → next ≡ step absolute folders (take (i - start) (drop start t))
    → walk absolute folders (segments_from (take (i - start) (drop start t)) (drop i t)) ≡ goal
    → walk absolute next (segments_from (take (i + 1 - (i + 1)) (drop (i + 1) t)) (drop (i + 1) t)) ≡ goal
slash_step absolute t start i b folders next goal h is slash made before =
    let begun : List ℕ = take (i - start) (drop start t) in
    let rest : List ℕ = drop (i + 1) t in
    ap (λ s. walk absolute next (segments_from s rest)) (no_bytes (i + 1 - (i + 1)) rest (omega arith))
    ∙ ap (λ f. walk absolute f (segments_from [] rest)) made
    ∙ ap (walk absolute folders) (sym (ap (segments_from begun) (rest_of t i b h is) ∙ at_byte begun b rest ∙ ap (parts begun b rest) (is_slash b slash) ∙ at_slash begun b rest)) ∙ before

pub other_step : (absolute : Bool) (t : List ℕ) (start i b : ℕ) (folders goal : List (List ℕ)) → i < length t → b ≡ get_or t i 0 → (b ≡ 47 → ⊥) → start ≤ i
    → walk absolute folders (segments_from (take (i - start) (drop start t)) (drop i t)) ≡ goal
    → walk absolute folders (segments_from (take (i + 1 - start) (drop start t)) (drop (i + 1) t)) ≡ goal
other_step absolute t start i b folders goal h is other within before =
    let begun : List ℕ = take (i - start) (drop start t) in
    let rest : List ℕ = drop (i + 1) t in
    ap (λ s. walk absolute folders (segments_from s rest)) (one_more t start i b h is within)
    ∙ ap (walk absolute folders) (sym (ap (segments_from begun) (rest_of t i b h is) ∙ at_byte begun b rest ∙ ap (parts begun b rest) (no_slash b other) ∙ at_other begun b rest)) ∙ before

pub last_step : (absolute : Bool) (t : List ℕ) (start i : ℕ) (folders next goal : List (List ℕ)) → i ≡ length t → start ≤ i
    → next ≡ step absolute folders (drop start t)
    → walk absolute folders (segments_from (take (i - start) (drop start t)) (drop i t)) ≡ goal → next ≡ goal
last_step absolute t start i folders next goal end within made before =
    made ∙ sym (ap (λ s. walk absolute folders (segments_from s (drop i t))) (take_all (i - start) (drop start t) (omega (arith, length-drop start t, end)))
    ∙ ap (λ s. walk absolute folders (segments_from (drop start t) s)) (drop_all i t (omega (arith, end)))) ∙ before

pub inside_step : (name part : List ℕ) (i : ℕ) → i < length name → begins_with (drop i name) part ≡ false → has_inside (drop i name) part ≡ has_inside (drop (i + 1) name) part
inside_step name part i h no_front =
    ap (λ l. has_inside l part) (rest_of name i (get_or name i 0) h refl)
    ∙ ap (λ b. b || has_inside (drop (i + 1) name) part) (ap (λ l. begins_with l part) (sym (rest_of name i (get_or name i 0) h refl)) ∙ no_front)

pub no_length : (l : List ℕ) → length l ≡ 0 → l ≡ []
no_length [] h = refl
no_length (c ∷ l) h = absurd (omega (arith, h))

pub zero_length : (n : ℕ) → (n == 0) ≡ true → n ≡ 0
zero_length n h = grind (arith, nat_tests)

-- a clean text whose name is short enough is a name
pub not_bad : (text name : List ℕ) (at : ℕ) → IsClean text → length name ≤ 4096 → IsBad text name at → ⊥
not_bad text name at clean short (control k h low first) = absurd (omega (arith, low, clean.printable k h))
not_bad text name at clean short (empty e) = clean.some e
not_bad text name at clean short (long p more) = absurd (omega (arith, short, more))
