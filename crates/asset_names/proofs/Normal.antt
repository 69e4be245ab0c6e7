-- What a walk keeps, and segments that are joined and taken apart again.
use Rattle.std.proofs.Common.{ℕ, ◌≡◌, ◌≢◌, ◌∙◌, sym, ap, refl, arith, Bool, true, false, List, [], ◌∷◌, ◌++◌, append_assoc, append-nil, ◌||◌}
use Rattle.std.specs.Prelude.{◌==◌}
use Rattle.std.specs.List.{All}
use Rattle.std.proofs.lemmas.List.Elements.{All-head, All-tail}
use Rattle.std.proofs.lemmas.Bool.Decides.{nat_tests}
use Rattle.std.specs.Cmp.Lexicographic.{bytes_decides}
use Rattle.asset_names.specs.Anchoring.{here, above, same_text, segments_from, segments, is_absolute, step_up, step, walk, more_joined, joined, all_but_first}

abbrev pub NoSlash : List ℕ → Type 0
NoSlash [] = Unit {0}
NoSlash (c ∷ t) = (c ≢ 47) × NoSlash t

abbrev pub NoSlashes : List (List ℕ) → Type 0
NoSlashes [] = Unit {0}
NoSlashes (s ∷ ss) = NoSlash s × NoSlashes ss

-- a segment that a normalised name may have
pub record IsSegment (s : List ℕ) : Type 0 where
  pub some : s ≢ []
  pub moves : s ≢ here
  pub one : NoSlash s

abbrev pub AllAbove : List (List ℕ) → Type 0
AllAbove [] = Unit {0}
AllAbove (s ∷ ss) = (s ≡ above) × AllAbove ss

-- folders as a walk leaves them, the innermost first: `..` has nothing but `..` outside it, and none stands in an absolute name
abbrev pub Kept : Bool → List (List ℕ) → Type 0
Kept absolute [] = Unit {0}
Kept absolute (s ∷ ss) = IsSegment s × (s ≡ above → (absolute ≡ false) × AllAbove ss) × Kept absolute ss

pub same_is : (s t : List ℕ) → same_text s t ≡ true → s ≡ t
same_is s t h = (bytes_decides s t).0 h

is_same : (s t : List ℕ) → s ≡ t → same_text s t ≡ true
is_same s t e = (bytes_decides s t).1 e

pub clash : (b : Bool) → b ≡ true → b ≡ false → ⊥
clash b p q = absurd cc

pub differs : (s t : List ℕ) → same_text s t ≡ false → s ≢ t
differs s t h e = clash (same_text s t) (is_same s t e) h

neither : (a b : Bool) → (a || b) ≡ false → (a ≡ false) × (b ≡ false)
neither true b h = absurd cc
neither false b h = (refl, h)

pub is_slash : (c : ℕ) → (c == 47) ≡ true → c ≡ 47
is_slash c h = grind (arith, nat_tests)

-- ---- a walk keeps what it made
pub above_segment : IsSegment above
above_segment = record { some = λ e. absurd cc; moves = λ e. absurd cc; one = (omega arith, (omega arith, tt)) }

up_kept : (absolute : Bool) (fs : List (List ℕ)) → Kept absolute fs → Kept absolute (step_up absolute fs)
up_kept true [] k = tt
up_kept false [] k = (above_segment, (λ _. (refl, tt)), tt)
up_kept absolute (s ∷ ss) k = by_test (same_text s above) refl
  where
    by_test : (b : Bool) → same_text s above ≡ b → Kept absolute (elim b [ true ↦ above ∷ s ∷ ss | false ↦ ss ])
    by_test true h = (above_segment, (λ _. (((k.1 (same_is s above h)).0), (same_is s above h, (k.1 (same_is s above h)).1))), k)
    by_test false h = k.2

new_segment : (s : List ℕ) → NoSlash s → s ≢ [] → s ≢ here → IsSegment s
new_segment s n p q = record { some = p; moves = q; one = n }

pub step_kept : (absolute : Bool) (fs : List (List ℕ)) (s : List ℕ) → Kept absolute fs → NoSlash s → Kept absolute (step absolute fs s)
step_kept absolute fs s k n = by_still (same_text s [] || same_text s here) refl
  where
    by_above : (b : Bool) → same_text s above ≡ b → (same_text s [] || same_text s here) ≡ false → Kept absolute (elim b [ true ↦ step_up absolute fs | false ↦ s ∷ fs ])
    by_above true h moved = up_kept absolute fs k
    by_above false h moved =
        let parts = neither (same_text s []) (same_text s here) moved in
        (new_segment s n (differs s [] parts.0) (differs s here parts.1), (λ e. absurd (differs s above h e)), k)

    by_still : (b : Bool) → (same_text s [] || same_text s here) ≡ b
        → Kept absolute (elim b [ true ↦ fs | false ↦ elim (same_text s above) [ true ↦ step_up absolute fs | false ↦ s ∷ fs ] ])
    by_still true h = k
    by_still false h = by_above (same_text s above) refl h

pub walk_kept : (absolute : Bool) (ss fs : List (List ℕ)) → Kept absolute fs → NoSlashes ss → Kept absolute (walk absolute fs ss)
walk_kept absolute [] fs k n = k
walk_kept absolute (s ∷ ss) fs k n = walk_kept absolute ss (step absolute fs s) (step_kept absolute fs s k n.0) n.1

NoSlash-push : (s : List ℕ) (c : ℕ) → NoSlash s → c ≢ 47 → NoSlash (s ++ c ∷ [])
NoSlash-push [] c n h = (h, tt)
NoSlash-push (d ∷ s) c n h = (n.0, NoSlash-push s c n.1 h)

not_slash : (c : ℕ) → (c == 47) ≡ false → c ≢ 47
not_slash c h e = grind (arith, nat_tests)

pub segments_no_slash : (t begun : List ℕ) → NoSlash begun → NoSlashes (segments_from begun t)
segments_no_slash [] begun n = (n, tt)
segments_no_slash (c ∷ t) begun n =
    by_slash (segments_no_slash t [] tt) (λ h. segments_no_slash t (begun ++ c ∷ []) (NoSlash-push begun c n (not_slash c h))) (c == 47) refl
  where
    by_slash : NoSlashes (segments_from [] t) → ((c == 47) ≡ false → NoSlashes (segments_from (begun ++ c ∷ []) t)) → (b : Bool) → (c == 47) ≡ b → NoSlashes (elim b [ true ↦ begun ∷ segments_from [] t | false ↦ segments_from (begun ++ c ∷ []) t ])
    by_slash anew onward true h = (n, anew)
    by_slash anew onward false h = onward h

pub text_kept : (absolute : Bool) (fs : List (List ℕ)) (t : List ℕ) → Kept absolute fs → Kept absolute (walk absolute fs (segments t))
text_kept absolute fs t k = walk_kept absolute (segments t) fs k (segments_no_slash t [] tt)

pub but_first_kept : (absolute : Bool) (fs : List (List ℕ)) → Kept absolute fs → Kept absolute (all_but_first fs)
but_first_kept absolute [] k = tt
but_first_kept absolute (s ∷ ss) k = k.2

-- ---- a walk in parts
pub walk_append : (absolute : Bool) (xs ys fs : List (List ℕ)) → walk absolute fs (xs ++ ys) ≡ walk absolute (walk absolute fs xs) ys
walk_append absolute [] ys fs = refl
walk_append absolute (x ∷ xs) ys fs = walk_append absolute xs ys (step absolute fs x)

pub up_above : (fs : List (List ℕ)) → AllAbove fs → step_up false fs ≡ above ∷ fs
up_above [] a = refl
up_above (s ∷ ss) a = by_test (same_text s above) (is_same s above a.0)
  where
    by_test : (b : Bool) → b ≡ true → (elim b as (λ _. List (List ℕ)) [ true ↦ above ∷ s ∷ ss | false ↦ ss ]) ≡ above ∷ s ∷ ss
    by_test true h = refl
    by_test false h = absurd cc

-- ---- the segments of joined segments
pub inner : (s begun rest : List ℕ) (made : List (List ℕ)) → NoSlash s → ((b : List ℕ) → segments_from b rest ≡ b ∷ made) → segments_from begun (s ++ rest) ≡ (begun ++ s) ∷ made
inner [] begun rest made n h = h begun ∙ ap (λ l. l ∷ made) (sym (append-nil begun))
inner (c ∷ s) begun rest made n h =
    by_slash (inner s (begun ++ c ∷ []) rest made n.1 h ∙ ap (λ l. l ∷ made) (append_assoc begun (c ∷ []) s)) (c == 47) refl
  where
    no_slash : (c == 47) ≡ true → ⊥
    no_slash e = n.0 (is_slash c e)

    by_slash : segments_from (begun ++ c ∷ []) (s ++ rest) ≡ (begun ++ c ∷ s) ∷ made → (b : Bool) → (c == 47) ≡ b → (elim b as (λ _. List (List ℕ)) [ true ↦ begun ∷ segments_from [] (s ++ rest) | false ↦ segments_from (begun ++ c ∷ []) (s ++ rest) ]) ≡ (begun ++ c ∷ s) ∷ made
    by_slash onward true e = absurd (no_slash e)
    by_slash onward false e = onward

outer : (ss : List (List ℕ)) → NoSlashes ss → (b : List ℕ) → segments_from b (more_joined ss) ≡ b ∷ ss
outer [] n b = refl
outer (s ∷ ss) n b = ap (λ l. b ∷ l) (inner s [] (more_joined ss) ss n.0 (outer ss n.1))

-- ---- joined segments, taken apart again
pub segments_slashes : (ss : List (List ℕ)) → All IsSegment ss → NoSlashes ss
segments_slashes [] p = tt
segments_slashes (s ∷ ss) p =
    let is : IsSegment s = All-head IsSegment s ss p in
    (is.one, segments_slashes ss (All-tail IsSegment s ss p))

pub segments_joined : (s : List ℕ) (ss : List (List ℕ)) → NoSlashes (s ∷ ss) → segments (joined (s ∷ ss)) ≡ s ∷ ss
segments_joined s ss n = inner s [] (more_joined ss) ss n.0 (outer ss n.1)

pub walk_joined : (absolute : Bool) (ss : List (List ℕ)) → All IsSegment ss → walk absolute [] (segments (joined ss)) ≡ walk absolute [] ss
walk_joined absolute [] p = refl
walk_joined absolute (s ∷ ss) p = ap (walk absolute []) (segments_joined s ss (segments_slashes (s ∷ ss) p))

starts_relative : (s : List ℕ) (rest : List ℕ) → IsSegment s → is_absolute (s ++ rest) ≡ false
starts_relative [] rest p = absurd (p.some refl)
starts_relative (c ∷ t) rest p = by_slash (c == 47) refl
  where
    by_slash : (b : Bool) → (c == 47) ≡ b → b ≡ false
    by_slash true h = absurd (p.one.0 (is_slash c h))
    by_slash false h = refl

pub joined_relative : (ss : List (List ℕ)) → All IsSegment ss → is_absolute (joined ss) ≡ false
joined_relative [] p = refl
joined_relative (s ∷ ss) p = starts_relative s (more_joined ss) (All-head IsSegment s ss p)
