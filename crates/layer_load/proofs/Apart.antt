-- Names that stand once each.
use Rattle.std.proofs.Common.{◌≡◌, ◌∙◌, sym, ap, refl, subst, ℕ, zero, suc, take, true, false, ◌||◌, List, [], ◌∷◌, ◌++◌, fold, Option, Some, None}
use Rattle.std.specs.List.{slice_get}
use Rattle.std.proofs.lemmas.List.Folds.{list_any-append, list_any_at}
use Rattle.std.proofs.lemmas.Option.{slice_get_within, get_or_from_slice_get}
use Rattle.std.proofs.lemmas.Bool.{or_from, or_parts}
use Rattle.composition.specs.Assets.{anchor}
use Rattle.composition.specs.Texts.{Text, same_text}
use Rattle.layer_stack.specs.Meant.{noted}
use Rattle.layer_stack.specs.Visiting.{AreApart}
use Rattle.layer_stack.proofs.Noting.{noted_new, noted_old, has}
use Rattle.layer_load.specs.Opening.{with_asset, with_anchored, first_names}
use Rattle.sdf_specs.proofs.PathLemmas.{not_both}
use Rattle.composition.proofs.Same.{same_text_same, same_itself}
use Rattle.composition.proofs.Tests.{by_test}

-- two names differ the other way round too
turned_round : (a b : Text) → same_text a b ≡ false → same_text b a ≡ false
turned_round a b differ =
    by_test (same_text b a) (λ on. let one : b ≡ a = same_text_same b a on in not_both (ap (λ (x : Text). same_text a x) one ∙ same_itself a) differ) (λ off. off)

pub behind : (names : List Text) (n : Text) → AreApart names → has n names ≡ false → AreApart (names ++ n ∷ [])
behind [] n apart new = (refl, tt)
behind (x ∷ names) n apart new = (
  list_any-append (same_text x) names (n ∷ []) ∙ or_from (has x names) (same_text x n || false) apart.0 (or_from (same_text x n) false (turned_round n x (or_parts (same_text n x) (has n names) new).0) refl),
  behind names n apart.1 (or_parts (same_text n x) (has n names) new).1,
)

pub noted_apart : (names : List Text) (n : Text) → AreApart names → AreApart (noted names n)
noted_apart names n apart = by_test (has n names)
    (λ on. subst AreApart (sym (noted_old names n on)) apart)
    (λ off. subst AreApart (sym (noted_new names n off)) (behind names n apart off))

anchored_apart : (names : List Text) (o : Option Text) → AreApart names → AreApart (with_anchored names o)
anchored_apart names None apart = apart
anchored_apart names (Some n) apart = noted_apart names n apart

pub all_apart : (layer : Text) (assets names : List Text) → AreApart names → AreApart (fold (with_asset layer) names assets)
all_apart layer [] names apart = apart
all_apart layer (asset ∷ assets) names apart = all_apart layer assets (with_asset layer names asset) (anchored_apart names (anchor layer asset) apart)

pub first_apart : (root : Text) (session : Option Text) → AreApart (first_names root session)
first_apart root None = (refl, tt)
first_apart root (Some session) = noted_apart (root ∷ []) session (refl, tt)

-- a name is not among those before it
pub not_before : (names : List Text) (i : ℕ) (n : Text) → AreApart names → slice_get names i ≡ Some n → has n (take i names) ≡ false
not_before [] i n apart is = absurd cc
not_before (x ∷ names) zero n apart is = refl
not_before (x ∷ names) (suc i) n apart is = or_from (same_text n x) (has n (take i names)) differs (not_before names i n apart.1 is)
  where
    among : n ≡ x → has x names ≡ true
    among one = list_any_at (same_text x) names i n (slice_get_within names i n is)
        (ap (same_text x) (get_or_from_slice_get names i n n is) ∙ (ap (same_text x) one ∙ same_itself x))

    differs : same_text n x ≡ false
    differs = by_test (same_text n x) (λ on. not_both (among (same_text_same n x on)) apart.0) (λ off. off)
