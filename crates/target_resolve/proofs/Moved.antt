-- Paths through the arcs of a site, one arc after the other and one path after the other.
use Rattle.std.proofs.Common.{◌≡◌, ◌∙◌, sym, ap, refl, ℕ, ◌+◌, ◌<◌, ◌≤◌, length, take, drop, get_or, Bool, true, false, cond, List, [], ◌∷◌, ◌++◌, Option, Some, None}
use Rattle.std.specs.Prelude.{filter, filter_map, option_to_list}
use Rattle.std.specs.List.{cons_option}
use Rattle.std.proofs.lemmas.List.{take_more, drop_more, drop_all}
use Rattle.std.proofs.lemmas.List.Elements.{filter_map-append}
use Rattle.composition.specs.Nodes.{ArcMap}
use Rattle.composition.specs.Paths.{Path, limits}
use Rattle.composition.specs.Targets.{through_maps}
use Rattle.target_resolve.specs.Translating.{through_arc, on_stage, is_missing, is_lost, if_missing}

pub no_more : (p : Path) → on_stage [] p ≡ Some p
unfolding on_stage
no_more p = refl

abbrev then_on : List ArcMap → Option Path → Option Path
then_on ms None = None
then_on ms (Some q) = on_stage ms q

pub first_arc : (m : ArcMap) (ms : List ArcMap) (p : Path) → on_stage (m ∷ ms) p ≡ then_on ms (through_arc m p)
unfolding on_stage through_arc
first_arc m ms p = by_moved (through_arc m p)
  where
    by_moved : (o : Option Path) → (elim o as (λ _. Option Path) [ Some q ↦ through_maps limits ms q | None ↦ None ]) ≡ then_on ms o
    by_moved (Some q) = refl
    by_moved None = refl

pub filter_append : {X : Type 0} (p : X → Bool) (xs ys : List X) → filter p (xs ++ ys) ≡ filter p xs ++ filter p ys
filter_append p [] ys = refl
filter_append p (x ∷ xs) ys = by_test (p x) (filter_append p xs ys)
  where
    by_test : (b : Bool) → filter p (xs ++ ys) ≡ filter p xs ++ filter p ys
        → cond b (x ∷ filter p (xs ++ ys)) (filter p (xs ++ ys)) ≡ cond b (x ∷ filter p xs) (filter p xs) ++ filter p ys
    by_test true h = ap (λ zs. x ∷ zs) h
    by_test false h = h

module _ {X Y : Type 0} (f : X → Option Y) (p : X → Bool) (xs : List X) (i : ℕ) (x : X) (within : i < length xs) (item : x ≡ get_or xs i x) where
  taken : take (i + 1) xs ≡ take i xs ++ x ∷ []
  taken = take_more xs i x within ∙ ap (λ (y : X). take i xs ++ y ∷ []) (sym item)

  pub kept_next : filter_map f (take i xs) ++ option_to_list (f x) ≡ filter_map f (take (i + 1) xs)
  kept_next = sym (ap (filter_map f) taken ∙ (filter_map-append f (take i xs) (x ∷ []) ∙ ap (λ (ys : List Y). filter_map f (take i xs) ++ ys) (by_image (f x))))
    where
      by_image : (o : Option Y) → cons_option o [] ≡ option_to_list o
      by_image (Some y) = refl
      by_image None = refl

  pub chosen_next : filter p (take i xs) ++ cond (p x) (x ∷ []) [] ≡ filter p (take (i + 1) xs)
  chosen_next = sym (ap (filter p) taken ∙ filter_append p (take i xs) (x ∷ []))

pub missing_is : (o : Option Path) (p : Path) → if_missing o p ≡ cond (is_missing o) (p ∷ []) []
missing_is (Some q) p = refl
missing_is None p = refl

pub lost_parts : {X : Type 0} (p : X → Bool) (a b c d : List X) → ((filter p a ++ filter p b) ++ filter p c) ++ filter p d ≡ filter p (a ++ b ++ c ++ d)
lost_parts p a b c d =
    sym (filter_append p ((a ++ b) ++ c) d
    ∙ (ap (λ ys. ys ++ filter p d) (filter_append p (a ++ b) c)
    ∙ ap (λ ys. (ys ++ filter p c) ++ filter p d) (filter_append p a b)))

module _ (maps : List ArcMap) (i : ℕ) (p : Path) where
  pub step_on : (m : ArcMap) (o : Option Path) → i < length maps → m ≡ get_or maps i m → through_arc m p ≡ o → on_stage (drop i maps) p ≡ then_on (drop (i + 1) maps) o
  step_on m o within item is =
      ap (λ (ms : List ArcMap). on_stage ms p) (drop_more maps i m within ∙ ap (λ (x : ArcMap). x ∷ drop (i + 1) maps) (sym item))
      ∙ (first_arc m (drop (i + 1) maps) p ∙ ap (then_on (drop (i + 1) maps)) is)

  pub at_end : length maps ≤ i → on_stage (drop i maps) p ≡ Some p
  at_end past = ap (λ (ms : List ArcMap). on_stage ms p) (drop_all i maps past) ∙ no_more p

pub moved_next : (maps : List ArcMap) (paths : List Path) (i : ℕ) (p : Path) → i < length paths → p ≡ get_or paths i p → (there : Option Path) → there ≡ on_stage maps p
    → filter_map (on_stage maps) (take i paths) ++ option_to_list there ≡ filter_map (on_stage maps) (take (i + 1) paths)
moved_next maps paths i p within item there is =
    ap (λ (o : Option Path). filter_map (on_stage maps) (take i paths) ++ option_to_list o) is
    ∙ kept_next (on_stage maps) (is_lost maps) paths i p within item

pub lost_next : (maps : List ArcMap) (paths : List Path) (i : ℕ) (p : Path) → i < length paths → p ≡ get_or paths i p → (there : Option Path) → there ≡ on_stage maps p
    → filter (is_lost maps) (take i paths) ++ if_missing there p ≡ filter (is_lost maps) (take (i + 1) paths)
lost_next maps paths i p within item there is =
    ap (λ (o : Option Path). filter (is_lost maps) (take i paths) ++ if_missing o p) is
    ∙ (ap (λ (more : List Path). filter (is_lost maps) (take i paths) ++ more) (missing_is (on_stage maps p) p)
    ∙ chosen_next (on_stage maps) (is_lost maps) paths i p within item)
