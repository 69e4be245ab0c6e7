-- The dates of a kept stage of views are those of composition.
use Rattle.std.proofs.Common.{◌≡◌, ◌⊎◌, inl, inr, refl, sym, ap, ◌∙◌, subst, ℕ, zero, suc, Bool, true, false, true≢false, not, List, [], ◌∷◌, ◌++◌, map, flat_map, length, Contains}
use Rattle.std.specs.List.{list_any}
use Rattle.std.proofs.lemmas.List.Elements.{All-contains}
use Rattle.compose_api.specs.Stage.{walked as walked_below}
use Rattle.composition.specs.Texts.{Text}
use Rattle.composition.specs.Paths.{Path, Limits, same_path}
use Rattle.composition.specs.World.{World}
use Rattle.composition.specs.Fields.{child_path}
use Rattle.composition.specs.Views.{PrimView, view, walked, stage}
use Rattle.composition.specs.Keys.{Key, value_of, reads}
use Rattle.composition.specs.Dates.{IsTouchedBy, IsTouched, IsOnStage, IsDatedAnew, IsSince}
use Rattle.composition.proofs.Members.{none_in, head_in, tail_in, cases_in}
use Rattle.composition.proofs.Same.{path_same, path_itself}
use Rattle.kept_stages.specs.Laws.{children_of}
use Rattle.kept_stages.specs.Dates.{Version, on_stage, touched_along, dated_anew, since}
use Rattle.kept_stages.proofs.Dates.{or_cases}
use Rattle.kept_stages.proofs.Machine.{neither}
use Rattle.kept_stages.specs.DatedViews.{TellsExactly, version_of, ViewsAreDated}

-- ---- the walk

module _ (l : Limits) (w : World) where
  abbrev below : ℕ → Path → List (Path × PrimView)
  below n p = walked_below (view l) children_of n w p

  at_no_level : (p : Path) → below zero p ≡ []
  unfolding walked_below
  at_no_level p = refl

  at_a_level : (n : ℕ) (p : Path) → below (suc n) p ≡ (p, view l w p) ∷ flat_map (below n) (children_of p (view l w p))
  unfolding walked_below
  at_a_level n p = refl

  none_below : (p : Path) (names : List Text) → flat_map (below zero) (map (child_path p) names) ≡ []
  none_below p [] = refl
  none_below p (name ∷ names) = (λ i. at_no_level (child_path p name) i ++ none_below p names i)

  by_names : (n : ℕ) (p : Path) → ((name : Text) → below (suc n) (child_path p name) ≡ walked l w n (child_path p name)) → (names : List Text)
      → flat_map (below (suc n)) (map (child_path p) names) ≡ flat_map (λ name. walked l w n (child_path p name)) names
  by_names n p same [] = refl
  by_names n p same (name ∷ names) = let rest = by_names n p same names in (λ i. same name i ++ rest i)

  same_walk : (n : ℕ) (p : Path) → below (suc n) p ≡ walked l w n p
  same_walk zero p = at_a_level zero p ∙ ap (λ (rest : List (Path × PrimView)). (p, view l w p) ∷ rest) (none_below p (view l w p).children)
  same_walk (suc n) p =
      at_a_level (suc n) p
      ∙ ap (λ (rest : List (Path × PrimView)). (p, view l w p) ∷ rest) (by_names n p (λ name. same_walk n (child_path p name)) (view l w p).children)

-- ---- places on it

found : (p : Path) (items : List (Path × PrimView)) → list_any (λ e. same_path e.0 p) items ≡ true → Contains (map (λ (e : Path × PrimView). e.0) items) p
found p [] h = absurd (true≢false (sym h))
found p (e ∷ items) h = by (found p items) (or_cases (same_path e.0 p) (list_any (λ x. same_path x.0 p) items) h)
  where
    by : (list_any (λ x. same_path x.0 p) items ≡ true → Contains (map (λ (x : Path × PrimView). x.0) items) p) → (same_path e.0 p ≡ true) ⊎ (list_any (λ x. same_path x.0 p) items ≡ true)
        → Contains (map (λ (x : Path × PrimView). x.0) (e ∷ items)) p
    by more (inl here) = subst (λ (q : Path). Contains (map (λ (x : Path × PrimView). x.0) (e ∷ items)) q) (path_same e.0 p here) (head_in e.0 (map (λ (x : Path × PrimView). x.0) items))
    by more (inr further) = tail_in e.0 (map (λ (x : Path × PrimView). x.0) items) p (more further)

not_found : (p : Path) (items : List (Path × PrimView)) → list_any (λ e. same_path e.0 p) items ≡ false → Contains (map (λ (e : Path × PrimView). e.0) items) p → ⊥
not_found p [] h has = none_in p has
not_found p (e ∷ items) h has =
    let parts = neither (same_path e.0 p) (list_any (λ x. same_path x.0 p) items) h in
    by parts.0 (not_found p items parts.1) (cases_in e.0 (map (λ (x : Path × PrimView). x.0) items) p has)
  where
    by : same_path e.0 p ≡ false → (Contains (map (λ (x : Path × PrimView). x.0) items) p → ⊥) → (e.0 ≡ p) ⊎ Contains (map (λ (x : Path × PrimView). x.0) items) p → ⊥
    by differs more (inl here) = true≢false (sym (path_itself e.0) ∙ (ap (λ (q : Path). same_path e.0 q) here ∙ differs))
    by differs more (inr further) = more further

module _ (l : Limits) (meets : World → World → List Key → Bool) (tells : TellsExactly meets) where
  abbrev on : World → Path → Bool
  on w p = on_stage (view l) (reads l) children_of same_path meets [] (suc l.names) w p

  on_is : (w : World) (p : Path) → on w p ≡ list_any (λ e. same_path e.0 p) (stage l w)
  on_is w p = ap (λ (items : List (Path × PrimView)). list_any (λ e. same_path e.0 p) items) (same_walk l w l.names [])

  is_on : (w : World) (p : Path) → on w p ≡ true → IsOnStage l w p
  is_on w p h = found p (stage l w) (sym (on_is w p) ∙ h)

  is_off : (w : World) (p : Path) → on w p ≡ false → IsOnStage l w p → ⊥
  is_off w p h = not_found p (stage l w) (sym (on_is w p) ∙ h)

  -- ---- batches

  abbrev along : World → List World → Path → Bool
  along w vs p = touched_along (view l) (reads l) children_of same_path meets [] (suc l.names) w vs p

  is_touched : (w : World) (vs : List World) (p : Path) → along w vs p ≡ true → IsTouched l w vs p
  is_touched w [] p h = absurd (true≢false (sym h))
  is_touched w (v ∷ vs) p h = by (is_touched v vs p) (or_cases (meets w v (reads l w p)) (along v vs p) h)
    where
      by : (along v vs p ≡ true → IsTouched l v vs p) → (meets w v (reads l w p) ≡ true) ⊎ (along v vs p ≡ true) → IsTouchedBy l w v p ⊎ IsTouched l v vs p
      by more (inl here) = let one = tells.some w v (reads l w p) here in inl (record { key = one.key; is_read = one.among; is_changed = one.changed })
      by more (inr further) = inr (more further)

  not_touched : (w : World) (vs : List World) (p : Path) → along w vs p ≡ false → IsTouched l w vs p → ⊥
  not_touched w [] p h touched = touched
  not_touched w (v ∷ vs) p h touched = let parts = neither (meets w v (reads l w p)) (along v vs p) h in by parts.0 (not_touched v vs p parts.1) touched
    where
      by : meets w v (reads l w p) ≡ false → (IsTouched l v vs p → ⊥) → IsTouchedBy l w v p ⊎ IsTouched l v vs p → ⊥
      by none more (inl here) =
          here.is_changed (All-contains (λ (key : Key). value_of w key ≡ value_of v key) (reads l w p) here.key (tells.none w v (reads l w p) none) here.is_read)
      by none more (inr further) = more further

  -- ---- dates

  anew : (new old : Version World) (p : Path) → dated_anew (view l) (reads l) children_of same_path meets [] (suc l.names) new old p ≡ true → IsDatedAnew l (version_of new) (version_of old) p
  anew new old p h = by (on old.world p) refl (or_cases (not (on old.world p)) (along old.world new.steps p) h)
    where
      by : (b : Bool) → on old.world p ≡ b → (not (on old.world p) ≡ true) ⊎ (along old.world new.steps p ≡ true) → IsDatedAnew l (version_of new) (version_of old) p
      by true is (inl off) = absurd (true≢false (sym off ∙ ap not is))
      by false is (inl off) = inl (is_off old.world p is)
      by b is (inr touched) = inr (is_touched old.world new.steps p touched)

  not_anew : (new old : Version World) (p : Path) → dated_anew (view l) (reads l) children_of same_path meets [] (suc l.names) new old p ≡ false → IsDatedAnew l (version_of new) (version_of old) p → ⊥
  not_anew new old p h is = let parts = neither (not (on old.world p)) (along old.world new.steps p) h in by (on old.world p) refl parts.0 parts.1 is
    where
      by : (b : Bool) → on old.world p ≡ b → not (on old.world p) ≡ false → along old.world new.steps p ≡ false → (¬ (IsOnStage l old.world p)) ⊎ IsTouched l old.world new.steps p → ⊥
      by true there off none (inl away) = away (is_on old.world p there)
      by false there off none (inl away) = true≢false (ap not (sym there) ∙ off)
      by b there off none (inr touched) = not_touched old.world new.steps p none touched

  dated : (new : Version World) (older : List (Version World)) (p : Path)
      → IsSince l (map version_of (new ∷ older)) p (since (view l) (reads l) children_of same_path meets [] (suc l.names) (new ∷ older) p)
  dated new [] p = refl
  dated new (old ∷ older) p = by (dated_anew (view l) (reads l) children_of same_path meets [] (suc l.names) new old p) refl (dated old older p)
    where
      same_length : (vs : List (Version World)) → length vs ≡ length (map version_of vs)
      same_length [] = refl
      same_length (v ∷ vs) = ap suc (same_length vs)

      by : (b : Bool) → dated_anew (view l) (reads l) children_of same_path meets [] (suc l.names) new old p ≡ b
          → IsSince l (map version_of (old ∷ older)) p (since (view l) (reads l) children_of same_path meets [] (suc l.names) (old ∷ older) p)
          → IsSince l (map version_of (new ∷ old ∷ older)) p (elim b as (λ _. ℕ) [ true ↦ length (old ∷ older) | false ↦ since (view l) (reads l) children_of same_path meets [] (suc l.names) (old ∷ older) p ])
      by true is rest = inl (anew new old p is, same_length (old ∷ older))
      by false is rest = inr (not_anew new old p is, rest)

pub views_are_dated : ViewsAreDated
views_are_dated = record { dated = dated }
