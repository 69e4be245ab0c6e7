-- A path that no batch touches keeps its view, and so it has the same view in all versions since its date.
use Rattle.std.proofs.Common.{◌≡◌, ◌⊎◌, inl, inr, refl, sym, ap, ◌∙◌, subst, ℕ, ◌≤◌, nat_le, Bool, true, false, List, [], ◌∷◌, length, All, Contains, arith}
use Rattle.std.proofs.lemmas.Bool.{leb-true}
use Rattle.std.proofs.lemmas.List.Elements.{All-nil, All-cons, All-weaker}
use Rattle.composition.specs.Paths.{Path, Limits}
use Rattle.composition.specs.World.{World}
use Rattle.composition.specs.Views.{view}
use Rattle.composition.specs.Keys.{Key, value_of, reads, Agree, IsChanged}
use Rattle.composition.specs.Dates.{Version, IsTouchedBy, IsTouched, IsDatedAnew, IsSince}
use Rattle.composition.proofs.Members.{head_in, tail_in}
use Rattle.agreeing_worlds.specs.Since.{after, AreVersions, from_number, DatesHold}
use Rattle.agreeing_worlds.proofs.Covers.{reads_cover}
use Rattle.agreeing_worlds.proofs.Stable.{unchanged}

module _ (l : Limits) where
  -- the two worlds are one to a path: it has the same view, and reads the same
  abbrev SameIn : World → World → Path → Type 0
  SameIn w v p = (view l v p ≡ view l w p) × (reads l v p ≡ reads l w p)

  all_unchanged : (w v : World) (keys : List Key) → ((key : Key) → Contains keys key → ¬ (IsChanged w v key)) → Agree w v keys
  all_unchanged w v [] none = All-nil (λ key. value_of w key ≡ value_of v key)
  all_unchanged w v (key ∷ keys) none =
      All-cons (λ k. value_of w k ≡ value_of v k) key keys (unchanged w v key (none key (head_in key keys)))
      (all_unchanged w v keys (λ k has. none k (tail_in key keys k has)))

  agreeing : (w v : World) (p : Path) → ¬ (IsTouchedBy l w v p) → Agree w v (reads l w p)
  agreeing w v p none = all_unchanged w v (reads l w p) (λ key has changed. none (record { key = key; is_read = has; is_changed = changed }))

  untouched : (w v : World) (p : Path) → ¬ (IsTouchedBy l w v p) → SameIn w v p
  untouched w v p none = (reads_cover.same_view l w v p (agreeing w v p none), reads_cover.same_reads l w v p (agreeing w v p none))

  never_touched : (w : World) (steps : List World) (p : Path) → ¬ (IsTouched l w steps p) → SameIn w (after w steps) p
  never_touched w [] p none = (refl, refl)
  never_touched w (v ∷ vs) p none =
      let first : SameIn w v p = untouched w v p (λ touched. none (inl touched)) in
      let rest : SameIn v (after v vs) p = never_touched v vs p (λ touched. none (inr touched)) in
      (rest.0 ∙ first.0, rest.1 ∙ first.1)

  -- ---- versions

  abbrev SameView : World → Path → Version → Type 0
  SameView w p v = view l v.world p ≡ view l w p

  none_since : (p : Path) (w : World) (vs : List Version) (since : ℕ) → length vs ≤ since → from_number since vs ≡ []
  none_since p w [] since less = refl
  none_since p w (v ∷ older) since less = by (nat_le since (length older)) refl
    where
      by : (b : Bool) → nat_le since (length older) ≡ b → elim b as (λ _. List Version) [ true ↦ v ∷ from_number since older | false ↦ [] ] ≡ []
      by true is = let enough : since ≤ length older = leb-true since (length older) is in absurd (omega (arith, enough, less))
      by false is = refl

  from_here : (p : Path) (since : ℕ) (new : Version) (older : List Version) → All (SameView new.world p) (from_number since older) → All (SameView new.world p) (from_number since (new ∷ older))
  from_here p since new older rest = by (nat_le since (length older))
    where
      by : (b : Bool) → All (SameView new.world p) (elim b as (λ _. List Version) [ true ↦ new ∷ from_number since older | false ↦ [] ])
      by true = All-cons (SameView new.world p) new (from_number since older) refl rest
      by false = All-nil (SameView new.world p)

  as_it_is : (new : Version) (older : List Version) (p : Path) (since : ℕ) → AreVersions (new ∷ older) → IsSince l (new ∷ older) p since
      → All (SameView new.world p) (from_number since (new ∷ older))
  as_it_is new [] p since are is = from_here p since new [] (All-nil (SameView new.world p))
  as_it_is new (old ∷ older) p since are is = by (as_it_is old older p since are.1) is
    where
      by : (IsSince l (old ∷ older) p since → All (SameView old.world p) (from_number since (old ∷ older)))
          → (IsDatedAnew l new old p × (since ≡ length (old ∷ older))) ⊎ (¬ (IsDatedAnew l new old p) × IsSince l (old ∷ older) p since)
          → All (SameView new.world p) (from_number since (new ∷ old ∷ older))
      by before (inl anew) =
          let none : from_number since (old ∷ older) ≡ [] = none_since p new.world (old ∷ older) since (omega (arith, anew.1)) in
          from_here p since new (old ∷ older) (subst (λ (vs : List Version). All (SameView new.world p) vs) (sym none) (All-nil (SameView new.world p)))
      by before (inr kept) =
          let same : view l (after old.world new.steps) p ≡ view l old.world p = (never_touched old.world new.steps p (λ touched. kept.0 (inr touched))).0 in
          let now : view l old.world p ≡ view l new.world p = sym same ∙ ap (λ (w : World). view l w p) are.0 in
          from_here p since new (old ∷ older) (All-weaker (SameView old.world p) (SameView new.world p) (λ v is. is ∙ now) (from_number since (old ∷ older)) (before kept.1))

pub dates_hold : DatesHold
dates_hold = record {
  unchanged = unchanged;
  untouched = untouched;
  never_touched = never_touched;
  as_it_is = as_it_is;
}
