-- When a version of a stage dates a prim anew, and when it does not. The keys that a prim reads and the paths of a stage are given as
-- lists to which they compute.
use Rattle.std.proofs.Common.{◌≡◌, ℕ, ℤ, unsigned_abs, false, true, List, [], ◌∷◌, Option, Some, None, length, map, refl, sym, ap, subst, ◌∙◌, inl, inr}
use Rattle.std.specs.List.{Contains, AllByRecursion}
use Rattle.std.proofs.lemmas.Bool.{false≢true}
use Rattle.std.proofs.lemmas.List.Elements.{All-from_recursion, All-contains, All-same}
use Rattle.sdf_values.specs.declared.value.DictItem.{DictItem}
use Rattle.sdf_values.specs.declared.value.Value.{Value, out-Value, out-roll-Value}
use Rattle.sdf_values.specs.declared.value.Value.TheOpen.{Value-F}
use Rattle.sdf_values.specs.declared.value.Value.TheVariants as value
use Rattle.sdf_values.specs.declared.value.Value.TheVariants.{rolls-Whole}
use Rattle.spec_properties.specs.declared.property.Property.{Property}
use Rattle.spec_properties.specs.declared.property.Property.TheVariants.{Attr, Rel}
use Rattle.composition.specs.Keys.{Key, KeyValue, body_value, roots_value, value_of, reads}
use Rattle.composition.specs.Dates.{Version, IsTouchedBy, IsTouched, IsOnStage, IsDatedAnew, IsSince}
use Rattle.composition.specs.Paths.{Path, Limits, same_path}
use Rattle.composition.specs.Views.{stage}
use Rattle.composition.specs.World.{World}

-- ---- what tells two values of a key apart

abbrev whole : Value-F Value DictItem → ℕ
whole (Value-F.Whole n) = unsigned_abs n
whole _ = 0

abbrev default_of : Option Value → ℕ
default_of None = 0
default_of (Some v) = whole (out-Value v)

abbrev number_of : List Property → ℕ
number_of [] = 0
number_of (Attr name ty custom uniform default samples connections meta ∷ ps) = default_of default
number_of (Rel name custom targets meta ∷ ps) = 0

-- the whole number that the first attribute of a body has by default
abbrev pub first_number : KeyValue → ℕ
first_number (body_value (Some b)) = number_of b.properties
first_number _ = 0

number_is : (n : ℤ) → default_of (Some (value.Whole n)) ≡ unsigned_abs n
number_is n = ap (λ (v : Value). whole (out-Value v)) (sym (rolls-Whole n)) ∙ ap whole (out-roll-Value (Value-F.Whole n))

-- the same number as a default is the same number
pub same_numbers : (m n : ℤ) → default_of (Some (value.Whole m)) ≡ default_of (Some (value.Whole n)) → unsigned_abs m ≡ unsigned_abs n
same_numbers m n e = sym (number_is m) ∙ (e ∙ number_is n)

-- how many root prims a layer names
abbrev pub roots_named : KeyValue → ℕ
roots_named (roots_value (Some r)) = length r.names
roots_named _ = 0

module _ (l : Limits) where
  -- what a prim reads is among the keys to which that computes
  pub is_read : (w : World) (p : Path) (ks : List Key) (k : Key) → reads l w p ≡ ks → Contains ks k → Contains (reads l w p) k
  is_read w p ks k e among = subst (λ (xs : List Key). Contains xs k) (sym e) among

  -- an edit that leaves all that a prim reads as it is does not touch the prim
  pub untouched : (w v : World) (p : Path) (ks : List Key) → reads l w p ≡ ks → AllByRecursion (λ k. value_of w k ≡ value_of v k) ks → IsTouchedBy l w v p → ⊥
  untouched w v p ks e same touched =
      touched.is_changed (All-contains (λ k. value_of w k ≡ value_of v k) (reads l w p) touched.key
      (All-same (λ k. value_of w k ≡ value_of v k) (reads l w p) ks e (All-from_recursion (λ k. value_of w k ≡ value_of v k) ks same)) touched.is_read)

  -- a prim is on the stage that computes to these paths
  pub on_stage : (w : World) (p : Path) (ps : List Path) → map (λ e. e.0) (stage l w) ≡ ps → Contains ps p → IsOnStage l w p
  on_stage w p ps e among = subst (λ (xs : List Path). Contains xs p) (sym e) among

  -- a path that is none of these is not
  pub off_stage : (w : World) (p : Path) (ps : List Path) → map (λ e. e.0) (stage l w) ≡ ps → AllByRecursion (λ q. same_path q p ≡ false) ps → same_path p p ≡ true → IsOnStage l w p → ⊥
  off_stage w p ps e none itself among =
      false≢true (sym (All-contains (λ q. same_path q p ≡ false) ps p (All-from_recursion (λ q. same_path q p ≡ false) ps none) (subst (λ (xs : List Path). Contains xs p) e among)) ∙ itself)

  -- one batch, or another after it, touches a prim of the first version
  pub dated_by_touch : (new old : Version) (p : Path) → IsTouched l old.world new.steps p → IsSince l (new ∷ old ∷ []) p 1
  dated_by_touch new old p touched = inl (inr touched, refl)

  -- a prim is new in the second version
  pub dated_as_new : (new old : Version) (p : Path) → (IsOnStage l old.world p → ⊥) → IsSince l (new ∷ old ∷ []) p 1
  dated_as_new new old p off = inl (inl off, refl)

  not_anew : (new old : Version) (p : Path) → IsOnStage l old.world p → (IsTouched l old.world new.steps p → ⊥) → IsDatedAnew l new old p → ⊥
  not_anew new old p on none (inl off) = off on
  not_anew new old p on none (inr touched) = none touched

  -- a prim of the first version that no batch touches
  pub left : (new old : Version) (p : Path) → IsOnStage l old.world p → (IsTouched l old.world new.steps p → ⊥) → IsSince l (new ∷ old ∷ []) p 0
  left new old p on none = inr (not_anew new old p on none, refl)
