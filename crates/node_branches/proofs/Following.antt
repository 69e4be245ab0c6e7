-- Which paths are within the limits, and what the tests of an arc tell.
use Rattle.std.proofs.Common.{◌≡◌, ◌∙◌, sym, ap, refl, subst, ℕ, zero, suc, ◌+◌, ◌-◌, ◌||◌, Bool, true, false, List, [], ◌∷◌, ◌++◌, length, take, drop, Option, Some, None}
use Rattle.std.specs.Prelude.{not}
use Rattle.std.specs.Option.{IsSomeAnd, option_map, is_some, is_none}
use Rattle.std.proofs.lemmas.List.Folds.{list_any-append}
use Rattle.std.specs.List.{list_any}
use Rattle.sdf_paths.specs.Paths.{IsPath, IsRefusal, same_element, rest_after, replaced, has_prefix, is_property}
use Rattle.sdf_paths.specs.declared.fault.PathFault.TheVariants.{Bad}
use Rattle.composition.specs.Texts.{both}
use Rattle.composition.specs.Paths.{Path, limits, fits, is_prefix, up, tail}
use Rattle.composition.specs.World.{StackName, same_stack, in_range}
use Rattle.sdf_values.specs.Scales.{Offset, composed}
use Rattle.composition.specs.Arcs.{Lead}
use Rattle.composition.specs.Nodes.{is_related}
use Rattle.node_branches.specs.Following.{if_fits, if_in_range, on_chain}
use Rattle.composition.proofs.Same.{element_itself}
use Rattle.composition.proofs.Tests.{by_test}
use Rattle.composition.proofs.Fitting.{kept_if, path_fits, joined_fits}

after_front : (k : ℕ) (p : Path) → rest_after (take k p) p ≡ Some (drop k p)
after_front zero p = refl
after_front (suc k) [] = refl
after_front (suc k) (e ∷ p) = rw (element_itself e, rest_after) (after_front k p)

module _ (p : Path) (j : ℕ) (target : Path) where
  moves : replaced (up p j) target p ≡ Some (target ++ tail p j)
  moves = ap (λ (o : Option Path). option_map (λ r. target ++ r) o) (after_front (length p - j) p)

  pub moved : (there : Path) → Some there ≡ replaced (up p j) target p → IsPath there → Some there ≡ if_fits (target ++ tail p j)
  moved there is good =
      let same : there ≡ target ++ tail p j = (let e : Some there ≡ Some (target ++ tail p j) = is ∙ moves in cc) in
      sym (ap (λ (q : Path). if_fits q) (sym same) ∙ ap (kept_if there) (path_fits there good))

  no_path : IsPath target → IsPath p → (target ≡ [] → ⊥) → is_property target ≡ false → (IsPath (target ++ tail p j) → ⊥) → if_fits (target ++ tail p j) ≡ None
  no_path good whole below prim bad = by_test (fits limits (target ++ tail p j))
      (λ on. absurd (bad (joined_fits (up p j) target p (tail p j) good whole below prim (sym (after_front (length p - j) p)) on)))
      (λ off. ap (kept_if (target ++ tail p j)) off)

  pub refused : (at : ℕ) → IsPath target → IsPath p → (target ≡ [] → ⊥) → is_property target ≡ false → IsSomeAnd (replaced (up p j) target p) (λ q. IsRefusal q (Bad at))
      → None ≡ if_fits (target ++ tail p j)
  refused at good whole below prim h =
      let bad = subst (λ (o : Option Path). IsSomeAnd o (λ q. IsRefusal q (Bad at))) moves h in
      sym (no_path good whole below prim bad.1)

-- ---- prefixes

pub prefix_told : (p q : Path) → is_prefix p q ≡ has_prefix p q
prefix_told [] q = refl
prefix_told (e ∷ p) [] = refl
prefix_told (e ∷ p) (x ∷ q) = by_same (same_element e x) (prefix_told p q)
  where
    by_same : (b : Bool) → is_prefix p q ≡ has_prefix p q
        → (elim b as (λ _. Bool) [ true ↦ is_prefix p q | false ↦ false ]) ≡ is_some (elim b as (λ _. Option Path) [ true ↦ rest_after p q | false ↦ None ])
    by_same true rest = rest
    by_same false rest = refl

-- ---- one path begins with the other

pub related_one : (p q : Path) (r : Bool) → r ≡ has_prefix p q → r ≡ true → r ≡ is_related p q
related_one p q r is on =
    on ∙ sym (ap (λ (b : Bool). elim b as (λ _. Bool) [ true ↦ true | false ↦ is_prefix q p ]) (prefix_told p q ∙ sym is ∙ on))

pub related_other : (p q : Path) (r s : Bool) → r ≡ has_prefix p q → r ≡ false → s ≡ has_prefix q p → s ≡ is_related p q
related_other p q r s is off other =
    other ∙ sym (prefix_told q p)
    ∙ sym (ap (λ (b : Bool). elim b as (λ _. Bool) [ true ↦ true | false ↦ is_prefix q p ]) (prefix_told p q ∙ sym is ∙ off))

-- ---- why an arc is not followed

pub none_fits : (p : Path) (o : Option Path) (r : Bool) → o ≡ if_fits p → r ≡ is_none o → r ≡ not (fits limits p)
none_fits p o r is told = told ∙ ap (λ (x : Option Path). is_none x) is ∙ by_fit (fits limits p)
  where
    by_fit : (b : Bool) → is_none (kept_if p b) ≡ not b
    by_fit true = refl
    by_fit false = refl

pub none_in_range : (inner outer : Offset) (o : Option Offset) (r : Bool) → o ≡ if_in_range inner outer → r ≡ is_none o → r ≡ not (in_range (composed inner outer))
none_in_range inner outer o r is told = told ∙ ap (λ (x : Option Offset). is_none x) is ∙ by_range (in_range (composed inner outer))
  where
    by_range : (b : Bool) → is_none (elim b as (λ _. Option Offset) [ true ↦ Some (composed inner outer) | false ↦ None ]) ≡ not b
    by_range true = refl
    by_range false = refl

-- an arc leads back to an author on its way, or to its own
module _ (chain : List (StackName × Path)) (s : StackName) (p : Path) (a : Lead) where
  longer : on_chain (chain ++ (s, p) ∷ []) a ≡ (on_chain chain a || (both (same_stack s a.stack) (is_related a.target p) || false))
  longer = list_any-append (λ x. both (same_stack x.0 a.stack) (is_related a.target x.1)) chain ((s, p) ∷ [])

  pub back_before : (before : Bool) → before ≡ on_chain chain a → before ≡ true → true ≡ on_chain (chain ++ (s, p) ∷ []) a
  back_before before is on = sym (longer ∙ ap (λ b. b || (both (same_stack s a.stack) (is_related a.target p) || false)) (sym is ∙ on))

  pub back_here : (before here : Bool) → before ≡ on_chain chain a → before ≡ false → here ≡ both (same_stack s a.stack) (is_related a.target p) → here ≡ on_chain (chain ++ (s, p) ∷ []) a
  back_here before here is off told =
      told ∙ last (both (same_stack s a.stack) (is_related a.target p))
      ∙ sym (longer ∙ ap (λ b. b || (both (same_stack s a.stack) (is_related a.target p) || false)) (sym is ∙ off))
    where
      last : (b : Bool) → b ≡ (b || false)
      last true = refl
      last false = refl
