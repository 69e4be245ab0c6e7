-- Which paths are within the limits, and how a path is lifted.
use Rattle.std.proofs.Common.{◌≡◌, ◌∙◌, sym, ap, refl, ℕ, Bool, true, false, [], ◌∷◌, ◌++◌, length, drop, Option, Some, None}
use Rattle.std.specs.Prelude.{nat_le, unwrap_or}
use Rattle.std.specs.Option.{IsSomeAnd, option_map}
use Rattle.sdf_paths.specs.Paths.{IsPath, IsRefusal, same_element, rest_after, replaced, is_property}
use Rattle.sdf_paths.specs.declared.element.Element.{Element}
use Rattle.sdf_paths.specs.declared.fault.PathFault.TheVariants.{Bad}
use Rattle.composition.specs.Paths.{Path, limits, fits, is_prefix}
use Rattle.composition.specs.Trees.{Branch, Class, lifted_target, lifted_class}
use Rattle.class_arcs.specs.Lifting.{within_limits}
use Rattle.composition.proofs.Tests.{by_test}
use Rattle.composition.proofs.Fitting.{kept_if, path_fits as path_within, joined_fits}

pub path_fits : (p : Path) → IsPath p → within_limits p ≡ Some p
unfolding within_limits
path_fits p h = ap (kept_if p) (path_within p h)

-- what may be put together and is no path passes a limit
no_path : (target by p rest : Path) → IsPath by → IsPath p → (by ≡ [] → ⊥) → is_property by ≡ false → Some rest ≡ rest_after target p → (IsPath (by ++ rest) → ⊥) → within_limits (by ++ rest) ≡ None
unfolding within_limits
no_path target by p rest good whole below prim is bad =
    by_test (fits limits (by ++ rest))
    (λ on. absurd (bad (joined_fits target by p rest good whole below prim is on)))
    (λ off. ap (kept_if (by ++ rest)) off)

-- ---- a path is lifted as a prefix of it is replaced

abbrev if_begins : Path → Bool → Option Path
if_begins rest b = elim b as (λ _. Option Path) [ true ↦ Some rest | false ↦ None ]

by_same : (e x : Element) (target p : Path) (b : Bool) → if_begins (drop (length target) p) (is_prefix target p) ≡ rest_after target p
    → if_begins (drop (length target) p) (elim b as (λ _. Bool) [ true ↦ is_prefix target p | false ↦ false ]) ≡ (elim b as (λ _. Option Path) [ true ↦ rest_after target p | false ↦ None ])
by_same e x target p true h = h
by_same e x target p false h = refl

rest_is : (target p : Path) → if_begins (drop (length target) p) (is_prefix target p) ≡ rest_after target p
rest_is [] p = refl
rest_is (e ∷ target) [] = refl
rest_is (e ∷ target) (x ∷ p) = by_same e x target p (same_element e x) (rest_is target p)

pub lifted_is : (target by p : Path) → lifted_target limits target by p ≡ unwrap_or (replaced target by p) p
lifted_is target by p = by_prefix (is_prefix target p) (drop (length target) p) ∙ ap (λ (o : Option Path). unwrap_or (option_map (λ r. by ++ r) o) p) (rest_is target p)
  where
    by_prefix : (b : Bool) (rest : Path) → (elim b as (λ _. Path) [ true ↦ by ++ rest | false ↦ p ]) ≡ unwrap_or (option_map (λ r. by ++ r) (if_begins rest b)) p
    by_prefix true rest = refl
    by_prefix false rest = refl

pub lifted_moved : (target by p moved : Path) → Some moved ≡ replaced target by p → IsPath moved → Some moved ≡ within_limits (lifted_target limits target by p)
lifted_moved target by p moved is good =
    let same : lifted_target limits target by p ≡ moved = lifted_is target by p ∙ sym (ap (λ (o : Option Path). unwrap_or o p) is) in
    sym (ap within_limits same ∙ path_fits moved good)

pub lifted_stays : (target by p : Path) → None ≡ replaced target by p → IsPath p → Some p ≡ within_limits (lifted_target limits target by p)
lifted_stays target by p is good =
    let same : lifted_target limits target by p ≡ p = lifted_is target by p ∙ sym (ap (λ (o : Option Path). unwrap_or o p) is) in
    sym (ap within_limits same ∙ path_fits p good)

pub lifted_refused : (target by p : Path) (at : ℕ) → IsPath by → IsPath p → (by ≡ [] → ⊥) → is_property by ≡ false → IsSomeAnd (replaced target by p) (λ q. IsRefusal q (Bad at))
    → None ≡ within_limits (lifted_target limits target by p)
lifted_refused target by p at good whole below prim h = by_rest (rest_after target p) refl h
  where
    by_rest : (o : Option Path) → o ≡ rest_after target p → IsSomeAnd (option_map (λ r. by ++ r) o) (λ q. IsRefusal q (Bad at)) → None ≡ within_limits (lifted_target limits target by p)
    by_rest None is refused = absurd refused
    by_rest (Some rest) is refused =
        let same : lifted_target limits target by p ≡ by ++ rest = lifted_is target by p ∙ sym (ap (λ (o : Option Path). unwrap_or (option_map (λ r. by ++ r) o) p) is) in
        sym (ap within_limits same ∙ no_path target by p rest good whole below prim is refused.1)

-- ---- a class of a child, once its path is lifted

pub pair_lifted : (level : ℕ) (p : Path) → (elim (fits limits p) as (λ _. Option Class) [ true ↦ Some (level, p) | false ↦ None ]) ≡ option_map (λ t. (level, t)) (within_limits p)
unfolding within_limits
pair_lifted level p = by_fits (fits limits p)
  where
    by_fits : (b : Bool) → (elim b as (λ _. Option Class) [ true ↦ Some (level, p) | false ↦ None ]) ≡ option_map (λ t. (level, t)) (kept_if p b)
    by_fits true = refl
    by_fits false = refl

pub class_lifted : (b : Branch) (author : Path) (c : Class) (o : Option Path) → nat_le c.0 b.level ≡ true → o ≡ within_limits (lifted_target limits b.lead.target author c.1)
    → lifted_class limits b author c ≡ option_map (λ t. (c.0, t)) o
class_lifted b author c o low is =
    ap (λ (x : Bool). elim x as (λ _. Option Class) [
      | false ↦ None
      | true ↦ elim (fits limits (lifted_target limits b.lead.target author c.1)) as (λ _. Option Class) [ true ↦ Some (c.0, lifted_target limits b.lead.target author c.1) | false ↦ None ]
    ]) low
    ∙ pair_lifted c.0 (lifted_target limits b.lead.target author c.1)
    ∙ ap (option_map (λ t. (c.0, t))) (sym is)

pub class_above : (b : Branch) (author : Path) (c : Class) → nat_le c.0 b.level ≡ false → lifted_class limits b author c ≡ None
class_above b author c high =
    ap (λ (x : Bool). elim x as (λ _. Option Class) [
      | false ↦ None
      | true ↦ elim (fits limits (lifted_target limits b.lead.target author c.1)) as (λ _. Option Class) [ true ↦ Some (c.0, lifted_target limits b.lead.target author c.1) | false ↦ None ]
    ]) high
