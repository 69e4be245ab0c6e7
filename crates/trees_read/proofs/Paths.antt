-- Paths that are one element longer than others, and what stands in a table.
use Rattle.std.proofs.Common.{◌≡◌, ◌∙◌, ◌+◌, Bool, true, false, ◌||◌, List, [], ◌∷◌, ◌++◌, length, length-append, take, Option, Some, None, is_some, ap, sym, refl, subst, cond, arith}
use Rattle.std.specs.Cmp.{IsTotalOrder}
use Rattle.std.specs.Ordering.{is_eq, match_ordering}
use Rattle.std.specs.declared.cmp.Ordering.{Ordering}
use Rattle.std.specs.declared.cmp.Ordering.TheVariants.{Less, Equal, Greater}
use Rattle.std.proofs.Math.Seq.{take-append_seam}
use Rattle.std.proofs.lemmas.Bool.{false_from_ne_true}
use Rattle.std.proofs.lemmas.Option.{same_Some}
use Rattle.plain_data.specs.Ends.{last, front, last-push, front-push}
use Rattle.sdf_paths.specs.Order.{path_cmp}
use Rattle.sdf_paths.specs.PathOrder.{order_is}
use Rattle.sdf_paths.specs.Paths.{parent, is_empty}
use Rattle.sdf_paths.specs.contracts.path.PathOrd.TheImpl.Laws.{total-law}
use Rattle.sdf_paths.specs.declared.element.Element.{Element}
use Rattle.sdf_specs.proofs.PathLemmas.{same_path}
use Rattle.spec_tables.specs.Tables.{at_key, with_key}
use Rattle.value_texts.specs.Each.{AreAll}
use Rattle.value_texts.proofs.EachOf.{all_so}
use Rattle.trees_read.specs.Trees.{is_one}

pub paths_total : IsTotalOrder path_cmp
paths_total = subst (λ (R : List Element → List Element → Ordering). IsTotalOrder R) order_is total-law

-- ---- items

pub all_both : {T : Type 0} (P Q R : T → Type 0) → ((x : T) → P x → Q x → R x) → (xs : List T) → AreAll P xs → AreAll Q xs → AreAll R xs
all_both P Q R make [] h g = tt
all_both P Q R make (x ∷ xs) h g = (make x h.0 g.0, all_both P Q R make xs h.1 g.1)

-- ---- tests

pub either : (a b : Bool) {G : Type 0} → (a || b) ≡ true → (a ≡ true → G) → (b ≡ true → G) → G
either true b h one other = one refl
either false b h one other = other h

pub or_false : (a b : Bool) → b ≡ false → (a || b) ≡ a
or_false true b h = refl
or_false false b h = h

-- ---- paths

pub push_front : (p q : List Element) (x y : Element) → p ++ x ∷ [] ≡ q ++ y ∷ [] → p ≡ q
push_front p q x y h = sym (front-push p x) ∙ ap front h ∙ front-push q y

pub push_last : (p q : List Element) (x y : Element) → p ++ x ∷ [] ≡ q ++ y ∷ [] → x ≡ y
push_last p q x y h = same_Some x y (sym (last-push p x) ∙ ap last h ∙ last-push q y)

pub one_apart : (p q : List Element) → (p ≡ q → ⊥) → is_one p q ≡ false
one_apart p q apart = false_from_ne_true (is_one p q) (λ h. apart (same_path p q h))

pub longer : (p : List Element) (x : Element) → length (p ++ x ∷ []) ≡ length p + 1
longer p x = length-append p (x ∷ [])

pub parent_push : (q : List Element) (e : Element) → parent (q ++ e ∷ []) ≡ Some q
parent_push [] e = refl
parent_push (x ∷ q) e =
    let long : length (q ++ e ∷ []) ≡ length (x ∷ q) = omega (arith, length-append q (e ∷ [])) in
    ap (λ n. Some (take n (x ∷ q ++ e ∷ []))) long ∙ ap Some (take-append_seam (x ∷ q) (e ∷ []))

-- a path that is not empty, by its last element
pub ends_so : (path : List Element) → is_empty path ≡ false → (q : List Element) × (e : Element) × (path ≡ q ++ e ∷ [])
ends_so [] h = absurd cc
ends_so (x ∷ []) h = ([], x, refl)
ends_so (x ∷ y ∷ path) h = let r : (q : List Element) × (e : Element) × (y ∷ path ≡ q ++ e ∷ []) = ends_so (y ∷ path) refl in (x ∷ r.0, r.1, ap (λ (l : List Element). x ∷ l) r.2)

-- ---- tables

module _ {K V : Type 0} (cmp : K → K → Ordering) (tie : (x y : K) → cmp x y ≡ Equal → x ≡ y) where
  -- what stands at a key of a table with one more
  pub some_with : (q k : K) (v : V) (es : List (K × V)) → is_some (at_key cmp q (with_key cmp k v es)) ≡ (is_eq (cmp q k) || is_some (at_key cmp q es))
  some_with q k v [] = one (is_eq (cmp q k))
    where
      one : (b : Bool) → is_some (cond b (Some v) None) ≡ (b || false)
      one true = refl
      one false = refl
  some_with q k v (e ∷ es) = by (cmp k e.0) refl (some_with q k v es)
    where
      first : (b : Bool) (o : Option V) → is_some (cond b (Some v) o) ≡ (b || is_some o)
      first true o = refl
      first false o = refl

      twice : (a b : Bool) (o : Option V) → a ≡ b → is_some (cond b (Some v) o) ≡ (a || is_some (cond b (Some e.1) o))
      twice true b o h = ap (λ c. is_some (cond c (Some v) o)) (sym h)
      twice false b o h = ap (λ c. is_some (cond c (Some v) o)) (sym h) ∙ ap (λ c. is_some (cond c (Some e.1) o)) h

      behind : (a b : Bool) (o p : Option V) → is_some p ≡ (a || is_some o) → is_some (cond b (Some e.1) p) ≡ (a || is_some (cond b (Some e.1) o))
      behind true true o p h = refl
      behind false true o p h = refl
      behind a false o p h = h

      by : (o : Ordering) → cmp k e.0 ≡ o → is_some (at_key cmp q (with_key cmp k v es)) ≡ (is_eq (cmp q k) || is_some (at_key cmp q es))
          → is_some (at_key cmp q (match_ordering o ((k, v) ∷ e ∷ es) ((e.0, v) ∷ es) (e ∷ with_key cmp k v es))) ≡ (is_eq (cmp q k) || is_some (at_key cmp q (e ∷ es)))
      by Less h more = first (is_eq (cmp q k)) (at_key cmp q (e ∷ es))
      by Equal h more = twice (is_eq (cmp q k)) (is_eq (cmp q e.0)) (at_key cmp q es) (ap (λ x. is_eq (cmp q x)) (tie k e.0 h))
      by Greater h more = behind (is_eq (cmp q k)) (is_eq (cmp q e.0)) (at_key cmp q es) (at_key cmp q (with_key cmp k v es)) more

  -- what holds of each entry, and of one more
  pub all_with : (P : K × V → Type 0) (k : K) (v : V) (es : List (K × V)) → AreAll P es → P (k, v) → AreAll P (with_key cmp k v es)
  all_with P k v [] h one = (one, tt)
  all_with P k v (e ∷ es) h one = by (cmp k e.0) refl (all_with P k v es h.1 one)
    where
      by : (o : Ordering) → cmp k e.0 ≡ o → AreAll P (with_key cmp k v es) → AreAll P (match_ordering o ((k, v) ∷ e ∷ es) ((e.0, v) ∷ es) (e ∷ with_key cmp k v es))
      by Less is more = (one, h)
      by Equal is more = (subst (λ (x : K). P (x, v)) (tie k e.0 is) one, h.1)
      by Greater is more = (h.0, more)

  -- each entry is found at its key
  pub all_found : ((x : K) → is_eq (cmp x x) ≡ true) → (es : List (K × V)) → AreAll (λ e. is_some (at_key cmp e.0 es) ≡ true) es
  all_found itself [] = tt
  all_found itself (e ∷ es) =
      (ap (λ b. is_some (cond b (Some e.1) (at_key cmp e.0 es))) (itself e.0), all_so (λ f. is_some (at_key cmp f.0 es) ≡ true) (λ f. is_some (at_key cmp f.0 (e ∷ es)) ≡ true) (λ f h. past (is_eq (cmp f.0 e.0)) (at_key cmp f.0 es) h) es (all_found itself es))
    where
      past : (b : Bool) (o : Option V) → is_some o ≡ true → is_some (cond b (Some e.1) o) ≡ true
      past true o h = refl
      past false o h = h
