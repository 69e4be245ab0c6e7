-- Entries put one after the other into a table.
use Rattle.std.proofs.Common.{◌≡◌, ◌∙◌, sym, ap, refl, subst, List, [], ◌∷◌, ◌++◌, append_assoc, Option, Some, None}
use Rattle.std.specs.Prelude.{filter_map}
use Rattle.std.specs.List.{AllByRecursion, cons_option}
use Rattle.std.specs.List.Sorted.{IsStrictlySortedBy}
use Rattle.std.specs.Map.{keys_of}
use Rattle.std.specs.BTreeMap.{insert_entry}
use Rattle.std.specs.Ordering.{match_ordering}
use Rattle.std.specs.declared.cmp.Ordering.{Ordering}
use Rattle.std.specs.declared.cmp.Ordering.TheVariants.{Less, Greater}

module _ {K V : Type 0} (cmp : K → K → Ordering) where
  unfoldable pub put_all : List (K × V) → List (K × V) → List (K × V)
  put_all acc [] = acc
  put_all acc (e ∷ es) = put_all (insert_entry cmp acc e.0 e.1) es

  at_end : (es : List (K × V)) (k : K) (v : V) → AllByRecursion (λ (e : K × V). cmp k e.0 ≡ Greater) es → insert_entry cmp es k v ≡ es ++ (k, v) ∷ []
  at_end [] k v h = refl
  at_end (e ∷ es) k v h =
      ap (λ (o : Ordering). match_ordering o ((k, v) ∷ e ∷ es) ((e.0, v) ∷ es) (e ∷ insert_entry cmp es k v)) h.0
      ∙ ap (λ (xs : List (K × V)). e ∷ xs) (at_end es k v h.1)

  abbrev After : List (K × V) → List (K × V) → Type 0
  After acc [] = Unit {0}
  After acc (e ∷ es) = AllByRecursion (λ (a : K × V). cmp e.0 a.0 ≡ Greater) acc × After (acc ++ e ∷ []) es

  put_after : (acc es : List (K × V)) → After acc es → put_all acc es ≡ acc ++ es
  unfolding put_all
  put_after acc [] h = sym (append_none acc)
    where
      append_none : (xs : List (K × V)) → xs ++ [] ≡ xs
      append_none [] = refl
      append_none (x ∷ xs) = ap (λ (ys : List (K × V)). x ∷ ys) (append_none xs)
  put_after acc (e ∷ es) h =
      ap (λ (xs : List (K × V)). put_all xs es) (at_end acc e.0 e.1 h.0)
      ∙ (put_after (acc ++ e ∷ []) es h.1 ∙ append_assoc acc (e ∷ []) es)

  all_more : (P : K × V → Type 0) (xs : List (K × V)) (x : K × V) → AllByRecursion P xs → P x → AllByRecursion P (xs ++ x ∷ [])
  all_more P [] x h p = (p, tt)
  all_more P (y ∷ ys) x h p = (h.0, all_more P ys x h.1 p)

  -- entries in order whose keys a map moves in order, where it keeps them
  module _ (f : K × V → Option (K × V)) (g : K → K)
      (keys : (e : K × V) (e' : K × V) → f e ≡ Some e' → e'.0 ≡ g e.0)
      (rises : (x y : K) → cmp x y ≡ Less → cmp (g y) (g x) ≡ Greater) where
    abbrev Ahead : List (K × V) → List (K × V) → Type 0
    Ahead acc es = AllByRecursion (λ (e : K × V). AllByRecursion (λ (a : K × V). cmp (g e.0) a.0 ≡ Greater) acc) es

    ahead_more : (acc es : List (K × V)) (x e' : K × V) → e'.0 ≡ g x.0 → AllByRecursion (λ k. cmp x.0 k ≡ Less) (keys_of es) → Ahead acc es → Ahead (acc ++ e' ∷ []) es
    ahead_more acc [] x e' key later h = tt
    ahead_more acc (e ∷ es) x e' key later h = (
      all_more (λ (a : K × V). cmp (g e.0) a.0 ≡ Greater) acc e' h.0 (ap (λ (k : K). cmp (g e.0) k) key ∙ rises x.0 e.0 later.0),
      ahead_more acc es x e' key later.1 h.1,
    )

    after_kept : (acc es : List (K × V)) → IsStrictlySortedBy cmp (keys_of es) → Ahead acc es → After acc (filter_map f es)
    unfolding IsStrictlySortedBy
    after_kept acc [] s h = tt
    after_kept acc (e ∷ es) s h =
        by_kept (f e) refl (after_kept acc es s.1 h.1) (λ e' key. after_kept (acc ++ e' ∷ []) es s.1 (ahead_more acc es e e' key s.0 h.1))
      where
        by_kept : (o : Option (K × V)) → f e ≡ o → After acc (filter_map f es) → ((e' : K × V) → e'.0 ≡ g e.0 → After (acc ++ e' ∷ []) (filter_map f es))
            → After acc (cons_option o (filter_map f es))
        by_kept None is dropped kept = dropped
        by_kept (Some e') is dropped kept = (subst (λ (k : K). AllByRecursion (λ (a : K × V). cmp k a.0 ≡ Greater) acc) (sym (keys e e' is)) h.0, kept e' (keys e e' is))

    none_before : (es : List (K × V)) → Ahead [] es
    none_before [] = tt
    none_before (e ∷ es) = (tt, none_before es)

    pub put_in_order : (es : List (K × V)) → IsStrictlySortedBy cmp (keys_of es) → put_all [] (filter_map f es) ≡ filter_map f es
    put_in_order es s = put_after [] (filter_map f es) (after_kept [] es s (none_before es))
