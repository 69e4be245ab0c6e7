-- What is put at a key that was taken out stands as if it had been put in the place of what was there.
use Rattle.std.proofs.Common.{◌≡◌, ◌∙◌, sym, ap, refl, subst, cond, List, [], ◌∷◌}
use Rattle.std.specs.BTreeMap.{insert_entry, is_at}
use Rattle.std.specs.Cmp.{IsTotalOrder}
use Rattle.std.specs.List.{AllByRecursion}
use Rattle.std.specs.List.Sorted.{IsStrictlySortedBy}
use Rattle.std.specs.Map.{remove_entry, keys_of}
use Rattle.std.specs.Ordering.{match_ordering, is_eq}
use Rattle.std.specs.declared.cmp.Ordering.{Ordering}
use Rattle.std.specs.declared.cmp.Ordering.TheVariants.{Less, Equal, Greater}

module _ {K V : Type 0} (R : K → K → Ordering) (total : IsTotalOrder R) (tie : (x y : K) → R x y ≡ Equal → x ≡ y) where
  -- a key below one that is below all these is among none of them
  none_removed : (k l : K) (es : List (K × V)) → R k l ≡ Less → AllByRecursion (λ y. R l y ≡ Less) (keys_of es) → remove_entry (is_at (R k)) es ≡ es
  none_removed k l [] less all = refl
  none_removed k l (e ∷ es) less all =
      let here : R k e.0 ≡ Less = total.trans k l e.0 less all.0 in
      let rest : remove_entry (is_at (R k)) es ≡ es = none_removed k l es less all.1 in
      ap (λ (o : Ordering). cond (is_eq o) es (e ∷ remove_entry (is_at (R k)) es)) here ∙ ap (λ (xs : List (K × V)). e ∷ xs) rest

  -- a key below all of these stands in front of them
  put_first : (k : K) (v : V) (es : List (K × V)) → AllByRecursion (λ y. R k y ≡ Less) (keys_of es) → insert_entry R es k v ≡ (k, v) ∷ es
  put_first k v [] all = refl
  put_first k v (e ∷ es) all = ap (λ (o : Ordering). match_ordering o ((k, v) ∷ e ∷ es) ((e.0, v) ∷ es) (e ∷ insert_entry R es k v)) all.0

  pub put_over : (k : K) (v : V) (es : List (K × V)) → IsStrictlySortedBy R (keys_of es) → insert_entry R (remove_entry (is_at (R k)) es) k v ≡ insert_entry R es k v
  unfolding IsStrictlySortedBy
  put_over k v [] sorted = refl
  put_over k v (e ∷ es) sorted = by (put_over k v es sorted.1) (R k e.0) refl
    where
      made : Ordering → List (K × V)
      made o = match_ordering o ((k, v) ∷ e ∷ es) ((e.0, v) ∷ es) (e ∷ insert_entry R es k v)

      left : Ordering → List (K × V)
      left o = cond (is_eq o) es (e ∷ remove_entry (is_at (R k)) es)

      by : (insert_entry R (remove_entry (is_at (R k)) es) k v ≡ insert_entry R es k v) → (o : Ordering) → R k e.0 ≡ o → insert_entry R (remove_entry (is_at (R k)) (e ∷ es)) k v ≡ insert_entry R (e ∷ es) k v
      by rest Less h = ap (λ (xs : List (K × V)). insert_entry R xs k v) (ap left h ∙ ap (λ (xs : List (K × V)). e ∷ xs) (none_removed k e.0 es h sorted.0))
      by rest Equal h =
          let one : k ≡ e.0 = tie k e.0 h in
          let all : AllByRecursion (λ y. R k y ≡ Less) (keys_of es) = subst (λ (l : K). AllByRecursion (λ y. R l y ≡ Less) (keys_of es)) (sym one) sorted.0 in
          ap (λ (xs : List (K × V)). insert_entry R xs k v) (ap left h) ∙ put_first k v es all ∙ ap (λ (l : K). let entry : K × V = (l, v) in entry ∷ es) one ∙ sym (ap made h)
      by rest Greater h =
          ap (λ (xs : List (K × V)). insert_entry R xs k v) (ap left h)
          ∙ ap (λ (o : Ordering). match_ordering o ((k, v) ∷ e ∷ remove_entry (is_at (R k)) es) ((e.0, v) ∷ remove_entry (is_at (R k)) es) (e ∷ insert_entry R (remove_entry (is_at (R k)) es) k v)) h
          ∙ ap (λ (xs : List (K × V)). e ∷ xs) rest
          ∙ sym (ap made h)
