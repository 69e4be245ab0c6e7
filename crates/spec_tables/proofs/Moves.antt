-- What a table is after an edit, and how a list becomes a tree.
use Rattle.std.proofs.Common.{◌≡◌, List, [], ◌∷◌, ◌++◌, Result, Ok, Err, OnOk, OnErr, sym, ap, subst, ◌∙◌, append_assoc}
use Rattle.std.specs.Cmp.{IsTotalOrder}
use Rattle.std.specs.declared.cmp.Ordering.{Ordering}
use Rattle.spec_tables.specs.Tables.{IsTable, with_key, without_key, with_value}
use Rattle.spec_tables.proofs.Order.{above_head, back, table_with, table_value}
use Rattle.spec_tables.proofs.Places.{with_new}

-- ---- the last entry of a list goes to the front of a tree

module _ {K V : Type 0} (R : K → K → Ordering) (es l t : List (K × V)) (e : K × V) (is : es ≡ l ++ e ∷ []) (s : IsTable R (es ++ t)) where
  pub parted : es ++ t ≡ l ++ e ∷ t
  parted = ap (λ xs. xs ++ t) is ∙ append_assoc l (e ∷ []) t

  pub still_table : IsTable R (l ++ e ∷ t)
  still_table = subst (IsTable R) parted s

  pub to_front : with_key R e.0 e.1 t ≡ e ∷ t
  to_front = with_new R e.0 e.1 t (above_head R e t (back R l (e ∷ t) still_table))

  -- the same once the entry is there, where the tree without it had the entries t
  pub moved_on : (u : List (K × V)) → u ≡ with_key R e.0 e.1 t → u ≡ e ∷ t
  moved_on u made = made ∙ to_front

  pub order_stays : (u : List (K × V)) → u ≡ with_key R e.0 e.1 t → IsTable R (l ++ u)
  order_stays u made = subst (λ xs. IsTable R (l ++ xs)) (sym (moved_on u made)) still_table

  pub all_moved : (u w : List (K × V)) → u ≡ with_key R e.0 e.1 t → w ≡ l ++ u → w ≡ es ++ t
  all_moved u w made is_all = is_all ∙ ap (λ xs. l ++ xs) (moved_on u made) ∙ sym parted

  -- and where it is taken back
  pub taken_back : (u v l' w z : List (K × V)) (x : K × V) → u ≡ with_key R e.0 e.1 t → (l' ≡ l) × (v ≡ u) → v ≡ x ∷ w → z ≡ l' ++ x ∷ [] → (z ≡ es) × (w ≡ t)
  taken_back u v l' w z x made kept split back =
      let whole : x ∷ w ≡ e ∷ t = sym split ∙ kept.1 ∙ moved_on u made in
      let first : x ≡ e = cc in
      let others : w ≡ t = cc in
      (back ∙ ap (λ xs. xs ++ x ∷ []) kept.0 ∙ ap (λ y. l ++ y ∷ []) first ∙ sym is, others)

-- ---- what stays in order

module _ {K V A E : Type 0} {R : K → K → Ordering} (o : IsTotalOrder R) (k : K) (v : V) (es w : List (K × V)) (r : Result A E) where
  pub table_put : IsTable R es → OnOk r (w ≡ with_key R k v es) → OnErr r (w ≡ es) → IsTable R w
  table_put s ok err = put_by r ok err where
    put_by : (r : Result A E) → OnOk r (w ≡ with_key R k v es) → OnErr r (w ≡ es) → IsTable R w
    put_by (Ok a) done left = subst (IsTable R) (sym done) (table_with o k v es s)
    put_by (Err e) done left = subst (IsTable R) (sym left) s

  pub table_exchanged : IsTable R es → OnOk r (w ≡ with_value R k v es) → OnErr r (w ≡ es) → IsTable R w
  table_exchanged s ok err = put_by r ok err where
    put_by : (r : Result A E) → OnOk r (w ≡ with_value R k v es) → OnErr r (w ≡ es) → IsTable R w
    put_by (Ok a) done left = subst (IsTable R) (sym done) (table_value R k v es s)
    put_by (Err e) done left = subst (IsTable R) (sym left) s
