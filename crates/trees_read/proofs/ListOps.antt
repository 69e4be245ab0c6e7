-- Items that stand once in their list, and in each list of an opinion.
use Rattle.std.proofs.Common.{◌≡◌, ◌∙◌, Bool, true, false, not, ◌||◌, cond, List, [], ◌∷◌, ◌++◌, Result, Ok, Err, ap, refl, subst}
use Rattle.std.specs.List.{AllByRecursion, IsDistinct, filter}
use Rattle.list_ops.specs.ListEdits.{contains, without, firsts}
use Rattle.list_ops.specs.declared.op.ListOp.{ListOp}
use Rattle.sdf_values.specs.declared.refusal.RefusalKind.{RefusalKind}
use Rattle.usda_lists.specs.Acts.{and_then}
use Rattle.usda_lists.specs.Lists.{items_or_none, list_at, with_list, amend_last}
use Rattle.usda_lists.specs.declared.edit.ListEdit.{ListEdit}
use Rattle.usda_lists.specs.declared.edit.ListEdit.TheVariants.{Explicit, Delete, Add, Prepend, Append, Reorder}
use Rattle.trees_read.specs.Lists.{AreItemsOnce}
use Rattle.trees_read.proofs.Fields.{IfMade}

module _ {T : Type 0} (same : T → T → Bool) where
  -- ---- one list

  all_filter : (P : T → Type 0) (p : T → Bool) (xs : List T) → AllByRecursion P xs → AllByRecursion P (filter p xs)
  all_filter P p [] h = tt
  all_filter P p (x ∷ xs) h = by (p x) (all_filter P p xs h.1)
    where
      by : (b : Bool) → AllByRecursion P (filter p xs) → AllByRecursion P (cond b (x ∷ filter p xs) (filter p xs))
      by true more = (h.0, more)
      by false more = more

  distinct_filter : (p : T → Bool) (xs : List T) → IsDistinct same xs → IsDistinct same (filter p xs)
  unfolding IsDistinct
  distinct_filter p [] h = tt
  distinct_filter p (x ∷ xs) h = by (p x) (distinct_filter p xs h.1)
    where
      by : (b : Bool) → IsDistinct same (filter p xs) → IsDistinct same (cond b (x ∷ filter p xs) (filter p xs))
      by true more = (all_filter (λ y. same x y ≡ false) p xs h.0, more)
      by false more = more

  -- what is left without an item is not that item
  without_apart : (x : T) (xs : List T) → AllByRecursion (λ y. same x y ≡ false) (without same xs (x ∷ []))
  without_apart x [] = tt
  without_apart x (y ∷ xs) = by (same x y) refl (without_apart x xs)
    where
      by : (b : Bool) → same x y ≡ b → AllByRecursion (λ z. same x z ≡ false) (without same xs (x ∷ [])) → AllByRecursion (λ z. same x z ≡ false) (cond (not (b || false)) (y ∷ without same xs (x ∷ [])) (without same xs (x ∷ [])))
      by true is more = more
      by false is more = (is, more)

  pub firsts_distinct : (xs : List T) → IsDistinct same (firsts same xs)
  unfolding IsDistinct
  firsts_distinct [] = tt
  firsts_distinct (x ∷ xs) = (without_apart x (firsts same xs), distinct_filter (λ y. not (contains same (x ∷ []) y)) (firsts same xs) (firsts_distinct xs))

  without_none : (x : T) (xs : List T) → AllByRecursion (λ y. same x y ≡ false) xs → without same xs (x ∷ []) ≡ xs
  without_none x [] h = refl
  without_none x (y ∷ xs) h = ap (λ b. cond (not (b || false)) (y ∷ without same xs (x ∷ [])) (without same xs (x ∷ []))) h.0 ∙ ap (λ (l : List T). y ∷ l) (without_none x xs h.1)

  pub distinct_firsts : (xs : List T) → IsDistinct same xs → firsts same xs ≡ xs
  unfolding IsDistinct
  distinct_firsts [] h = refl
  distinct_firsts (x ∷ xs) h = ap (λ (l : List T). x ∷ without same l (x ∷ [])) (distinct_firsts xs h.1) ∙ ap (λ (l : List T). x ∷ l) (without_none x xs h.0)

  -- no item or one
  abbrev pub IsShort : List T → Type 0
  IsShort [] = Unit {0}
  IsShort (x ∷ []) = Unit {0}
  IsShort (x ∷ y ∷ xs) = ⊥

  pub short_distinct : (xs : List T) → IsShort xs → IsDistinct same xs
  unfolding IsDistinct
  short_distinct [] h = tt
  short_distinct (x ∷ []) h = (tt, tt)
  short_distinct (x ∷ y ∷ xs) h = absurd h

  pub amended_short : (change : T → Result T RefusalKind) (xs : List T) → IsShort xs → IfMade IsShort (amend_last change xs)
  amended_short change [] h = tt
  amended_short change (x ∷ []) h = by (change x)
    where
      by : (r : Result T RefusalKind) → IfMade IsShort (and_then r (λ new. Ok ([] ++ new ∷ [])))
      by (Ok new) = tt
      by (Err k) = tt
  amended_short change (x ∷ y ∷ xs) h = absurd h

  pub amended_empty : (change : T → Result T RefusalKind) (xs : List T) → xs ≡ [] → IfMade (λ ys. ys ≡ []) (amend_last change xs)
  amended_empty change [] h = refl
  amended_empty change (x ∷ xs) h = absurd cc

  pub one_short : (xs : List T) (x : T) → xs ≡ [] → IsShort (xs ++ x ∷ [])
  one_short [] x h = tt
  one_short (y ∷ xs) x h = absurd cc

  -- ---- the lists of an opinion

  -- each list has each item once
  abbrev pub OpOnce : ListOp T → Type 0
  OpOnce op = (e : ListEdit) → IsDistinct same (list_at e op)

  -- each but that of this edit
  abbrev pub OpBut : ListEdit → ListOp T → Type 0
  OpBut edit op = (e : ListEdit) → (e ≡ edit → ⊥) → IsDistinct same (list_at e op)

  pub but_of : (edit : ListEdit) (op : ListOp T) → OpOnce op → OpBut edit op
  but_of edit op h e apart = h e

  pub at_with : (f : ListEdit) (xs : List T) (op : ListOp T) → list_at f (with_list f xs op) ≡ xs
  at_with Explicit xs op = refl
  at_with Delete xs op = refl
  at_with Add xs op = refl
  at_with Prepend xs op = refl
  at_with Append xs op = refl
  at_with Reorder xs op = refl

  pub but_with : (f : ListEdit) (xs : List T) (op : ListOp T) → OpBut f op → OpBut f (with_list f xs op)
  but_with Explicit xs op h Explicit apart = absurd (apart refl)
  but_with Explicit xs op h e apart = h e apart
  but_with Delete xs op h Delete apart = absurd (apart refl)
  but_with Delete xs op h e apart = h e apart
  but_with Add xs op h Add apart = absurd (apart refl)
  but_with Add xs op h e apart = h e apart
  but_with Prepend xs op h Prepend apart = absurd (apart refl)
  but_with Prepend xs op h e apart = h e apart
  but_with Append xs op h Append apart = absurd (apart refl)
  but_with Append xs op h e apart = h e apart
  but_with Reorder xs op h Reorder apart = absurd (apart refl)
  but_with Reorder xs op h e apart = h e apart

  pub once_at : (f : ListEdit) (op : ListOp T) → OpBut f op → IsDistinct same (list_at f op) → OpOnce op
  once_at Explicit op h x Explicit = x
  once_at Explicit op h x e = h e (λ q. absurd cc)
  once_at Delete op h x Delete = x
  once_at Delete op h x e = h e (λ q. absurd cc)
  once_at Add op h x Add = x
  once_at Add op h x e = h e (λ q. absurd cc)
  once_at Prepend op h x Prepend = x
  once_at Prepend op h x e = h e (λ q. absurd cc)
  once_at Append op h x Append = x
  once_at Append op h x e = h e (λ q. absurd cc)
  once_at Reorder op h x Reorder = x
  once_at Reorder op h x e = h e (λ q. absurd cc)

  pub items_once : (op : ListOp T) → OpOnce op → AreItemsOnce same op
  items_once op h = record {
    explicit = λ xs is. distinct_firsts xs (subst (λ o. IsDistinct same (items_or_none o)) is (h Explicit));
    deleted = distinct_firsts op.deleted (h Delete);
    added = distinct_firsts op.added (h Add);
    prepended = distinct_firsts op.prepended (h Prepend);
    appended = distinct_firsts op.appended (h Append);
    ordered = distinct_firsts op.ordered (h Reorder);
  }

-- how much is known of a list in hand: nothing, that it has no item, or at most one
pub data Size : Type 0 where
  any : Size
  empty : Size
  short : Size

abbrev pub Sized : {T : Type 0} → (T → T → Bool) → Size → List T → Type 0
Sized same any xs = Unit {0}
Sized same empty xs = xs ≡ []
Sized same short xs = IsShort same xs

-- with one item more
abbrev pub pushed : Size → Size
pushed empty = short
pushed s = any

abbrev pub is_known : Size → Bool
is_known any = false
is_known s = true

module _ {T : Type 0} (same : T → T → Bool) where
  pub sized_push : (s : Size) (xs : List T) (x : T) → Sized same s xs → Sized same (pushed s) (xs ++ x ∷ [])
  sized_push any xs x h = tt
  sized_push empty xs x h = one_short same xs x h
  sized_push short xs x h = tt

  pub sized_amend : (s : Size) (change : T → Result T RefusalKind) (xs : List T) → Sized same s xs → IfMade (Sized same s) (amend_last change xs)
  sized_amend any change xs h = anything (amend_last change xs)
    where
      anything : (r : Result (List T) RefusalKind) → IfMade (λ ys. Unit {0}) r
      anything (Ok ys) = tt
      anything (Err k) = tt
  sized_amend empty change xs h = amended_empty same change xs h
  sized_amend short change xs h = amended_short same change xs h

  pub sized_once : (s : Size) (xs : List T) → is_known s ≡ true → Sized same s xs → IsDistinct same xs
  unfolding IsDistinct
  sized_once any xs k h = absurd cc
  sized_once empty [] k h = tt
  sized_once empty (x ∷ xs) k h = absurd cc
  sized_once short xs k h = short_distinct same xs h
