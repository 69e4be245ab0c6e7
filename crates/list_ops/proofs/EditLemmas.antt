-- Places of items, and steps of the loops over lists.
use Rattle.std.proofs.Common.{◌≡◌, ℕ, zero, suc, ◌+◌, ◌<◌, Bool, true, false, cond, List, [], ◌∷◌, ◌++◌, Option, Some, None, ◌⊎◌, inl, inr, refl, sym, ap, ◌∙◌, subst, append_assoc, arith, length, take, drop, flat_map, get_or, nat_lt, add-zero, zero-add}
use Rattle.std.specs.Option.{is_some}
use Rattle.std.specs.List.{list_any, position_from}
use Rattle.std.proofs.lemmas.Bool.{cases_Bool}
use Rattle.std.proofs.lemmas.Bool.Decides.{nat_tests}
use Rattle.std.proofs.lemmas.List.{at_drop_more, take_more}
use Rattle.std.proofs.lemmas.List.Folds.{list_any-append}
use Rattle.list_ops.specs.ListEdits.{contains, without, firsts, group_of, group_begun, group_at}

-- ---- places

pub any_position : {T : Type 0} (p : T → Bool) (i : ℕ) (xs : List T) → is_some (position_from p i xs) ≡ list_any p xs
any_position p i [] = refl
any_position p i (x ∷ xs) = elim (cases_Bool (p x)) [
  | inl equal ↦ rw equal refl
  | inr other ↦ rw other (any_position p (i + 1) xs)
]

-- an item is found before a place
abbrev pub found_before : Option ℕ → ℕ → Bool
found_before None n = false
found_before (Some j) n = nat_lt j n

not_below : (i k : ℕ) → nat_lt (i + k) i ≡ false
not_below i k = grind (arith, nat_tests)

below_more : (i k : ℕ) → nat_lt i (i + suc k) ≡ true
below_more i k = grind (arith, nat_tests)

-- where an item is found: nowhere, or k places on
pub found : {T : Type 0} (same : T → T → Bool) (order : List T) (x : T) (i : ℕ) (xs : List T)
    → ((position_from (λ y. same y x) i xs ≡ None) × (group_of same order xs x ≡ []))
    ⊎ ((k : ℕ) × ((position_from (λ y. same y x) i xs ≡ Some (i + k)) × ((k < length xs) × (group_of same order xs x ≡ group_begun same order (drop k xs)))))
found same order x i [] = inl (refl, refl)
found same order x i (y ∷ ys) = elim (cases_Bool (same y x)) [
  | inl equal ↦ inr (0, (rw equal (ap Some (sym (add-zero i))), (omega arith, rw (equal, group_of) refl)))
  | inr other ↦ elim (found same order x (i + 1) ys) [
    | inl (none, group) ↦ inl (rw other none, rw (other, group_of) group)
    | inr (k, (at, (within, group))) ↦ inr (suc k, (rw other (at ∙ ap Some (further i k)), (omega (arith, within), rw (other, group_of) group)))
  ]
]
  where
    further : (i k : ℕ) → (i + 1) + k ≡ i + suc k
    further i k = omega arith

pub any_take : {T : Type 0} (p : T → Bool) (i k : ℕ) (xs : List T) → list_any p (take k xs) ≡ found_before (position_from p i xs) (i + k)
any_take p i zero [] = refl
any_take p i (suc k) [] = refl
any_take p i zero (x ∷ xs) = sym (none_below (found_at p i (x ∷ xs)))
  where
    found_at : {T : Type 0} (p : T → Bool) (i : ℕ) (xs : List T) → (position_from p i xs ≡ None) ⊎ ((k : ℕ) × (position_from p i xs ≡ Some (i + k)))
    found_at p i [] = inl refl
    found_at p i (y ∷ ys) = elim (cases_Bool (p y)) [
      | inl equal ↦ inr (0, rw equal (ap Some (sym (add-zero i))))
      | inr other ↦ elim (found_at p (i + 1) ys) [ inl none ↦ inl (rw other none) | inr (k, at) ↦ inr (suc k, rw other (at ∙ ap Some (omega arith))) ]
    ]

    none_below : (position_from p i (x ∷ xs) ≡ None) ⊎ ((k : ℕ) × (position_from p i (x ∷ xs) ≡ Some (i + k))) → found_before (position_from p i (x ∷ xs)) (i + 0) ≡ false
    none_below (inl none) = ap (λ o. found_before o (i + 0)) none
    none_below (inr (k, at)) = ap (λ o. found_before o (i + 0)) at ∙ ap (nat_lt (i + k)) (add-zero i) ∙ not_below i k
any_take p i (suc k) (x ∷ xs) = elim (cases_Bool (p x)) [
  | inl equal ↦ rw equal (sym (below_more i k))
  | inr other ↦ rw other (any_take p (i + 1) k xs ∙ ap (found_before (position_from p (i + 1) xs)) (further i k))
]
  where
    further : (i k : ℕ) → (i + 1) + k ≡ i + suc k
    further i k = omega arith

-- ---- lists without others

pub without_none : {T : Type 0} (same : T → T → Bool) (xs : List T) → without same xs [] ≡ xs
without_none same [] = refl
without_none same (x ∷ xs) = ap (λ l. x ∷ l) (without_none same xs)

without_twice : {T : Type 0} (same : T → T → Bool) (xs out : List T) (x : T) → without same (without same xs (x ∷ [])) out ≡ without same xs (out ++ x ∷ [])
without_twice same [] out x = refl
without_twice same (y ∷ ys) out x = elim (cases_Bool (same x y)) [
  | inl equal ↦ elim (cases_Bool (contains same out y)) [
    | inl there ↦ rw (list_any-append (λ z. same z y) out (x ∷ []), equal, there) (without_twice same ys out x)
    | inr absent ↦ rw (list_any-append (λ z. same z y) out (x ∷ []), equal, absent) (without_twice same ys out x)
  ]
  | inr other ↦ elim (cases_Bool (contains same out y)) [
    | inl there ↦ rw (list_any-append (λ z. same z y) out (x ∷ []), other, there) (without_twice same ys out x)
    | inr absent ↦ rw (list_any-append (λ z. same z y) out (x ∷ []), other, absent) (ap (λ l. y ∷ l) (without_twice same ys out x))
  ]
]

pub first_step : {T : Type 0} (same : T → T → Bool) (kept rest seen : List T) (x : T) (b : Bool) → contains same seen x ≡ b
    → kept ++ without same (firsts same (x ∷ rest)) seen ≡ cond b kept (kept ++ x ∷ []) ++ without same (firsts same rest) (seen ++ x ∷ [])
first_step same kept rest seen x true h = rw h (ap (λ l. kept ++ l) (without_twice same (firsts same rest) seen x))
first_step same kept rest seen x false h =
    rw h (ap (λ l. kept ++ (x ∷ l)) (without_twice same (firsts same rest) seen x) ∙ sym (append_assoc kept (x ∷ []) (without same (firsts same rest) (seen ++ x ∷ []))))

-- one more item of the list whose repeats are dropped
pub firsts_more : {T : Type 0} (same : T → T → Bool) (xs kept next : List T) (i : ℕ) (x : T) (whole : List T) → i < length xs → x ≡ get_or xs i x
    → next ≡ cond (contains same (take i xs) x) kept (kept ++ x ∷ []) → kept ++ without same (firsts same (drop i xs)) (take i xs) ≡ whole
    → next ++ without same (firsts same (drop (i + 1) xs)) (take (i + 1) xs) ≡ whole
firsts_more same xs kept next i x whole within is pushed before =
    ap (λ l. l ++ without same (firsts same (drop (i + 1) xs)) (take (i + 1) xs)) pushed
    ∙ ap (λ l. cond (contains same (take i xs) x) kept (kept ++ x ∷ []) ++ without same (firsts same (drop (i + 1) xs)) l) (take_more xs i x within ∙ ap (λ y. take i xs ++ y ∷ []) (sym is))
    ∙ sym (first_step same kept (drop (i + 1) xs) (take i xs) x (contains same (take i xs) x) refl)
    ∙ ap (λ y. kept ++ without same (firsts same (y ∷ drop (i + 1) xs)) (take i xs)) is
    ∙ sym (at_drop_more (λ l. kept ++ without same (firsts same l) (take i xs)) xs i x within) ∙ before

-- ---- groups

-- the group of an item, by its place
pub group_placed : {T : Type 0} (same : T → T → Bool) (order xs : List T) (x : T) (at : ℕ) → Some at ≡ position_from (λ y. same y x) 0 xs → (at < length xs) × (group_of same order xs x ≡ group_at same order xs at)
group_placed same order xs x at h = elim (found same order x 0 xs) [
  | inl (none, group) ↦ absurd (cc (h, none))
  | inr (k, (is, (within, group))) ↦
      let somes : Some at ≡ Some (0 + k) = h ∙ is in
      let places : at ≡ 0 + k = cc in
      let here : at ≡ k = places ∙ zero-add k in
      (subst (λ n. n < length xs) (sym here) within, group ∙ ap (group_at same order xs) (sym here))
]

pub group_absent : {T : Type 0} (same : T → T → Bool) (order xs : List T) (x : T) → None ≡ position_from (λ y. same y x) 0 xs → group_of same order xs x ≡ []
group_absent same order xs x h = elim (found same order x 0 xs) [
  | inl (none, group) ↦ group
  | inr (k, (is, rest)) ↦ absurd (cc (h, is))
]

-- one more group
pub group_more : {T : Type 0} (f : T → List T) (order next after : List T) (i : ℕ) (x : T) (whole : List T) → i < length order → x ≡ get_or order i x → after ≡ next ++ f x
    → next ++ flat_map f (drop i order) ≡ whole → after ++ flat_map f (drop (i + 1) order) ≡ whole
group_more f order next after i x whole within is grown before =
    ap (λ l. l ++ flat_map f (drop (i + 1) order)) (grown ∙ ap (λ y. next ++ f y) is) ∙ append_assoc next (f (get_or order i x)) (flat_map f (drop (i + 1) order))
    ∙ ap (λ l. next ++ l) (sym (at_drop_more (flat_map f) order i x within)) ∙ before
