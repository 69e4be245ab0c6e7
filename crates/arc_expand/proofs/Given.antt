-- Each item that edits make of the empty list comes of an edit.
use Rattle.std.proofs.Common.{◌≡◌, ◌∙◌, sym, ap, subst, arith, ◌<◌, ◌-◌, Bool, true, false, not, ◌||◌, List, [], ◌∷◌, ◌++◌, length, map, reverse, Option, Some, None, get_or}
use Rattle.std.specs.List.{All, flat_map, list_any}
use Rattle.std.proofs.lemmas.List.{length-reverse, get_or-reverse}
use Rattle.std.proofs.lemmas.List.Elements.{All-nil, All-cons, All-head, All-tail, All-append, All-filter, All-weaker}
use Rattle.std.proofs.lemmas.List.Folds.{list_any-append}
use Rattle.std.proofs.lemmas.Bool.{or_right, or_left}
use Rattle.list_ops.specs.ListEdits.{contains, without, firsts, until_listed, group_of, grouped, with_deleted, with_added, with_prepended, with_appended, edited, applied, all_applied, folded}
use Rattle.list_ops.specs.declared.op.ListOp.{ListOp}
use Rattle.composition.specs.Texts.{Text}
use Rattle.composition.specs.Arcs.{gives}

-- P holds of each item that an edit brings, where `explicit` is its explicit list
abbrev Brings : {T : Type 0} → (T → Type 0) → Option (List T) → ListOp T → Type 0
Brings P (Some ys) op = All P ys
Brings P None op = All P op.added × (All P op.prepended × All P op.appended)

module _ {T : Type 0} (same : T → T → Bool) (P : T → Type 0) where
  without_all : (xs out : List T) → All P xs → All P (without same xs out)
  without_all xs out h = All-filter (λ x. not (contains same out x)) P xs h

  firsts_all : (xs : List T) → All P xs → All P (firsts same xs)
  firsts_all [] h = All-nil P
  firsts_all (x ∷ xs) h =
      All-cons P x (without same (firsts same xs) (x ∷ [])) (All-head P x xs h) (without_all (firsts same xs) (x ∷ []) (firsts_all xs (All-tail P x xs h)))

  either_all : (b : Bool) (xs ys : List T) → All P xs → All P ys → All P (elim b as (λ _. List T) [ true ↦ xs | false ↦ ys ])
  either_all true xs ys h k = h
  either_all false xs ys h k = k

  until_all : (order xs : List T) → All P xs → All P (until_listed same order xs)
  until_all order [] h = All-nil P
  until_all order (x ∷ xs) h =
      either_all (contains same order x) [] (x ∷ until_listed same order xs) (All-nil P)
      (All-cons P x (until_listed same order xs) (All-head P x xs h) (until_all order xs (All-tail P x xs h)))

  group_all : (order xs : List T) (x : T) → All P xs → All P (group_of same order xs x)
  group_all order [] x h = All-nil P
  group_all order (y ∷ ys) x h =
      either_all (same y x) (y ∷ until_listed same order ys) (group_of same order ys x)
      (All-cons P y (until_listed same order ys) (All-head P y ys h) (until_all order ys (All-tail P y ys h)))
      (group_all order ys x (All-tail P y ys h))

  groups_all : (order xs rest : List T) → All P xs → All P (flat_map (group_of same order xs) rest)
  groups_all order xs [] h = All-nil P
  groups_all order xs (r ∷ rest) h =
      All-append P (group_of same order xs r) (flat_map (group_of same order xs) rest) (group_all order xs r h) (groups_all order xs rest h)

  grouped_all : (order xs : List T) → All P xs → All P (grouped same order xs)
  grouped_all order xs h = All-append P (until_listed same order xs) (flat_map (group_of same order xs) order) (until_all order xs h) (groups_all order xs order h)

  added_all : (added xs : List T) → All P added → All P xs → All P (with_added same added xs)
  added_all added xs a h = All-append P xs (without same (firsts same added) xs) h (without_all (firsts same added) xs (firsts_all added a))

  prepended_all : (prepended xs : List T) → All P prepended → All P xs → All P (with_prepended same prepended xs)
  prepended_all prepended xs a h = All-append P (firsts same prepended) (without same xs (firsts same prepended)) (firsts_all prepended a) (without_all xs (firsts same prepended) h)

  appended_all : (appended xs : List T) → All P appended → All P xs → All P (with_appended same appended xs)
  appended_all appended xs a h = All-append P (without same xs (firsts same appended)) (firsts same appended) (without_all xs (firsts same appended) h) (firsts_all appended a)

  edited_all : (op : ListOp T) (xs : List T) → All P op.added → All P op.prepended → All P op.appended → All P xs → All P (edited same op xs)
  edited_all op xs added prepended appended h =
      let left : List T = with_deleted same op.deleted xs in
      let more : List T = with_added same op.added left in
      let front : List T = with_prepended same op.prepended more in
      grouped_all (firsts same op.ordered) (with_appended same op.appended front)
      (appended_all op.appended front appended
      (prepended_all op.prepended more prepended
      (added_all op.added left added
      (without_all (firsts same xs) (firsts same op.deleted) (firsts_all xs h)))))

  applied_by : (explicit : Option (List T)) (op : ListOp T) (xs : List T) → Brings P explicit op → All P xs
      → All P (elim explicit as (λ _. List T) [ Some ys ↦ firsts same ys | None ↦ edited same op xs ])
  applied_by (Some ys) op xs brings h = firsts_all ys brings
  applied_by None op xs brings h = edited_all op xs brings.0 brings.1.0 brings.1.1 h

  all_applied_all : (ops : List (ListOp T)) (xs : List T) → All (λ op. Brings P op.explicit op) ops → All P xs → All P (all_applied same ops xs)
  all_applied_all [] xs brings h = h
  all_applied_all (op ∷ ops) xs brings h =
      all_applied_all ops (applied same op xs) (All-tail (λ op. Brings P op.explicit op) op ops brings)
      (applied_by op.explicit op xs (All-head (λ op. Brings P op.explicit op) op ops brings) h)

all_reversed : {X : Type 0} (P : X → Type 0) (xs : List X) → All P xs → All P (reverse xs)
all_reversed P xs h k d within =
    let inside : k < length xs = omega (arith, within, length-reverse xs) in
    let other : length xs - 1 - k < length xs = omega (arith, inside) in
    subst P (sym (get_or-reverse xs k d inside)) (h (length xs - 1 - k) d other)

module _ {T : Type 0} (same : T → T → Bool) (itself : (x : T) → same x x ≡ true) where
  contains_each : (ys : List T) → All (λ x. contains same ys x ≡ true) ys
  contains_each [] = All-nil (λ x. contains same [] x ≡ true)
  contains_each (y ∷ ys) =
      All-cons (λ x. contains same (y ∷ ys) x ≡ true) y ys (or_left (same y y) (contains same ys y) (itself y))
      (All-weaker (λ x. contains same ys x ≡ true) (λ x. contains same (y ∷ ys) x ≡ true) (λ x h. or_right (same y x) (contains same ys x) h) ys (contains_each ys))

  abbrev by_explicit : Option (List T) → ListOp T → T → Bool
  by_explicit explicit op x = elim explicit as (λ _. Bool) [ Some ys ↦ contains same ys x | None ↦ contains same (op.added ++ op.prepended ++ op.appended) x ]

  one_of_three : (xs ys zs : List T) (x : T) → ((contains same xs x || contains same ys x) || contains same zs x) ≡ true → contains same (xs ++ ys ++ zs) x ≡ true
  one_of_three xs ys zs x h =
      list_any-append (λ y. same y x) (xs ++ ys) zs ∙ (ap (λ (b : Bool). b || contains same zs x) (list_any-append (λ y. same y x) xs ys) ∙ h)

  own : (explicit : Option (List T)) (op : ListOp T) → Brings (λ x. by_explicit explicit op x ≡ true) explicit op
  own (Some ys) op = contains_each ys
  own None op = (
    All-weaker (λ x. contains same op.added x ≡ true) (λ x. contains same (op.added ++ op.prepended ++ op.appended) x ≡ true)
        (λ x h. one_of_three op.added op.prepended op.appended x (or_left _ _ (or_left _ _ h))) op.added (contains_each op.added),
    (
      All-weaker (λ x. contains same op.prepended x ≡ true) (λ x. contains same (op.added ++ op.prepended ++ op.appended) x ≡ true)
          (λ x h. one_of_three op.added op.prepended op.appended x (or_left _ _ (or_right _ _ h))) op.prepended (contains_each op.prepended),
      All-weaker (λ x. contains same op.appended x ≡ true) (λ x. contains same (op.added ++ op.prepended ++ op.appended) x ≡ true)
          (λ x h. one_of_three op.added op.prepended op.appended x (or_right _ _ h)) op.appended (contains_each op.appended),
    ),
  )

  weaker : (P Q : T → Type 0) → ((x : T) → P x → Q x) → (explicit : Option (List T)) (op : ListOp T) → Brings P explicit op → Brings Q explicit op
  weaker P Q more (Some ys) op h = All-weaker P Q more ys h
  weaker P Q more None op h = (All-weaker P Q more op.added h.0, (All-weaker P Q more op.prepended h.1.0, All-weaker P Q more op.appended h.1.1))

  abbrev given : List (Text × ListOp T) → T → Type 0
  given edits x = list_any (λ e. gives same e.1 x) edits ≡ true

  all_brought : (edits : List (Text × ListOp T)) → All (λ op. Brings (given edits) op.explicit op) (map (λ e. e.1) edits)
  all_brought [] = All-nil (λ op. Brings (given []) op.explicit op)
  all_brought (e ∷ edits) =
      All-cons (λ op. Brings (given (e ∷ edits)) op.explicit op) e.1 (map (λ e. e.1) edits)
      (weaker (λ x. by_explicit e.1.explicit e.1 x ≡ true) (given (e ∷ edits)) (λ x h. or_left (gives same e.1 x) _ h) e.1.explicit e.1 (own e.1.explicit e.1))
      (All-weaker (λ op. Brings (given edits) op.explicit op) (λ op. Brings (given (e ∷ edits)) op.explicit op)
      (λ op h. weaker (given edits) (given (e ∷ edits)) (λ x k. or_right (gives same e.1 x) _ k) op.explicit op h) (map (λ e. e.1) edits) (all_brought edits))

  pub folded_given : (edits : List (Text × ListOp T)) → All (given edits) (folded same (reverse (map (λ e. e.1) edits)))
  folded_given edits =
      all_applied_all same (given edits) (reverse (map (λ e. e.1) edits)) []
      (all_reversed (λ op. Brings (given edits) op.explicit op) (map (λ e. e.1) edits) (all_brought edits)) (All-nil (given edits))
