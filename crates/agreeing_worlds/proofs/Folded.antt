-- What holds of each item that edits bring holds of each that they make of the empty list.
use Rattle.std.proofs.Common.{Bool, true, false, not, List, [], ◌∷◌, flat_map, Option, Some, None}
use Rattle.list_ops.specs.ListEdits.{contains, without, firsts, until_listed, group_of, grouped, with_deleted, with_added, with_prepended, with_appended, edited, applied, all_applied, folded}
use Rattle.list_ops.specs.declared.op.ListOp.{ListOp}
use Rattle.agreeing_worlds.proofs.Each.{Each, joined, kept}

-- it holds of each item that an edit brings, where `explicit` is its explicit list
abbrev Brings : {T : Type 0} → (T → Type 0) → Option (List T) → ListOp T → Type 0
Brings P (Some ys) op = Each P ys
Brings P None op = Each P op.added × (Each P op.prepended × Each P op.appended)

-- it holds of each item that an opinion brings
abbrev pub Given : {T : Type 0} → (T → Type 0) → ListOp T → Type 0
Given P op = Brings P op.explicit op

module _ {T : Type 0} (same : T → T → Bool) (P : T → Type 0) where
  without_each : (xs out : List T) → Each P xs → Each P (without same xs out)
  without_each xs out h = kept P (λ x. not (contains same out x)) xs h

  firsts_each : (xs : List T) → Each P xs → Each P (firsts same xs)
  firsts_each [] h = tt
  firsts_each (x ∷ xs) h = (h.0, without_each (firsts same xs) (x ∷ []) (firsts_each xs h.1))

  either_each : (b : Bool) (xs ys : List T) → Each P xs → Each P ys → Each P (elim b as (λ _. List T) [ true ↦ xs | false ↦ ys ])
  either_each true xs ys h k = h
  either_each false xs ys h k = k

  until_each : (order xs : List T) → Each P xs → Each P (until_listed same order xs)
  until_each order [] h = tt
  until_each order (x ∷ xs) h = either_each (contains same order x) [] (x ∷ until_listed same order xs) tt (h.0, until_each order xs h.1)

  group_each : (order xs : List T) (x : T) → Each P xs → Each P (group_of same order xs x)
  group_each order [] x h = tt
  group_each order (y ∷ ys) x h =
      either_each (same y x) (y ∷ until_listed same order ys) (group_of same order ys x) (h.0, until_each order ys h.1) (group_each order ys x h.1)

  groups_each : (order xs rest : List T) → Each P xs → Each P (flat_map (group_of same order xs) rest)
  groups_each order xs [] h = tt
  groups_each order xs (r ∷ rest) h = joined P (group_of same order xs r) (flat_map (group_of same order xs) rest) (group_each order xs r h) (groups_each order xs rest h)

  grouped_each : (order xs : List T) → Each P xs → Each P (grouped same order xs)
  grouped_each order xs h = joined P (until_listed same order xs) (flat_map (group_of same order xs) order) (until_each order xs h) (groups_each order xs order h)

  added_each : (added xs : List T) → Each P added → Each P xs → Each P (with_added same added xs)
  added_each added xs a h = joined P xs (without same (firsts same added) xs) h (without_each (firsts same added) xs (firsts_each added a))

  prepended_each : (prepended xs : List T) → Each P prepended → Each P xs → Each P (with_prepended same prepended xs)
  prepended_each prepended xs a h = joined P (firsts same prepended) (without same xs (firsts same prepended)) (firsts_each prepended a) (without_each xs (firsts same prepended) h)

  appended_each : (appended xs : List T) → Each P appended → Each P xs → Each P (with_appended same appended xs)
  appended_each appended xs a h = joined P (without same xs (firsts same appended)) (firsts same appended) (without_each xs (firsts same appended) h) (firsts_each appended a)

  edited_each : (op : ListOp T) (xs : List T) → Each P op.added → Each P op.prepended → Each P op.appended → Each P xs → Each P (edited same op xs)
  edited_each op xs added prepended appended h =
      let left : List T = with_deleted same op.deleted xs in
      let more : List T = with_added same op.added left in
      let front : List T = with_prepended same op.prepended more in
      grouped_each (firsts same op.ordered) (with_appended same op.appended front)
      (appended_each op.appended front appended
      (prepended_each op.prepended more prepended
      (added_each op.added left added
      (without_each (firsts same xs) (firsts same op.deleted) (firsts_each xs h)))))

  applied_each : (explicit : Option (List T)) (op : ListOp T) (xs : List T) → Brings P explicit op → Each P xs
      → Each P (elim explicit as (λ _. List T) [ Some ys ↦ firsts same ys | None ↦ edited same op xs ])
  applied_each (Some ys) op xs brings h = firsts_each ys brings
  applied_each None op xs brings h = edited_each op xs brings.0 brings.1.0 brings.1.1 h

  all_applied_each : (ops : List (ListOp T)) (xs : List T) → Each (Given P) ops → Each P xs → Each P (all_applied same ops xs)
  all_applied_each [] xs brings h = h
  all_applied_each (op ∷ ops) xs brings h = all_applied_each ops (applied same op xs) brings.1 (applied_each op.explicit op xs brings.0 h)

  pub folded_each : (ops : List (ListOp T)) → Each (Given P) ops → Each P (folded same ops)
  folded_each ops brings = all_applied_each ops [] brings tt
