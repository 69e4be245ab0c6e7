-- List edits, as filters and as concatenations of lists and groups.
-- `same` is the test by which two items are one.
use Rattle.std.specs.Prelude.{ℕ, drop, Bool, true, false, not, List, [], ◌∷◌, ◌++◌, filter, flat_map, Some, None}
use Rattle.std.specs.List.{list_any}
use Rattle.list_ops.specs.declared.op.ListOp.{ListOp}

module _ {T : Type 0} (same : T → T → Bool) where
  -- the list has this item
  abbrev pub contains : List T → T → Bool
  contains xs x = list_any (λ y. same y x) xs

  -- the items that are not among `out`
  abbrev pub without : List T → List T → List T
  without xs out = filter (λ x. not (contains out x)) xs

  -- the first of each item
  abbrev pub firsts : List T → List T
  firsts [] = []
  firsts (x ∷ xs) = x ∷ without (firsts xs) (x ∷ [])

  -- the items before the first listed one
  abbrev pub until_listed : List T → List T → List T
  until_listed order [] = []
  until_listed order (x ∷ xs) = elim (contains order x) [ true ↦ [] | false ↦ x ∷ until_listed order xs ]

  -- the group of a listed item: itself, where it is present, and the unlisted items that follow it
  abbrev pub group_of : List T → List T → T → List T
  group_of order [] x = []
  group_of order (y ∷ ys) x = elim (same y x) [ true ↦ y ∷ until_listed order ys | false ↦ group_of order ys x ]

  -- the group that these items begin with
  abbrev pub group_begun : List T → List T → List T
  group_begun order [] = []
  group_begun order (y ∷ ys) = y ∷ until_listed order ys

  -- the group that begins at a place
  abbrev pub group_at : List T → List T → ℕ → List T
  group_at order xs at = group_begun order (drop at xs)

  -- the unlisted items before the first group, and then the groups in listed order
  abbrev pub grouped : List T → List T → List T
  grouped order xs = until_listed order xs ++ flat_map (group_of order xs) order

  -- a reorder, of which and of the list the repeats are dropped first
  abbrev pub reordered : List T → List T → List T
  reordered order xs = grouped (firsts order) (firsts xs)

  -- delete: the items that are not deleted
  abbrev pub with_deleted : List T → List T → List T
  with_deleted deleted xs = without (firsts xs) (firsts deleted)

  -- add: what is not there is put to the end
  abbrev pub with_added : List T → List T → List T
  with_added added xs = xs ++ without (firsts added) xs

  -- prepend: these items in front, and then the others
  abbrev pub with_prepended : List T → List T → List T
  with_prepended prepended xs = firsts prepended ++ without xs (firsts prepended)

  -- append: the other items, and then these
  abbrev pub with_appended : List T → List T → List T
  with_appended appended xs = without xs (firsts appended) ++ firsts appended

  -- what an opinion that is not explicit makes of a list: delete, add, prepend, append and reorder, in this order
  abbrev pub edited : ListOp T → List T → List T
  edited op xs =
      grouped (firsts op.ordered) (with_appended op.appended (with_prepended op.prepended (with_added op.added (with_deleted op.deleted xs))))

  -- what an opinion makes of a list; an explicit one replaces it
  abbrev pub applied : ListOp T → List T → List T
  applied op xs = elim op.explicit [ Some ys ↦ firsts ys | None ↦ edited op xs ]

  -- what the opinions make of a list, the weakest first
  abbrev pub all_applied : List (ListOp T) → List T → List T
  all_applied [] xs = xs
  all_applied (op ∷ ops) xs = all_applied ops (applied op xs)

  -- what the opinions make of the empty list
  abbrev pub folded : List (ListOp T) → List T
  folded ops = all_applied ops []
