-- Keys in order are a set: which keys there are, and that there is one list of them.
-- docs/COMPOSITION.md, 'What a prim reads'.
use Rattle.std.specs.Prelude.{◌≡◌, List}
use Rattle.std.specs.List.{Contains}
use Rattle.std.specs.List.Sorted.{IsStrictlySortedBy}
use Rattle.layer_set.specs.contracts.key.KeyOrd.TheImpl.{ghosts as key_order}
use Rattle.layer_set.specs.declared.key.Key.{Key}
use Rattle.key_sets.specs.Order.{key_cmp, in_order}

-- whatever the keys are
pub record KeysInOrder : Type 0 where
  -- each key is there
  pub all : (keys : List Key) (key : Key) → Contains keys key → Contains (in_order keys) key
  -- and no other
  pub only : (keys : List Key) (key : Key) → Contains (in_order keys) key → Contains keys key
  -- they rise strictly
  pub ordered : (keys : List Key) → IsStrictlySortedBy key_cmp (in_order keys)
  -- so does one list alone of those with the same keys
  pub one_list : (xs ys : List Key) → IsStrictlySortedBy key_cmp xs → IsStrictlySortedBy key_cmp ys → ((key : Key) → Contains xs key → Contains ys key)
      → ((key : Key) → Contains ys key → Contains xs key) → xs ≡ ys
  -- the order is the one by which keys are compared
  pub compared : (x y : Key) → key_order.cmp x y ≡ key_cmp x y
