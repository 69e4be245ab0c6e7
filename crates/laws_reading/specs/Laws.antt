-- The list of the keys that a path reads: which they are, in which order, and that they settle what is composed there.
-- docs/COMPOSITION.md, 'What a prim reads'.
use Rattle.std.specs.Prelude.{◌≡◌, List}
use Rattle.std.specs.List.{Contains}
use Rattle.std.specs.List.Sorted.{IsStrictlySortedBy}
use Rattle.composition.specs.Paths.{Path, limits}
use Rattle.composition.specs.Keys.{reads}
use Rattle.layer_set.specs.LookUps.{look_ups, key_of, stands_at}
use Rattle.layer_set.specs.Worlds.{WorldData}
use Rattle.layer_set.specs.contracts.key.KeyOrd.TheImpl.{ghosts as key_order}
use Rattle.layer_set.specs.declared.key.Key.{Key}
use Rattle.prim_compose.specs.Listing.{entry_at}
use Rattle.prim_reads.specs.Reads.{listed_reads}

-- whatever the worlds are
pub record ListedReads : Type 0 where
  -- each key that a path reads is listed
  pub all : (w : WorldData) (p : Path) (key : Key) → Contains (reads limits (look_ups w) p) (key_of key) → Contains (listed_reads w p) key
  -- and no other
  pub only : (w : WorldData) (p : Path) (key : Key) → Contains (listed_reads w p) key → Contains (reads limits (look_ups w) p) (key_of key)
  -- they rise strictly, as keys are compared
  pub ordered : (w : WorldData) (p : Path) → IsStrictlySortedBy key_order.cmp (listed_reads w p)
  -- worlds that have the same at each of them have the same view of the path
  pub same_entry : (w v : WorldData) (p : Path) → ((key : Key) → Contains (listed_reads w p) key → stands_at w key ≡ stands_at v key) → entry_at v p ≡ entry_at w p
  -- and the same list
  pub same_reads : (w v : WorldData) (p : Path) → ((key : Key) → Contains (listed_reads w p) key → stands_at w key ≡ stands_at v key) → listed_reads v p ≡ listed_reads w p
