-- What the places of a stage read, as the composer owes it.
-- docs/COMPOSITION.md, 'What a prim reads'.
use Rattle.std.specs.Prelude.{◌≡◌, List}
use Rattle.std.specs.List.Sorted.{IsStrictlySortedBy}
use Rattle.sdf_paths.specs.declared.element.Element.{Element}
use Rattle.compose_api.specs.Agreement.{Agree}
use Rattle.layer_set.specs.LookUps.{stands_at}
use Rattle.layer_set.specs.Worlds.{WorldData}
use Rattle.layer_set.specs.contracts.key.KeyOrd.TheImpl.{ghosts as key_order}
use Rattle.prim_compose.specs.Listing.{entry_at}
use Rattle.prim_reads.specs.Reads.{listed_reads}
use Rattle.laws_reading.proofs.Settled.{listed_settle}

-- worlds that have the same at each key that a path reads have the same prim there, which reads the same keys in both
pub what_is_read_covers : (w v : WorldData) (p : List Element) → Agree (stands_at w) (stands_at v) (listed_reads w p) → (entry_at v p ≡ entry_at w p) × (listed_reads v p ≡ listed_reads w p)
what_is_read_covers w v p same = (listed_settle.same_entry w v p same, listed_settle.same_reads w v p same)

-- the keys that a path reads rise strictly
pub reads_are_in_order : (w : WorldData) (p : List Element) → IsStrictlySortedBy key_order.cmp (listed_reads w p)
reads_are_in_order w p = listed_settle.ordered w p
