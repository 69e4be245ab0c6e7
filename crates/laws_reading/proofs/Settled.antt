-- What is listed settles a view.
use Rattle.std.proofs.Common.{◌≡◌, refl, sym, ap, subst, ◌∙◌, List, [], ◌∷◌, map}
use Rattle.std.specs.List.{Contains}
use Rattle.std.specs.List.Sorted.{IsStrictlySortedBy}
use Rattle.std.specs.declared.cmp.Ordering.{Ordering}
use Rattle.std.proofs.lemmas.List.Elements.{All-nil, All-cons}
use Rattle.composition.specs.Paths.{Path, limits}
use Rattle.composition.specs.Keys as keys
use Rattle.composition.specs.Keys.{value_of, reads, Agree}
use Rattle.composition.proofs.Members.{head_in, tail_in}
use Rattle.layer_set.specs.LookUps.{look_ups, key_of, stands_at}
use Rattle.layer_set.specs.Worlds.{WorldData}
use Rattle.layer_set.specs.contracts.key.KeyOrd.TheImpl.{ghosts as key_order}
use Rattle.layer_set.specs.declared.key.Key.{Key}
use Rattle.key_sets.specs.Order.{key_cmp, in_order}
use Rattle.key_sets.proofs.Order.{key_order_is, keys_in_order}
use Rattle.agreeing_worlds.proofs.Covers.{view_covered, reads_covered}
use Rattle.prim_compose.specs.Composed.{view_at}
use Rattle.prim_compose.specs.Listing.{entry_at}
use Rattle.prim_reads.specs.Reads.{key_in, reads_list, listed_reads}
use Rattle.prim_reads.proofs.Listed.{back_and_there, key_listed, key_read}
use Rattle.laws_reading.specs.Laws.{ListedReads}

all_listed : (w : WorldData) (p : Path) (key : Key) → Contains (reads limits (look_ups w) p) (key_of key) → Contains (listed_reads w p) key
unfolding listed_reads
all_listed w p key has = keys_in_order.all (map key_in (reads limits (look_ups w) p)) key (key_listed (reads limits (look_ups w) p) key has)

only_read : (w : WorldData) (p : Path) (key : Key) → Contains (listed_reads w p) key → Contains (reads limits (look_ups w) p) (key_of key)
unfolding listed_reads
only_read w p key has = key_read (reads limits (look_ups w) p) key (keys_in_order.only (map key_in (reads limits (look_ups w) p)) key has)

in_their_order : (w : WorldData) (p : Path) → IsStrictlySortedBy key_order.cmp (listed_reads w p)
unfolding listed_reads
in_their_order w p =
    subst (λ (R : Key → Key → Ordering). IsStrictlySortedBy R (reads_list (look_ups w) p)) (sym key_order_is) (keys_in_order.ordered (map key_in (reads limits (look_ups w) p)))

module _ (w v : WorldData) (p : Path) (same : (key : Key) → Contains (listed_reads w p) key → stands_at w key ≡ stands_at v key) where
  at_key : (k : keys.Key) → Contains (reads limits (look_ups w) p) k → value_of (look_ups w) k ≡ value_of (look_ups v) k
  at_key k has =
      subst (λ (j : keys.Key). value_of (look_ups w) j ≡ value_of (look_ups v) j) (back_and_there k)
      (same (key_in k) (all_listed w p (key_in k) (subst (λ (j : keys.Key). Contains (reads limits (look_ups w) p) j) (sym (back_and_there k)) has)))

  agree : (ks : List keys.Key) → ((k : keys.Key) → Contains ks k → value_of (look_ups w) k ≡ value_of (look_ups v) k) → Agree (look_ups w) (look_ups v) ks
  agree [] h = All-nil (λ k. value_of (look_ups w) k ≡ value_of (look_ups v) k)
  agree (k ∷ ks) h = All-cons (λ j. value_of (look_ups w) j ≡ value_of (look_ups v) j) k ks (h k (head_in k ks)) (agree ks (λ j has. h j (tail_in k ks j has)))

  agreed : Agree (look_ups w) (look_ups v) (reads limits (look_ups w) p)
  agreed = agree (reads limits (look_ups w) p) at_key

  same_entry : entry_at v p ≡ entry_at w p
  unfolding entry_at view_at
  same_entry = view_covered limits (look_ups w) (look_ups v) p agreed

  same_reads : listed_reads v p ≡ listed_reads w p
  unfolding listed_reads
  same_reads = ap (λ (ks : List keys.Key). in_order (map key_in ks)) (reads_covered limits (look_ups w) (look_ups v) p agreed)

pub listed_settle : ListedReads
listed_settle = record { all = all_listed; only = only_read; ordered = in_their_order; same_entry = same_entry; same_reads = same_reads }
