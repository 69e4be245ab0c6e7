-- An entry at a key that no other has keeps the entries in order, and each of them sound.
use Rattle.std.proofs.Common.{◌≡◌, ◌∙◌, ℕ, ◌&&◌, Bool, true, false, List, [], ◌∷◌, Some, ap, refl, cond}
use Rattle.std.specs.Option.{is_some}
use Rattle.std.specs.Map.{lookup}
use Rattle.std.specs.BTreeMap.{is_at}
use Rattle.std.specs.Cmp.Lexicographic.{slice_cmp}
use Rattle.std.specs.Ordering.{nat_cmp, is_lt, is_eq, match_ordering, ordering_reverse}
use Rattle.std.specs.declared.cmp.Ordering.{Ordering}
use Rattle.std.specs.declared.cmp.Ordering.TheVariants.{Less, Equal, Greater}
use Rattle.std.proofs.lemmas.Cmp.{nat_list_cmp_total}
use Rattle.std.proofs.lemmas.Bool.{and_parts, and_from}
use Rattle.sdf_values.specs.Proper.{is_below, are_keys_behind, are_keys_in_order}
use Rattle.sdf_values.specs.declared.value.DictItem.{DictItem}
use Rattle.usda_values.specs.Entries.{Table, has_key, with_entry}
use Rattle.values_read.specs.Sound.{IsSoundEntry, AreSoundEntries, keys_in}

-- whether a key is found, by how it compares with the first one
abbrev FoundBy : Ordering → List ℕ → List ℕ × DictItem → Table → Bool
FoundBy o k e es = is_some (cond (is_eq o) (Some e.1) (lookup (is_at (slice_cmp nat_cmp k)) es))

-- the entries with one more, by how its key compares with the first one
abbrev PutBy : Ordering → List ℕ → DictItem → List ℕ × DictItem → Table → Table
PutBy o k item e es = match_ordering o ((k, item) ∷ e ∷ es) ((e.0, item) ∷ es) (e ∷ with_entry k item es)

above : (a b : List ℕ) → slice_cmp nat_cmp b a ≡ Greater → is_below a b ≡ true
above a b h = ap is_lt (nat_list_cmp_total.antisymm a b ∙ ap ordering_reverse h)

put_behind : (b k : List ℕ) (item : DictItem) (es : Table) → are_keys_behind b (keys_in es) ≡ true → is_below b k ≡ true → has_key k es ≡ false → are_keys_behind b (keys_in (with_entry k item es)) ≡ true
put_behind b k item [] h low none = and_from (is_below b k) true low refl
put_behind b k item (e ∷ es) h low none =
    let p = and_parts (is_below b e.0) (are_keys_behind e.0 (keys_in es)) h in
    by (slice_cmp nat_cmp k e.0) refl none p.0 p.1 (λ l n. put_behind e.0 k item es p.1 l n)
  where
    by : (o : Ordering) → slice_cmp nat_cmp k e.0 ≡ o → FoundBy o k e es ≡ false → is_below b e.0 ≡ true → are_keys_behind e.0 (keys_in es) ≡ true
        → (is_below e.0 k ≡ true → has_key k es ≡ false → are_keys_behind e.0 (keys_in (with_entry k item es)) ≡ true) → are_keys_behind b (keys_in (PutBy o k item e es)) ≡ true
    by Less is none first rest more = and_from (is_below b k) (is_below k e.0 && are_keys_behind e.0 (keys_in es)) low (and_from (is_below k e.0) (are_keys_behind e.0 (keys_in es)) (ap is_lt is) rest)
    by Equal is none first rest more = absurd cc
    by Greater is none first rest more = and_from (is_below b e.0) (are_keys_behind e.0 (keys_in (with_entry k item es))) first (more (above e.0 k is) none)

pub put_ordered : (k : List ℕ) (item : DictItem) (es : Table) → are_keys_in_order (keys_in es) ≡ true → has_key k es ≡ false → are_keys_in_order (keys_in (with_entry k item es)) ≡ true
put_ordered k item [] h none = refl
put_ordered k item (e ∷ es) h none = by (slice_cmp nat_cmp k e.0) refl none
  where
    by : (o : Ordering) → slice_cmp nat_cmp k e.0 ≡ o → FoundBy o k e es ≡ false → are_keys_in_order (keys_in (PutBy o k item e es)) ≡ true
    by Less is none = and_from (is_below k e.0) (are_keys_behind e.0 (keys_in es)) (ap is_lt is) h
    by Equal is none = absurd cc
    by Greater is none = put_behind e.0 k item es h (above e.0 k is) none

pub put_each : (n : ℕ) (k : List ℕ) (item : DictItem) (es : Table) → AreSoundEntries n es → has_key k es ≡ false → IsSoundEntry n (k, item) → AreSoundEntries n (with_entry k item es)
put_each n k item [] each none one = (one, tt)
put_each n k item (e ∷ es) each none one = by (slice_cmp nat_cmp k e.0) none (λ m. put_each n k item es each.1 m one)
  where
    by : (o : Ordering) → FoundBy o k e es ≡ false → (has_key k es ≡ false → AreSoundEntries n (with_entry k item es)) → AreSoundEntries n (PutBy o k item e es)
    by Less none more = (one, each)
    by Equal none more = absurd cc
    by Greater none more = (each.0, more none)
