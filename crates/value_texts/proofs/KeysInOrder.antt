-- Entries whose keys are in order are put behind each other.
use Rattle.std.proofs.Common.{◌≡◌, ◌∙◌, ℕ, true, false, List, [], ◌∷◌, ◌++◌, Some, ap, refl, cond}
use Rattle.std.specs.Option.{is_some}
use Rattle.std.specs.Map.{lookup}
use Rattle.std.specs.BTreeMap.{is_at}
use Rattle.std.specs.Cmp.Lexicographic.{slice_cmp}
use Rattle.std.specs.Ordering.{nat_cmp, is_lt, is_eq, match_ordering, ordering_reverse}
use Rattle.std.specs.declared.cmp.Ordering.{Ordering}
use Rattle.std.specs.declared.cmp.Ordering.TheVariants.{Less, Equal, Greater}
use Rattle.std.proofs.lemmas.Cmp.{nat_list_cmp_total}
use Rattle.sdf_values.specs.Proper.{is_below}
use Rattle.sdf_values.specs.declared.value.DictItem.{DictItem}
use Rattle.usda_values.specs.Entries.{Table, has_key, with_entry, items_of}

-- the entries of these items
abbrev pub table_of : List DictItem → Table
table_of [] = []
table_of (i ∷ is) = (i.key, i) ∷ table_of is

pub items_back : (items : List DictItem) → items_of (table_of items) ≡ items
items_back [] = refl
items_back (i ∷ is) = ap (λ l. i ∷ l) (items_back is)

-- each key stands before this one
abbrev pub AllBelow : List DictItem → List ℕ → Type 0
AllBelow [] k = Unit {0}
AllBelow (i ∷ is) k = (is_below i.key k ≡ true) × AllBelow is k

less_is : (o : Ordering) → is_lt o ≡ true → o ≡ Less
less_is Less h = refl
less_is Equal h = absurd cc
less_is Greater h = absurd cc

above : (a b : List ℕ) → is_below a b ≡ true → slice_cmp nat_cmp b a ≡ Greater
above a b h = nat_list_cmp_total.antisymm b a ∙ ap ordering_reverse (less_is (slice_cmp nat_cmp a b) h)

below_trans : (a b c : List ℕ) → is_below a b ≡ true → is_below b c ≡ true → is_below a c ≡ true
below_trans a b c h k = ap is_lt (nat_list_cmp_total.trans a b c (less_is (slice_cmp nat_cmp a b) h) (less_is (slice_cmp nat_cmp b c) k))

pub no_key : (items : List DictItem) (k : List ℕ) → AllBelow items k → has_key k (table_of items) ≡ false
no_key [] k h = refl
no_key (i ∷ is) k h =
    ap (λ o. is_some (cond (is_eq o) (Some i) (lookup (is_at (slice_cmp nat_cmp k)) (table_of is)))) (above i.key k h.0) ∙ no_key is k h.1

pub put_last : (items : List DictItem) (k : List ℕ) (item : DictItem) → AllBelow items k → with_entry k item (table_of items) ≡ table_of items ++ (k, item) ∷ []
put_last [] k item h = refl
put_last (i ∷ is) k item h =
    ap (λ o. match_ordering o ((k, item) ∷ (i.key, i) ∷ table_of is) ((i.key, item) ∷ table_of is) ((i.key, i) ∷ with_entry k item (table_of is))) (above i.key k h.0)
    ∙ ap (λ l. (i.key, i) ∷ l) (put_last is k item h.1)

pub table_more : (items : List DictItem) (i : DictItem) → table_of items ++ (i.key, i) ∷ [] ≡ table_of (items ++ i ∷ [])
table_more [] i = refl
table_more (j ∷ js) i = ap (λ l. (j.key, j) ∷ l) (table_more js i)

pub all_below_next : (items : List DictItem) (i : DictItem) (k : List ℕ) → AllBelow items i.key → is_below i.key k ≡ true → AllBelow (items ++ i ∷ []) k
all_below_next [] i k h b = (b, tt)
all_below_next (j ∷ js) i k h b = (below_trans j.key i.key k h.0 b, all_below_next js i k h.1 b)
