-- How two values merge. The variants of values that nest do not compute, so their entries are opened by lemmas.
use Rattle.std.proofs.Common.{◌≡◌, ℕ, suc, ℤ, List, Option, Some, None, sym, ap, ◌∙◌}
use Rattle.sdf_values.specs.declared.value.DictItem.{DictItem}
use Rattle.sdf_values.specs.declared.value.Value.{Value, out-roll-Value}
use Rattle.sdf_values.specs.declared.value.Value.TheOpen.{Value-F}
use Rattle.sdf_values.specs.declared.value.Value.TheVariants as value
use Rattle.sdf_values.specs.declared.value.Value.TheVariants.{rolls-Whole, rolls-Text, rolls-Dict}
use Rattle.composition.specs.Merging.{entries_of, entries_in, merged_within, dict_over, items_over}

-- a number has no entries, nor has a text; a dictionary has its own
pub of_whole : (n : ℤ) → entries_of (value.Whole n) ≡ None
of_whole n = ap entries_of (sym (rolls-Whole n)) ∙ ap entries_in (out-roll-Value (Value-F.Whole n))

pub of_text : (t : List ℕ) → entries_of (value.Text t) ≡ None
of_text t = ap entries_of (sym (rolls-Text t)) ∙ ap entries_in (out-roll-Value (Value-F.Text t))

of_dict : (items : List DictItem) → entries_of (value.Dict items) ≡ Some items
of_dict items = ap entries_of (sym (rolls-Dict items)) ∙ ap entries_in (out-roll-Value (Value-F.Dict items))

-- a value that is no dictionary stands as it is
pub kept : (n : ℕ) (v w : Value) → entries_of v ≡ None → merged_within (suc n) v w ≡ v
unfolding merged_within
kept n v w e = ap (λ (o : Option (List DictItem)). dict_over (merged_within n) v o (entries_of w)) e

-- and so does a dictionary over a value that is none
pub kept_over : (n : ℕ) (items : List DictItem) (w : Value) → entries_of w ≡ None → merged_within (suc n) (value.Dict items) w ≡ value.Dict items
unfolding merged_within
kept_over n items w e =
    ap (λ (o : Option (List DictItem)). dict_over (merged_within n) (value.Dict items) o (entries_of w)) (of_dict items)
    ∙ ap (λ (o : Option (List DictItem)). dict_over (merged_within n) (value.Dict items) (Some items) o) e

-- two dictionaries merge entry by entry
pub merges : (n : ℕ) (items weaker : List DictItem) → merged_within (suc n) (value.Dict items) (value.Dict weaker) ≡ value.Dict (items_over (merged_within n) items weaker)
unfolding merged_within
merges n items weaker =
    ap (λ (o : Option (List DictItem)). dict_over (merged_within n) (value.Dict items) o (entries_of (value.Dict weaker))) (of_dict items)
    ∙ ap (λ (o : Option (List DictItem)). dict_over (merged_within n) (value.Dict items) (Some items) o) (of_dict weaker)
