-- What a value makes of a weaker one, by whether the two are dictionaries.
use Rattle.std.proofs.Common.{◌≡◌, ap, refl, ◌∙◌, ℕ, zero, suc, ◌-◌, List, Option, Some, None, arith}
use Rattle.sdf_values.specs.declared.value.DictItem.{DictItem}
use Rattle.sdf_values.specs.declared.value.Value.{Value}
use Rattle.sdf_values.specs.declared.value.Value.TheVariants as value
use Rattle.composition.specs.Merging.{entries_of, merged_within, dict_over, items_over}

pub kept_at_last : (n : ℕ) (v w : Value) → n ≡ 0 → merged_within n v w ≡ v
unfolding merged_within
kept_at_last zero v w h = refl
kept_at_last (suc n) v w h = absurd cc

pub kept_alone : (n : ℕ) (v w : Value) → entries_of v ≡ None → merged_within n v w ≡ v
unfolding merged_within
kept_alone zero v w h = refl
kept_alone (suc n) v w h = ap (λ (o : Option (List DictItem)). dict_over (merged_within n) v o (entries_of w)) h

by_weaker : (f : Value → Value → Value) (v : Value) (o p : Option (List DictItem)) → p ≡ None → dict_over f v o p ≡ v
by_weaker f v (Some is) (Some ws) h = absurd cc
by_weaker f v (Some is) None h = refl
by_weaker f v None p h = refl

pub kept_over : (n : ℕ) (v w : Value) → entries_of w ≡ None → merged_within n v w ≡ v
unfolding merged_within
kept_over zero v w h = refl
kept_over (suc n) v w h = by_weaker (merged_within n) v (entries_of v) (entries_of w) h

pub both_open : (n : ℕ) (v w : Value) (is ws : List DictItem) → (n ≡ 0 → ⊥) → entries_of v ≡ Some is → entries_of w ≡ Some ws
    → merged_within n v w ≡ value.Dict (items_over (merged_within (n - 1)) is ws)
unfolding merged_within
both_open zero v w is ws h p q = absurd (h refl)
both_open (suc n) v w is ws h p q =
    let less : n ≡ suc n - 1 = omega arith in
    ap (λ (o : Option (List DictItem)). dict_over (merged_within n) v o (entries_of w)) p ∙ ap (λ (o : Option (List DictItem)). dict_over (merged_within n) v (Some is) o) q
    ∙ ap (λ (k : ℕ). value.Dict (items_over (merged_within k) is ws)) less
