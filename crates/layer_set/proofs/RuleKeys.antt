-- Keys of entries that are put in and taken out.
use Rattle.std.proofs.Common.{Bool, true, false, cond, List, [], ◌∷◌, Option, Some, None}
use Rattle.std.specs.BTreeMap.{insert_entry}
use Rattle.std.specs.List.{AllByRecursion}
use Rattle.std.specs.Map.{keys_of, remove_entry}
use Rattle.std.specs.Ordering.{match_ordering, is_eq}
use Rattle.std.specs.declared.cmp.Ordering.{Ordering}
use Rattle.std.specs.declared.cmp.Ordering.TheVariants.{Less, Equal, Greater}
use Rattle.sdf_paths.specs.Order.{path_cmp}
use Rattle.sdf_paths.specs.declared.element.Element.{Element}
use Rattle.layer_set.specs.Rules.{RuleEntries, IsPlainPrim, AreRules, with_rule}

module _ {K V : Type 0} (P : K → Type 0) where
  with_entry : (R : K → K → Ordering) (k : K) (v : V) (es : List (K × V)) → P k → AllByRecursion P (keys_of es) → AllByRecursion P (keys_of (insert_entry R es k v))
  with_entry R k v [] here rest = (here, rest)
  with_entry R k v (e ∷ es) here rest =
      elim (R k e.0) as (λ o. AllByRecursion P (keys_of (match_ordering o ((k, v) ∷ e ∷ es) ((e.0, v) ∷ es) (e ∷ insert_entry R es k v)))) [
        | Less ↦ (here, rest)
        | Equal ↦ rest
        | Greater ↦ (rest.0, with_entry R k v es here rest.1)
      ]

  without_entry : (test : K → Bool) (es : List (K × V)) → AllByRecursion P (keys_of es) → AllByRecursion P (keys_of (remove_entry test es))
  without_entry test [] rest = rest
  without_entry test (e ∷ es) rest =
      elim (test e.0) as (λ b. AllByRecursion P (keys_of (cond b es (e ∷ remove_entry test es)))) [
        | true ↦ rest.1
        | false ↦ (rest.0, without_entry test es rest.1)
      ]

pub still_rules : (path : List Element) (rule : Option Bool) (rules : RuleEntries) → IsPlainPrim path → AreRules rules → AreRules (with_rule path rule rules)
still_rules path (Some rule) rules prim all = with_entry IsPlainPrim path_cmp path rule rules prim all
still_rules path None rules prim all = without_entry IsPlainPrim (λ p. is_eq (path_cmp path p)) rules all
