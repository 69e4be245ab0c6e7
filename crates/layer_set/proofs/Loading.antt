-- Rules that are looked up and changed.
use Rattle.std.proofs.Common.{◌≡◌, ◌∙◌, sym, ap, refl, subst, ℕ, Bool, true, false, not, ◌||◌, List, [], ◌∷◌, length, Option, Result, Ok, Err, OnOk, OnErr}
use Rattle.plain_data.specs.Exact.{both_true}
use Rattle.sdf_paths.specs.Paths.{is_plain, is_selection}
use Rattle.sdf_paths.specs.declared.element.Element.{Element}
use Rattle.composition.specs.Texts.{first_of}
use Rattle.composition.specs.Paths.{up, below, levels, has_selections}
use Rattle.composition.specs.World.{is_loaded, rule_or_loaded}
use Rattle.layer_set.specs.LookUps.{look_ups}
use Rattle.layer_set.specs.Rules.{RuleEntries, IsPlainPrim, AreRules, rule_at, with_rule, is_loaded_by}
use Rattle.layer_set.specs.Worlds.{WorldData}
use Rattle.layer_set.proofs.RuleKeys.{still_rules}

not_true : (b : Bool) → not b ≡ true → b ≡ false
not_true true h = absurd cc
not_true false h = refl

no_selections : (p : List Element) → is_plain p ≡ true → has_selections p ≡ false
no_selections [] h = refl
no_selections (e ∷ p) h =
    let both = both_true (not (is_selection e)) (is_plain p) h in
    let here = not_true (is_selection e) both.0 in
    ap (λ (b : Bool). b || has_selections p) here ∙ no_selections p both.1

-- a path without selections has a level for each of its names
plain_levels : (p : List Element) → is_plain p ≡ true → levels p ≡ length p
plain_levels [] h = refl
plain_levels (e ∷ p) h =
    let both = both_true (not (is_selection e)) (is_plain p) h in
    let rest = no_selections p both.1 in
    ap (λ (b : Bool). elim b as (λ _. ℕ) [ true ↦ levels p | false ↦ length (e ∷ p) ]) rest

pub as_composed : (w : WorldData) (p : List Element) (b : Bool) → b ≡ is_loaded_by w.rules p → is_plain p ≡ true → b ≡ is_loaded (look_ups w) p
as_composed w p b told plain = told ∙ ap (λ (n : ℕ). rule_or_loaded (first_of (λ j. rule_at (up p j) w.rules) (below n))) (sym (plain_levels p plain))

pub changed_rules : {A E : Type 0} (result : Result A E) (path : List Element) (rule : Option Bool) (new old : RuleEntries)
    → OnOk result (new ≡ with_rule path rule old) → OnErr result (new ≡ old) → IsPlainPrim path → AreRules old → AreRules new
changed_rules (Ok a) path rule new old put kept prim all = subst AreRules (sym put) (still_rules path rule old prim all)
changed_rules (Err e) path rule new old put kept prim all = subst AreRules (sym kept) all
