-- Load rules by path.
use Rattle.std.specs.Prelude.{◌≡◌, ◌≢◌, Bool, true, false, List, [], Option, Some, None, length}
use Rattle.std.specs.List.{AllByRecursion}
use Rattle.std.specs.Map.{keys_of}
use Rattle.sdf_paths.specs.Order.{path_cmp}
use Rattle.sdf_paths.specs.Paths.{is_plain, is_property}
use Rattle.sdf_paths.specs.declared.element.Element.{Element}
use Rattle.spec_tables.specs.Tables.{at_key, with_key, without_key}
use Rattle.composition.specs.Texts.{first_of}
use Rattle.composition.specs.Paths.{up, below}
use Rattle.composition.specs.World.{rule_or_loaded}

-- rules in the order of paths
abbrev pub RuleEntries : Type 0
RuleEntries = List (List Element × Bool)

-- a plain prim path: neither `/` nor a property's, without selections
pub record IsPlainPrim (path : List Element) : Type 0 where
  pub below : path ≢ []
  pub prim : is_property path ≡ false
  pub plain : is_plain path ≡ true

-- rules at plain prim paths alone
abbrev pub AreRules : RuleEntries → Type 0
AreRules rules = AllByRecursion IsPlainPrim (keys_of rules)

-- the rule at a path
abbrev pub rule_at : List Element → RuleEntries → Option Bool
rule_at path rules = at_key path_cmp path rules

-- with a rule at a path, or without one
abbrev pub with_rule : List Element → Option Bool → RuleEntries → RuleEntries
with_rule path (Some rule) rules = with_key path_cmp path rule rules
with_rule path None rules = without_key path_cmp path rules

-- the rule that is nearest to the path: at the path itself, else at its longest front
abbrev pub nearest_rule : List Element → RuleEntries → Option Bool
nearest_rule path rules = first_of (λ j. rule_at (up path j) rules) (below (length path))

-- without a rule it is loaded
abbrev pub is_loaded_by : RuleEntries → List Element → Bool
is_loaded_by rules path = rule_or_loaded (nearest_rule path rules)
