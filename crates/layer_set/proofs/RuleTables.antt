-- Rules under the order by which the code compares their keys.
use Rattle.std.proofs.Common.{◌≡◌, ◌∙◌, ap, Bool, List, Some, None}
use Rattle.std.specs.Cmp.Lexicographic.{slice_cmp}
use Rattle.std.specs.declared.cmp.Ordering.{Ordering}
use Rattle.sdf_paths.specs.DerivedOrder.{path_order_is}
use Rattle.sdf_paths.specs.contracts.element.ElementOrd.TheImpl.{ghosts as element_order}
use Rattle.sdf_paths.specs.declared.element.Element.{Element}
use Rattle.spec_tables.specs.Tables.{at_key, with_key, without_key}
use Rattle.layer_set.specs.Rules.{RuleEntries, rule_at, with_rule}

pub got : (path : List Element) (rules : RuleEntries) → at_key (slice_cmp element_order.cmp) path rules ≡ rule_at path rules
got path rules = ap (λ (R : List Element → List Element → Ordering). at_key R path rules) path_order_is

pub put : (key path : List Element) (rule : Bool) (rules : RuleEntries) → key ≡ path → with_key (slice_cmp element_order.cmp) key rule rules ≡ with_rule path (Some rule) rules
put key path rule rules is =
    ap (λ (R : List Element → List Element → Ordering). with_key R key rule rules) path_order_is ∙ ap (λ (p : List Element). with_rule p (Some rule) rules) is

pub taken : (path : List Element) (rules : RuleEntries) → without_key (slice_cmp element_order.cmp) path rules ≡ with_rule path None rules
taken path rules = ap (λ (R : List Element → List Element → Ordering). without_key R path rules) path_order_is
