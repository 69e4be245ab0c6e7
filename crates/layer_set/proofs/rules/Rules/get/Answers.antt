use Rattle.std.proofs.Common.{◌∙◌, ap}
use Rattle.layer_set.specs.Rules.{rule_at}
use Rattle.layer_set.proofs.RuleTables.{got}
use Rattle.layer_set.proofs.rules.Rules.get.Goals as goal

pub returns : goal.returns
returns c = c.copied.ensures ∙ (c.get_by_items.ensures ∙ (got c.args.elements.now c.self.inside.rules ∙ ap (rule_at c.args.elements.now) c.self.view_is))
