use Rattle.std.proofs.Common.{◌∙◌, sym, ap, Bool, Option}
use Rattle.std.proofs.lemmas.Result.{on_ok_weaker}
use Rattle.layer_set.specs.Rules.{RuleEntries, with_rule}
use Rattle.layer_set.proofs.RuleTables.{put}
use Rattle.layer_set.proofs.rules.Rules.set.Goals as goal

pub returns-in-Some-clause-ok : goal.returns-in-Some-clause-ok
returns-in-Some-clause-ok c =
    on_ok_weaker c.insert.result
    (λ made. made ∙ (put c.in_ok-key.key c.args.path.now c.in-Some.rule c.self.inside.rules (c.in_ok-key.ensures ∙ c.elements.ensures.same)
    ∙ (ap (λ (rule : Option Bool). with_rule c.args.path.now rule c.self.inside.rules) (sym c.in-Some.is) ∙ ap (λ (rules : RuleEntries). with_rule c.args.path.now c.args.rule rules) c.self.view_is))) c.insert.ensures.ok
