use Rattle.std.proofs.Common.{◌∙◌}
use Rattle.std.proofs.lemmas.Result.{IfOk-weaker, IfErr-weaker}
use Rattle.sdf_specs.proofs.Ordered.{at_view, with_for_view, same_specs}
use Rattle.sdf_specs.proofs.layer.Layer.replace.Goals as goal

pub returns-clause-before : goal.returns-clause-before
returns-clause-before c = IfOk-weaker c.exchange.result _ _ (λ before found. found ∙ at_view c.self.inside.head c.self.inside.specs c.args.self.now c.self.view_is c.args.path.now) c.exchange.ensures.before

pub returns-clause-ok : goal.returns-clause-ok
returns-clause-ok c = IfOk-weaker c.exchange.result _ _ (λ before put. with_for_view c.self.inside.head c.self.inside.specs c.args.self.now c.self.view_is c.args.path.now c.args.spec c.exchange.new.self put) c.exchange.ensures.ok

pub returns-clause-err : goal.returns-clause-err
returns-clause-err c = IfErr-weaker c.exchange.result _ _ (λ e kept. same_specs c.self.inside.head c.self.inside.specs c.args.self.now c.self.view_is c.exchange.new.self kept) c.exchange.ensures.err
