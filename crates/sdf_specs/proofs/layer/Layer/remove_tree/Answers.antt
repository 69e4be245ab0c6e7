use Rattle.std.proofs.Common.{◌∙◌}
use Rattle.std.proofs.lemmas.Result.{IfOk-weaker, IfErr-weaker}
use Rattle.sdf_specs.specs.Layers.{SpecEntries, has_tree, without_tree}
use Rattle.sdf_specs.proofs.Ordered.{with_specs, same_specs, about_specs}
use Rattle.sdf_specs.proofs.layer.Layer.remove_tree.Goals as goal

pub returns-clause-some : goal.returns-clause-some
returns-clause-some c = IfOk-weaker c.remove_tree.result _ _ (λ some is. is ∙ about_specs c.self.inside.head c.self.inside.specs c.args.self.now c.self.view_is (λ (s : SpecEntries). has_tree c.args.path.now s)) c.remove_tree.ensures.some

pub returns-clause-ok : goal.returns-clause-ok
returns-clause-ok c = IfOk-weaker c.remove_tree.result _ _ (λ u gone. with_specs c.self.inside.head c.self.inside.specs c.args.self.now c.self.view_is (λ (s : SpecEntries). without_tree c.args.path.now s) c.remove_tree.new.specs gone) c.remove_tree.ensures.ok

pub returns-clause-err : goal.returns-clause-err
returns-clause-err c = IfErr-weaker c.remove_tree.result _ _ (λ e kept. same_specs c.self.inside.head c.self.inside.specs c.args.self.now c.self.view_is c.remove_tree.new.specs kept) c.remove_tree.ensures.err
