use Rattle.std.proofs.Common.{◌∙◌, sym}
use Rattle.std.proofs.lemmas.Result.{IfOk-weaker, IfErr-weaker}
use Rattle.sdf_specs.specs.Layers.{SpecEntries, with_spec, has_parent}
use Rattle.sdf_specs.proofs.Ordered.{with_specs, same_specs, about_specs}
use Rattle.sdf_specs.proofs.layer.Layer.put.Goals as goal

pub returns-clause-ok : goal.returns-clause-ok
returns-clause-ok c = IfOk-weaker c.put_at.result _ _ (λ u put. with_specs c.self.inside.head c.self.inside.specs c.args.self.now c.self.view_is (λ (s : SpecEntries). with_spec c.args.path.now c.args.spec s) c.put_at.new.specs put) c.put_at.ensures.ok

pub returns-clause-owned : goal.returns-clause-owned
returns-clause-owned c = IfOk-weaker c.put_at.result _ _ (λ u owned. sym (about_specs c.self.inside.head c.self.inside.specs c.args.self.now c.self.view_is (λ (s : SpecEntries). has_parent c.args.path.now s)) ∙ owned) c.put_at.ensures.owned

pub returns-clause-no_parent : goal.returns-clause-no_parent
returns-clause-no_parent c = λ is. sym (about_specs c.self.inside.head c.self.inside.specs c.args.self.now c.self.view_is (λ (s : SpecEntries). has_parent c.args.path.now s)) ∙ c.put_at.ensures.no_parent is

pub returns-clause-err : goal.returns-clause-err
returns-clause-err c = IfErr-weaker c.put_at.result _ _ (λ e kept. same_specs c.self.inside.head c.self.inside.specs c.args.self.now c.self.view_is c.put_at.new.specs kept) c.put_at.ensures.err
