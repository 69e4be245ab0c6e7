use Rattle.std.proofs.Common.{◌∙◌, sym}
use Rattle.std.proofs.lemmas.Result.{on_ok_weaker}
use Rattle.layer_edit.specs.Changes.{spec_changed}
use Rattle.layer_edit.proofs.Changing.{changed_put, unchanged}
use Rattle.layer_edit.proofs.places.change_at.Goals as goal

pub returns-in_ok-spec-in-Some : goal.returns-in_ok-spec-in-Some
returns-in_ok-spec-in-Some c =
    on_ok_weaker c.put_spec.result
    (changed_put c.args.path.now (spec_changed c.args.change) c.args.layer.now c.take_spec.new.layer c.put_spec.new.layer c.in-Some.spec c.in_ok-spec-in-Some.spec
    (sym c.in-Some.is ∙ c.in-Ok.ensures.taken) c.in-Ok.ensures.left c.in-Ok.ensures.head c.in_ok-spec-in-Some.ensures)
    c.put_spec.ensures

pub returns-in-None : goal.returns-in-None
returns-in-None c =
    unchanged c.args.path.now (spec_changed c.args.change) c.args.layer.now c.take_spec.new.layer (sym c.in-None.is ∙ c.in-Ok.ensures.taken) (c.in-Ok.ensures.none c.in-None.is)
