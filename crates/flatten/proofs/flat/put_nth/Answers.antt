use Rattle.std.proofs.Common.{◌∙◌, ap, List, Option, Some}
use Rattle.std.proofs.lemmas.Result.{IfOk-weaker}
use Rattle.prim_view.specs.declared.view.PrimView.{PrimView}
use Rattle.sdf_paths.specs.declared.element.Element.{Element}
use Rattle.flatten.specs.Flattened.{with_item}
use Rattle.flatten.proofs.Flattening.{no_item, item_put}
use Rattle.flatten.proofs.flat.put_nth.Goals as goal

pub returns-in-None : goal.returns-in-None
returns-in-None c = no_item c.args.specs.now ∙ ap (λ (o : Option (List Element × PrimView)). with_item o c.args.specs.now) c.in-None.ensures

pub returns-in-Some : goal.returns-in-Some
returns-in-Some c =
    IfOk-weaker c.put_prim.result _ _
    (λ u put. item_put c.in-Some.path.now c.view.result.now c.args.specs.now _ put ∙ ap (λ (v : PrimView). with_item (Some (c.in-Some.path.now, v)) c.args.specs.now) c.view.ensures
    ∙ ap (λ (o : Option (List Element × PrimView)). with_item o c.args.specs.now) c.in-Some.ensures)
    c.put_prim.ensures
