use Rattle.std.proofs.Common.{◌∙◌, ap, List}
use Rattle.std.specs.declared.cmp.Ordering.{Ordering}
use Rattle.sdf_paths.specs.PathOrder.{order_is}
use Rattle.sdf_paths.specs.declared.element.Element.{Element}
use Rattle.stage_publish.specs.Editions.{item_at}
use Rattle.stage_query.proofs.questions.prim_at.Goals as goal

pub returns : goal.returns
returns c = c.find.ensures ∙ ap (λ (R : List Element → List Element → Ordering). item_at R c.args.prim.now c.args.view.now.items) order_is
