use Rattle.std.proofs.Common.{◌∙◌, ap, List, []}
use Rattle.std.specs.declared.cmp.Ordering.{Ordering}
use Rattle.sdf_paths.specs.PathOrder.{order_is}
use Rattle.sdf_paths.specs.contracts.path.PathOrd.TheImpl.{ghosts as path_order}
use Rattle.sdf_paths.specs.declared.element.Element.{Element}
use Rattle.stage_publish.specs.Editions.{item_at}
use Rattle.flatten.proofs.flat.root_of.Goals as goal

pub returns : goal.returns
returns c =
    c.find.ensures
    ∙ ap (λ (path : List Element). item_at path_order.cmp path c.args.view.now.items) c.root-root.ensures
    ∙ ap (λ (R : List Element → List Element → Ordering). item_at R [] c.args.view.now.items) order_is
