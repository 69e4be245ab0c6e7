use Rattle.std.proofs.Common.{◌∙◌, ap, List}
use Rattle.sdf_paths.specs.contracts.path.PathOrd.TheImpl.{ghosts as path_order}
use Rattle.sdf_paths.specs.declared.element.Element.{Element}
use Rattle.spec_tables.specs.Tables.{with_key}
use Rattle.sdf_specs.proofs.Ordered.{with_is}
use Rattle.flatten.proofs.flat.put.Goals as goal

pub returns : goal.returns
returns g c =
    c.in_ok-insert.ensures.ok
    ∙ (ap (λ (p : List Element). with_key path_order.cmp p c.args.value c.args.values.now) c.in_ok-copy.ensures
    ∙ with_is c.args.path.now c.args.values.now c.args.value)
