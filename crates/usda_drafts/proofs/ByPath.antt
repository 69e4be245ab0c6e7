-- What tables by path answer under the order by which paths compare, in the words of layers.
use Rattle.std.proofs.Common.{◌≡◌, ap, List}
use Rattle.std.specs.declared.cmp.Ordering.{Ordering}
use Rattle.sdf_paths.specs.PathOrder.{order_is}
use Rattle.sdf_paths.specs.contracts.path.PathOrd.TheImpl.{ghosts as path_order}
use Rattle.sdf_paths.specs.declared.element.Element.{Element}
use Rattle.sdf_specs.specs.Layers.{SpecEntries, spec_at, with_spec}
use Rattle.spec_parts.specs.declared.spec.Spec.{Spec}
use Rattle.spec_tables.specs.Tables.{at_key, with_key}

pub at_is : (path : List Element) (specs : SpecEntries) → at_key path_order.cmp path specs ≡ spec_at path specs
at_is path specs = ap (λ (R : List Element → List Element → Ordering). at_key R path specs) order_is

pub with_is : (path : List Element) (specs : SpecEntries) (spec : Spec) → with_key path_order.cmp path spec specs ≡ with_spec path spec specs
with_is path specs spec = ap (λ (R : List Element → List Element → Ordering). with_key R path spec specs) order_is
