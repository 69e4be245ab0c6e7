-- Which paths arcs join.
use Rattle.std.specs.Prelude.{◌≡◌, ◌≢◌, false, List, []}
use Rattle.sdf_paths.specs.Paths.{is_property}
use Rattle.sdf_paths.specs.declared.element.Element.{Element}

-- the path of a prim, or of a variant of one: neither `/` nor a property
pub record IsOfPrim (path : List Element) : Type 0 where
  pub below_root : path ≢ []
  pub no_property : is_property path ≡ false
