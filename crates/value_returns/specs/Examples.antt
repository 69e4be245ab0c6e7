-- What is proper, and what is not.
use Rattle.std.specs.Prelude.{◌≡◌, ℕ, false, List, codes}
use Rattle.sdf_values.specs.Conforms.{one}
use Rattle.sdf_values.specs.declared.type_name.ElementType.TheVariants as element
use Rattle.sdf_values.specs.declared.value.Value.{Value}
use Rattle.sdf_values.specs.declared.value.Value.TheVariants as value
use Rattle.layer_texts.specs.Examples.{attribute}
use Rattle.layer_reads.specs.Properties.{is_any_key}
use Rattle.value_returns.specs.FullPaths.{has_full_paths}
use Rattle.value_returns.specs.Proper.{IsProperValue, IsProperKey, IsProperProperty}

-- a value that is a path
abbrev pub path : List ℕ → Value
path t = value.PathText t

-- a property, a value and a key that are proper, and paths of values that are not from the root down or not as they are printed
pub record ExamplesAreProper : Type 0 where
  -- an attribute with a sample, a connection and metadata
  pub property : IsProperProperty attribute
  pub string : IsProperValue (one element.String) (value.Text (codes "\"@\""))
  pub key : IsProperKey is_any_key (codes "anchor") (path (codes "/A.y"))
  -- paths that mean another place below another prim, and one that is printed in another form
  pub above : has_full_paths (path (codes "../A")) ≡ false
  pub below : has_full_paths (path (codes "A")) ≡ false
  pub own : has_full_paths (path (codes ".y")) ≡ false
  pub form : has_full_paths (path (codes "/A{s=v}/B")) ≡ false
