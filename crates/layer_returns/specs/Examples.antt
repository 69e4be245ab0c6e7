-- A layer that comes back: sublayers, an order, a prim with a type, a reference with an offset, a relationship and a variant set.
use Rattle.layer_texts.specs.Examples.{small}
use Rattle.layer_texts.specs.Writable.{is_writable_layer}
use Rattle.layer_returns.specs.Layers.{IsLayerKept}
use Rattle.layer_returns.specs.Theorem.{IsTree}
use Rattle.std.specs.Prelude.{◌≡◌, true}

-- what has to hold of a layer that comes back holds of this one
pub record ExamplesComeBack : Type 0 where
  pub small_kept : IsLayerKept small
  pub small_tree : IsTree small
  pub small_written : is_writable_layer small ≡ true
