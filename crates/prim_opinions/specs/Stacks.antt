-- The layers of stacks that are noted by name.
use Rattle.std.specs.Prelude.{◌≡◌, List, [], Option, Some, None, IfSome}
use Rattle.std.specs.declared.cmp.Ordering.{Ordering}
use Rattle.prim_view.specs.contracts.stack_name.StackNameOrd.TheImpl.{ghosts as name_order}
use Rattle.sdf_values.specs.Scales.{Offset}
use Rattle.composition.specs.Texts.{Text}
use Rattle.composition.specs.World.{World, StackName}
use Rattle.layer_stack.specs.Meant.{defined_stack}

-- the order of names of stacks
abbrev pub name_cmp : StackName → StackName → Ordering
name_cmp = name_order.cmp

-- the layers that are noted; none where nothing is noted
abbrev pub layers_or_none : Option (List (Text × Offset)) → List (Text × Offset)
layers_or_none (Some layers) = layers
layers_or_none None = []

-- what is noted for a name are the layers of its stack
abbrev pub AreStacks : World → (StackName → Option (List (Text × Offset))) → Type 0
AreStacks w noted = (name : StackName) → IfSome (noted name) (λ layers. layers ≡ (defined_stack w name).layers)
