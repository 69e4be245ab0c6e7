-- What a layer stack answers, and names each once.
use Rattle.std.specs.Prelude.{ℕ, Bool, true, false, Some, None, List, [], ◌∷◌, ◌++◌}
use Rattle.std.specs.List.{list_any}
use Rattle.list_ops.specs.ListEdits.{firsts}
use Rattle.composition.specs.Texts.{Text, same_text}
use Rattle.composition.specs.Paths.{Limits, limits}
use Rattle.composition.specs.World.{World, StackName, Root, Asset, stack_of}
use Rattle.composition.specs.Stacks.{LayerStack, stack, from_layer}

-- the limits of this project, with this many layers of a world
abbrev pub limits_of : ℕ → Limits
limits_of most = record limits { layers = most }

-- the stack as it is defined, within the limits of this project
unfoldable pub defined_stack : World → StackName → LayerStack
defined_stack w name = stack limits w name

-- a layer with what stands below it, after others; no more than `most` layers stand on a chain
unfoldable pub with_stack : ℕ → World → Text → LayerStack → LayerStack
with_stack most w name s = from_layer (limits_of most) w name s

-- the same with another number of layers
unfoldable pub stack_within : ℕ → World → StackName → LayerStack
stack_within most w name = stack (limits_of most) w name

-- there is no session layer, and it is the root layer's own name
abbrev pub means_root : World → Text → Bool
means_root w name = elim w.session [ Some s ↦ false | None ↦ same_text name w.root ]

-- the name that a name of a stack means: without a session layer the root's own name means `Root`
abbrev pub meant : World → StackName → StackName
meant w Root = Root
meant w (Asset name) = stack_of w name

-- one name more, unless it is there
abbrev pub noted : List Text → Text → List Text
noted names name = elim (list_any (same_text name) names) [ true ↦ names | false ↦ names ++ name ∷ [] ]

-- names each once, in the order in which they are first met
abbrev pub each_once : List Text → List Text
each_once names = firsts same_text names
