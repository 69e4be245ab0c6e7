-- A node of the stage with its frames.
use Rattle.std.specs.Prelude.{List, ◌∷◌}
use Rattle.composition.specs.Nodes.{Node, Frame}

-- the node with the frame of its own path, and those of the prims above it
unfoldable pub framed : Node → Frame → List Frame → Node
framed n f above = record n { frames = f ∷ above }
