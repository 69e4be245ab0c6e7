-- The nodes to which arcs lead, and the nodes on whose trees frames rest.
use Rattle.std.specs.Prelude.{ℕ, ◌+◌, ◌-◌, ◌∷◌, ◌++◌, false, List, take}
use Rattle.path_maps.specs.declared.kind.ArcKind.TheVariants.{Variant}
use Rattle.sdf_values.specs.Scales.{composed}
use Rattle.composition.specs.Paths.{Path, up}
use Rattle.composition.specs.Nodes.{Node, Frame, author, child_path, child_chain, bare_node}
use Rattle.composition.specs.Trees.{Branch}

-- the child of an arc, once the frames of the target's ancestors are known
unfoldable pub arc_child_with : List Frame → Node → Branch → Node
arc_child_with above n b = record {
  stack = b.lead.stack;
  path = child_path n b.level b.lead.target;
  frames = take (b.level + 1) n.frames ++ above;
  chain = child_chain n b.level;
  depth = n.depth - 1;
  offset = composed b.lead.offset n.offset;
  maps = (record { kind = b.kind; target = b.lead.target; author = author n b.level }) ∷ n.maps;
}

-- the child of a variant
unfoldable pub chosen_child : Node → Branch → Node
chosen_child n b = record n {
  path = child_path n b.level b.lead.target;
  frames = take (b.level + 1) n.frames;
  maps = (record { kind = Variant; target = b.lead.target; author = author n b.level }) ∷ n.maps;
}

-- the prim above an arc's target, as a prim of the target's stack
unfoldable pub above_target : ℕ → Node → Branch → Node
above_target d n b = bare_node b.lead.stack (up b.lead.target 1) (child_chain n b.level) d (composed b.lead.offset n.offset)

-- a node at a path above its own
unfoldable pub node_at : Path → Node → Node
node_at q n = record n { path = q }

-- the node of a round: the frame itself counts as not overgrown
unfoldable pub node_in_round : Node → List Frame → Frame → Node
node_in_round n above f = record n { frames = (record f { overgrown = false }) ∷ above }
