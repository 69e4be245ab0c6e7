-- What is counted and looked for among children.
use Rattle.std.specs.Prelude.{ℕ, Bool}
use Rattle.prim_nodes.specs.declared.node.Frame.{Frame}
use Rattle.composition.specs.Trees.{size, has_spec_in}
use Rattle.composition.specs.Compose.{rests_on_overgrown}
use Rattle.prim_trees.specs.declared.tree.Child.{Child, out-Child}
use Rattle.prim_trees.specs.Meant.{meant}

-- how many nodes a child is, with all below it
abbrev pub child_size : Child → ℕ
child_size c = size (meant (out-Child c).tree)

-- some node at or below a child has a spec
abbrev pub child_has_spec : Child → Bool
child_has_spec c = has_spec_in (meant (out-Child c).tree)

-- a listing made for the frames of a node at or below a child was overgrown
abbrev pub child_rests : Child → Bool
child_rests c = rests_on_overgrown (meant (out-Child c).tree)

-- a listing made for the frame was overgrown
abbrev pub is_frame_overgrown : Frame → Bool
is_frame_overgrown f = f.overgrown
