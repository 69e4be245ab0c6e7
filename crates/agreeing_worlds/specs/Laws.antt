-- What is read covers what is made of it: worlds that agree on the keys that a path reads have the same view of it, and read the same.
-- docs/COMPOSITION.md, 'What a prim reads'.
use Rattle.std.specs.Prelude.{◌≡◌, ◌≢◌, true, [], ◌∷◌, map}
use Rattle.std.specs.List.{list_all}
use Rattle.sdf_paths.specs.declared.element.Element.{Element}
use Rattle.sdf_paths.specs.Paths.{is_prim_name}
use Rattle.composition.specs.Paths.{Path, Limits}
use Rattle.composition.specs.World.{World, StackName}
use Rattle.composition.specs.Stacks.{stack}
use Rattle.composition.specs.Nodes.{Node, here}
use Rattle.composition.specs.Faults.{index}
use Rattle.composition.specs.Views.{view}
use Rattle.composition.specs.Keys.{head, keys_at, reads, Agree}

-- whatever the limits and the two worlds are
pub record ReadsCover : Type 0 where
  -- worlds that agree on the heads that a stack asks have the same stack
  pub same_stack : (l : Limits) (w v : World) (s : StackName) → Agree w v (map head (stack l w s).asked) → stack l v s ≡ stack l w s
  -- worlds that agree on what is read at a node below `/` say the same there: arcs and why some are not followed, variants and selections
  pub same_here : (l : Limits) (w v : World) (n : Node) → n.path ≢ [] → Agree w v (keys_at l w n) → here l v n ≡ here l w n
  -- and the same is read there
  pub same_keys : (l : Limits) (w v : World) (n : Node) → Agree w v (keys_at l w n) → keys_at l v n ≡ keys_at l w n
  -- worlds that agree on what a prim reads have the same index of it: choices, sites and faults of arcs
  pub same_index : (l : Limits) (w v : World) (e : Element) (p : Path) → list_all is_prim_name (e ∷ p) ≡ true → Agree w v (reads l w (e ∷ p)) → index l v (e ∷ p) ≡ index l w (e ∷ p)
  -- and, at every path, the same view
  pub same_view : (l : Limits) (w v : World) (p : Path) → Agree w v (reads l w p) → view l v p ≡ view l w p
  -- which reads the same in both
  pub same_reads : (l : Limits) (w v : World) (p : Path) → Agree w v (reads l w p) → reads l v p ≡ reads l w p
