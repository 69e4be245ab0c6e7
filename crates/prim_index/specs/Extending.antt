-- A tree one level down, and the tree of a child by that of its parent: the definitions of extending under names of their own, and part by part.
-- docs/COMPOSITION.md, 'Nodes, and which arcs are followed'.
use Rattle.std.specs.Prelude.{ℕ, Bool, true, false, not, List, [], ◌∷◌, ◌++◌, map, filter, Option, Some, None}
use Rattle.std.specs.List.{filter_map}
use Rattle.path_maps.specs.declared.kind.ArcKind.{ArcKind}
use Rattle.path_maps.specs.declared.kind.ArcKind.TheVariants.{Inherits, Reference, Payload, Specializes}
use Rattle.composition.specs.Texts.{Text}
use Rattle.composition.specs.Paths.{limits}
use Rattle.composition.specs.World.{World}
use Rattle.composition.specs.Arcs.{same_kind, Opinion, selections_of, is_empty}
use Rattle.composition.specs.Nodes.{Node, Frame, Here, Tried, Chosen, here}
use Rattle.composition.specs.Trees.{Tree, node, Trees, Branch, grown}
use Rattle.prim_trees.specs.declared.tree.Child.{Child}
use Rattle.prim_trees.specs.Meant.{trees_of}
use Rattle.arc_expand.specs.Authoring.{sets_in}
use Rattle.laws_extending.specs.Extending.{here_at_0, tried_below, chosen_below, same_arc, Known, known_or, extended, known, fresh_tree, child_rounds, child_of}
use Rattle.prim_index.specs.Reading.{tried_level, chosen_level}

-- ---- what is said one level down

-- what the layers say at a node's own path alone
unfoldable pub said_at_0 : World → Node → Here
said_at_0 w n = here_at_0 limits w n

-- the items of a kind of the node above, at a node
abbrev pub known_items : Node → List Tried → ArcKind → List Tried
known_items n old k = map (tried_below limits n) (filter (λ a. same_kind k a.kind) old)

-- the items of a kind: those of these opinions at the new level, and then those of the node above
unfoldable pub kind_below : World → Node → List Opinion → List Tried → ArcKind → List Tried
kind_below w n os old k = tried_level w n k (0, os) ++ known_items n old k

-- the items of all kinds
abbrev pub arcs_below : World → Node → List Opinion → List Tried → List Tried
arcs_below w n os old =
    kind_below w n os old Inherits ++ (kind_below w n os old Reference ++ (kind_below w n os old Payload ++ kind_below w n os old Specializes))

-- the variants: those of the new level, and then those of the node above
abbrev pub variants_below : Node → List Opinion → List Chosen → List Chosen
variants_below n os old = chosen_level n (0, os) ++ filter_map (chosen_below limits n) old

-- all of it, where these opinions stand at the new level
abbrev pub parts_below : World → Node → List Opinion → Here → Here
parts_below w n os old = record {
  arcs = arcs_below w n os old.arcs;
  variants = variants_below n os old.variants;
  sets = sets_in os;
  selections = selections_of os;
  has_spec = not (is_empty os);
}

-- ---- the tree one level down

-- the tree of an arc of a node, grown from nothing
unfoldable pub fresh : World → Node → Branch → ℕ → Tree
fresh w n b room = fresh_tree limits (here limits w) n b room

-- a tree one level down by the frame and the name of that level, of so many nodes at most
unfoldable pub extended_by : World → Frame → Text → Tree → ℕ → Tree
extended_by w f name t room = extended limits (here_at_0 limits w) (fresh_tree limits (here limits w)) f name t room

-- what stands below some children, one level down
unfoldable pub known_of : World → Frame → Text → List Child → Known
known_of w f name cs = known limits (here_at_0 limits w) (fresh_tree limits (here limits w)) f name (trees_of cs false)

-- what stands below the children of a node, its own and its lifted ones, one level down
abbrev pub known_at : World → Frame → Text → Tree → Known
known_at w f name (node n h own lifted) =
    known limits (here_at_0 limits w) (fresh_tree limits (here limits w)) f name own
    ++ known limits (here_at_0 limits w) (fresh_tree limits (here limits w)) f name lifted

-- the tree of an arc of a node, by the tree of the node one level up
unfoldable pub arc_tree : World → Frame → Text → Tree → Node → Branch → ℕ → Tree
arc_tree w f name t n b room = known_or (fresh_tree limits (here limits w) n) (known_at w f name t) b room

-- the trees of some arcs, as far as there is room
unfoldable pub grown_from : (Branch → ℕ → Tree) → ℕ → List Branch → Trees
grown_from tree room bs = grown tree room bs

-- the tree of the first known arc that this is
abbrev pub found_in : Known → Branch → ℕ → Option Tree
found_in [] b room = None
found_in (e ∷ es) b room = elim (same_arc e.0 b) [ true ↦ Some (e.1 room) | false ↦ found_in es b room ]

-- ---- a child on the stage

-- a frame as it counts in its own round
abbrev pub unmarked : Frame → Frame
unmarked f = record f { overgrown = false }

-- the frame of a child after so many rounds of choices, by its parent's tree
unfoldable pub rounds_by : World → Text → Tree → ℕ → Frame → Frame
rounds_by w name parent k f = child_rounds limits (here_at_0 limits w) (fresh_tree limits (here limits w)) name parent k f

-- the tree of a child that is loaded or not, by its parent's tree
unfoldable pub child_by : World → Text → Tree → Bool → Tree
child_by w name parent loaded = child_of limits (here_at_0 limits w) (fresh_tree limits (here limits w)) name parent loaded
