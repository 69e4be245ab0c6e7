-- Nodes, and when an arc of a node is followed.
-- docs/COMPOSITION.md, 'Nodes, and which arcs are followed'.
pub use Rattle.path_maps.specs.Maps.{ArcPaths as ArcMap}
pub use Rattle.prim_nodes.specs.declared.node.Frame.{Frame}
pub use Rattle.prim_nodes.specs.declared.node.Node.{Node}
pub use Rattle.prim_nodes.specs.declared.here.Tried.{Tried}
pub use Rattle.prim_nodes.specs.declared.here.Chosen.{Chosen}
pub use Rattle.prim_nodes.specs.declared.here.Here.{Here}
use Rattle.std.specs.Prelude.{ℕ, zero, suc, ◌==◌, Bool, true, false, not, List, [], ◌∷◌, ◌++◌, map, flat_map, Option, Some, None, filter_map}
use Rattle.std.specs.List.{list_any}
use Rattle.path_maps.specs.declared.kind.ArcKind.{ArcKind}
use Rattle.path_maps.specs.declared.kind.ArcKind.TheVariants.{Inherits, Reference, Payload, Specializes}
use Rattle.composition.specs.Texts.{Text, same_text, find_at, both}
use Rattle.sdf_paths.specs.Paths.{plain}
use Rattle.sdf_paths.specs.declared.element.Element.TheVariants.{Selection}
use Rattle.sdf_values.specs.Scales.{Offset, composed}
use Rattle.composition.specs.Names.{is_name, is_variant_name}
use Rattle.composition.specs.Paths.{Path, Limits, fits, up, tail, levels_of, is_prefix}
use Rattle.composition.specs.World.{World, in_range, StackName, same_stack}
use Rattle.composition.specs.Arcs.{Authored, Outcome, leads, gives_no_arc, Lead, Reason, arc_cycle, too_deep, offset_range, path_too_long, Opinion, opinions_at, arcs_of, variant_sets_of, selections_of, is_empty}
use Rattle.composition.specs.Stacks.{SublayerFault, LayerStack, stack}

-- variant choices, each a set and its variant, in the order in which they were decided
abbrev pub Choices : Type 0
Choices = List (Text × Text)

-- a frame without choices, where payloads are followed
abbrev pub bare : Frame
bare = record { choices = []; loaded = true; overgrown = false }

-- a node without frames and arcs towards the stage
abbrev pub bare_node : StackName → Path → List (StackName × Path) → ℕ → Offset → Node
bare_node s p chain d o = record { stack = s; path = p; frames = []; chain = chain; depth = d; offset = o; maps = [] }

-- of frames from level 0 on the one of a level; past the last a bare one
abbrev pub nth_frame : List Frame → ℕ → Frame
nth_frame [] j = bare
nth_frame (f ∷ fs) zero = f
nth_frame (f ∷ fs) (suc j) = nth_frame fs j

-- a node's frame of a level: the variant choices there, and whether payloads are followed
abbrev pub frame_at : Node → ℕ → Frame
frame_at n j = nth_frame n.frames j

-- the author of the arcs of a level
abbrev pub author : Node → ℕ → Path
author n j = up n.path j

-- the path of the child to which an arc of a level leads
abbrev pub child_path : Node → ℕ → Path → Path
child_path n j target = target ++ tail n.path j

-- the authors on the way to a child
abbrev pub child_chain : Node → ℕ → List (StackName × Path)
child_chain n j = n.chain ++ (n.stack, plain (author n j)) ∷ []

-- the paths are equal, or one stands above the other
abbrev pub is_related : Path → Path → Bool
is_related p q = elim (is_prefix p q) [ true ↦ true | false ↦ is_prefix q p ]

-- the target is equal to, above or below an author of the same stack on the chain with this arc's own author on it
abbrev pub is_cyclic : Node → ℕ → Lead → Bool
is_cyclic n j a = list_any (λ x. both (same_stack x.0 a.stack) (is_related a.target x.1)) (child_chain n j)

-- the first reason whose test holds
abbrev pub first_reason : List (Bool × Reason) → Option Reason
first_reason [] = None
first_reason (r ∷ rs) = elim r.0 [ true ↦ Some r.1 | false ↦ first_reason rs ]

module _ (l : Limits) where
  -- why an arc of a level is not followed
  abbrev pub refusal : Node → ℕ → Lead → Option Reason
  refusal n j a = first_reason (
      (is_cyclic n j a, arc_cycle)
      ∷ (n.depth == 0, too_deep)
      ∷ (not (in_range (composed a.offset n.offset)), offset_range)
      ∷ (not (fits l (child_path n j a.target)), path_too_long) ∷ [])

  -- why an item of a level gives no arc, or why its arc is not followed
  abbrev pub fault_of : Node → ℕ → Outcome → Option Reason
  fault_of n j (leads a) = refusal n j a
  fault_of n j (gives_no_arc r) = Some r

-- a site of which no layer says anything
abbrev pub nothing_said : Here
nothing_said = record { arcs = []; variants = []; sets = []; selections = []; has_spec = false }

module _ (l : Limits) (w : World) where
  -- the sublayer faults of the stack to which an item leads
  abbrev pub sublayers_of : Outcome → List SublayerFault
  sublayers_of (leads a) = (stack l w a.stack).faults
  sublayers_of (gives_no_arc r) = []

  -- payload items are looked at only where the level is loaded
  abbrev pub is_looked_at : ArcKind → Frame → Bool
  is_looked_at Payload f = f.loaded
  is_looked_at _ f = true

  -- an item of a level, with the reason against its arc, if there is one, and the sublayer faults of its stack
  abbrev pub tried_item : ArcKind → Node → ℕ → Authored → Tried
  tried_item k n j a = record { kind = k; level = j; authored = a; fault = fault_of l n j a.outcome; sublayers = sublayers_of a.outcome }

  -- the items of one kind at a level of which the opinions are given
  abbrev pub tried_at : Node → ArcKind → ℕ × List Opinion → List Tried
  tried_at n k said =
      elim (is_looked_at k (frame_at n said.0)) [
        | true ↦ map (tried_item k n said.0) (arcs_of l w n.stack said.1 k)
        | false ↦ []
      ]

  -- the variant arc of a level to what is chosen in a set, whether or not a layer has that variant; left out without a fault where it has
  -- no such path
  abbrev pub variant_target : Node → ℕ → Text → Option Text → Option Chosen
  variant_target n j set None = None
  variant_target n j set (Some v) =
      let target = author n j ++ Selection set v ∷ [] in
      elim (both (is_name set) (both (is_variant_name v) (fits l (child_path n j target)))) [
        | true ↦ Some (record { level = j; target = target })
        | false ↦ None
      ]

  -- the variant arcs of a level, in the order of its folded variant sets
  abbrev pub chosen_at : Node → ℕ × List Opinion → List Chosen
  chosen_at n said = filter_map (λ set. variant_target n said.0 set (find_at same_text set (frame_at n said.0).choices)) (variant_sets_of said.1)

  -- what the layers of a node's stack say at each level, the lowest first
  abbrev pub said_at_levels : LayerStack → Node → List (ℕ × List Opinion)
  said_at_levels s n = map (λ j. (j, opinions_at l w s (author n j))) (levels_of n.path)

  -- what the layers of a node's stack say: arcs and variants of every level, sets, selections and a spec at its own path
  abbrev pub here : Node → Here
  here n =
      let s = stack l w n.stack in
      let levels = said_at_levels s n in
      let own = opinions_at l w s n.path in
      record {
        arcs = flat_map (λ k. flat_map (tried_at n k) levels) (Inherits ∷ Reference ∷ Payload ∷ Specializes ∷ []);
        variants = flat_map (chosen_at n) levels;
        sets = variant_sets_of own;
        selections = selections_of own;
        has_spec = not (is_empty own);
      }
