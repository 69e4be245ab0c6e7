-- What the layers say at a node: the definitions of composition under names of their own, and part by part.
use Rattle.std.specs.Prelude.{ℕ, Bool, true, false, not, List, [], ◌∷◌, ◌++◌, map, flat_map, Option, Some, None}
use Rattle.std.specs.List.{filter_map}
use Rattle.path_maps.specs.declared.kind.ArcKind.{ArcKind}
use Rattle.path_maps.specs.declared.kind.ArcKind.TheVariants.{Inherits, Reference, Payload, Specializes}
use Rattle.sdf_paths.specs.declared.element.Element.TheVariants.{Selection}
use Rattle.prim_view.specs.declared.fault.PrimFault.{PrimFault}
use Rattle.prim_view.specs.declared.fault.PrimFault.TheVariants.{Sublayer}
use Rattle.composition.specs.Texts.{Text, same_text, find_at, both}
use Rattle.composition.specs.Paths.{Path, Limits, limits, fits, up, levels_of}
use Rattle.composition.specs.Names.{is_name, is_variant_name}
use Rattle.composition.specs.World.{World, StackName}
use Rattle.composition.specs.Stacks.{SublayerFault}
use Rattle.composition.specs.Arcs.{Authored, Outcome, Opinion, selections_of, is_empty}
use Rattle.composition.specs.Nodes.{Node, Here, Tried, Chosen, Choices, here, tried_item, Frame, frame_at, author, child_path, sublayers_of}
use Rattle.arc_expand.specs.Authoring.{authored_in, sets_in, opinions}

-- what the layers say at a node
unfoldable pub said : Limits → World → Node → Here
said l w n = here l w n

-- what the layers of a stack say at the levels of a path, each with its number
unfoldable pub said_levels : World → StackName → Path → List (ℕ × List Opinion)
said_levels w s p = map (λ j. (j, opinions w s (up p j))) (levels_of p)

-- ---- items of arcs

-- the faults of the sublayers of the stack to which an arc leads
unfoldable pub sublayers_said : World → Outcome → List SublayerFault
sublayers_said w o = sublayers_of limits w o

-- the fault of a sublayer
abbrev pub sublayer_fault : PrimFault → Option SublayerFault
sublayer_fault (Sublayer f) = Some f
sublayer_fault _ = None

-- the faults of sublayers among others
abbrev pub sublayer_faults : List PrimFault → List SublayerFault
sublayer_faults faults = filter_map sublayer_fault faults

-- what becomes of an item
unfoldable pub tried_of : World → Node → ArcKind → ℕ → Authored → Tried
tried_of w n k j a = tried_item limits w k n j a

-- payload items are looked at only where the level is loaded
abbrev pub looked_at : ArcKind → Frame → Bool
looked_at Payload f = f.loaded
looked_at _ f = true

-- the items of a kind at a level of a node, of which the opinions are given
unfoldable pub tried_level : World → Node → ArcKind → ℕ × List Opinion → List Tried
tried_level w n k there =
    elim (looked_at k (frame_at n there.0)) [
      | true ↦ map (tried_of w n k there.0) (authored_in w n.stack there.1 k)
      | false ↦ []
    ]

-- the items of a kind, level by level
unfoldable pub tried_kind : World → Node → List (ℕ × List Opinion) → ArcKind → List Tried
tried_kind w n levels k = flat_map (tried_level w n k) levels

-- the items of all kinds
abbrev pub tried_all : World → Node → List (ℕ × List Opinion) → List Tried
tried_all w n levels =
    tried_kind w n levels Inherits ++ (tried_kind w n levels Reference ++ (tried_kind w n levels Payload ++ tried_kind w n levels Specializes))

-- ---- variants

-- a variant, where the path to which it leads is within the limits
abbrev pub chosen_if_fits : Node → ℕ → Path → Option Chosen
chosen_if_fits n j target = elim (fits limits (child_path n j target)) [ true ↦ Some (record { level = j; target = target }) | false ↦ None ]

-- the variant of a set, where there may be one of that name and its path is within the limits
unfoldable pub variant_at : Node → ℕ → Text → Text → Option Chosen
variant_at n j set v =
    let target = author n j ++ Selection set v ∷ [] in
    elim (both (is_name set) (both (is_variant_name v) (fits limits (child_path n j target)))) [
      | true ↦ Some (record { level = j; target = target })
      | false ↦ None
    ]

-- where the variant that is decided for a set leads, if one is decided and may be followed
abbrev pub chosen_for : Node → ℕ → Text → Option Text → Option Chosen
chosen_for n j set None = None
chosen_for n j set (Some v) = variant_at n j set v

-- the variants for sets, of which each is decided by this
unfoldable pub chosen_by : Node → ℕ → (Text → Option Text) → List Text → List Chosen
chosen_by n j decided sets = filter_map (λ set. chosen_for n j set (decided set)) sets

-- the variants that choices decide for sets
unfoldable pub chosen_of : Node → ℕ → Choices → List Text → List Chosen
chosen_of n j choices sets = filter_map (λ set. chosen_for n j set (find_at same_text set choices)) sets

-- the variants that a level of a node decides, of which the opinions are given
unfoldable pub chosen_level : Node → ℕ × List Opinion → List Chosen
chosen_level n there = chosen_of n there.0 (frame_at n there.0).choices (sets_in there.1)

-- the variants that the levels of a node decide, level 0 first
unfoldable pub chosen_all : Node → List (ℕ × List Opinion) → List Chosen
chosen_all n levels = flat_map (chosen_level n) levels

-- ---- all of it

-- what is said at a node where these opinions stand at its levels and at its own path
abbrev pub parts : World → Node → List (ℕ × List Opinion) → List Opinion → Here
parts w n levels own = record {
  arcs = tried_all w n levels;
  variants = chosen_all n levels;
  sets = sets_in own;
  selections = selections_of own;
  has_spec = not (is_empty own);
}
