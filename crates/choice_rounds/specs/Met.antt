-- What is met in the tree of a round, as the rounds of `variant_select` want it told.
-- docs/COMPOSITION.md, 'Variant choices'.
use Rattle.std.specs.Prelude.{true, false, List, [], ◌∷◌, ◌++◌, map, flat_map, length, Option, None}
use Rattle.variant_select.specs.declared.met.Met.{Met}
use Rattle.composition.specs.Texts.{Text, same_text, find_at, first_of}
use Rattle.composition.specs.Paths.{Path, Limits}
use Rattle.composition.specs.World.{World, Root, identity, is_loaded}
use Rattle.composition.specs.Nodes.{Node, Frame, Choices, bare, bare_node, here}
use Rattle.composition.specs.Trees.{Tree, here_of, is_overgrown}
use Rattle.composition.specs.Strength.{listing, sites}
use Rattle.composition.specs.Compose.{sets_met, tree_in_round, frames_along, tree_of}

-- the variant of a set that a site selects, if it selects one
abbrev pub selected_at : Tree → Text → Option Text
selected_at s set = find_at same_text set (here_of s).selections

-- the variant of a set that the strongest of these sites selects that selects one
abbrev pub opinion_at : List Tree → Text → Option Text
opinion_at places set = first_of (λ s. selected_at s set) places

-- a set that is met, with an opinion on it
abbrev pub met_with : (Text → Option Text) → Text → Met
met_with opinion set = record { set = set; opinion = opinion set }

-- sets that are met without an opinion, and then what each of these places selects of them
abbrev pub met_at_each : List Text → List Tree → List Met
met_at_each sets places = map (met_with (λ set. None)) sets ++ flat_map (λ s. map (met_with (selected_at s)) sets) places

module _ (l : Limits) where
  -- what is met in a tree: nothing where it is overgrown; else each set of its nodes once, with the first opinion on it in the order of
  -- the sites
  abbrev pub met_of : Tree → List Met
  met_of t = elim (is_overgrown t) [ true ↦ [] | false ↦ map (met_with (opinion_at (sites l t))) (sets_met l t) ]

  -- the same told node by node and site by site: each set of each node as often as nodes have it, and then what each site selects of them
  abbrev pub told_of : Tree → List Met
  told_of t = elim (is_overgrown t) [ true ↦ [] | false ↦ met_at_each (flat_map (λ s. (here_of s).sets) (listing l t)) (sites l t) ]

  -- what is met at a prim, given the frames above it, with these choices: what is met in its tree of that round
  abbrev pub met_in : (Node → Tree) → Node → List Frame → Frame → Choices → List Met
  met_in tree n above f cs = met_of (tree_in_round l tree n above (record f { choices = cs }))

  -- and so told site by site
  abbrev pub told_in : (Node → Tree) → Node → List Frame → Frame → Choices → List Met
  told_in tree n above f cs = told_of (tree_in_round l tree n above (record f { choices = cs }))

module _ (l : Limits) (w : World) where
  -- the frames of the stage's node at the paths above a plain prim path, that of its parent first
  abbrev pub frames_above : Path → List Frame
  frames_above [] = []
  frames_above (e ∷ p) = frames_along l (tree_of l (here l w)) (is_loaded w) (bare_node Root (e ∷ p) [] l.depth identity) (length p)

  -- what is met at a plain prim path with these choices
  abbrev pub met_on_stage : Path → Choices → List Met
  met_on_stage p = met_in l (tree_of l (here l w)) (bare_node Root p [] l.depth identity) (frames_above p) (record bare { loaded = is_loaded w p })
