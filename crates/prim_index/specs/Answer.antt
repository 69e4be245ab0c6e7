-- What the index of a prim answers.
use Rattle.std.specs.Prelude.{◌≡◌, Bool, true, false, List, [], ◌∷◌, Option, Some, None}
use Rattle.composition.specs.Paths.{Path, Limits}
use Rattle.composition.specs.World.{World, is_loaded}
use Rattle.composition.specs.Nodes.{Node, Choices}
use Rattle.composition.specs.Trees.{Tree}
use Rattle.composition.specs.Opinions.{Site}
use Rattle.composition.specs.Faults.{Index, index, index_of, Fault, overgrown}
use Rattle.composition.specs.Compose.{stage_node, stage_tree}
use Rattle.prim_index.specs.Reading.{said}

-- the index at a plain prim path, or at `/`; none where a listing was overgrown
unfoldable pub index_at : Limits → World → Path → Option Index
index_at l w p = index l w p

-- the index of the prim whose tree this is
unfoldable pub indexed_of : Limits → Tree → Option Index
indexed_of l t = index_of l t

-- the stage's node at such a path
unfoldable pub stage_node_at : Limits → World → Path → Node
stage_node_at l w p = stage_node l (said l w) (is_loaded w) p

-- the tree of a plain prim path, or of `/`
unfoldable pub stage_tree_at : Limits → World → Path → Tree
stage_tree_at l w p = stage_tree l (said l w) (is_loaded w) p

-- the index at any other path
abbrev pub nothing_there : Index
nothing_there = record { choices = []; sites = []; faults = [] }

-- an overgrown prim has no sites
abbrev pub sites_in : Option Index → List Site
sites_in (Some i) = i.sites
sites_in None = []

-- an overgrown prim has no choices
abbrev pub choices_in : Option Index → Choices
choices_in (Some i) = i.choices
choices_in None = []

-- an overgrown prim has this one fault
abbrev pub faults_in : Option Index → List Fault
faults_in (Some i) = i.faults
faults_in None = overgrown ∷ []

-- the prim is overgrown
abbrev pub is_none : Option Index → Bool
is_none (Some i) = false
is_none None = true

-- what an answer stands for
abbrev pub viewed : Bool → Choices → List Site → List Fault → Option Index
viewed true choices sites faults = None
viewed false choices sites faults = Some (record { choices = choices; sites = sites; faults = faults })

-- an overgrown prim has neither choices nor sites, and that one fault
abbrev pub IsAnswer : Bool → Choices → List Site → List Fault → Type 0
IsAnswer true choices sites faults = (choices ≡ []) × (sites ≡ []) × (faults ≡ overgrown ∷ [])
IsAnswer false choices sites faults = Unit {0}
