-- The choices of composition are those of the rounds of `variant_select`.
use Rattle.std.specs.Prelude.{◌≡◌, ℕ, suc, Bool, List, ◌∷◌, take, Some}
use Rattle.sdf_paths.specs.declared.element.Element.{Element}
use Rattle.variant_select.specs.Rounds.{after_round, after_rounds, choices, round_limit, decided as decided_of}
use Rattle.composition.specs.Paths.{Path, Limits, limits}
use Rattle.composition.specs.World.{World}
use Rattle.composition.specs.Nodes.{Node, Frame, Choices, bare, nth_frame}
use Rattle.composition.specs.Trees.{Tree}
use Rattle.composition.specs.Compose.{decided, round, rounds, frames_along}
use Rattle.composition.specs.Faults.{Index, index}
use Rattle.choice_rounds.specs.Met.{met_of, told_of, met_in, told_in, met_on_stage}

-- whatever the limits are, and whatever tree each node has
pub record ChoosesByRounds : Type 0 where
  -- a round decides the sets that are met in its tree and have no choice yet, each by the first opinion on it; nothing where the tree is
  -- overgrown
  pub decides : (l : Limits) (t : Tree) (cs : Choices) → decided l t cs ≡ decided_of cs (met_of l t)
  -- the choices after one round at a prim
  pub one_round : (l : Limits) (tree : Node → Tree) (n : Node) (above : List Frame) (f : Frame)
      → (round l tree n above f).choices ≡ after_round (met_in l tree n above f) f.choices
  -- and after so many; composition makes no further round after one that decides nothing, which changes no choice
  pub many_rounds : (l : Limits) (tree : Node → Tree) (k : ℕ) (n : Node) (above : List Frame) (f : Frame)
      → (rounds l tree k n above f).choices ≡ after_rounds (met_in l tree n above f) k f.choices
  -- by the program's limits there are as many rounds as `variant_select` makes
  pub sixteen : limits.rounds ≡ round_limit
  -- all choices at a prim are those of sixteen rounds from none, whether or not its payloads are loaded
  pub all_choices : (l : Limits) → l.rounds ≡ round_limit → (tree : Node → Tree) (n : Node) (above : List Frame) (loaded : Bool)
      → (rounds l tree l.rounds n above (record bare { loaded = loaded })).choices ≡ choices (met_in l tree n above (record bare { loaded = loaded }))
  -- so are those of each prim on the way to a node: the prim of the first k + 1 names of its path, given the frames of the prims above
  pub on_the_way : (l : Limits) → l.rounds ≡ round_limit → (tree : Node → Tree) (loaded : Path → Bool) (n : Node) (k : ℕ)
      → (nth_frame (frames_along l tree loaded n (suc k)) 0).choices
      ≡ choices (met_in l tree (record n { path = take (suc k) n.path }) (frames_along l tree loaded n k) (record bare { loaded = loaded (take (suc k) n.path) }))
  -- and so are the choices in the index at each path below `/`, plain prim paths among them, wherever it has one
  pub on_the_stage : (l : Limits) → l.rounds ≡ round_limit → (w : World) (e : Element) (p : Path) (i : Index) → index l w (e ∷ p) ≡ Some i
      → i.choices ≡ choices (met_on_stage l w (e ∷ p))
  -- nothing hangs on telling each set once with its first opinion: a round decides the same where the sets are told node by node, with
  -- repeats, and the opinions site by site
  pub site_by_site : (l : Limits) (t : Tree) (cs : Choices) → decided l t cs ≡ decided_of cs (told_of l t)
  -- and all choices are the same
  pub choices_by_sites : (l : Limits) (tree : Node → Tree) (n : Node) (above : List Frame) (f : Frame) → choices (met_in l tree n above f) ≡ choices (told_in l tree n above f)
