-- What is read at a node one level down is what was read at the node, and what is read at the new level.
use Rattle.std.specs.Prelude.{◌≡◌, Bool, true, List, ◌++◌, map, flat_map, filter}
use Rattle.std.specs.List.{AllByRecursion}
use Rattle.composition.specs.Texts.{Text}
use Rattle.composition.specs.Paths.{Limits}
use Rattle.composition.specs.World.{World}
use Rattle.composition.specs.Stacks.{stack}
use Rattle.composition.specs.Nodes.{Node, Frame}
use Rattle.composition.specs.Faults.{wants_prim}
use Rattle.composition.specs.Keys.{Key, arcs, head, asked_by_source, keys_at}
use Rattle.laws_extending.specs.Extending.{lowered, here_at_0}

-- what is read at the node's own path: the arcs there in each layer of its stack, and the heads that its references and payloads there ask
abbrev pub keys_at_0 : Limits → World → Node → List Key
keys_at_0 l w n =
    map (λ e. arcs e.0 n.path) (stack l w n.stack).layers
    ++ map head (flat_map (λ a. asked_by_source l w a.authored.item.source) (filter (λ a. wants_prim a.kind) (here_at_0 l w n).arcs))

-- as sets of keys, by what any test says of them
pub record KeysExtend : Type 0 where
  pub enough : (test : Key → Bool) (l : Limits) (w : World) (f : Frame) (name : Text) (n : Node) →
      AllByRecursion (λ k. test k ≡ true) (keys_at l w n) → AllByRecursion (λ k. test k ≡ true) (keys_at_0 l w (lowered f name n)) →
      AllByRecursion (λ k. test k ≡ true) (keys_at l w (lowered f name n))
  pub no_more_old : (test : Key → Bool) (l : Limits) (w : World) (f : Frame) (name : Text) (n : Node) →
      AllByRecursion (λ k. test k ≡ true) (keys_at l w (lowered f name n)) → AllByRecursion (λ k. test k ≡ true) (keys_at l w n)
  pub no_more_new : (test : Key → Bool) (l : Limits) (w : World) (f : Frame) (name : Text) (n : Node) →
      AllByRecursion (λ k. test k ≡ true) (keys_at l w (lowered f name n)) → AllByRecursion (λ k. test k ≡ true) (keys_at_0 l w (lowered f name n))
