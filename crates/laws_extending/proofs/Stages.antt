-- A child's tree on the stage extends its parent's.
use Rattle.std.proofs.Common.{◌≡◌, refl, sym, ap, ◌∙◌, ℕ, zero, suc, ◌-◌, ◌≤◌, ◌||◌, Bool, true, false, List, [], ◌∷◌, ◌++◌, length, take, arith}
use Rattle.std.proofs.lemmas.List.{take-append-le, length-append}
use Rattle.std.proofs.Math.Seq.{take-length}
use Rattle.sdf_paths.specs.declared.element.Element.{Element}
use Rattle.sdf_paths.specs.declared.element.Element.TheVariants.{Prim}
use Rattle.composition.specs.Texts.{Text}
use Rattle.composition.specs.Paths.{Path, Limits}
use Rattle.composition.specs.World.{World, is_loaded, identity, Root}
use Rattle.composition.specs.Nodes.{Node, Frame, Here, here, bare, bare_node}
use Rattle.composition.specs.Trees.{Tree, tree_with}
use Rattle.composition.specs.Compose.{decided, decides_nothing, is_overgrown_on_the_way, round, rounds, frames_along, frames_of, tree_of, stage_node, stage_tree}
use Rattle.composition.specs.Faults.{index_of}
use Rattle.agreeing_worlds.proofs.Heres.{good_here}
use Rattle.laws_extending.specs.Extending.{lowered, here_at_0, extended, below_depth, fresh_tree, child_tree_by, child_round, child_rounds, child_of}
use Rattle.laws_extending.specs.Laws.{TreesExtend}
use Rattle.laws_extending.proofs.Heres.{said_below}
use Rattle.laws_extending.proofs.Trees.{extends_at, tree_below}

one_longer : (p : Path) (e : Element) → length (p ++ e ∷ []) ≡ suc (length p)
one_longer p e = let sum = length-append p (e ∷ []) in omega (arith, sum)

module _ (l : Limits) (w : World) (room : 1 ≤ l.nodes) where
  abbrev says : Node → Here
  says = here l w

  abbrev told : Node → Here
  told = here_at_0 l w

  extends_one : (f : Frame) (name : Text) (n : Node) (r r' : ℕ) → suc r ≤ l.nodes → suc r' ≤ l.nodes
      → extended l told (fresh_tree l says) f name (tree_with l says (below_depth l says n.depth) l.nodes (suc r) n) (suc r')
      ≡ tree_with l says (below_depth l says n.depth) l.nodes (suc r') (lowered f name n)
  extends_one f name n r r' h h' = extends_at l says (good_here l w) told f name (said_below l w f name) n.depth l.nodes n refl r h h l.nodes r' h' h'

  extends_full : (f : Frame) (name : Text) (n : Node) (k : ℕ) → l.nodes ≡ suc k
      → extended l told (fresh_tree l says) f name (tree_with l says (below_depth l says n.depth) l.nodes l.nodes n) l.nodes
      ≡ tree_with l says (below_depth l says n.depth) l.nodes l.nodes (lowered f name n)
  extends_full f name n k is =
      ap (λ (r : ℕ). extended l told (fresh_tree l says) f name (tree_with l says (below_depth l says n.depth) l.nodes r n) r) is
      ∙ extends_one f name n k k (omega (arith, is)) (omega (arith, is))
      ∙ ap (λ (r : ℕ). tree_with l says (below_depth l says n.depth) l.nodes r (lowered f name n)) (sym is)

  -- at the depth of the stage's nodes
  extends_tree : (f : Frame) (name : Text) (n : Node) → n.depth ≡ l.depth → extended l told (fresh_tree l says) f name (tree_of l says n) l.nodes ≡ tree_of l says (lowered f name n)
  extends_tree f name n at =
      let some : suc (l.nodes - 1) ≡ l.nodes = omega (arith, room) in
      ap (λ (t : Tree). extended l told (fresh_tree l says) f name t l.nodes) (tree_below l says l.depth l.nodes n)
      ∙ ap (λ (d : ℕ). extended l told (fresh_tree l says) f name (tree_with l says (below_depth l says d) l.nodes l.nodes n) l.nodes) (sym at)
      ∙ extends_full f name n (l.nodes - 1) (sym some)
      ∙ ap (λ (d : ℕ). tree_with l says (below_depth l says d) l.nodes l.nodes (lowered f name n)) at
      ∙ sym (tree_below l says l.depth l.nodes (lowered f name n))

  module _ (loaded : Path → Bool) (p : Path) (name : Text) where
    abbrev q : Path
    q = p ++ Prim name ∷ []

    abbrev at_p : Node
    at_p = bare_node Root p [] l.depth identity

    abbrev at_q : Node
    at_q = bare_node Root q [] l.depth identity

    abbrev parent : Node
    parent = stage_node l says loaded p

    abbrev above : List Frame
    above = frames_of l (tree_of l says) loaded at_p

    same_above : (k : ℕ) → k ≤ length p → frames_along l (tree_of l says) loaded at_q k ≡ frames_along l (tree_of l says) loaded at_p k
    same_above zero h = refl
    same_above (suc k) h =
        let path : take (suc k) q ≡ take (suc k) p = take-append-le (suc k) p (Prim name ∷ []) h in
        let rest : frames_along l (tree_of l says) loaded at_q k ≡ frames_along l (tree_of l says) loaded at_p k = same_above k (omega (arith, h)) in
        λ i. rounds l (tree_of l says) l.rounds (record at_p { path = path i }) (rest i) (record bare { loaded = loaded (path i) }) ∷ rest i

    abbrev tree_by : Frame → Tree
    tree_by = child_tree_by l told (fresh_tree l says) name (stage_tree l says loaded p)

    same_tree : (f : Frame) → tree_of l says (record at_q { frames = f ∷ above }) ≡ tree_by f
    same_tree f = sym (extends_tree f name parent refl)

    same_round : (f : Frame) → round l (tree_of l says) at_q above f ≡ child_round l told (fresh_tree l says) name (stage_tree l says loaded p) f
    same_round f = ap (λ (t : Tree). record f { choices = f.choices ++ decided l t f.choices; overgrown = f.overgrown || is_overgrown_on_the_way t }) (same_tree (record f { overgrown = false }))

    same_rounds : (k : ℕ) (f : Frame) → rounds l (tree_of l says) k at_q above f ≡ child_rounds l told (fresh_tree l says) name (stage_tree l says loaded p) k f
    same_rounds zero f = refl
    same_rounds (suc k) f =
        ap (λ (g : Frame). elim (decides_nothing f g) as (λ _. Frame) [ true ↦ g | false ↦ rounds l (tree_of l says) k at_q above g ]) (same_round f)
        ∙ by (decides_nothing f next) (same_rounds k next)
      where
        next : Frame
        next = child_round l told (fresh_tree l says) name (stage_tree l says loaded p) f

        by : (b : Bool) → rounds l (tree_of l says) k at_q above next ≡ child_rounds l told (fresh_tree l says) name (stage_tree l says loaded p) k next
            → (elim b as (λ _. Frame) [ true ↦ next | false ↦ rounds l (tree_of l says) k at_q above next ])
            ≡ elim b as (λ _. Frame) [ true ↦ next | false ↦ child_rounds l told (fresh_tree l says) name (stage_tree l says loaded p) k next ]
        by true h = refl
        by false h = h

    same_frames : frames_of l (tree_of l says) loaded at_q
        ≡ child_rounds l told (fresh_tree l says) name (stage_tree l says loaded p) l.rounds (record bare { loaded = loaded q }) ∷ above
    same_frames =
        let path : take (suc (length p)) q ≡ q = ap (λ (k : ℕ). take k q) (sym (one_longer p (Prim name))) ∙ take-length q in
        let rest : frames_along l (tree_of l says) loaded at_q (length p) ≡ above = same_above (length p) (omega arith) in
        ap (λ (k : ℕ). frames_along l (tree_of l says) loaded at_q k) (one_longer p (Prim name))
        ∙ (λ i. rounds l (tree_of l says) l.rounds (record at_q { path = path i }) (rest i) (record bare { loaded = loaded (path i) }) ∷ rest i)
        ∙ ap (λ (f : Frame). f ∷ above) (same_rounds l.rounds (record bare { loaded = loaded q }))

    pub on_stage : stage_tree l says loaded q ≡ child_of l told (fresh_tree l says) name (stage_tree l says loaded p) (loaded q)
    on_stage =
        ap (λ (fs : List Frame). tree_of l says (record at_q { frames = fs })) same_frames
        ∙ same_tree (child_rounds l told (fresh_tree l says) name (stage_tree l says loaded p) l.rounds (record bare { loaded = loaded q }))

pub trees_extend : TreesExtend
trees_extend = record {
  said_below = said_below;
  one_level = λ l w f name n r more h h'. extends_one l w (omega (arith, h)) f name n r more h h';
  on_the_stage = λ l w p name h. on_stage l w h (is_loaded w) p name;
  same_index = λ l w p name h. ap (index_of l) (on_stage l w h (is_loaded w) p name);
}
