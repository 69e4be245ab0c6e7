-- The index of a prim, from its tree.
use Rattle.std.proofs.Common.{◌≡◌, ◌∙◌, sym, ap, refl, ℕ, zero, suc, Bool, true, false, List, [], map, flat_map, Option, Some, None, length, Result, Ok, Err, IfOk}
use Rattle.list_ops.specs.ListEdits.{firsts}
use Rattle.composition.specs.Paths.{Path, Limits}
use Rattle.composition.specs.World.{World, identity, is_loaded, Root}
use Rattle.composition.specs.Nodes.{Node, Here, Choices, frame_at, bare_node}
use Rattle.composition.specs.Opinions.{Site}
use Rattle.composition.specs.Trees.{Tree, node_of}
use Rattle.composition.specs.Strength.{sites, listing}
use Rattle.composition.specs.Compose.{meaning, tree_of, frames_along, is_overgrown_on_the_way}
use Rattle.composition.specs.Faults.{Index, Fault, same_fault, site_of, node_faults}
use Rattle.prim_index.specs.Answer.{index_at, indexed_of, stage_node_at, stage_tree_at, sites_in, choices_in, faults_in, is_none, viewed, IsAnswer}
use Rattle.prim_index.specs.Depths.{deeper, tree_below, full_tree, frames_below}
use Rattle.prim_index.specs.Loading.{loads}
use Rattle.prim_index.specs.Once.{faults_once}
use Rattle.prim_index.specs.Reading.{said}
use Rattle.prim_index.specs.declared.grow.Payloads.TheVariants.{Ruled}

module _ (l : Limits) (h : Node → Here) where
  meant_tree : (d room : ℕ) (n : Node) → (meaning l h d).tree room n ≡ tree_below l h d l.nodes room n
  unfolding deeper meaning tree_below
  meant_tree zero room n = refl
  meant_tree (suc d) room n = refl

  full : tree_of l h ≡ full_tree l h l.depth
  unfolding full_tree
  full = λ i n. meant_tree l.depth l.nodes n i

pub ruled : (w : World) → loads w Ruled ≡ is_loaded w
unfolding loads
ruled w = λ i q. is_loaded w q

module _ (l : Limits) (w : World) (p : Path) where
  pub stage_is : stage_node_at l w p
      ≡ (let n = bare_node Root p [] l.depth identity in let r : Node = record n { frames = frames_below l (said l w) l.depth (is_loaded w) n (length p) } in r)
  unfolding stage_node_at frames_below
  stage_is = λ i.
      let n = bare_node Root p [] l.depth identity in
      let r : Node = record n { frames = frames_along l (full l (said l w) i) (is_loaded w) n (length p) } in
      r

  tree_is : tree_below l (said l w) l.depth l.nodes l.nodes (stage_node_at l w p) ≡ stage_tree_at l w p
  unfolding stage_tree_at stage_node_at said
  tree_is = sym (meant_tree l (said l w) l.depth l.nodes (stage_node_at l w p))

  -- the tree of the stage's node is that of the path
  pub tree_made : (depth nodes : ℕ) (n : Node) (t : Tree) → depth ≡ l.depth → nodes ≡ l.nodes → n ≡ stage_node_at l w p
      → t ≡ tree_below l (said l w) depth nodes nodes n → t ≡ stage_tree_at l w p
  tree_made depth nodes n t deep most stands made = made ∙ (λ i. tree_below l (said l w) (deep i) (most i) (most i) (stands i)) ∙ tree_is

  -- the index by the tree of a path is that of the path
  pub index_is : indexed_of l (stage_tree_at l w p) ≡ index_at l w p
  unfolding index_at indexed_of stage_tree_at said
  index_is = refl

module _ (l : Limits) (t : Tree) where
  abbrev by_growth : Bool → Option Index
  by_growth b = elim b as (λ _. Option Index) [
    | true ↦ None
    | false ↦ Some (record {
      choices = (frame_at (node_of t) 0).choices;
      sites = map site_of (sites l t);
      faults = firsts same_fault (flat_map node_faults (listing l t));
    })
  ]

  pub index_none : (r : Bool) → r ≡ is_overgrown_on_the_way t → r ≡ true → None ≡ indexed_of l t
  unfolding indexed_of
  index_none r is on = sym (ap by_growth (sym is ∙ on))

  pub index_some : (r : Bool) (choices : Choices) (found : List Site) (faults : List Fault) → r ≡ is_overgrown_on_the_way t → r ≡ false
      → choices ≡ (frame_at (node_of t) 0).choices → found ≡ map site_of (sites l t) → faults ≡ faults_once (flat_map node_faults (listing l t))
      → Some (let i : Index = record { choices = choices; sites = found; faults = faults } in i) ≡ indexed_of l t
  unfolding indexed_of faults_once
  index_some r choices found faults is off chosen sited faulted =
      (λ i. Some (let x : Index = record { choices = chosen i; sites = sited i; faults = faulted i } in x))
      ∙ sym (ap by_growth (sym is ∙ off))

-- ---- what an answer has

pub has_sites : (b : Bool) (choices : Choices) (found : List Site) (faults : List Fault) → IsAnswer b choices found faults → found ≡ sites_in (viewed b choices found faults)
has_sites true choices found faults h = h.1
has_sites false choices found faults h = refl

pub has_choices : (b : Bool) (choices : Choices) (found : List Site) (faults : List Fault) → IsAnswer b choices found faults → choices ≡ choices_in (viewed b choices found faults)
has_choices true choices found faults h = h.0
has_choices false choices found faults h = refl

pub has_faults : (b : Bool) (choices : Choices) (found : List Site) (faults : List Fault) → IsAnswer b choices found faults → faults ≡ faults_in (viewed b choices found faults)
has_faults true choices found faults h = h.2
has_faults false choices found faults h = refl

pub has_growth : (b : Bool) (choices : Choices) (found : List Site) (faults : List Fault) → b ≡ is_none (viewed b choices found faults)
has_growth true choices found faults = refl
has_growth false choices found faults = refl

pub none_result : {E : Type 0} → (l : Limits) (t : Tree) (r : Bool) (i : Result (Option Index) E) → r ≡ is_overgrown_on_the_way t → r ≡ true → IfOk i (λ x. x ≡ None) → IfOk i (λ x. x ≡ indexed_of l t)
none_result l t r (Ok x) is on made = made ∙ index_none l t r is on
none_result l t r (Err e) is on made = made

pub index_result : {E : Type 0} → (l : Limits) (w : World) (p : Path) (t : Tree) (r : Result (Option Index) E) → t ≡ stage_tree_at l w p
    → IfOk r (λ i. i ≡ indexed_of l t) → IfOk r (λ i. i ≡ index_at l w p)
index_result l w p t (Ok i) made told = told ∙ ap (indexed_of l) made ∙ index_is l w p
index_result l w p t (Err e) made told = told
