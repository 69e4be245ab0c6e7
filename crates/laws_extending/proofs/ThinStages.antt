-- A child's thin tree on the stage extends its parent's.
use Rattle.std.proofs.Common.{◌≡◌, refl, sym, ap, ◌∙◌, ℕ, zero, suc, ◌||◌, Bool, true, false, [], ◌∷◌, ◌++◌, map}
use Rattle.sdf_paths.specs.declared.element.Element.TheVariants.{Prim}
use Rattle.composition.specs.Texts.{Text}
use Rattle.composition.specs.Paths.{Limits}
use Rattle.composition.specs.World.{World, is_loaded}
use Rattle.composition.specs.Nodes.{Node, Frame, Here, here, bare}
use Rattle.composition.specs.Trees.{Tree}
use Rattle.composition.specs.Strength.{sites}
use Rattle.composition.specs.Compose.{decides_nothing, is_overgrown_on_the_way, decided, stage_node, stage_tree}
use Rattle.composition.specs.Faults.{site_of}
use Rattle.laws_extending.specs.Extending.{here_at_0, fresh_tree, child_tree_by, child_round, child_rounds, child_of}
use Rattle.laws_extending.specs.Thin.{thin, thin_child_by, thin_round, thin_rounds, thin_child, thin_fresh}
use Rattle.laws_extending.specs.ThinLaws.{ThinTreesExtend}
use Rattle.laws_extending.proofs.Stages.{on_stage}
use Rattle.laws_extending.proofs.Thinned.{IsWhole, whole_at, thin_extends}
use Rattle.laws_extending.proofs.Levelled.{new_is_level_0}
use Rattle.laws_extending.proofs.Strengths.{same_node, thin_listing, thin_sites, thin_decided, thin_on_the_way, thin_shown}

module _ (l : Limits) (w : World) (name : Text) (parent : Tree) (whole : IsWhole parent) where
  abbrev new : Node → Here
  new = here_at_0 l w

  abbrev thick : Frame → Tree
  thick = child_tree_by l new (fresh_tree l (here l w)) name parent

  abbrev by : Frame → Tree
  by = thin_child_by l new (thin_fresh l (here l w)) name (thin parent)

  same_by : (f : Frame) → by f ≡ thin (thick f)
  same_by f = thin_extends l new (fresh_tree l (here l w)) (thin_fresh l (here l w)) f name (new_is_level_0 l w f name) (λ n b r. refl) parent whole l.nodes

  same_round : (f : Frame) → thin_round l new (thin_fresh l (here l w)) name (thin parent) f ≡ child_round l new (fresh_tree l (here l w)) name parent f
  same_round f =
      let g : Frame = record f { overgrown = false } in
      ap (λ (t : Tree). record f { choices = f.choices ++ decided l t f.choices; overgrown = f.overgrown || is_overgrown_on_the_way t }) (same_by g)
      ∙ (λ i. record f { choices = f.choices ++ thin_decided l (thick g) f.choices i; overgrown = f.overgrown || thin_on_the_way (thick g) i })

  same_rounds : (k : ℕ) (f : Frame) → thin_rounds l new (thin_fresh l (here l w)) name (thin parent) k f ≡ child_rounds l new (fresh_tree l (here l w)) name parent k f
  same_rounds zero f = refl
  same_rounds (suc k) f =
      ap (λ (g : Frame). elim (decides_nothing f g) as (λ _. Frame) [ true ↦ g | false ↦ thin_rounds l new (thin_fresh l (here l w)) name (thin parent) k g ]) (same_round f)
      ∙ ap (λ (g : Frame). elim (decides_nothing f next) as (λ _. Frame) [ true ↦ next | false ↦ g ]) (same_rounds k next)
    where
      next : Frame
      next = child_round l new (fresh_tree l (here l w)) name parent f

  pub same_child : (loaded : Bool) → thin (child_of l new (fresh_tree l (here l w)) name parent loaded) ≡ thin_child l new (thin_fresh l (here l w)) name (thin parent) loaded
  same_child loaded =
      sym (ap by (same_rounds l.rounds (record bare { loaded = loaded })) ∙ same_by (child_rounds l new (fresh_tree l (here l w)) name parent l.rounds (record bare { loaded = loaded })))

pub thin_trees_extend : ThinTreesExtend
thin_trees_extend = record {
  on_the_stage = λ l w p name room h.
      ap thin (on_stage l w room (is_loaded w) p name)
      ∙ same_child l w name (stage_tree l (here l w) (is_loaded w) p) (whole_at l (here l w) l.depth l.nodes (stage_node l (here l w) (is_loaded w) p) h) (is_loaded w (p ++ Prim name ∷ []));
  same_listing = thin_listing;
  same_sites = λ l t. ap (map site_of) (thin_sites l t) ∙ thin_shown (sites l t);
  same_choices = thin_decided;
  same_top = same_node;
  same_growth = thin_on_the_way;
}
