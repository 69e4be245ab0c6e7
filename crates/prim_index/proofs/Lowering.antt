-- What is said at a node one level down, part by part.
use Rattle.std.proofs.Common.{◌≡◌, ◌∙◌, sym, ap, refl, arith, ℕ, suc, ◌-◌, ◌<◌, ◌==◌, Bool, true, false, List, [], ◌∷◌, ◌++◌, append-nil, map, flat_map}
use Rattle.std.specs.Prelude.{not, filter}
use Rattle.std.proofs.lemmas.Bool.{eq-eqb, eqb-true}
use Rattle.std.proofs.Math.Dec.{eqb-suc-zero}
use Rattle.class_arcs.proofs.Sameness.{one_test}
use Rattle.std.specs.List.{filter_map}
use Rattle.path_maps.specs.declared.kind.ArcKind.{ArcKind}
use Rattle.path_maps.specs.declared.kind.ArcKind.TheVariants.{Inherits, Reference, Payload, Specializes}
use Rattle.composition.specs.Paths.{limits}
use Rattle.composition.specs.World.{World}
use Rattle.composition.specs.Stacks.{stack}
use Rattle.composition.specs.Arcs.{same_kind, Opinion, opinions_at, variant_sets_of, selections_of, is_empty}
use Rattle.composition.specs.Nodes.{Node, Here, Tried, Chosen, bare, tried_at, chosen_at}
use Rattle.layer_stack.specs.Meant.{defined_stack}
use Rattle.arc_expand.specs.Authoring.{opinions, sets_in}
use Rattle.laws_extending.specs.Extending.{kinds, tried_below, chosen_below, here_below}
use Rattle.laws_extending.proofs.Heres.{kept_kinds, tried_kind}
use Rattle.prim_index.specs.Reading.{tried_level, chosen_level}
use Rattle.prim_index.specs.Extending.{said_at_0, known_items, kind_below, arcs_below, parts_below}
use Rattle.prim_index.proofs.Saying.{tried_same, chosen_same}

pub level_none : (level below : ℕ) → below ≡ 0 → (suc level == below) ≡ false
level_none level below h = ap (λ (j : ℕ). suc level == j) h ∙ eqb-suc-zero level

pub level_next : (level below : ℕ) → 0 < below → (below - 1 == level) ≡ (suc level == below)
level_next level below some =
    one_test (suc level) below (below - 1 == level) (suc level == below)
    (λ h. let e = eqb-true (below - 1) level h in omega (arith, e, some))
    (λ h. eqb-true (suc level) below h)
    (λ e. eq-eqb (below - 1) level (omega (arith, e, some)))
    (λ e. eq-eqb (suc level) below e)

module _ (w : World) (n : Node) where
  abbrev own : List Opinion
  own = opinions_at limits w (stack limits w n.stack) n.path

  abbrev part : ArcKind → List Tried
  part k = tried_at limits w n k (0, own)

  -- of a kind, the items of the new level and those of the node above
  abbrev of_kind : List Tried → ArcKind → List Tried
  of_kind old k = filter (λ a. same_kind k a.kind) (flat_map part kinds) ++ map (tried_below limits n) (filter (λ a. same_kind k a.kind) old)

  kind_is : (k : ArcKind) (old : List Tried) → filter (λ a. same_kind k a.kind) (flat_map part kinds) ≡ part k → kind_below w n own old k ≡ of_kind old k
  unfolding kind_below
  kind_is k old kept = ap (λ (ts : List Tried). ts ++ known_items n old k) (sym (tried_same w n k (0, own)) ∙ sym kept)

  arcs_are : (old : List Tried) → arcs_below w n own old ≡ flat_map (of_kind old) kinds
  arcs_are old =
      let kept = kept_kinds part (λ k. tried_kind limits w bare [] n n k (0, own)) in
      (λ i. kind_is Inherits old kept.0 i ++ (kind_is Reference old kept.1.0 i ++ (kind_is Payload old kept.1.1.0 i ++ kind_is Specializes old kept.1.1.1.0 i)))
      ∙ ap (λ (r : List Tried). of_kind old Inherits ++ (of_kind old Reference ++ (of_kind old Payload ++ r))) (sym (append-nil (of_kind old Specializes)))

  pub said_with : (old : Here) → parts_below w n (opinions w n.stack n.path) old ≡ here_below limits n old (said_at_0 w n)
  unfolding said_at_0 sets_in opinions defined_stack
  said_with old = λ i. record {
    arcs = arcs_are old.arcs i;
    variants = sym (chosen_same w n (0, own)) i ++ filter_map (chosen_below limits n) old.variants;
    sets = variant_sets_of own;
    selections = selections_of own;
    has_spec = not (is_empty own);
  }
