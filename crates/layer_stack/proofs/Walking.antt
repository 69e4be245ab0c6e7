-- What one step of the walk leaves to be done.
use Rattle.std.proofs.Common.{◌≡◌, ◌∙◌, sym, ap, refl, subst, arith, ℕ, zero, suc, ◌+◌, ◌-◌, ◌<◌, ◌≤◌, Bool, true, false, List, [], ◌∷◌, length, fold, Option, Some, None}
use Rattle.std.specs.List.{list_any}
use Rattle.spec_parts.specs.declared.items.SubLayer.{SubLayer}
use Rattle.sdf_values.specs.Scales.{Offset}
use Rattle.composition.specs.Texts.{Text, same_text}
use Rattle.composition.specs.World.{World}
use Rattle.composition.specs.Stacks.{LayerStack, with_layer, is_listed, sublayers_of, with_sublayer, listed}
use Rattle.layer_stack.specs.Listing.{next_of, looked}
use Rattle.layer_stack.specs.Visiting.{OpenLayer, chain_of, visited, steps_of_sublayer, steps_of_rest, steps_below, steps, Opens, Visits}
use Rattle.layer_stack.proofs.Looking.{follow, sublayer_is, steps_are}

-- the chain with one layer more, whose sublayers are to be visited
abbrev pub with_open : Text → Offset → List SubLayer → List OpenLayer → List OpenLayer
with_open layer o rest fs = (record { layer = layer; offset = o; rest = rest }) ∷ fs

module _ (w : World) (most : ℕ) (fs : List OpenLayer) (name : Text) (o : Offset) (s : LayerStack) where
  abbrev chain : List Text
  chain = name ∷ chain_of fs

  abbrev subs : List SubLayer
  subs = sublayers_of (w.heading name)

  -- the layer with what stands below it, where so many more may be open
  abbrev below : ℕ → LayerStack
  below d = fold (with_sublayer w (listed w d) chain name o) (with_layer s name o) subs

  abbrev steps_at : ℕ → ℕ
  steps_at d = steps_of_rest w most d (steps_below w most d) chain name o (with_layer s name o) subs

  -- by whether it is listed
  abbrev by_listed : ℕ → Bool → LayerStack
  by_listed d b = elim b as (λ _. LayerStack) [ true ↦ s | false ↦ below d ]

  abbrev steps_by : ℕ → Bool → ℕ
  steps_by d b = elim b as (λ _. ℕ) [ true ↦ 0 | false ↦ steps_at d ]

  with_none : (d : ℕ) → most - length fs ≡ d → d ≡ zero → Opens w most fs name o s fs s
  unfolding steps_below
  with_none d is none =
      let left : zero ≡ most - length fs = sym (is ∙ none) in
      let cost : steps w most fs s ≡ 0 + steps w most fs s = omega arith in
      record {
        stack = ap (λ (k : ℕ). visited w most fs (listed w k chain name o s)) left;
        steps = cost ∙ ap (λ (k : ℕ). steps_below w most k chain name o s + steps w most fs (listed w k chain name o s)) left;
      }

  with_some : (d : ℕ) → most - length fs ≡ suc d → is_listed s name ≡ true → Opens w most fs name o s fs s
  unfolding steps_below
  with_some d is there =
      let cost : steps w most fs s ≡ 0 + steps w most fs s = omega arith in
      record {
        stack = ap (λ (b : Bool). visited w most fs (by_listed d b)) (sym there) ∙ ap (λ (k : ℕ). visited w most fs (listed w k chain name o s)) (sym is);
        steps = cost ∙ (ap (λ (b : Bool). steps_by d b + steps w most fs (by_listed d b)) (sym there)
            ∙ ap (λ (k : ℕ). steps_below w most k chain name o s + steps w most fs (listed w k chain name o s)) (sym is));
      }

  -- where as many layers as may be are open, nothing is listed
  pub opens_full : most ≤ length fs → Opens w most fs name o s fs s
  opens_full full = let none : most - length fs ≡ zero = omega (arith, full) in with_none zero none refl

  -- a layer that is listed is passed over
  pub opens_old : is_listed s name ≡ true → Opens w most fs name o s fs s
  opens_old there = by_left (most - length fs) refl
    where
      by_left : (d : ℕ) → most - length fs ≡ d → Opens w most fs name o s fs s
      by_left zero is = with_none zero is refl
      by_left (suc d) is = with_some d is there

  -- another one is listed, and its sublayers come next
  pub opens_new : length fs < most → is_listed s name ≡ false → Opens w most fs name o s (with_open name o subs fs) (with_layer s name o)
  unfolding visited steps steps_below
  opens_new room isnt =
      let next : most - length fs ≡ suc (most - suc (length fs)) = omega (arith, room) in
      record {
        stack = ap (λ (b : Bool). visited w most fs (by_listed (most - suc (length fs)) b)) (sym isnt) ∙ ap (λ (k : ℕ). visited w most fs (listed w k chain name o s)) (sym next);
        steps = ap (λ (b : Bool). steps_by (most - suc (length fs)) b + steps w most fs (by_listed (most - suc (length fs)) b)) (sym isnt)
            ∙ ap (λ (k : ℕ). steps_below w most k chain name o s + steps w most fs (listed w k chain name o s)) (sym next);
      }

module _ (w : World) (most : ℕ) (layer : Text) (o : Offset) (fs : List OpenLayer) (s : LayerStack) where
  abbrev left : ℕ
  left = most - suc (length fs)

  abbrev above_chain : List Text
  above_chain = layer ∷ chain_of fs

  -- a layer whose sublayers have all been visited
  pub visits_done : (rest : List SubLayer) → rest ≡ [] → Visits w most (with_open layer o rest fs) s fs s
  unfolding visited steps steps_of_rest
  visits_done rest none =
      let all : steps w most (with_open layer o rest fs) s ≡ 1 + steps w most fs s =
      ap (λ (r : List SubLayer). steps_of_rest w most left (steps_below w most left) above_chain layer o s r + steps w most fs (fold (with_sublayer w (listed w left) above_chain layer o) s r)) none in
      record {
        stack = ap (λ (r : List SubLayer). visited w most fs (fold (with_sublayer w (listed w left) above_chain layer o) s r)) (sym none);
        fewer = omega (arith, all);
      }

  module _ (sub : SubLayer) (more rest : List SubLayer) (is : rest ≡ sub ∷ more) (t : LayerStack) where
    abbrev after : LayerStack
    after = with_sublayer w (listed w left) above_chain layer o s sub

    abbrev cost : ℕ
    cost = steps_of_sublayer w most (steps_below w most left) above_chain layer o s sub

    same_stack : visited w most (with_open layer o rest fs) s ≡ visited w most (with_open layer o more fs) after
    unfolding visited
    same_stack = ap (λ (r : List SubLayer). visited w most fs (fold (with_sublayer w (listed w left) above_chain layer o) s r)) is

    all_steps : steps w most (with_open layer o rest fs) s ≡ 1 + (cost + steps w most (with_open layer o more fs) after)
    unfolding steps steps_of_rest
    all_steps =
        let first : steps w most (with_open layer o rest fs) s ≡ (1 + (cost + steps_of_rest w most left (steps_below w most left) above_chain layer o after more)) + steps w most fs (fold (with_sublayer w (listed w left) above_chain layer o) after more) =
        ap (λ (r : List SubLayer). steps_of_rest w most left (steps_below w most left) above_chain layer o s r + steps w most fs (fold (with_sublayer w (listed w left) above_chain layer o) s r)) is in
        omega (arith, first)

    module _ (above : Text → Bool) (tells : (name : Text) → above name ≡ list_any (same_text name) above_chain) (looks : t ≡ looked w above layer o s sub) where
      -- no layer is listed next
      pub visits_past : next_of w above layer o sub ≡ None → Visits w most (with_open layer o rest fs) s (with_open layer o more fs) t
      visits_past none =
          let made : after ≡ t = sublayer_is w above_chain layer o sub above tells (listed w left) s
          ∙ (ap (λ (n : Option (Text × Offset)). follow w above_chain layer o sub above tells (listed w left) (λ x. x) n (looked w above layer o s sub)) none ∙ sym looks) in
          let free : cost ≡ 0 = steps_are w above_chain layer o sub above tells most (steps_below w most left) s
          ∙ ap (λ (n : Option (Text × Offset)). follow w above_chain layer o sub above tells (steps_below w most left) (λ _. 0) n (looked w above layer o s sub)) none in
          let same : steps w most (with_open layer o more fs) after ≡ steps w most (with_open layer o more fs) t = ap (steps w most (with_open layer o more fs)) made in
          record { stack = sym (same_stack ∙ ap (visited w most (with_open layer o more fs)) made); fewer = omega (arith, all_steps, free, same) }

      -- a layer may be listed next
      pub visits_next : (e : Text × Offset) (gs : List OpenLayer) (u : LayerStack) → next_of w above layer o sub ≡ Some e
          → Opens w most (with_open layer o more fs) e.0 e.1 t gs u → Visits w most (with_open layer o rest fs) s gs u
      visits_next e gs u some opens =
          let made : after ≡ listed w left (e.0 ∷ above_chain) e.0 e.1 t = sublayer_is w above_chain layer o sub above tells (listed w left) s
          ∙ (ap (λ (n : Option (Text × Offset)). follow w above_chain layer o sub above tells (listed w left) (λ x. x) n (looked w above layer o s sub)) some
          ∙ ap (λ (x : LayerStack). listed w left (e.0 ∷ above_chain) e.0 e.1 x) (sym looks)) in
          let paid : cost ≡ steps_below w most left (e.0 ∷ above_chain) e.0 e.1 t = steps_are w above_chain layer o sub above tells most (steps_below w most left) s
          ∙ (ap (λ (n : Option (Text × Offset)). follow w above_chain layer o sub above tells (steps_below w most left) (λ _. 0) n (looked w above layer o s sub)) some
          ∙ ap (λ (x : LayerStack). steps_below w most left (e.0 ∷ above_chain) e.0 e.1 x) (sym looks)) in
          let same : steps w most (with_open layer o more fs) after ≡ steps w most (with_open layer o more fs) (listed w left (e.0 ∷ above_chain) e.0 e.1 t) = ap (steps w most (with_open layer o more fs)) made in
          record { stack = opens.stack ∙ sym (same_stack ∙ ap (visited w most (with_open layer o more fs)) made); fewer = omega (arith, all_steps, paid, same, opens.steps) }

-- the same by other names
pub opens_as : (w : World) (most : ℕ) (fs : List OpenLayer) (name : Text) (o : Offset) (s : LayerStack) (gs gs' : List OpenLayer) (t t' : LayerStack) → gs' ≡ gs → t' ≡ t
    → Opens w most fs name o s gs t → Opens w most fs name o s gs' t'
opens_as w most fs name o s gs gs' t t' g u opens =
    subst (λ (x : List OpenLayer). Opens w most fs name o s x t') (sym g) (subst (λ (x : LayerStack). Opens w most fs name o s gs x) (sym u) opens)

pub visits_as : (w : World) (most : ℕ) (fs fs' : List OpenLayer) (s : LayerStack) (gs gs' : List OpenLayer) (t : LayerStack) → fs ≡ fs' → gs' ≡ gs
    → Visits w most fs s gs t → Visits w most fs' s gs' t
visits_as w most fs fs' s gs gs' t f g visits =
    subst (λ (x : List OpenLayer). Visits w most x s gs' t) f (subst (λ (x : List OpenLayer). Visits w most fs s x t) (sym g) visits)

pub opens_from : (w : World) (most : ℕ) (fs fs' : List OpenLayer) (name : Text) (o : Offset) (s : LayerStack) (gs : List OpenLayer) (t : LayerStack) → fs' ≡ fs
    → Opens w most fs' name o s gs t → Opens w most fs name o s gs t
opens_from w most fs fs' name o s gs t f opens = subst (λ (x : List OpenLayer). Opens w most x name o s gs t) f opens
