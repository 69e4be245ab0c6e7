-- A layer with all that stands below it, from the first step to the last.
use Rattle.std.proofs.Common.{◌≡◌, ◌∙◌, sym, ap, refl, arith, ℕ, ◌-◌, Bool, true, false, List, [], ◌∷◌, length, Some, None}
use Rattle.sdf_values.specs.Scales.{Offset}
use Rattle.composition.specs.Texts.{Text}
use Rattle.composition.specs.World.{World, Heading, headed, no_layer, refused, identity}
use Rattle.composition.specs.Stacks.{LayerStack, with_asked, not_held, listed}
use Rattle.layer_set.specs.LookUps.{heading_of}
use Rattle.layer_set.specs.Worlds.{is_present as is_layer}
use Rattle.layer_set.specs.declared.held.Held.{Held}
use Rattle.layer_set.specs.declared.held.Held.TheVariants.{Present, Absent, Broken}
use Rattle.layer_stack.specs.Meant.{with_stack}
use Rattle.layer_stack.specs.Visiting.{OpenLayer, is_present, chain_of, visited, Opens}

-- a layer stands at a name where its heading is that of one
pub present_heading : (held : Held) → is_layer held ≡ is_present (heading_of held)
present_heading (Present layer) = refl
present_heading Absent = refl
present_heading (Broken refusal) = refl

module _ (w : World) (most : ℕ) (name : Text) (s : LayerStack) where
  below : LayerStack
  below = listed w most (name ∷ []) name identity (with_asked s name)

  by_heading : (h : Heading) (b : Bool) → is_present h ≡ b
      → (elim (not_held h) as (λ _. LayerStack) [ Some r ↦ with_asked s name | None ↦ below ]) ≡ (elim b as (λ _. LayerStack) [ true ↦ below | false ↦ with_asked s name ])
  by_heading (headed h) b is = ap (λ (x : Bool). elim x as (λ _. LayerStack) [ true ↦ below | false ↦ with_asked s name ]) is
  by_heading no_layer b is = ap (λ (x : Bool). elim x as (λ _. LayerStack) [ true ↦ below | false ↦ with_asked s name ]) is
  by_heading (refused r) b is = ap (λ (x : Bool). elim x as (λ _. LayerStack) [ true ↦ below | false ↦ with_asked s name ]) is

  pub present_listed : is_present (w.heading name) ≡ true → with_stack most w name s ≡ listed w most (name ∷ []) name identity (with_asked s name)
  unfolding with_stack below
  present_listed there = by_heading (w.heading name) true there

  pub others_asked : is_present (w.heading name) ≡ false → with_stack most w name s ≡ with_asked s name
  unfolding with_stack below
  others_asked there = by_heading (w.heading name) false there

-- what was opened first has been visited
pub all_visited : (w : World) (most : ℕ) (fs gs hs : List OpenLayer) (name : Text) (o : Offset) (s t u : LayerStack) → fs ≡ [] → hs ≡ [] → Opens w most fs name o s gs t
    → visited w most hs u ≡ visited w most gs t → u ≡ listed w most (name ∷ []) name o s
unfolding visited
all_visited w most fs gs hs name o s t u none done opens kept =
    let all : most - length {A = OpenLayer} [] ≡ most = omega arith in
    ap (λ (x : List OpenLayer). visited w most x u) (sym done)
    ∙ (kept
    ∙ (opens.stack
    ∙ (ap (λ (x : List OpenLayer). visited w most x (listed w (most - length x) (name ∷ chain_of x) name o s)) none
    ∙ ap (λ (d : ℕ). listed w d (name ∷ []) name o s) all)))
