-- What a name of a stack means.
use Rattle.std.proofs.Common.{◌≡◌, ◌∙◌, sym, ap, refl, ℕ, Bool, true, false, Option, Some, None}
use Rattle.composition.specs.Texts.{Text, same_text}
use Rattle.composition.specs.World.{World, StackName, Root, Asset, stack_of}
use Rattle.composition.specs.Paths.{Limits, limits}
use Rattle.composition.specs.Stacks.{LayerStack, nothing_listed, from_layer, stack}
use Rattle.layer_stack.specs.Meant.{limits_of, means_root, meant, defined_stack, with_stack, stack_within}
use Rattle.composition.proofs.Same.{same_text_same}

module _ (w : World) (name : Text) where
  by_root : Bool → StackName
  by_root b = elim b as (λ _. StackName) [ true ↦ Root | false ↦ Asset name ]

  by_session : (s : Option Text)
      → (elim s as (λ _. StackName) [ Some x ↦ Asset name | None ↦ elim (same_text name w.root) as (λ _. StackName) [ true ↦ Root | false ↦ Asset name ] ])
      ≡ (elim (elim s as (λ _. Bool) [ Some x ↦ false | None ↦ same_text name w.root ]) as (λ _. StackName) [ true ↦ Root | false ↦ Asset name ])
  by_session (Some x) = refl
  by_session None = refl

  pub means_one : means_root w name ≡ true → Root ≡ stack_of w name
  means_one is = sym (by_session w.session ∙ ap (λ (b : Bool). elim b as (λ _. StackName) [ true ↦ Root | false ↦ Asset name ]) is)

  pub means_itself : means_root w name ≡ false → Asset name ≡ stack_of w name
  means_itself is = sym (by_session w.session ∙ ap (λ (b : Bool). elim b as (λ _. StackName) [ true ↦ Root | false ↦ Asset name ]) is)

module _ (w : World) where
  abbrev all_of : ℕ → Option Text → LayerStack
  all_of most s = elim s as (λ _. LayerStack) [
    | Some session ↦ from_layer (limits_of most) w w.root (from_layer (limits_of most) w session nothing_listed)
    | None ↦ from_layer (limits_of most) w w.root nothing_listed
  ]

  pub root_after_session : (most : ℕ) (session : Text) → w.session ≡ Some session
      → with_stack most w w.root (with_stack most w session nothing_listed) ≡ stack_within most w Root
  unfolding with_stack stack_within
  root_after_session most session is = sym (ap (all_of most) is)

  pub root_alone : (most : ℕ) → w.session ≡ None → with_stack most w w.root nothing_listed ≡ stack_within most w Root
  unfolding with_stack stack_within
  root_alone most is = sym (ap (all_of most) is)

  pub layer_alone : (most : ℕ) (name : Text) → with_stack most w name nothing_listed ≡ stack_within most w (Asset name)
  unfolding with_stack stack_within
  layer_alone most name = refl

-- the limit of this project
same_limits : limits_of 4096 ≡ limits
same_limits = refl

pub within_limits : (w : World) (name : StackName) → stack_within 4096 w name ≡ defined_stack w name
unfolding stack_within defined_stack
within_limits w name = ap (λ (l : Limits). stack l w name) same_limits

module _ (l : Limits) (w : World) (name : Text) where
  abbrev root_by : Option Text → LayerStack
  root_by s = elim s as (λ _. LayerStack) [
    | Some session ↦ from_layer l w w.root (from_layer l w session nothing_listed)
    | None ↦ from_layer l w w.root nothing_listed
  ]

  -- a name and the name that it means have one stack
  one_stack : stack l w (stack_of w name) ≡ from_layer l w name nothing_listed
  one_stack = by_one w.session refl
    where
      by_same : w.session ≡ None → (b : Bool) → same_text name w.root ≡ b
          → stack l w (elim b as (λ _. StackName) [ true ↦ Root | false ↦ Asset name ]) ≡ from_layer l w name nothing_listed
      by_same alone true is = ap root_by alone ∙ ap (λ (n : Text). from_layer l w n nothing_listed) (sym (same_text_same name w.root is))
      by_same alone false is = refl

      by_one : (s : Option Text) → w.session ≡ s
          → stack l w (elim s as (λ _. StackName) [ Some x ↦ Asset name | None ↦ elim (same_text name w.root) as (λ _. StackName) [ true ↦ Root | false ↦ Asset name ] ]) ≡ from_layer l w name nothing_listed
      by_one (Some x) is = refl
      by_one None is = by_same is (same_text name w.root) refl

pub meant_is_one : (w : World) (name : StackName) → defined_stack w (meant w name) ≡ defined_stack w name
unfolding defined_stack
meant_is_one w Root = refl
meant_is_one w (Asset name) = one_stack limits w name
