-- Names of stacks that tie are one, and what stands at a name after another was noted.
use Rattle.std.proofs.Common.{◌≡◌, sym, ap, refl, subst, true, cond, List, Option, Some, None}
use Rattle.std.specs.Prelude.{IfSome, is_some}
use Rattle.std.specs.Ordering.{is_eq}
use Rattle.std.specs.declared.cmp.Ordering.{Ordering}
use Rattle.std.specs.declared.cmp.Ordering.TheVariants.{Less, Equal, Greater}
use Rattle.std.proofs.lemmas.Map.Lookups.{exact_bytes}
use Rattle.sdf_values.specs.Scales.{Offset}
use Rattle.composition.specs.Texts.{Text}
use Rattle.composition.specs.World.{World, StackName, Root, Asset}
use Rattle.layer_stack.specs.Meant.{defined_stack}
use Rattle.prim_opinions.specs.Stacks.{name_cmp, AreStacks, layers_or_none}

stack_tie : (a b : StackName) → name_cmp a b ≡ Equal → a ≡ b
stack_tie Root Root h = refl
stack_tie Root (Asset b) h = absurd cc
stack_tie (Asset a) Root h = absurd cc
stack_tie (Asset a) (Asset b) h = ap Asset (exact_bytes a b h)

abbrev Noted : Type 0
Noted = StackName → Option (List (Text × Offset))

module _ (w : World) where
  -- what is noted for a name are the layers of its stack
  pub noted_layers : (noted : Noted) (name : StackName) → AreStacks w noted → is_some (noted name) ≡ true → layers_or_none (noted name) ≡ (defined_stack w name).layers
  noted_layers noted name h some = by_noted (noted name) (h name) some
    where
      by_noted : (o : Option (List (Text × Offset))) → IfSome o (λ layers. layers ≡ (defined_stack w name).layers) → is_some o ≡ true → layers_or_none o ≡ (defined_stack w name).layers
      by_noted (Some layers) p q = p
      by_noted None p q = absurd cc

  pub still_stacks : (before after : Noted) (name : StackName) (layers : List (Text × Offset)) → AreStacks w before → layers ≡ (defined_stack w name).layers
      → ((q : StackName) → after q ≡ cond (is_eq (name_cmp name q)) (Some layers) (before q)) → AreStacks w after
  still_stacks before after name layers h is step q =
      subst (λ (o : Option (List (Text × Offset))). IfSome o (λ ls. ls ≡ (defined_stack w q).layers)) (sym (step q)) (by_order (name_cmp name q) refl)
    where
      by_order : (o : Ordering) → name_cmp name q ≡ o → IfSome (cond (is_eq o) (Some layers) (before q)) (λ ls. ls ≡ (defined_stack w q).layers)
      by_order Less e = h q
      by_order Equal e = subst (λ (x : StackName). layers ≡ (defined_stack w x).layers) (stack_tie name q e) is
      by_order Greater e = h q
