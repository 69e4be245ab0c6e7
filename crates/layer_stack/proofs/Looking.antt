-- What a look at a sublayer has to do with the definition of a stack.
use Rattle.std.proofs.Common.{◌≡◌, ◌∙◌, sym, ap, refl, ℕ, Bool, List, ◌∷◌, Option, Some, None}
use Rattle.std.specs.List.{list_any}
use Rattle.spec_parts.specs.declared.items.SubLayer.{SubLayer}
use Rattle.sdf_values.specs.Scales.{Offset, composed}
use Rattle.composition.specs.Texts.{Text, same_text}
use Rattle.composition.specs.Assets.{anchor}
use Rattle.composition.specs.World.{World}
use Rattle.composition.specs.Stacks.{LayerStack, SublayerReason, Listing, sublayer_missing, with_fault, with_asked, not_followed, with_sublayer}
use Rattle.layer_stack.specs.Listing.{kept_out, reason_for, named_next, next_of, with_reason, with_look, looked}
use Rattle.layer_stack.specs.Visiting.{Steps, steps_of_sublayer}

module _ (w : World) (chain : List Text) (layer : Text) (o : Offset) (sub : SubLayer) (above : Text → Bool) (tells : (name : Text) → above name ≡ list_any (same_text name) chain) where
  -- what comes of the layer that may be listed next
  abbrev pub follow : {A : Type 0} → (List Text → Text → Offset → LayerStack → A) → (LayerStack → A) → Option (Text × Offset) → LayerStack → A
  follow below none None s = none s
  follow below none (Some e) s = below (e.0 ∷ chain) e.0 e.1 s

  one_reason : (name : Text) → not_followed w chain name (composed sub.offset o) ≡ reason_for w above layer o name sub
  one_reason name = ap (λ (b : Bool). kept_out b (w.heading name) (composed sub.offset o)) (sym (tells name))

  -- by cases of the name
  sublayer_named : (below : Listing) (s : LayerStack) (named : Option Text)
      → (elim named as (λ _. LayerStack) [
        | None ↦ with_fault s sublayer_missing layer sub.asset
        | Some name ↦ elim (not_followed w chain name (composed sub.offset o)) as (λ _. LayerStack) [
          | Some r ↦ with_fault (with_asked s name) r layer name
          | None ↦ below (name ∷ chain) name (composed sub.offset o) (with_asked s name)
        ]
      ]) ≡ follow below (λ t. t) (named_next w above layer o named sub) (with_look w above layer o s named sub)
  sublayer_named below s None = refl
  sublayer_named below s (Some name) =
      ap (λ (r : Option SublayerReason). elim r as (λ _. LayerStack) [
        | Some r ↦ with_fault (with_asked s name) r layer name
        | None ↦ below (name ∷ chain) name (composed sub.offset o) (with_asked s name)
      ]) (one_reason name) ∙ by_reason (reason_for w above layer o name sub)
    where
      by_reason : (r : Option SublayerReason)
          → (elim r as (λ _. LayerStack) [
            | Some r ↦ with_fault (with_asked s name) r layer name
            | None ↦ below (name ∷ chain) name (composed sub.offset o) (with_asked s name)
          ]) ≡ follow below (λ t. t) (elim r as (λ _. Option (Text × Offset)) [ Some r ↦ None | None ↦ Some (name, composed sub.offset o) ]) (with_reason w above layer o (with_asked s name) name r)
      by_reason None = refl
      by_reason (Some r) = refl

  pub sublayer_is : (below : Listing) (s : LayerStack)
      → with_sublayer w below chain layer o s sub ≡ follow below (λ t. t) (next_of w above layer o sub) (looked w above layer o s sub)
  sublayer_is below s = sublayer_named below s (anchor layer sub.asset)

  steps_named : (most : ℕ) (below : Steps w most) (s : LayerStack) (named : Option Text)
      → (elim named as (λ _. ℕ) [
        | None ↦ 0
        | Some name ↦ elim (not_followed w chain name (composed sub.offset o)) as (λ _. ℕ) [
          | Some r ↦ 0
          | None ↦ below (name ∷ chain) name (composed sub.offset o) (with_asked s name)
        ]
      ]) ≡ follow below (λ _. 0) (named_next w above layer o named sub) (with_look w above layer o s named sub)
  steps_named most below s None = refl
  steps_named most below s (Some name) =
      ap (λ (r : Option SublayerReason). elim r as (λ _. ℕ) [
        | Some r ↦ 0
        | None ↦ below (name ∷ chain) name (composed sub.offset o) (with_asked s name)
      ]) (one_reason name) ∙ by_reason (reason_for w above layer o name sub)
    where
      by_reason : (r : Option SublayerReason)
          → (elim r as (λ _. ℕ) [
            | Some r ↦ 0
            | None ↦ below (name ∷ chain) name (composed sub.offset o) (with_asked s name)
          ]) ≡ follow below (λ _. 0) (elim r as (λ _. Option (Text × Offset)) [ Some r ↦ None | None ↦ Some (name, composed sub.offset o) ]) (with_reason w above layer o (with_asked s name) name r)
      by_reason None = refl
      by_reason (Some r) = refl

  pub steps_are : (most : ℕ) (below : Steps w most) (s : LayerStack)
      → steps_of_sublayer w most below chain layer o s sub ≡ follow below (λ _. 0) (next_of w above layer o sub) (looked w above layer o s sub)
  steps_are most below s = steps_named most below s (anchor layer sub.asset)

-- a look changes no layers
module _ (w : World) (above : Text → Bool) (layer : Text) (o : Offset) (sub : SubLayer) where
  reason_layers : (s : LayerStack) (name : Text) (r : Option SublayerReason) → (with_reason w above layer o s name r).layers ≡ s.layers
  reason_layers s name None = refl
  reason_layers s name (Some r) = refl

  look_layers : (s : LayerStack) (named : Option Text) → (with_look w above layer o s named sub).layers ≡ s.layers
  look_layers s None = refl
  look_layers s (Some name) = reason_layers (with_asked s name) name (reason_for w above layer o name sub)

  pub looked_layers : (s : LayerStack) → (looked w above layer o s sub).layers ≡ s.layers
  looked_layers s = look_layers s (anchor layer sub.asset)
