-- What becomes of an item, case by case.
use Rattle.std.proofs.Common.{◌≡◌, ◌∙◌, sym, ap, refl, Bool, true, false, Option, Some, None}
use Rattle.sdf_values.specs.Scales.{Offset}
use Rattle.composition.specs.Texts.{Text}
use Rattle.composition.specs.Assets.{anchor}
use Rattle.composition.specs.Paths.{Path, limits}
use Rattle.composition.specs.World.{World, Heading, headed, no_layer, refused, StackName, in_range, first_layer, stack_of}
use Rattle.composition.specs.Arcs.{Source, own, named, unanchored, Item, Outcome, leads, gives_no_arc, no_default_prim, bad_target, offset_range, is_no_target, leaves_range, source_of, outcome_in, outcome_from}
use Rattle.layer_stack.specs.Meant.{defined_stack}
use Rattle.arc_expand.specs.Outcomes.{outcome_of, outcome_by, outcome_within, outcome_to, leaves_with}

module _ (w : World) (s : StackName) (i : Item) where
  pub own_outcome : i.source ≡ own → outcome_within w s i (w.heading (first_layer w s)) ≡ outcome_of w s i
  unfolding outcome_of
  own_outcome is = sym (ap (λ (x : Source). outcome_by w s i x) is)

  pub named_outcome : (name : Text) → i.source ≡ named name → outcome_within w (stack_of w name) i (w.heading name) ≡ outcome_of w s i
  unfolding outcome_of
  named_outcome name is = sym (ap (λ (x : Source). outcome_by w s i x) is)

  pub unanchored_outcome : (asset : Text) → i.source ≡ unanchored asset → gives_no_arc bad_target ≡ outcome_of w s i
  unfolding outcome_of
  unanchored_outcome asset is = sym (ap (λ (x : Source). outcome_by w s i x) is)

module _ (w : World) (s : StackName) (o : Offset) where
  abbrev by_range : Bool → Bool
  by_range b = elim b as (λ _. Bool) [ false ↦ true | true ↦ leaves_with (defined_stack w s).layers o ]

  range_is : leaves_range limits w o s ≡ by_range (in_range o)
  unfolding defined_stack
  range_is = refl

  out_of_range : in_range o ≡ false → leaves_range limits w o s ≡ true
  out_of_range is = range_is ∙ ap by_range is

  within_range : in_range o ≡ true → leaves_range limits w o s ≡ leaves_with (defined_stack w s).layers o
  within_range is = range_is ∙ ap by_range is

  pub no_default : gives_no_arc no_default_prim ≡ outcome_to w s o None
  unfolding outcome_to
  no_default = refl

  module _ (t : Path) where
    abbrev by_leaving : Bool → Outcome
    by_leaving b = elim b as (λ _. Outcome) [ true ↦ gives_no_arc offset_range | false ↦ leads (record { stack = s; target = t; offset = o }) ]

    abbrev by_target : Bool → Outcome
    by_target b = elim b as (λ _. Outcome) [ true ↦ gives_no_arc bad_target | false ↦ by_leaving (leaves_range limits w o s) ]

    decided : outcome_to w s o (Some t) ≡ by_target (is_no_target t)
    unfolding outcome_to
    decided = refl

    pub no_target : is_no_target t ≡ true → gives_no_arc bad_target ≡ outcome_to w s o (Some t)
    no_target is = sym (decided ∙ ap by_target is)

    pub leaves_alone : is_no_target t ≡ false → in_range o ≡ false → gives_no_arc offset_range ≡ outcome_to w s o (Some t)
    leaves_alone is out = sym (decided ∙ (ap by_target is ∙ ap by_leaving (out_of_range out)))

    pub leaves_with_layer : is_no_target t ≡ false → in_range o ≡ true → leaves_with (defined_stack w s).layers o ≡ true
        → gives_no_arc offset_range ≡ outcome_to w s o (Some t)
    leaves_with_layer is within out = sym (decided ∙ (ap by_target is ∙ ap by_leaving (within_range within ∙ out)))

    pub leads_there : is_no_target t ≡ false → in_range o ≡ true → leaves_with (defined_stack w s).layers o ≡ false
        → leads (record { stack = s; target = t; offset = o }) ≡ outcome_to w s o (Some t)
    leads_there is within stays = sym (decided ∙ (ap by_target is ∙ ap by_leaving (within_range within ∙ stays)))

-- ---- where an item leads

module _ (w : World) where
  within_agrees : (s : StackName) (i : Item) (h : Heading) → outcome_in limits w s i h ≡ outcome_within w s i h
  unfolding outcome_to
  within_agrees s i no_layer = refl
  within_agrees s i (refused r) = refl
  within_agrees s i (headed h) = refl

  source_agrees : (s : StackName) (i : Item) (source : Source) → outcome_from limits w s i source ≡ outcome_by w s i source
  source_agrees s i own = within_agrees s i (w.heading (first_layer w s))
  source_agrees s i (named name) = within_agrees (stack_of w name) i (w.heading name)
  source_agrees s i (unanchored asset) = refl

  pub outcome_agrees : (s : StackName) (i : Item) → outcome_from limits w s i i.source ≡ outcome_of w s i
  unfolding outcome_of
  outcome_agrees s i = source_agrees s i i.source

-- ---- the layer that an item names

module _ (layer asset : Text) where
  abbrev by_anchor : Option Text → Source
  by_anchor o = elim o as (λ _. Source) [ Some name ↦ named name | None ↦ unanchored asset ]

  pub named_source : (name : Text) → anchor layer asset ≡ Some name → named name ≡ source_of layer (Some asset)
  named_source name is = sym (ap by_anchor is)

  pub unanchored_source : anchor layer asset ≡ None → unanchored asset ≡ source_of layer (Some asset)
  unanchored_source is = sym (ap by_anchor is)
