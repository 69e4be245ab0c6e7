use Rattle.std.proofs.Common.{◌≡◌, ◌∙◌, sym, ap, Option, List}
use Rattle.sdf_values.specs.Scales.{Offset}
use Rattle.composition.specs.Texts.{Text}
use Rattle.composition.specs.Arcs.{leads}
use Rattle.layer_stack.specs.Meant.{defined_stack}
use Rattle.composition.specs.Paths.{Path}
use Rattle.layer_set.specs.LookUps.{look_ups}
use Rattle.arc_expand.specs.Outcomes.{outcome_to, leaves_with}
use Rattle.arc_expand.proofs.Outcomes.{no_default, no_target, leaves_alone, leaves_with_layer, leads_there}
use Rattle.arc_expand.proofs.outcome.outcome_to.Goals as goal

pub returns-in_default : goal.returns-in_default
returns-in_default c =
    no_default (look_ups c.args.world.now) c.args.stack.now.name c.args.offset
    ∙ ap (λ (t : Option Path). outcome_to (look_ups c.args.world.now) c.args.stack.now.name c.args.offset t) (sym c.in_default.is)

pub returns-then-is_no_target : goal.returns-then-is_no_target
returns-then-is_no_target c =
    no_target (look_ups c.args.world.now) c.args.stack.now.name c.args.offset c.in-Some.target (sym c.is_no_target.ensures ∙ c.if-is_no_target.true)
    ∙ ap (λ (t : Option Path). outcome_to (look_ups c.args.world.now) c.args.stack.now.name c.args.offset t) (sym c.in-Some.is)

pub returns-in_default-ranged : goal.returns-in_default-ranged
returns-in_default-ranged c =
    leaves_alone (look_ups c.args.world.now) c.args.stack.now.name c.args.offset c.in-Some.target (sym c.is_no_target.ensures ∙ c.if-is_no_target.false) c.in_default-ranged.ensures
    ∙ ap (λ (t : Option Path). outcome_to (look_ups c.args.world.now) c.args.stack.now.name c.args.offset t) (sym c.in-Some.is)

pub returns-then-leaves_with : goal.returns-then-leaves_with
returns-then-leaves_with c =
    let layers : c.as_slice.result.now ≡ (defined_stack (look_ups c.args.world.now) c.args.stack.now.name).layers = c.as_slice.ensures ∙ c.requires.layers in
    leaves_with_layer (look_ups c.args.world.now) c.args.stack.now.name c.args.offset c.in-Some.target (sym c.is_no_target.ensures ∙ c.if-is_no_target.false) c.in-Some-ranged.ensures.0
    (ap (λ (o : Offset). leaves_with (defined_stack (look_ups c.args.world.now) c.args.stack.now.name).layers o) (sym c.in-Some-ranged.ensures.1)
    ∙ (ap (λ (l : List (Text × Offset)). leaves_with l c.in-Some-ranged.offset) (sym layers) ∙ (sym c.leaves_with.ensures ∙ c.if-leaves_with.true)))
    ∙ ap (λ (t : Option Path). outcome_to (look_ups c.args.world.now) c.args.stack.now.name c.args.offset t) (sym c.in-Some.is)

pub returns : goal.returns
returns c =
    let layers : c.as_slice.result.now ≡ (defined_stack (look_ups c.args.world.now) c.args.stack.now.name).layers = c.as_slice.ensures ∙ c.requires.layers in
    (λ i. leads (record { stack = c.in_ok-copy.ensures i; target = c.in-Some.target; offset = c.in-Some-ranged.ensures.1 i }))
    ∙ (leads_there (look_ups c.args.world.now) c.args.stack.now.name c.args.offset c.in-Some.target (sym c.is_no_target.ensures ∙ c.if-is_no_target.false) c.in-Some-ranged.ensures.0
    (ap (λ (o : Offset). leaves_with (defined_stack (look_ups c.args.world.now) c.args.stack.now.name).layers o) (sym c.in-Some-ranged.ensures.1)
    ∙ (ap (λ (l : List (Text × Offset)). leaves_with l c.in-Some-ranged.offset) (sym layers) ∙ (sym c.leaves_with.ensures ∙ c.if-leaves_with.false)))
    ∙ ap (λ (t : Option Path). outcome_to (look_ups c.args.world.now) c.args.stack.now.name c.args.offset t) (sym c.in-Some.is))
