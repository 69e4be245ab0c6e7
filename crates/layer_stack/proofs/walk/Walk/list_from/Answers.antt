use Rattle.std.proofs.Common.{◌∙◌, sym, ap, [], ◌∷◌}
use Rattle.sdf_values.specs.Scales.{Offset}
use Rattle.composition.specs.Texts.{Text}
use Rattle.composition.specs.World.{identity}
use Rattle.composition.specs.Stacks.{LayerStack, listed}
use Rattle.layer_set.specs.LookUps.{look_ups}
use Rattle.layer_set.specs.Worlds.{is_present, held_at}
use Rattle.layer_set.specs.declared.held.Held.{Held}
use Rattle.layer_stack.proofs.Listing.{present_heading, present_listed, others_asked, all_visited}
use Rattle.layer_stack.proofs.walk.Walk.list_from.Goals as goal

pub returns-then-not-is_present-clause-draft : goal.returns-then-not-is_present-clause-draft
returns-then-not-is_present-clause-draft c =
    c.in_ok-add_asked.ensures
    ∙ sym (others_asked (look_ups c.args.world.now) c.args.most c.args.name.now c.args.self.now.draft
    (sym (c.is_present.ensures ∙ (ap (λ (h : Held). is_present h) c.held.ensures ∙ present_heading (held_at c.args.world.now c.args.name.now))) ∙ c.if-not-is_present.true))

pub returns-clause-draft : goal.returns-clause-draft
returns-clause-draft c =
    all_visited (look_ups c.args.world.now) c.args.most c.args.self.now.frames c.open.new.self.frames c.loop-frame.self.frames c.in_ok-copy.field-0 c.identity.result
    c.add_asked.new.self c.open.new.self.draft c.loop-frame.self.draft c.requires.frames c.in_default.ensures.0 c.in_ok-open.ensures.opened c.loop-frame.invariant.stack
    ∙ (ap (λ (n : Text). listed (look_ups c.args.world.now) c.args.most (n ∷ []) n c.identity.result c.add_asked.new.self) c.in_ok-copy.ensures
    ∙ (ap (λ (o : Offset). listed (look_ups c.args.world.now) c.args.most (c.args.name.now ∷ []) c.args.name.now o c.add_asked.new.self) c.identity.ensures
    ∙ (ap (λ (s : LayerStack). listed (look_ups c.args.world.now) c.args.most (c.args.name.now ∷ []) c.args.name.now identity s) c.in_ok-add_asked.ensures
    ∙ sym (present_listed (look_ups c.args.world.now) c.args.most c.args.name.now c.args.self.now.draft
    (sym (c.is_present.ensures ∙ (ap (λ (h : Held). is_present h) c.held.ensures ∙ present_heading (held_at c.args.world.now c.args.name.now))) ∙ c.if-not-is_present.false)))))
