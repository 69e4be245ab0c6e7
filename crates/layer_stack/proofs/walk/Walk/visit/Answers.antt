use Rattle.std.proofs.Common.{◌∙◌, sym, ap, refl, false, ◌∷◌}
use Rattle.composition.specs.Stacks.{LayerStack}
use Rattle.layer_set.specs.LookUps.{look_ups}
use Rattle.layer_set.specs.Named.{with_name}
use Rattle.layer_stack.specs.Visiting.{OpenLayer, chain_of, is_above, Marked}
use Rattle.layer_stack.proofs.Looking.{looked_layers}
use Rattle.layer_stack.proofs.Marking.{above_told, closed, carried}
use Rattle.layer_stack.proofs.Walking.{with_open, visits_done, visits_past, visits_next, visits_as, opens_from}
use Rattle.layer_stack.proofs.walk.Walk.visit.Goals as goal

pub returns-in_default-clause-marked : goal.returns-in_default-clause-marked
returns-in_default-clause-marked c =
    carried (with_name c.frame.inside.layer false c.args.self.now.marks) c.insert.new.self (chain_of c.args.self.now.frames) (chain_of c.args.self.now.frames)
    c.args.self.now.draft.layers c.args.self.now.draft.layers c.in_ok-insert.ensures.ok refl refl
    (closed c.args.self.now.marks c.frame.inside.layer (chain_of c.args.self.now.frames) c.args.self.now.draft.layers
    (carried c.args.self.now.marks c.args.self.now.marks (c.args.frame.layer ∷ chain_of c.args.self.now.frames) (c.frame.inside.layer ∷ chain_of c.args.self.now.frames)
    c.args.self.now.draft.layers c.args.self.now.draft.layers refl (ap (λ (f : OpenLayer). f.layer ∷ chain_of c.args.self.now.frames) c.frame.view_is) refl c.requires))

pub returns-in_default-clause-visited : goal.returns-in_default-clause-visited
returns-in_default-clause-visited c =
    visits_as (look_ups c.args.world.now) c.args.most (with_open c.frame.inside.layer c.frame.inside.offset c.frame.inside.rest.now c.args.self.now.frames) (c.args.frame ∷ c.args.self.now.frames)
    c.args.self.now.draft c.args.self.now.frames c.args.self.now.frames c.args.self.now.draft (ap (λ (f : OpenLayer). f ∷ c.args.self.now.frames) c.frame.view_is) refl
    (visits_done (look_ups c.args.world.now) c.args.most c.frame.inside.layer c.frame.inside.offset c.args.self.now.frames c.args.self.now.draft c.frame.inside.rest.now c.in_default.ensures)

pub open-requires : goal.open-requires
open-requires c =
    carried c.args.self.now.marks c.args.self.now.marks (c.args.frame.layer ∷ chain_of c.args.self.now.frames) (chain_of c.push.new.self)
    c.args.self.now.draft.layers c.look.new.draft.layers refl
    (ap chain_of c.in_ok-push.ensures ∙ ap (λ (f : OpenLayer). f.layer ∷ chain_of c.args.self.now.frames) c.frame.view_is)
    (ap (λ (s : LayerStack). s.layers) c.in_ok-next.ensures.draft
    ∙ looked_layers (look_ups c.args.world.now) (is_above c.args.self.now.marks) c.frame.inside.layer c.frame.inside.offset c.in-Some.sub.now c.args.self.now.draft)
    c.requires

pub returns-in_default-next-clause-marked : goal.returns-in_default-next-clause-marked
returns-in_default-next-clause-marked c =
    carried c.args.self.now.marks c.args.self.now.marks (c.args.frame.layer ∷ chain_of c.args.self.now.frames) (chain_of c.push.new.self)
    c.args.self.now.draft.layers c.look.new.draft.layers refl
    (ap chain_of c.in_ok-push.ensures ∙ ap (λ (f : OpenLayer). f.layer ∷ chain_of c.args.self.now.frames) c.frame.view_is)
    (ap (λ (s : LayerStack). s.layers) c.in_ok-next.ensures.draft
    ∙ looked_layers (look_ups c.args.world.now) (is_above c.args.self.now.marks) c.frame.inside.layer c.frame.inside.offset c.in-Some.sub.now c.args.self.now.draft)
    c.requires

pub returns-in_ok-open-clause-visited : goal.returns-in_ok-open-clause-visited
returns-in_ok-open-clause-visited c =
    let told : Marked c.args.self.now.marks (c.frame.inside.layer ∷ chain_of c.args.self.now.frames) c.args.self.now.draft.layers =
    carried c.args.self.now.marks c.args.self.now.marks (c.args.frame.layer ∷ chain_of c.args.self.now.frames) (c.frame.inside.layer ∷ chain_of c.args.self.now.frames)
    c.args.self.now.draft.layers c.args.self.now.draft.layers refl (ap (λ (f : OpenLayer). f.layer ∷ chain_of c.args.self.now.frames) c.frame.view_is) refl c.requires in
    visits_as (look_ups c.args.world.now) c.args.most (with_open c.frame.inside.layer c.frame.inside.offset c.frame.inside.rest.now c.args.self.now.frames) (c.args.frame ∷ c.args.self.now.frames)
    c.args.self.now.draft c.open.new.self.frames c.open.new.self.frames c.open.new.self.draft (ap (λ (f : OpenLayer). f ∷ c.args.self.now.frames) c.frame.view_is) refl
    (visits_next (look_ups c.args.world.now) c.args.most c.frame.inside.layer c.frame.inside.offset c.args.self.now.frames c.args.self.now.draft c.in-Some.sub.now c.in-Some.more.now c.frame.inside.rest.now
    c.in-Some.ensures c.look.new.draft (is_above c.args.self.now.marks)
    (above_told c.args.self.now.marks (c.frame.inside.layer ∷ chain_of c.args.self.now.frames) c.args.self.now.draft.layers told)
    c.in_ok-next.ensures.draft (c.in-Some-next.name, c.in-Some-next.offset) c.open.new.self.frames c.open.new.self.draft
    (sym c.in_ok-next.ensures.next ∙ c.in-Some-next.is)
    (opens_from (look_ups c.args.world.now) c.args.most (with_open c.frame.inside.layer c.frame.inside.offset c.in-Some.more.now c.args.self.now.frames) c.push.new.self
    c.in-Some-next.name c.in-Some-next.offset c.look.new.draft c.open.new.self.frames c.open.new.self.draft c.in_ok-push.ensures c.in_ok-open.ensures.opened))

pub returns-in_default-next-clause-visited : goal.returns-in_default-next-clause-visited
returns-in_default-next-clause-visited c =
    let told : Marked c.args.self.now.marks (c.frame.inside.layer ∷ chain_of c.args.self.now.frames) c.args.self.now.draft.layers =
    carried c.args.self.now.marks c.args.self.now.marks (c.args.frame.layer ∷ chain_of c.args.self.now.frames) (c.frame.inside.layer ∷ chain_of c.args.self.now.frames)
    c.args.self.now.draft.layers c.args.self.now.draft.layers refl (ap (λ (f : OpenLayer). f.layer ∷ chain_of c.args.self.now.frames) c.frame.view_is) refl c.requires in
    visits_as (look_ups c.args.world.now) c.args.most (with_open c.frame.inside.layer c.frame.inside.offset c.frame.inside.rest.now c.args.self.now.frames) (c.args.frame ∷ c.args.self.now.frames)
    c.args.self.now.draft (with_open c.frame.inside.layer c.frame.inside.offset c.in-Some.more.now c.args.self.now.frames) c.push.new.self c.look.new.draft
    (ap (λ (f : OpenLayer). f ∷ c.args.self.now.frames) c.frame.view_is) c.in_ok-push.ensures
    (visits_past (look_ups c.args.world.now) c.args.most c.frame.inside.layer c.frame.inside.offset c.args.self.now.frames c.args.self.now.draft c.in-Some.sub.now c.in-Some.more.now c.frame.inside.rest.now
    c.in-Some.ensures c.look.new.draft (is_above c.args.self.now.marks)
    (above_told c.args.self.now.marks (c.frame.inside.layer ∷ chain_of c.args.self.now.frames) c.args.self.now.draft.layers told)
    c.in_ok-next.ensures.draft (sym c.in_ok-next.ensures.next ∙ c.in_default-next.is))
