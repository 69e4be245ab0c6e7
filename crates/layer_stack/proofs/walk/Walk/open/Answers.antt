use Rattle.std.proofs.Common.{◌≡◌, ◌∙◌, sym, ap, arith, ◌≤◌, ◌<◌, length, List, ◌∷◌, [], ◌++◌, true}
use Rattle.spec_parts.specs.declared.items.SubLayer.{SubLayer}
use Rattle.composition.specs.Texts.{Text}
use Rattle.composition.specs.Stacks.{LayerStack, sublayers_of, with_layer}
use Rattle.layer_set.specs.LookUps.{look_ups, heading_of}
use Rattle.layer_set.specs.Named.{with_name}
use Rattle.layer_set.specs.declared.held.Held.{Held}
use Rattle.layer_stack.specs.Visiting.{chain_of}
use Rattle.layer_stack.proofs.Marking.{listed_told, opened, carried}
use Rattle.layer_stack.proofs.Walking.{with_open, opens_full, opens_old, opens_new, opens_as}
use Rattle.layer_stack.proofs.walk.Walk.open.Goals as goal
use Rattle.layer_stack.proofs.walk.Walk.open.Goals.{then-len-most-via-then-len-most, then-len-most-via-else-len-most+then-has}

pub returns-then-len-most-clause-opened : goal.returns-then-len-most-clause-opened
returns-then-len-most-clause-opened c =
    elim c.then-len-most.branch [
      | then-len-most-via-then-len-most w ↦
          let full : c.args.most ≤ length c.args.self.now.frames = omega arith in
          opens_full (look_ups c.args.world.now) c.args.most c.args.self.now.frames c.args.name c.args.offset c.args.self.now.draft full
      | then-len-most-via-else-len-most+then-has w ↦
          opens_old (look_ups c.args.world.now) c.args.most c.args.self.now.frames c.args.name c.args.offset c.args.self.now.draft
          (sym (listed_told c.args.self.now.marks (chain_of c.args.self.now.frames) c.args.self.now.draft.layers c.requires c.args.name) ∙ (sym w.has.ensures ∙ w.if-has.true))
    ]

pub returns-clause-marked : goal.returns-clause-marked
returns-clause-marked c =
    carried (with_name c.args.name true c.args.self.now.marks) c.insert.new.self (c.args.name ∷ chain_of c.args.self.now.frames) (chain_of c.push.new.self)
    (c.args.self.now.draft.layers ++ (c.args.name, c.args.offset) ∷ []) c.add_layer.new.self.layers
    (c.in_ok-insert.ensures.ok ∙ ap (λ (n : Text). with_name n true c.args.self.now.marks) c.in_ok-copy-2.ensures)
    (ap chain_of c.in_ok-push.ensures)
    (ap (λ (s : LayerStack). s.layers) c.in_ok-add_layer.ensures ∙ ap (λ (n : Text). c.args.self.now.draft.layers ++ (n, c.args.offset) ∷ []) c.in_ok-copy.ensures)
    (opened c.args.self.now.marks (chain_of c.args.self.now.frames) c.args.self.now.draft.layers c.requires c.args.name c.args.offset
    (sym (listed_told c.args.self.now.marks (chain_of c.args.self.now.frames) c.args.self.now.draft.layers c.requires c.args.name) ∙ (sym c.has.ensures ∙ c.if-has.false)))

pub returns-clause-opened : goal.returns-clause-opened
returns-clause-opened c =
    let room : length c.args.self.now.frames < c.args.most = omega arith in
    let subs : c.sublayers-rest.result.now ≡ sublayers_of ((look_ups c.args.world.now).heading c.args.name) =
    c.sublayers-rest.ensures ∙ ap (λ (h : Held). sublayers_of (heading_of h)) c.held.ensures in
    opens_as (look_ups c.args.world.now) c.args.most c.args.self.now.frames c.args.name c.args.offset c.args.self.now.draft
    (with_open c.args.name c.args.offset (sublayers_of ((look_ups c.args.world.now).heading c.args.name)) c.args.self.now.frames) c.push.new.self
    (with_layer c.args.self.now.draft c.args.name c.args.offset) c.add_layer.new.self
    (c.in_ok-push.ensures ∙ ap (λ (r : List SubLayer). with_open c.args.name c.args.offset r c.args.self.now.frames) subs)
    (c.in_ok-add_layer.ensures ∙ ap (λ (n : Text). with_layer c.args.self.now.draft n c.args.offset) c.in_ok-copy.ensures)
    (opens_new (look_ups c.args.world.now) c.args.most c.args.self.now.frames c.args.name c.args.offset c.args.self.now.draft room
    (sym (listed_told c.args.self.now.marks (chain_of c.args.self.now.frames) c.args.self.now.draft.layers c.requires c.args.name) ∙ (sym c.has.ensures ∙ c.if-has.false)))
