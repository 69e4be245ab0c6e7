use Rattle.std.proofs.Common.{◌≡◌, ◌∙◌, ap, Bool, true, false, ◌||◌}
use Rattle.composition.specs.Texts.{Text, same_text}
use Rattle.composition.proofs.Same.{text_told}
use Rattle.layer_load.specs.Opening.{is_session}
use Rattle.layer_load.proofs.opening.is_needed.Goals as goal

either_true : (r a b : Bool) → r ≡ true → r ≡ a → r ≡ (a || b)
either_true r true b t e = t
either_true r false b t e = absurd cc

either_false : (r s a b : Bool) → r ≡ false → r ≡ a → s ≡ b → s ≡ (a || b)
either_false r s true b f e h = absurd cc
either_false r s false b f e h = h

pub returns-then-same : goal.returns-then-same
returns-then-same c =
    either_true c.same.result (same_text c.args.name.now c.args.world.now.root) (is_session c.args.world.now.session c.args.name.now) c.if-same.true
    (text_told c.args.name.now c.root.result.now c.same.result c.same.ensures ∙ ap (λ (x : Text). same_text c.args.name.now x) c.root.ensures)

pub returns-else-same : goal.returns-else-same
returns-else-same c =
    either_false c.same.result c.is_session.result (same_text c.args.name.now c.args.world.now.root) (is_session c.args.world.now.session c.args.name.now) c.if-same.false
    (text_told c.args.name.now c.root.result.now c.same.result c.same.ensures ∙ ap (λ (x : Text). same_text c.args.name.now x) c.root.ensures) c.is_session.ensures
