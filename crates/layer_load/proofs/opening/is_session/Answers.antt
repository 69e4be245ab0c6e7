use Rattle.std.proofs.Common.{◌∙◌, ap, Option}
use Rattle.composition.specs.Texts.{Text}
use Rattle.composition.proofs.Same.{text_told}
use Rattle.layer_load.specs.Opening.{is_session}
use Rattle.layer_load.proofs.opening.is_session.Goals as goal

pub returns-in-Some : goal.returns-in-Some
returns-in-Some c =
    text_told c.args.name.now c.in-Some.session.now c.same.result c.same.ensures ∙ ap (λ (o : Option Text). is_session o c.args.name.now) c.in-Some.ensures
