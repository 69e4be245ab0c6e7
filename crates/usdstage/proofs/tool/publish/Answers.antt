use Rattle.std.proofs.Common.{◌∙◌, ap, refl, Err}
use Rattle.usdstage.proofs.Files.{publishes, publishes_not}
use Rattle.usdstage.proofs.tool.publish.Goals as goal

pub returns-in-Ok-clause-turn : goal.returns-in-Ok-clause-turn
returns-in-Ok-clause-turn c = λ held size.
    publishes held size c.args.session.now c.args.bytes c.in-Ok.ensures.few ∙ rw (c.in-Ok.ensures.reply, c.in-Ok.ensures.after) refl

pub returns-in-Err-Full-clause-turn : goal.returns-in-Err-Full-clause-turn
returns-in-Err-Full-clause-turn c = λ held size.
    publishes_not held size c.args.session.now c.args.bytes (c.in-Err-Full.ensures.full (ap Err c.in-Err-Full.field-0-is))
