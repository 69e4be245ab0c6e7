use Rattle.std.proofs.Common.{◌∙◌}
use Rattle.usda_fields.specs.Keys.{key_rule, judged}
use Rattle.layer_edit.proofs.Judging.{judged_ok, judged_err}
use Rattle.layer_edit.proofs.typing.judged.Goals as goal

pub returns-in-Ok-put_value : goal.returns-in-Ok-put_value
returns-in-Ok-put_value c =
    c.remove-kept.ensures.before
    ∙ judged_ok (judged (key_rule c.args.key.now) c.args.value) c.args.key.now c.new-meta.result c.put_value.new.meta c.new-meta.ensures (rw c.in-Ok.ensures at c.in-Ok-put_value.ensures.answer)

pub returns-in-Err-Refused : goal.returns-in-Err-Refused
returns-in-Err-Refused c = judged_err (judged (key_rule c.args.key.now) c.args.value) c.args.key.now c.new-meta.result c.in-Err-Refused.field-0-0 (rw c.in-Ok.ensures at (rw c.in-Err-Refused.field-0-is at c.in-Err-Refused.ensures.answer))
