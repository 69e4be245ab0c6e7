use Rattle.std.proofs.lemmas.Result.{on_ok_weaker}
use Rattle.layer_edit.proofs.Changing.{taken_left, untaken}
use Rattle.layer_edit.proofs.places.take_spec.Goals as goal

pub returns-clause-left : goal.returns-clause-left
returns-clause-left c = on_ok_weaker c.replace.result (taken_left c.args.path.now c.blank.result c.args.layer.now c.replace.new.self) c.replace.ensures.ok

pub returns-clause-none : goal.returns-clause-none
returns-clause-none c = untaken c.replace.result c.args.path.now c.blank.result c.args.layer.now c.replace.new.self c.replace.ensures.before c.replace.ensures.ok
