use Rattle.layer_load.specs.Drafts.{opening_of}
use Rattle.layer_load.proofs.Turning.{turn_added, turn_failed}
use Rattle.layer_load.proofs.opening.take_turn.Goals as goal

pub returns-in-Ok-clause-turn : goal.returns-in-Ok-clause-turn
returns-in-Ok-clause-turn g c =
    turn_added (g.F.LayerFiles.files c.args.files.now) c.args.name.now (opening_of c.args.draft.now) (opening_of c.add.new.draft) c.texts_have_one_answer.ensures c.add.result c.in-Ok.held c.in-Ok.total
    c.in-Ok.ensures.answers c.add.ensures.judged c.add.ensures.names

pub returns-in-Err-clause-turn : goal.returns-in-Err-clause-turn
returns-in-Err-clause-turn g c =
    turn_failed (g.F.LayerFiles.files c.args.files.now) c.args.name.now (opening_of c.args.draft.now) (opening_of c.args.draft.now) c.in-Err.fault c.in-Err.ensures.answers
