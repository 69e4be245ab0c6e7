use Rattle.usda_reader.proofs.Exact.{passed, stopped}
use Rattle.usda_reader.proofs.read.read_into.Goals as goal

pub returns-in_ok-take_layer-in-Ok : goal.returns-in_ok-take_layer-in-Ok
returns-in_ok-take_layer-in-Ok c = passed c.args.bytes.now c.args.draft.now c.read_words.new.draft c.in_ok-take_layer-in-Ok.field-0 c.requires.begun c.in-Ok.ensures c.in_ok-take_layer-in-Ok.ensures

pub returns-in-Err : goal.returns-in-Err
returns-in-Err c = stopped c.args.bytes.now c.args.draft.now c.read_words.new.draft c.in-Err.fault c.placed.result c.requires.begun c.in-Err.ensures c.placed.ensures
