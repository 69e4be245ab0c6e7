use Rattle.std.proofs.Common.{sym}
use Rattle.usda_reader.proofs.Exact.{checked, unchecked}
use Rattle.usda_reader.proofs.read.read.Goals as goal

pub returns-in-Some-clause-answer : goal.returns-in-Some-clause-answer
returns-in-Some-clause-answer c = checked c.args.bytes.now c.in-Some.refused c.refusal_at.result (sym c.in-Some.ensures) c.refusal_at.ensures

pub returns-in-None-clause-answer : goal.returns-in-None-clause-answer
returns-in-None-clause-answer c = unchecked c.args.bytes.now c.read_passed.result (sym c.in-None.ensures) c.read_passed.ensures
