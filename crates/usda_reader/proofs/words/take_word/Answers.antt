use Rattle.std.proofs.Common.{Ok, ap}
use Rattle.usda_machine.specs.Stacks.{stack_of}
use Rattle.usda_words.specs.Sources.{word_of}
use Rattle.usda_reader.proofs.Runs.{some_step, no_step, goes_on, stops_at}
use Rattle.usda_reader.proofs.words.take_word.Goals as goal

pub returns-in-Some : goal.returns-in-Some
returns-in-Some c =
    let at = some_step (Ok c.in_ok-symbol.field-0) (stack_of c.step.new.stack) _ c.in-Some.symbol (ap Ok c.in-Some.is) c.in_ok-symbol.ensures in
    λ end ws. goes_on end (stack_of c.args.stack.now) (stack_of c.step.new.stack) c.in-Some.symbol c.args.draft.now c.act.new.self (word_of c.args.word.now) ws c.act.result at c.act.ensures

pub returns-in-None : goal.returns-in-None
returns-in-None c =
    let at = no_step (Ok c.in_ok-symbol.field-0) (stack_of c.step.new.stack) _ (ap Ok c.in-None.is) c.in_ok-symbol.ensures in
    λ end ws. stops_at end (stack_of c.args.stack.now) c.args.draft.now (word_of c.args.word.now) ws c.syntax.result _ c.syntax.ensures at
