use Rattle.std.proofs.Common.{refl, ap, sym, ◌∙◌, List, arith}
use Rattle.usda_machine.specs.Stacks.{stack_of}
use Rattle.usda_words.specs.Words.{Word as SaidWord}
use Rattle.usda_words.specs.Sources.{words_left}
use Rattle.usda_reader.specs.Reading.{run_from}
use Rattle.usda_reader.proofs.Runs.{refused_there, ends, breaks_off_at}
use Rattle.usda_reader.proofs.words.take_words.Goals as goal

pub loop-word-init : goal.loop-word-init
loop-word-init c = refl

pub loop-word-smaller : goal.loop-word-smaller
loop-word-smaller c = rw c.in-Some.ensures.answer (omega arith)

pub loop-word-preserved : goal.loop-word-preserved
loop-word-preserved c =
    c.loop-word.invariant
    ∙ ap (λ (ws : List SaidWord). run_from c.args.end (stack_of c.loop-word.stack) c.loop-word.draft ws) c.in-Some.ensures.answer
    ∙ c.in_default-take_word.ensures c.args.end (words_left c.next.new.self)

pub returns-in-Err : goal.returns-in-Err
returns-in-Err c =
    refused_there c.in-Err.fault c.take_word.new.draft _ _ _
    (c.loop-word.invariant ∙ ap (λ (ws : List SaidWord). run_from c.args.end (stack_of c.loop-word.stack) c.loop-word.draft ws) c.in-Some.ensures.answer)
    (c.in-Err.ensures c.args.end (words_left c.next.new.self))

pub returns-then-is_done : goal.returns-then-is_done
returns-then-is_done c =
    c.loop-word.invariant
    ∙ ap (λ (ws : List SaidWord). run_from c.args.end (stack_of c.loop-word.stack) c.loop-word.draft ws) c.in_default.ensures.answer.0
    ∙ ends c.args.end (stack_of c.loop-word.stack) c.loop-word.draft (sym c.is_done.ensures ∙ c.if-is_done.true)

pub returns-else-is_done : goal.returns-else-is_done
returns-else-is_done c =
    breaks_off_at c.args.end (stack_of c.loop-word.stack) c.loop-word.draft c.syntax.result _
    (c.loop-word.invariant ∙ ap (λ (ws : List SaidWord). run_from c.args.end (stack_of c.loop-word.stack) c.loop-word.draft ws) c.in_default.ensures.answer.0)
    c.syntax.ensures (sym c.is_done.ensures ∙ c.if-is_done.false)
