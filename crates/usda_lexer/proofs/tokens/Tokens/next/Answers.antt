use Rattle.std.proofs.Common.{◌<◌, ap, refl, arith, Ok, Err, Some, None}
use Rattle.usda_lexer.specs.Words.{Lexer}
use Rattle.usda_lexer.proofs.Steps.{answers_next, left_none, left_fault}
use Rattle.usda_lexer.proofs.tokens.Tokens.next.Goals as goal

pub returns-in-Ok-Some-clause-answer : goal.returns-in-Ok-Some-clause-answer
returns-in-Ok-Some-clause-answer c =
    let all = rw c.in-Ok-Some.field-0-is at c.in-Ok-Some.ensures in
    let behind : c.args.self.now.at < c.in-Ok-Some.token.end = omega (arith, all.place.behind, all.place.some) in
    answers_next c.in-Ok-Some.token c.args.self.now _ all.value behind (ap (λ (s : Lexer). record { source = s.source; at = c.in-Ok-Some.token.end }) c.self.view_is)

pub returns-in-Ok-None-clause-answer : goal.returns-in-Ok-None-clause-answer
returns-in-Ok-None-clause-answer c =
    let all = rw c.in-Ok-None.field-0-is at c.in-Ok-None.ensures in
    (left_none c.args.self.now all.value, refl)

pub returns-in-Err-clause-answer : goal.returns-in-Err-clause-answer
returns-in-Err-clause-answer c = (left_fault c.args.self.now c.in-Err.fault c.in-Err.ensures.value, refl)
