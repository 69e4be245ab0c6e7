use Rattle.usda_lexer.proofs.Steps.{answers_peek}
use Rattle.usda_lexer.proofs.tokens.Tokens.peek.Goals as goal

pub returns-clause-answer : goal.returns-clause-answer
returns-clause-answer c = answers_peek c.look.result c.args.self.now c.look.ensures.value c.look.ensures.place
