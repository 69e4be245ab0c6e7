use Rattle.std.proofs.Common.{arith}
use Rattle.usda_lexer.proofs.tokens.token_at.Goals as goal

pub overflow_add-result : goal.overflow_add-result
overflow_add-result c = omega (arith, c.in_ok-kind.ensures.boundary.1.0, c.split_at.ensures.back_len)
