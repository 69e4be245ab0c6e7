use Rattle.std.proofs.Common.{◌<◌, subst, arith, ℕ, List}
use Rattle.usda_lexer.specs.Forms.{EndsIn}
use Rattle.usda_lexer.proofs.Cuts.{ends_boundary}
use Rattle.usda_lexer.proofs.tokens.number_or_mark.Goals as goal

pub split_at-requires : goal.split_at-requires
split_at-requires c =
    ends_boundary c.args.text.now c.number_len-len.result c.utf8.text
    (subst (λ (t : List ℕ). EndsIn 0 t c.number_len-len.result) c.as_bytes.ensures.value (c.number_len-len.ensures.ends (omega (arith, c.if-len-eq0.false))))

pub returns-in-Some-clause-boundary : goal.returns-in-Some-clause-boundary
returns-in-Some-clause-boundary c =
    let some : 0 < c.number_len-len.result = omega (arith, c.if-len-eq0.false) in
    (some, ends_boundary c.args.text.now c.number_len-len.result c.utf8.text (subst (λ (t : List ℕ). EndsIn 0 t c.number_len-len.result) c.as_bytes.ensures.value (c.number_len-len.ensures.ends some)))
