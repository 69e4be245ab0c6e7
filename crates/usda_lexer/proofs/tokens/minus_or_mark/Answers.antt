use Rattle.std.proofs.Common.{◌∙◌, sym, arith}
use Rattle.usda_lexer.proofs.Cuts.{cut_after_first, found_boundary}
use Rattle.usda_lexer.proofs.tokens.minus_or_mark.Goals as goal

pub split_at-requires : goal.split_at-requires
split_at-requires c =
    cut_after_first c.args.text.now c.in-Some.rest.now c.in-Some.first.now c.utf8.text (sym c.as_bytes.ensures.value ∙ c.in-Some.ensures.cases.0) (omega (arith, c.if-first-eq45.true))

pub returns-clause-boundary : goal.returns-clause-boundary
returns-clause-boundary c =
    found_boundary c.quoted_or_mark.result c.args.text.now c.in-Some.rest.now c.in-Some.first.now c.utf8.text (sym c.as_bytes.ensures.value ∙ c.in-Some.ensures.cases.0) c.quoted_or_mark.ensures.ends
