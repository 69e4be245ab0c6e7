use Rattle.std.proofs.Common.{◌∙◌, List, ℕ, sym, ap, subst}
use Rattle.std.specs.Str.{is_utf8, IsUtf8}
use Rattle.std.proofs.lemmas.Str.{IsCharBoundary-start, is_utf8-from_IsUtf8}
use Rattle.usda_lexer.specs.declared.token.LexFault.TheVariants.{NotUtf8}
use Rattle.usda_lexer.proofs.Cuts.{not_utf8}
use Rattle.usda_lexer.proofs.tokens.Tokens.new.Goals as goal

pub invariant_of-result : goal.invariant_of-result
invariant_of-result c = IsCharBoundary-start c.in-Ok.source.now (subst IsUtf8 (sym c.in-Ok.ensures.cases.0) c.in-Ok.ensures.cases.1)

pub returns-in-Ok : goal.returns-in-Ok
returns-in-Ok c = (is_utf8-from_IsUtf8 c.args.source.now c.in-Ok.ensures.cases.1, ap (λ (s : List ℕ). record { source = s; at = 0 }) c.in-Ok.ensures.cases.0)

pub returns-in-Err : goal.returns-in-Err
returns-in-Err c = (not_utf8 c.args.source.now c.in-Err.ensures.cases.0, ap NotUtf8 (c.valid_up_to.ensures ∙ c.in-Err.ensures.valid_len))
