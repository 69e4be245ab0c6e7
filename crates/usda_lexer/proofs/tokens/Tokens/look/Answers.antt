use Rattle.std.proofs.Common.{◌≡◌, ◌∙◌, ◌+◌, sym, ap, subst, arith, ℕ, List, drop, Ok, Err}
use Rattle.std.specs.Str.{IsCharBoundary}
use Rattle.usda_lexer.specs.declared.token.LexFault.TheVariants.{Unclosed}
use Rattle.usda_lexer.specs.Blanks.{gap}
use Rattle.usda_lexer.specs.Words.{Lexer, StandsIn}
use Rattle.usda_lexer.specs.declared.blanks.Between.TheVariants.{Blank}
use Rattle.usda_lexer.proofs.Gaps.{gap_open}
use Rattle.usda_lexer.proofs.Stands.{stands, stands_open, behind_gap}
use Rattle.usda_lexer.proofs.tokens.Tokens.look.Goals as goal

pub token_at-requires : goal.token_at-requires
token_at-requires c =
    behind_gap c.self.inside.source.now c.self.inside.at c.in-Ok.gap c.self.invariant.0 (subst (λ (t : List ℕ). IsCharBoundary t c.in-Ok.gap) c.split_at.ensures.back c.in-Ok.ensures.boundary)

pub overflow_add-result : goal.overflow_add-result
overflow_add-result c =
    let open_at : gap Blank 0 0 c.split_at.result.1.now ≡ Err c.in-Err.gap = sym c.in-Err.ensures.value in
    omega (arith, (gap_open c.split_at.result.1.now c.in-Err.gap open_at).0, c.split_at.ensures.back_len, c.self.told.0)

pub returns-in-Ok-clause-place : goal.returns-in-Ok-clause-place
returns-in-Ok-clause-place c =
    let ends : gap Blank 0 0 (drop c.self.inside.at c.self.inside.source.now) ≡ Ok c.in-Ok.gap = ap (gap Blank 0 0) (sym c.split_at.ensures.back) ∙ sym c.in-Ok.ensures.value in
    subst (λ (s : Lexer). StandsIn c.token_at.result s) c.self.view_is (stands c.token_at.result c.self.inside.source.now c.self.inside.at c.in-Ok.gap ends c.token_at.ensures.place)

pub returns-in-Err-clause-place : goal.returns-in-Err-clause-place
returns-in-Err-clause-place c =
    let open_at : gap Blank 0 0 (drop c.self.inside.at c.self.inside.source.now) ≡ Err c.in-Err.gap = ap (gap Blank 0 0) (sym c.split_at.ensures.back) ∙ sym c.in-Err.ensures.value in
    subst (λ (s : Lexer). StandsIn (Err (Unclosed (c.self.inside.at + c.in-Err.gap))) s) c.self.view_is (stands_open c.self.inside.source.now c.self.inside.at c.in-Err.gap open_at)
