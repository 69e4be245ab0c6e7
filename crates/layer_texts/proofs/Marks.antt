-- Marks with the blanks round them.
use Rattle.std.proofs.Common.{◌≡◌, ℕ, false, List, [], ◌∷◌, Ok, ap, refl, arith}
use Rattle.std.specs.Prelude.{codes}
use Rattle.unicode_ident.proofs.Computing.{unicode_ident}
use Rattle.usd_names.specs.Names.{is_start}
use Rattle.sdf_values.specs.Print.{blanks}
use Rattle.usda_lexer.specs.declared.token.Mark.TheVariants.{Colon}
use Rattle.usda_lexer.specs.declared.token.TokenKind.TheVariants as kind
use Rattle.usda_lexer.specs.Words.{found, name_or_other}
use Rattle.value_texts.specs.Follows.{anything}
use Rattle.value_texts.specs.ValueWords.{open_paren, close_paren, open_bracket, close_bracket, open_brace, close_brace, comma, semicolon, equals}
use Rattle.value_texts.proofs.NumberTokens.{no_name}
use Rattle.value_texts.proofs.Pieces.{token_cut}
use Rattle.value_texts.proofs.TokenCuts as cut
use Rattle.layer_texts.specs.Spelled.{IsSpelled}
use Rattle.layer_texts.specs.PropertyWords.{colon}
use Rattle.layer_texts.proofs.Spelled.{of_cut, then_more}

pub space : IsSpelled anything (codes " ") []
space = of_cut anything (codes " ") [] refl (λ at rest k. cut.space_cut at rest)

pub line_feed : IsSpelled anything (codes "\n") []
line_feed = of_cut anything (codes "\n") [] refl (λ at rest k. cut.line_feed_cut at rest)

pub indent : (level : ℕ) → IsSpelled anything (blanks level) []
indent level = of_cut anything (blanks level) [] refl (λ at rest k. cut.blanks_cut level at rest)

pub paren : IsSpelled anything (codes "(") (open_paren ∷ [])
paren = of_cut anything (codes "(") (open_paren ∷ []) refl (λ at rest k. cut.open_paren_cut at rest)

pub paren_end : IsSpelled anything (codes ")") (close_paren ∷ [])
paren_end = of_cut anything (codes ")") (close_paren ∷ []) refl (λ at rest k. cut.close_paren_cut at rest)

pub bracket : IsSpelled anything (codes "[") (open_bracket ∷ [])
bracket = of_cut anything (codes "[") (open_bracket ∷ []) refl (λ at rest k. cut.open_bracket_cut at rest)

pub bracket_end : IsSpelled anything (codes "]") (close_bracket ∷ [])
bracket_end = of_cut anything (codes "]") (close_bracket ∷ []) refl (λ at rest k. cut.close_bracket_cut at rest)

pub brace : IsSpelled anything (codes "{") (open_brace ∷ [])
brace = of_cut anything (codes "{") (open_brace ∷ []) refl (λ at rest k. cut.open_brace_cut at rest)

pub brace_end : IsSpelled anything (codes "}") (close_brace ∷ [])
brace_end = of_cut anything (codes "}") (close_brace ∷ []) refl (λ at rest k. cut.close_brace_cut at rest)

pub comma_mark : IsSpelled anything (codes ",") (comma ∷ [])
comma_mark = of_cut anything (codes ",") (comma ∷ []) refl (λ at rest k. cut.comma_cut at rest)

pub semicolon_mark : IsSpelled anything (codes ";") (semicolon ∷ [])
semicolon_mark = of_cut anything (codes ";") (semicolon ∷ []) refl (λ at rest k. cut.semicolon_cut at rest)

pub equals_mark : IsSpelled anything (codes "=") (equals ∷ [])
equals_mark = of_cut anything (codes "=") (equals ∷ []) refl (λ at rest k. cut.equals_cut at rest)

colon_starts_none : is_start 58 ≡ false
unfolding unicode_ident is_start
colon_starts_none = refl

colon_found : (at : ℕ) (cs : List ℕ) → found at (58 ∷ cs) ≡ Ok (kind.Mark Colon, 1)
unfolding found
colon_found at cs = ap (λ n. name_or_other at n (58 ∷ cs)) (no_name 58 cs (omega arith) colon_starts_none)

pub colon_mark : IsSpelled anything (codes ":") (colon ∷ [])
colon_mark = of_cut anything (codes ":") (colon ∷ []) refl (λ at rest k. token_cut at colon.kind 58 [] rest refl (colon_found at rest))

pub comma_space : IsSpelled anything (codes ", ") (comma ∷ [])
comma_space = then_more comma_mark space

pub colon_space : IsSpelled anything (codes ": ") (colon ∷ [])
colon_space = then_more colon_mark space

pub semicolon_space : IsSpelled anything (codes "; ") (semicolon ∷ [])
semicolon_space = then_more semicolon_mark space

pub equals_space : IsSpelled anything (codes " = ") (equals ∷ [])
equals_space = then_more space (then_more equals_mark space)

pub space_paren : IsSpelled anything (codes " (") (open_paren ∷ [])
space_paren = then_more space paren

pub block_start : IsSpelled anything (codes " (\n") (open_paren ∷ [])
block_start = then_more space (then_more paren line_feed)

pub head_start : IsSpelled anything (codes "(\n") (open_paren ∷ [])
head_start = then_more paren line_feed

pub head_end : IsSpelled anything (codes ")\n") (close_paren ∷ [])
head_end = then_more paren_end line_feed

pub body_start : IsSpelled anything (codes " {\n") (open_brace ∷ [])
body_start = then_more space (then_more brace line_feed)

pub equals_brace : IsSpelled anything (codes " = {") (equals ∷ open_brace ∷ [])
equals_brace = then_more equals_space brace

pub set_start : IsSpelled anything (codes " = {\n") (equals ∷ open_brace ∷ [])
set_start = then_more equals_brace line_feed
