-- Marks are tokens, and what begins with a quote, `@` or `<` is no name and no number.
use Rattle.std.proofs.Common.{◌≡◌, ◌∙◌, ℕ, ◌<◌, true, false, List, ◌∷◌, Ok, ap, refl, arith}
use Rattle.std.specs.Prelude.{if◌then◌else◌, ◌==◌, ◌+◌}
use Rattle.unicode_ident.proofs.Computing.{unicode_ident}
use Rattle.usd_names.specs.Names.{is_start}
use Rattle.usda_lexer.specs.declared.token.Mark.TheVariants.{Dot, OpenParen, CloseParen, OpenBrace, CloseBrace, OpenBracket, CloseBracket, Equals, Comma, Semicolon}
use Rattle.usda_lexer.specs.declared.token.TokenKind.TheVariants as kind
use Rattle.usda_lexer.specs.Forms.{digits_len, scaled_len, number_len}
use Rattle.usda_lexer.specs.Words.{found, name_or_other, number_or_mark, quoted_or_mark}
use Rattle.sdf_paths.proofs.NameRuns.{start_dot}
use Rattle.value_texts.proofs.NumberTokens.{no_name}

no_starts : (is_start 40 ≡ false) × (is_start 41 ≡ false) × (is_start 123 ≡ false) × (is_start 125 ≡ false) × (is_start 91 ≡ false) × (is_start 93 ≡ false) × (is_start 61 ≡ false) × (is_start 44 ≡ false)
    × (is_start 59 ≡ false) × (is_start 34 ≡ false) × (is_start 64 ≡ false) × (is_start 60 ≡ false)
unfolding unicode_ident is_start
no_starts = (refl, refl, refl, refl, refl, refl, refl, refl, refl, refl, refl, refl)

other : (at c : ℕ) (cs : List ℕ) → c < 128 → is_start c ≡ false → found at (c ∷ cs) ≡ name_or_other at 0 (c ∷ cs)
unfolding found
other at c cs low h = ap (λ n. name_or_other at n (c ∷ cs)) (no_name c cs low h)

pub open_paren : (at : ℕ) (cs : List ℕ) → found at (40 ∷ cs) ≡ Ok (kind.Mark OpenParen, 1)
open_paren at cs = other at 40 cs (omega arith) no_starts.0

pub close_paren : (at : ℕ) (cs : List ℕ) → found at (41 ∷ cs) ≡ Ok (kind.Mark CloseParen, 1)
close_paren at cs = other at 41 cs (omega arith) no_starts.1

pub open_brace : (at : ℕ) (cs : List ℕ) → found at (123 ∷ cs) ≡ Ok (kind.Mark OpenBrace, 1)
open_brace at cs = other at 123 cs (omega arith) no_starts.2

pub close_brace : (at : ℕ) (cs : List ℕ) → found at (125 ∷ cs) ≡ Ok (kind.Mark CloseBrace, 1)
close_brace at cs = other at 125 cs (omega arith) no_starts.3

pub open_bracket : (at : ℕ) (cs : List ℕ) → found at (91 ∷ cs) ≡ Ok (kind.Mark OpenBracket, 1)
open_bracket at cs = other at 91 cs (omega arith) no_starts.4

pub close_bracket : (at : ℕ) (cs : List ℕ) → found at (93 ∷ cs) ≡ Ok (kind.Mark CloseBracket, 1)
close_bracket at cs = other at 93 cs (omega arith) no_starts.5

pub equals : (at : ℕ) (cs : List ℕ) → found at (61 ∷ cs) ≡ Ok (kind.Mark Equals, 1)
equals at cs = other at 61 cs (omega arith) no_starts.6

pub comma : (at : ℕ) (cs : List ℕ) → found at (44 ∷ cs) ≡ Ok (kind.Mark Comma, 1)
comma at cs = other at 44 cs (omega arith) no_starts.7

pub semicolon : (at : ℕ) (cs : List ℕ) → found at (59 ∷ cs) ≡ Ok (kind.Mark Semicolon, 1)
semicolon at cs = other at 59 cs (omega arith) no_starts.8

pub quote : (at : ℕ) (cs : List ℕ) → found at (34 ∷ cs) ≡ quoted_or_mark at 34 cs
quote at cs = other at 34 cs (omega arith) no_starts.9

pub at_sign : (at : ℕ) (cs : List ℕ) → found at (64 ∷ cs) ≡ quoted_or_mark at 64 cs
at_sign at cs = other at 64 cs (omega arith) no_starts.10

pub less : (at : ℕ) (cs : List ℕ) → found at (60 ∷ cs) ≡ quoted_or_mark at 60 cs
less at cs = other at 60 cs (omega arith) no_starts.11

point_len : (cs : List ℕ) → digits_len cs ≡ 0 → number_len (46 ∷ cs) ≡ 0
point_len cs none = ap (λ n. scaled_len 0 (if (if n == 0 then false else true) then 0 + 1 + n else 0) (46 ∷ cs)) none

-- a point behind which no digit stands is a mark
pub dot : (at : ℕ) (cs : List ℕ) → digits_len cs ≡ 0 → found at (46 ∷ cs) ≡ Ok (kind.Mark Dot, 1)
dot at cs none = other at 46 cs (omega arith) start_dot ∙ ap (λ n. number_or_mark at n (46 ∷ cs)) (point_len cs none)
