-- What may follow a token, so that it ends there.
use Rattle.std.specs.Prelude.{ℕ, Bool, true, not, ◌&&◌, ◌||◌, ◌==◌, nat_lt, List, [], ◌∷◌}
use Rattle.unicode_ident.specs.Ident.{is_xid_continue}
use Rattle.sdf_values.specs.NumberTexts.{is_digit, is_mark}
use Rattle.usda_lexer.specs.Blanks.{is_blank, begins}

-- with this, no name goes on
abbrev pub ends_name : List ℕ → Bool
ends_name [] = true
ends_name (c ∷ cs) = nat_lt c 128 && (not (c == 58) && not (is_xid_continue c))

-- with this, no number goes on
abbrev pub ends_number : List ℕ → Bool
ends_number [] = true
ends_number (c ∷ cs) = not (is_digit c) && (not (c == 46) && not (is_mark c))

-- this byte does not stand in front
abbrev pub begins_not : ℕ → List ℕ → Bool
begins_not c rest = not (begins c rest)

-- whatever follows
abbrev pub anything : List ℕ → Bool
anything rest = true

-- a blank, a bracket, a comma, a semicolon or `=`: no token goes on with it
abbrev pub is_border : ℕ → Bool
is_border c =
    is_blank c || ((c == 40) || ((c == 41) || ((c == 91) || ((c == 93) || ((c == 123) || ((c == 125) || ((c == 44) || ((c == 59) || (c == 61)))))))))

-- the end of the text, or such a byte
abbrev pub may_follow : List ℕ → Bool
may_follow [] = true
may_follow (c ∷ cs) = is_border c
