-- Which tokens and words a text that is UTF-8 has, and which of them values are read from.
use Rattle.std.specs.Prelude.{◌≡◌, ◌⊎◌, ℕ, Bool, true, ◌&&◌, List, [], ◌∷◌}
use Rattle.std.specs.Str.{is_utf8}
use Rattle.usd_names.specs.Names.{is_name}
use Rattle.usda_grammar.specs.declared.kinds.WordKind.TheVariants as word
use Rattle.usda_lexer.specs.Meanings.{asset_text, path_text}
use Rattle.usda_lexer.specs.Words.{Word as Token}
use Rattle.usda_lexer.specs.declared.token.TokenKind.{TokenKind}
use Rattle.usda_lexer.specs.declared.token.TokenKind.TheVariants as kind
use Rattle.usda_words.specs.Words.{Word}
use Rattle.value_texts.specs.Writable.{is_writable_asset}
use Rattle.value_returns.specs.FullPaths.{is_full_path}

-- A token as a text has it: a name is one, and what stands between the delimiters of an asset or a path is UTF-8; an asset never has
-- three `@` in a row. What strings and numbers mean is asked where they are taken.
abbrev pub is_lexed : TokenKind → List ℕ → Bool
is_lexed kind.Name text = is_utf8 text && is_name text
is_lexed kind.Asset text = is_utf8 (asset_text text) && is_writable_asset (asset_text text)
is_lexed kind.Path text = is_utf8 (path_text text)
is_lexed k text = true

-- each of the tokens is
abbrev pub AreLexed : List Token → Type 0
AreLexed [] = Unit {0}
AreLexed (t ∷ ts) = (is_lexed t.kind t.text ≡ true) × AreLexed ts

-- the token of a word is, or the word is a fault
abbrev pub IsLexedWord : Word → Type 0
IsLexedWord w = (is_lexed w.token w.text ≡ true) ⊎ (w.kind ≡ word.Fault)

-- each of the words is such
abbrev pub AreLexedWords : List Word → Type 0
AreLexedWords [] = Unit {0}
AreLexedWords (w ∷ ws) = IsLexedWord w × AreLexedWords ws

-- a token of a value, as a text has it, whose path, where it is one, goes from the root down, as paths are printed
abbrev pub is_sound_token : TokenKind → List ℕ → Bool
is_sound_token kind.Path text = is_utf8 (path_text text) && is_full_path (path_text text)
is_sound_token k text = is_lexed k text
