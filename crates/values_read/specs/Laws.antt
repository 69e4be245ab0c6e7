-- What holds of the tokens of a text, and of each value that is read from them.
use Rattle.std.specs.Prelude.{◌≡◌, ℕ, Bool, true, false, List, Some, Ok}
use Rattle.std.specs.Str.{is_utf8}
use Rattle.sdf_paths.specs.Paths.{IsPath}
use Rattle.sdf_paths.specs.declared.element.Element.{Element}
use Rattle.usda_lexer.specs.Words.{tokens_of}
use Rattle.usda_lexer.specs.declared.token.TokenKind.{TokenKind}
use Rattle.usda_lexer.specs.declared.token.TokenKind.TheVariants as kind
use Rattle.usda_lists.specs.Paths.{absolute_from}
use Rattle.usda_statements.specs.OpenValues.{is_open, opened, given, value_in}
use Rattle.usda_statements.specs.declared.open_value.OpenValue.{OpenValue}
use Rattle.usda_values.specs.Drafts.{draft_of, value_act, is_complete, value_of}
use Rattle.usda_values.specs.declared.draft.ValueDraft.{ValueDraft}
use Rattle.usda_values.specs.declared.level.Place.TheVariants as place
use Rattle.usda_values.specs.declared.shape.Shape.{Shape}
use Rattle.usda_words.specs.Words.{words_of}
use Rattle.values_read.specs.Tokens.{is_lexed, AreLexed, AreLexedWords, is_sound_token}
use Rattle.values_read.specs.Sound.{IsSound, IsSoundDraft}

-- the tokens of a text that is UTF-8
abbrev pub TokensAreLexed : Type 0
TokensAreLexed = (text : List ℕ) → is_utf8 text ≡ true → AreLexed (tokens_of text).words

-- and its words
abbrev pub WordsAreLexed : Type 0
WordsAreLexed = (text : List ℕ) → is_utf8 text ≡ true → AreLexedWords (words_of text)

-- a path that is put behind that of its owner
abbrev pub ReadPathsAreSound : Type 0
ReadPathsAreSound = (base : List Element) (text token : List ℕ) → IsPath base → is_utf8 text ≡ true → absolute_from base text ≡ Some token → is_sound_token kind.Path token ≡ true

-- A value that is read from sound tokens is sound: the drafts in which nothing stands yet are, each token keeps a draft so, and the
-- value of one that is complete is.
pub record ReadValuesAreSound : Type 0 where
  pub value : (shape : Shape) → IsSoundDraft shape (draft_of place.Value shape)
  pub dictionary : (shape : Shape) → IsSoundDraft shape (draft_of place.Dictionary shape)
  pub kept : (shape : Shape) (d next : ValueDraft) (k : TokenKind) (text : List ℕ) → is_sound_token k text ≡ true → IsSoundDraft shape d → value_act k text d ≡ Ok next → IsSoundDraft shape next
  pub complete : (shape : Shape) (d : ValueDraft) → IsSoundDraft shape d → is_complete d ≡ true → IsSound 0 shape true (value_of d)

-- The same of the value of a statement, whose paths are put behind that of its owner first, and of a dictionary of selections.
pub record OpenValuesAreSound : Type 0 where
  pub begun : (shape : Shape) (only_strings : Bool) → IsSoundDraft shape (opened shape only_strings).draft
  pub kept : (shape : Shape) (base : List Element) (v next : OpenValue) (k : TokenKind) (text : List ℕ) → IsPath base → is_lexed k text ≡ true → IsSoundDraft shape v.draft → given base k text v ≡ Ok next → IsSoundDraft shape next.draft
  pub complete : (shape : Shape) (v : OpenValue) → IsSoundDraft shape v.draft → is_open v ≡ false → IsSound 0 shape true (value_in v)
