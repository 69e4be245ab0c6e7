-- What the grammar awaits of a value that is being read, and that its draft goes with the grammar.
use Rattle.std.specs.Prelude.{◌≡◌, ◌↔◌, ◌⊎◌, ℕ, Bool, true, false, not, ◌&&◌, List, [], ◌∷◌, ◌++◌, Some, None, Ok, Err}
use Rattle.std.specs.List.{list_all}
use Rattle.sdf_values.specs.declared.refusal.RefusalKind.TheVariants.{Syntax}
use Rattle.usda_grammar.specs.Machine.{step}
use Rattle.usda_grammar.specs.declared.kinds.WordKind.TheVariants as kind
use Rattle.usda_grammar.specs.declared.symbols.Symbol.{Symbol}
use Rattle.usda_grammar.specs.declared.symbols.Symbol.TheVariants as symbol
use Rattle.usda_lexer.specs.Meanings.{path_text}
use Rattle.usda_lexer.specs.declared.token.LexFault.TheVariants.{NumberTooLong}
use Rattle.usda_lexer.specs.declared.token.TokenKind.{TokenKind}
use Rattle.usda_lexer.specs.declared.token.TokenKind.TheVariants as form
use Rattle.usda_values.specs.Drafts.{Acted, draft_of, value_act, is_complete, is_statement}
use Rattle.usda_values.specs.PathTexts.{is_path_text}
use Rattle.usda_values.specs.Reads.{kind_of_fault}
use Rattle.usda_values.specs.declared.draft.ValueDraft.{ValueDraft}
use Rattle.usda_values.specs.declared.level.Bracket.{Bracket}
use Rattle.usda_values.specs.declared.level.Bracket.TheVariants as bracket
use Rattle.usda_values.specs.declared.level.Level.{Level}
use Rattle.usda_values.specs.declared.level.Place.{Place}
use Rattle.usda_values.specs.declared.level.Place.TheVariants as place
use Rattle.usda_values.specs.declared.shape.Shape.{Shape}
use Rattle.usda_words.specs.Words.{Word, kind_of, words_of}

-- ---- what is awaited

-- what stands behind a value in a level of this bracket
abbrev pub awaited_behind : Bracket → List Symbol
awaited_behind bracket.Statement = []
awaited_behind bracket.Tuple = symbol.MoreMembers ∷ []
awaited_behind bracket.Array = symbol.MoreElements ∷ []
awaited_behind bracket.Dict = symbol.MaybeSeparator ∷ symbol.DictionaryEntries ∷ symbol.CloseBrace ∷ []

-- a further member of a tuple or an array, or the end of it; no other level has such a place
abbrev pub awaited_or_end : Bracket → List Symbol
awaited_or_end bracket.Tuple = symbol.MembersOrEnd ∷ []
awaited_or_end bracket.Array = symbol.ElementsOrEnd ∷ []
awaited_or_end b = []

-- the key of an entry, its value and what stands behind it
abbrev pub awaited_entry : List Symbol
awaited_entry = symbol.EntryKey ∷ symbol.Equals ∷ symbol.Value ∷ awaited_behind bracket.Dict

-- what stands at a place of a level, up to its end
abbrev pub awaited_at : Place → Bracket → List Symbol
awaited_at place.Value b = symbol.Value ∷ awaited_behind b
awaited_at place.ValueOrEnd b = awaited_or_end b
awaited_at place.BehindMember b = awaited_behind b
awaited_at place.EntryType b = symbol.DictionaryEntries ∷ symbol.CloseBrace ∷ []
awaited_at place.BehindType b = symbol.MaybeBrackets ∷ awaited_entry
awaited_at place.TypeEnd b = symbol.CloseBracket ∷ awaited_entry
awaited_at place.Key b = awaited_entry
awaited_at place.Equals b = symbol.Equals ∷ symbol.Value ∷ awaited_behind b
awaited_at place.BehindEntry b = awaited_behind b
awaited_at place.Dictionary b = symbol.Dictionary ∷ awaited_behind b
awaited_at place.Complete b = []

-- what stands behind the value that is open in each of these levels, of which the last is the innermost
abbrev pub awaited_outside : List Level → List Symbol
awaited_outside [] = []
awaited_outside (l ∷ ls) = awaited_outside ls ++ awaited_behind l.bracket

-- the symbols that stand for what is open of a value
abbrev pub awaited : ValueDraft → List Symbol
awaited d = awaited_at d.place d.level.bracket ++ awaited_outside d.outer

-- ---- which drafts there are

-- the level is that of a tuple, an array or a dictionary, and not that of the statement
abbrev pub is_inner : Level → Bool
is_inner l = not (is_statement l.bracket)

-- these levels and an innermost one of this bracket: the outermost is the whole value, and no other one is
abbrev pub are_levels : List Level → Bracket → Bool
are_levels [] b = is_statement b
are_levels (l ∷ ls) b = is_statement l.bracket && (list_all is_inner ls && not (is_statement b))

-- whether a level of this bracket has the place
abbrev pub is_place_of : Place → Bracket → Bool
is_place_of place.Value bracket.Statement = true
is_place_of place.Value bracket.Tuple = true
is_place_of place.Value bracket.Dict = true
is_place_of place.ValueOrEnd bracket.Tuple = true
is_place_of place.ValueOrEnd bracket.Array = true
is_place_of place.BehindMember bracket.Tuple = true
is_place_of place.BehindMember bracket.Array = true
is_place_of place.EntryType bracket.Dict = true
is_place_of place.BehindType bracket.Dict = true
is_place_of place.TypeEnd bracket.Dict = true
is_place_of place.Key bracket.Dict = true
is_place_of place.Equals bracket.Dict = true
is_place_of place.BehindEntry bracket.Dict = true
is_place_of place.Dictionary bracket.Statement = true
is_place_of place.Complete bracket.Statement = true
is_place_of p b = false

-- its levels stand in one another, and its place is one of the innermost of them
abbrev pub is_formed : ValueDraft → Bool
is_formed d = is_place_of d.place d.level.bracket && are_levels d.outer d.level.bracket

-- ---- the law

-- a path between `<` and `>` whose text is no path
abbrev pub IsNoPath : TokenKind → List ℕ → Type 0
IsNoPath f text = (f ≡ form.Path) × (is_path_text (path_text text) ≡ false)

-- What the draft makes of a token that the grammar takes, where these symbols are left above those below: the draft that awaits them.
-- Where it refuses the token, it is not for the grammar's sake, but for a path that is none.
abbrev pub GoesWith : TokenKind → List ℕ → List Symbol → List Symbol → Acted → Type 0
GoesWith f text below after (Ok next) = (is_formed next ≡ true) × (after ≡ awaited next ++ below)
GoesWith f text below after (Err r) = r ≡ Syntax → IsNoPath f text

-- what a word is to the grammar is what its token is, or a fault
abbrev pub IsOfToken : Word → Type 0
IsOfToken w = (w.kind ≡ kind_of w.token w.text) ⊎ (w.kind ≡ kind.Fault)

-- each of the words is what its token is to the grammar, or a fault
abbrev pub AreOfTokens : List Word → Type 0
AreOfTokens [] = Unit {0}
AreOfTokens (w ∷ ws) = IsOfToken w × AreOfTokens ws

-- The draft of a value goes with the grammar: while it is not complete, it answers `Syntax` to exactly the tokens that the grammar
-- does not take from what is awaited, and to paths that are none.
pub record AreFollowing : Type 0 where
  -- a draft in which nothing stands yet awaits a value, or a dictionary
  pub value : (shape : Shape) → (is_formed (draft_of place.Value shape) ≡ true) × (awaited (draft_of place.Value shape) ≡ symbol.Value ∷ [])
  pub dictionary : (shape : Shape) → (is_formed (draft_of place.Dictionary shape) ≡ true) × (awaited (draft_of place.Dictionary shape) ≡ symbol.Dictionary ∷ [])
  -- a draft that is complete awaits nothing
  pub complete : (d : ValueDraft) → is_formed d ≡ true → is_complete d ≡ true → awaited d ≡ []
  -- a word that the grammar takes, whatever stands below
  pub taken : (d : ValueDraft) (w : Word) (below : List Symbol) (s : Symbol) (after : List Symbol) → is_formed d ≡ true → is_complete d ≡ false → IsOfToken w
      → step (awaited d ++ below) w.kind ≡ Some (s, after) → GoesWith w.token w.text below after (value_act w.token w.text d)
  -- a token that the grammar does not take
  pub refused : (d : ValueDraft) (f : TokenKind) (text : List ℕ) (below : List Symbol) → is_formed d ≡ true → is_complete d ≡ false
      → step (awaited d ++ below) (kind_of f text) ≡ None → value_act f text d ≡ Err Syntax
  -- a path that is none, wherever it stands
  pub no_path : (d : ValueDraft) (text : List ℕ) → is_path_text (path_text text) ≡ false → value_act form.Path text d ≡ Err Syntax
  -- a number that is too long is refused for syntax exactly where any number is
  pub too_long : (d : ValueDraft) (text : List ℕ) (at : ℕ) → (kind_of_fault (NumberTooLong at) d.place ≡ Syntax) ↔ (value_act form.Number text d ≡ Err Syntax)
  -- each word of a text is one of these
  pub words : (text : List ℕ) → AreOfTokens (words_of text)
