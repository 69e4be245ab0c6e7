-- What productions are made of. Each word of a production names the symbol by which it is acted on: what it adds to a draft.
use Rattle.std.specs.Prelude.{Bool, List, [], ◌∷◌}
use Rattle.usda_grammar.specs.declared.kinds.WordKind.{WordKind}
use Rattle.usda_grammar.specs.declared.kinds.WordKind.TheVariants as token
use Rattle.usda_grammar.specs.declared.kinds.Keyword.{Keyword}
use Rattle.usda_grammar.specs.declared.symbols.Symbol.{Symbol}
use Rattle.usda_grammar.specs.declared.symbols.Symbol.TheVariants as symbol
use Rattle.usda_productions.specs.Tokens.{is, is_name, is_name_but}

-- the names of the productions; one that stands at several places has the symbol by which its first word is acted on there
pub data Rule : Type 0 where
  root_statement : Rule
  head_item : Rule
  sublayer_list : Rule
  sublayer : Rule
  offset_item : Rule
  prim : Symbol → Rule
  prim_item : Rule
  edited_field : Rule
  field : Symbol → Rule
  string_list : Rule
  path_list : Rule
  reference_list : Rule
  reference : Symbol → Rule
  statement : Rule
  variant_set : Rule
  variant : Rule
  relationship : Symbol → Rule
  after_reorder : Rule
  after_edit : Rule
  after_edited_custom : Rule
  after_edited_variability : Rule
  after_custom : Rule
  after_variability : Rule
  after_dot : Rule
  edited_dot : Rule
  sample : Rule
  property_item : Rule
  value : Symbol → Rule
  dictionary : Symbol → Rule
  entry : Rule
  name_list : Rule

mutual
  -- a form: what may stand at a place of a text
  pub data Form : Type 0 where
    -- a word of some kinds, which adds what this symbol says
    one : Symbol → (WordKind → Bool) → Form
    -- what a production says
    rule : Rule → Form
    either : Seq → Seq → Form
    -- it, or nothing
    maybe : Seq → Form
    -- it any number of times
    many : Seq → Form
    -- What follows the first of one or more, with commas between them and perhaps one behind them, up to a closing mark. The first
    -- symbol is that of the next one, or of the mark behind a comma; the second is that of a comma, or of the mark behind an item.
    more : Symbol → Symbol → Form → WordKind → Form

  -- forms one behind the other
  pub data Seq : Type 0 where
    nil : Seq
    then : Form → Seq → Seq

-- the forms of a sequence, in their order
abbrev pub list_of : Seq → List Form
list_of nil = []
list_of (then f s) = f ∷ list_of s

-- one form after another
infixr 20 ◌▹◌
abbrev pub ◌▹◌ : Form → Seq → Seq
f ▹ s = then f s

-- one or the other
infixr 15 ◌∣◌
abbrev pub ◌∣◌ : Seq → Seq → Seq
a ∣ b = then (either a b) nil

-- one form alone
abbrev pub just : Form → Seq
just f = then f nil

-- a token of one kind
abbrev pub tok : Symbol → WordKind → Form
tok s k = one s (is k)

-- a word of the grammar
abbrev pub wrd : Symbol → Keyword → Form
wrd s w = one s (is (token.Word w))

-- any name, also one that is a word of the grammar elsewhere
abbrev pub any_name : Symbol → Form
any_name s = one s is_name

-- a name, but none of these words
abbrev pub name_but : Symbol → List Keyword → Form
name_but s ws = one s (is_name_but ws)

-- one or more with commas between them and perhaps one behind them, up to a closing mark
abbrev pub commas : Symbol → Symbol → Form → WordKind → Seq
commas next behind f k = f ▹ just (more next behind f k)

-- none, or so many
abbrev pub listed : Symbol → Symbol → Form → WordKind → Form
listed next behind f k = either (tok next k ▹ nil) (commas next behind f k)

-- ---- marks that add nothing

abbrev pub equals : Form
equals = tok symbol.Equals token.Equals

abbrev pub colon : Form
colon = tok symbol.Colon token.Colon

abbrev pub dot : Form
dot = tok symbol.Dot token.Dot

abbrev pub close_paren : Form
close_paren = tok symbol.CloseParen token.CloseParen

abbrev pub close_brace : Form
close_brace = tok symbol.CloseBrace token.CloseBrace

-- one `;`, or none
abbrev pub semicolon : Form
semicolon = maybe (tok symbol.MaybeSemicolon token.Semicolon ▹ nil)

-- `{`; behind the head of a prim that is nested too deep it is refused
abbrev pub open_brace : Form
open_brace = tok symbol.OpenBrace token.OpenBrace

-- ---- marks that have a part in what is said

-- the `}` of a prim or a variant, which is over with it
abbrev pub body_end : Form
body_end = tok symbol.BodyEnd token.CloseBrace

-- something in brackets, or nothing; the symbol is that of the `(`, which is refused as the `{` is
abbrev pub in_brackets : Symbol → Rule → Form
in_brackets opening r = maybe (tok opening token.OpenParen ▹ many (rule r ▹ nil) ▹ close_paren ▹ nil)

-- `[` and `]`, or nothing; the `[` makes the type that of an array
abbrev pub array_mark : Form
array_mark = maybe (tok symbol.MaybeBrackets token.OpenBracket ▹ tok symbol.CloseBracket token.CloseBracket ▹ nil)
