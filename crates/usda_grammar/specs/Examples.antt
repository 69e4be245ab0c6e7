-- Texts of tokens in the grammar and out of it.
use Rattle.std.specs.Prelude.{◌≡◌, ℕ, ◌+◌, true, false, List, [], ◌∷◌, ◌++◌, codes, Option, Some, None}
use Rattle.usda_grammar.specs.declared.kinds.WordKind.{WordKind}
use Rattle.usda_grammar.specs.declared.kinds.WordKind.TheVariants.{Number, Quoted, Asset, Path, OpenParen, CloseParen, OpenBrace, CloseBrace, OpenBracket, CloseBracket, Equals, Comma, Semicolon, Colon, Dot, Fault}
use Rattle.usda_grammar.specs.declared.symbols.Symbol.{Symbol}
use Rattle.usda_grammar.specs.Table.{layer}
use Rattle.usda_grammar.specs.Machine.{step, is_done}
use Rattle.usda_grammar.specs.Words.{kind_of_word}

-- the place of the first token that is not taken, counted from 0; that of the end, where the text may not end there
abbrev pub failing : List Symbol → ℕ → List WordKind → Option ℕ
failing stack n [] = elim (is_done stack) [ true ↦ None | false ↦ Some n ]
failing stack n (k ∷ ks) = elim (step stack k) [ None ↦ Some n | Some next ↦ failing next.1 (n + 1) ks ]

-- the tokens are a text of the grammar
abbrev pub IsText : List WordKind → Type 0
IsText ks = failing layer 0 ks ≡ None

-- the token at this place, or the end, is the first with which no text of the grammar goes on
abbrev pub FailsAt : ℕ → List WordKind → Type 0
FailsAt n ks = failing layer 0 ks ≡ Some n

-- a name as a token of the grammar
abbrev pub w : List ℕ → WordKind
w t = kind_of_word t

-- a root prim with this body
abbrev pub with_body : List WordKind → List WordKind
with_body ks = w (codes "def") ∷ Quoted ∷ OpenBrace ∷ ks ++ CloseBrace ∷ []

-- a root prim with this metadata
abbrev pub with_metadata : List WordKind → List WordKind
with_metadata ks = w (codes "over") ∷ Quoted ∷ OpenParen ∷ ks ++ CloseParen ∷ OpenBrace ∷ CloseBrace ∷ []

-- texts of the grammar, and where others leave it
pub record AreTold : Type 0 where
  pub nothing : IsText []
  -- ("doc" subLayers = [@a@ (offset = 1; scale = 2), @b@,]; upAxis = "Y")
  pub head : IsText (OpenParen ∷ Quoted ∷ w (codes "subLayers") ∷ Equals ∷ OpenBracket ∷ Asset ∷ OpenParen ∷ w (codes "offset") ∷ Equals ∷ Number ∷ Semicolon ∷ w (codes "scale") ∷ Equals ∷ Number ∷ CloseParen ∷ Comma ∷ Asset ∷ Comma ∷ CloseBracket ∷ Semicolon ∷ w (codes "upAxis") ∷ Equals ∷ Quoted ∷ CloseParen ∷ [])
  -- () def Xform "a" () {} ; reorder rootPrims = ["a",]
  pub roots : IsText (OpenParen ∷ CloseParen ∷ w (codes "def") ∷ w (codes "Xform") ∷ Quoted ∷ OpenParen ∷ CloseParen ∷ OpenBrace ∷ CloseBrace ∷ Semicolon ∷ w (codes "reorder") ∷ w (codes "rootPrims") ∷ Equals ∷ OpenBracket ∷ Quoted ∷ Comma ∷ CloseBracket ∷ [])
  -- a prim's type may be any word
  pub type_word : IsText (w (codes "def") ∷ w (codes "def") ∷ Quoted ∷ OpenBrace ∷ CloseBrace ∷ [])
  -- prepend references = [@a@</b> (), </c>]  payload = None  variants = {string s = "v"}  add = 3; "comment"
  pub fields : IsText (with_metadata (w (codes "prepend") ∷ w (codes "references") ∷ Equals ∷ OpenBracket ∷ Asset ∷ Path ∷ OpenParen ∷ CloseParen ∷ Comma ∷ Path ∷ CloseBracket ∷ w (codes "payload") ∷ Equals ∷ w (codes "None") ∷ w (codes "variants") ∷ Equals ∷ OpenBrace ∷ w (codes "string") ∷ w (codes "s") ∷ Equals ∷ Quoted ∷ CloseBrace ∷ w (codes "add") ∷ Equals ∷ Number ∷ Semicolon ∷ Quoted ∷ []))
  -- custom uniform double[] x = [1, (2,),] (doc = "d";)
  pub attribute : IsText (with_body (w (codes "custom") ∷ w (codes "uniform") ∷ w (codes "double") ∷ OpenBracket ∷ CloseBracket ∷ w (codes "x") ∷ Equals ∷ OpenBracket ∷ Number ∷ Comma ∷ OpenParen ∷ Number ∷ Comma ∷ CloseParen ∷ Comma ∷ CloseBracket ∷ OpenParen ∷ w (codes "doc") ∷ Equals ∷ Quoted ∷ Semicolon ∷ CloseParen ∷ []))
  -- int x.timeSamples = {0: 1, 1: None,}; reorder float y.connect = <a>
  pub samples : IsText (with_body (w (codes "int") ∷ w (codes "x") ∷ Dot ∷ w (codes "timeSamples") ∷ Equals ∷ OpenBrace ∷ Number ∷ Colon ∷ Number ∷ Comma ∷ Number ∷ Colon ∷ w (codes "None") ∷ Comma ∷ CloseBrace ∷ Semicolon ∷ w (codes "reorder") ∷ w (codes "float") ∷ w (codes "y") ∷ Dot ∷ w (codes "connect") ∷ Equals ∷ Path ∷ []))
  -- add custom varying rel r = [<a>, <b>] (); rel s; reorder properties = []
  pub relationships : IsText (with_body (w (codes "add") ∷ w (codes "custom") ∷ w (codes "varying") ∷ w (codes "rel") ∷ w (codes "r") ∷ Equals ∷ OpenBracket ∷ Path ∷ Comma ∷ Path ∷ CloseBracket ∷ OpenParen ∷ CloseParen ∷ Semicolon ∷ w (codes "rel") ∷ w (codes "s") ∷ Semicolon ∷ w (codes "reorder") ∷ w (codes "properties") ∷ Equals ∷ OpenBracket ∷ CloseBracket ∷ []))
  -- variantSet "s" = {"a" ("c") {} "b" {class "d" {}}};
  pub variants : IsText (with_body (w (codes "variantSet") ∷ Quoted ∷ Equals ∷ OpenBrace ∷ Quoted ∷ OpenParen ∷ Quoted ∷ CloseParen ∷ OpenBrace ∷ CloseBrace ∷ Quoted ∷ OpenBrace ∷ w (codes "class") ∷ Quoted ∷ OpenBrace ∷ CloseBrace ∷ CloseBrace ∷ CloseBrace ∷ Semicolon ∷ []))
  -- d = {string "a b" = "x", dictionary e = {}; int[] f = []}
  pub dictionary : IsText (with_metadata (w (codes "d") ∷ Equals ∷ OpenBrace ∷ w (codes "string") ∷ Quoted ∷ Equals ∷ Quoted ∷ Comma ∷ w (codes "dictionary") ∷ w (codes "e") ∷ Equals ∷ OpenBrace ∷ CloseBrace ∷ Semicolon ∷ w (codes "int") ∷ OpenBracket ∷ CloseBracket ∷ w (codes "f") ∷ Equals ∷ OpenBracket ∷ CloseBracket ∷ CloseBrace ∷ []))
  -- words behind a flag are no flags a second time: `uniform varying x`, `custom custom x`
  pub flags_once : IsText (with_body (w (codes "uniform") ∷ w (codes "varying") ∷ w (codes "x") ∷ w (codes "custom") ∷ w (codes "custom") ∷ w (codes "x") ∷ []))
  -- the word `spline` behind a `.` is refused by what it says, and not here
  pub spline : IsText (with_body (w (codes "int") ∷ w (codes "x") ∷ Dot ∷ w (codes "spline") ∷ []))
  -- `def x = 3` among the statements of a prim: a prim has its name in quotes
  pub def_is_no_type : FailsAt 5 (with_body (w (codes "def") ∷ w (codes "x") ∷ Equals ∷ Number ∷ []))
  -- add int x = 1: an edit of an attribute is one of its connections
  pub edits_connect : FailsAt 6 (with_body (w (codes "add") ∷ w (codes "int") ∷ w (codes "x") ∷ Equals ∷ Number ∷ []))
  pub relationships_do_not_connect : FailsAt 5 (with_body (w (codes "rel") ∷ w (codes "x") ∷ Dot ∷ w (codes "connect") ∷ []))
  -- no `;` stands behind one variant, behind the head, or behind another
  pub variants_have_no_semicolon : FailsAt 10 (with_body (w (codes "variantSet") ∷ Quoted ∷ Equals ∷ OpenBrace ∷ Quoted ∷ OpenBrace ∷ CloseBrace ∷ Semicolon ∷ CloseBrace ∷ []))
  pub head_has_no_semicolon : FailsAt 2 (OpenParen ∷ CloseParen ∷ Semicolon ∷ [])
  pub one_semicolon : FailsAt 5 (w (codes "def") ∷ Quoted ∷ OpenBrace ∷ CloseBrace ∷ Semicolon ∷ Semicolon ∷ [])
  pub no_sublayers : FailsAt 3 (OpenParen ∷ w (codes "subLayers") ∷ Equals ∷ w (codes "None") ∷ [])
  pub empty_tuple : FailsAt 7 (with_body (w (codes "int") ∷ w (codes "x") ∷ Equals ∷ OpenParen ∷ CloseParen ∷ []))
  pub comma_first : FailsAt 7 (with_body (w (codes "int") ∷ w (codes "x") ∷ Equals ∷ OpenBracket ∷ Comma ∷ CloseBracket ∷ []))
  -- dictionary[] x = {}: the word is that word, and no type
  pub no_dictionaries : FailsAt 7 (with_metadata (w (codes "d") ∷ Equals ∷ OpenBrace ∷ w (codes "dictionary") ∷ OpenBracket ∷ CloseBracket ∷ w (codes "x") ∷ Equals ∷ OpenBrace ∷ CloseBrace ∷ CloseBrace ∷ []))
  pub edited_variants : FailsAt 4 (with_metadata (w (codes "add") ∷ w (codes "variants") ∷ Equals ∷ OpenBrace ∷ CloseBrace ∷ []))
  pub open_prim : FailsAt 3 (w (codes "def") ∷ Quoted ∷ OpenBrace ∷ [])
  pub fault : FailsAt 0 (Fault ∷ [])
