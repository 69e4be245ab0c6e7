-- The words of a line: what stands in front, and the bytes behind it. Blanks and comments may stand before each word.
use Rattle.std.specs.Prelude.{ℕ, ◌==◌, nat_lt, Bool, true, false, not, if◌then◌else◌, List, [], ◌∷◌, take, drop, Option, Some, None, is_some}
use Rattle.std.specs.Cmp.Lexicographic.{pointwise}
use Rattle.std.specs.List.{list_any, prefix_len}
use Rattle.std.specs.Str.{is_utf8}
use Rattle.asset_names.specs.Anchoring.{normal_name}
use Rattle.composition.specs.Assets.{if_short}
use Rattle.sdf_paths.specs.declared.element.Element.{Element}
use Rattle.sdf_values.specs.declared.decimal.Num.{Num}
use Rattle.usda_lexer.specs.Blanks.{is_blank}
use Rattle.usda_lexer.specs.Meanings.{string_text, asset_text, number_of}
use Rattle.usda_lexer.specs.Words.{Word, Lexing, Lexer, left}
use Rattle.usda_lexer.specs.declared.token.LexFault.{LexFault}
use Rattle.usda_lexer.specs.declared.token.LexFault.TheVariants.{BadByte}
use Rattle.usda_lexer.specs.declared.token.TokenKind.{TokenKind}
use Rattle.usda_lexer.specs.declared.token.TokenKind.TheVariants as kind
use Rattle.usda_lists.specs.Paths.{path_of}
use Rattle.script_words.specs.Answers.{◌>>=◌}

-- ---- tokens

-- the tokens of the bytes, none of which is taken; bytes that are not UTF-8 have none
unfoldable pub lexer_of : List ℕ → Option Lexer
lexer_of bytes = if is_utf8 bytes then Some (record { source = bytes; at = 0 }) else None

-- the first token, if there is one, and the bytes behind it
abbrev pub first_before : List ℕ → List Word → Option (Word × List ℕ)
first_before bytes [] = None
first_before bytes (w ∷ ws) = Some (w, drop w.end bytes)

-- the first token, and the bytes behind it
unfoldable pub token_at : List ℕ → Option (Word × List ℕ)
token_at bytes = lexer_of bytes >>= λ t. first_before bytes (left t).words

-- there is no token
abbrev pub no_word : List Word → Bool
no_word [] = true
no_word (w ∷ ws) = false

-- neither a token is left nor a byte that begins none
abbrev pub is_over : Lexing → Bool
is_over l = if no_word l.words then not (is_some l.fault) else false

-- nothing is left to read; bytes that are not UTF-8 have no such end
abbrev pub ends_at : Option Lexer → Bool
ends_at None = false
ends_at (Some t) = is_over (left t)

-- nothing but blanks and comments
unfoldable pub is_end : List ℕ → Bool
is_end bytes = ends_at (lexer_of bytes)

-- a value, where nothing follows
unfoldable pub ended : {X : Type 0} → X → List ℕ → Option X
ended x bytes = if is_end bytes then Some x else None

-- what a token in front means, with the bytes behind it
abbrev pub read_at : {X : Type 0} → (TokenKind → List ℕ → Option X) → List ℕ → Option (X × List ℕ)
read_at meaning bytes = token_at bytes >>= λ t. meaning t.0.kind t.0.text >>= λ x. Some (x, t.1)

-- ---- what tokens mean

-- the name that a token is, if it is one
abbrev pub name_of : TokenKind → List ℕ → Option (List ℕ)
name_of kind.Name text = Some text
name_of k text = None

-- the text that a token means, if it is a string
abbrev pub text_of : TokenKind → List ℕ → Option (List ℕ)
text_of kind.String text = string_text text
text_of k text = None

-- the number that a token means, if it is one
abbrev pub number_in : TokenKind → List ℕ → Option Num
number_in kind.Number text = number_of text
number_in k text = None

-- the name that a text gives by itself; none where it is empty, has a character below space, or gives a name of more than 4,096 bytes
abbrev pub layer_named : List ℕ → Option (List ℕ)
layer_named [] = None
layer_named (c ∷ t) = elim (list_any (λ x. nat_lt x 32) (c ∷ t)) [ true ↦ None | false ↦ if_short (normal_name (c ∷ t)) ]

-- the name of the layer that a token means, if it is an asset that names one
abbrev pub layer_of : TokenKind → List ℕ → Option (List ℕ)
layer_of kind.Asset text = layer_named (asset_text text)
layer_of k text = None

-- ---- words

-- a name
unfoldable pub name_at : List ℕ → Option (List ℕ × List ℕ)
name_at bytes = read_at name_of bytes

-- a string
unfoldable pub text_at : List ℕ → Option (List ℕ × List ℕ)
text_at bytes = read_at text_of bytes

-- a number
unfoldable pub number_at : List ℕ → Option (Num × List ℕ)
number_at bytes = read_at number_in bytes

-- an asset that names a layer, from the working folder
unfoldable pub layer_at : List ℕ → Option (List ℕ × List ℕ)
layer_at bytes = read_at layer_of bytes

-- ---- paths

-- where the byte stands that begins no token, if that is the fault
abbrev pub bad_byte : Option LexFault → Option ℕ
bad_byte (Some (BadByte at)) = Some at
bad_byte fault = None

-- where the byte stands that begins no token, where no token stands before it
abbrev pub stop_of : Lexing → Option ℕ
stop_of l = if no_word l.words then bad_byte l.fault else None

-- how far it is to the next blank
abbrev pub run_len : List ℕ → ℕ
run_len bytes = prefix_len (λ c. not (is_blank c)) bytes

-- the path of these bytes, from the root down
unfoldable pub path_in : List ℕ → Option (List Element)
path_in run = if is_utf8 run then path_of run else None

-- the bytes up to the next blank as a path
unfoldable pub run_path : List ℕ → Option (List Element × List ℕ)
run_path bytes = path_in (take (run_len bytes) bytes) >>= λ path. Some (path, drop (run_len bytes) bytes)

-- Where a path begins: its `/` begins no token, so that it stands where the tokens end, behind blanks and comments alone.
unfoldable pub path_start : List ℕ → Option ℕ
path_start bytes = lexer_of bytes >>= λ t. stop_of (left t)

-- a path, which goes to the next blank
unfoldable pub path_at : List ℕ → Option (List Element × List ℕ)
path_at bytes = path_start bytes >>= λ at. run_path (drop at bytes)

-- ---- given words

-- the bytes behind a token that is written so
unfoldable pub behind_word : List ℕ → List ℕ → Option (List ℕ)
behind_word word bytes = token_at bytes >>= λ t. if pointwise ◌==◌ t.0.text word then Some t.1 else None

-- the flag is set where its word stands, and then the bytes behind it are left, or else all
abbrev pub flag_of : List ℕ → Option (List ℕ) → Bool × List ℕ
flag_of bytes (Some rest) = (true, rest)
flag_of bytes None = (false, bytes)

-- whether such a token stands in front, and the bytes behind it or else all
unfoldable pub flag_at : List ℕ → List ℕ → Bool × List ℕ
flag_at word bytes = flag_of bytes (behind_word word bytes)
