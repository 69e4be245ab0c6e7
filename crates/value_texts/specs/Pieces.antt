-- The pieces of texts, and the tokens that they are.
use Rattle.std.specs.Prelude.{◌≡◌, ◌<◌, ◌↔◌, ℕ, ◌+◌, ◌^◌, nat_le, Bool, true, false, ◌&&◌, List, [], ◌∷◌, ◌++◌, length, map, codes, Some, ℤ, unsigned_abs}
use Rattle.std.specs.Fmt.{signed_decimal}
use Rattle.std.specs.List.{list_all}
use Rattle.std.specs.Str.{chars, is_utf8}
use Rattle.usd_names.specs.Names.{spells_joined, is_name, is_identifier, is_variant}
use Rattle.sdf_values.specs.NumberTexts.{is_number}
use Rattle.sdf_values.specs.Numbers.{DecimalNumber, IsDecimal}
use Rattle.sdf_values.specs.Print.{num_text, time_text, whole_text, quoted, asset_text}
use Rattle.sdf_values.specs.declared.decimal.Num.{Num}
use Rattle.sdf_values.specs.declared.decimal.Num.TheVariants.{Finite}
use Rattle.usda_lexer.specs.Blanks.{is_blank}
use Rattle.usda_lexer.specs.Decimals.{decimal_of}
use Rattle.usda_lexer.specs.Forms.{digits_len}
use Rattle.usda_lexer.specs.Meanings.{string_text, number_of, asset_text as asset_of, path_text as path_of}
use Rattle.usda_values.specs.PathTexts.{is_path_text}
use Rattle.usda_values.specs.Scalars.{whole_of, time_of}
use Rattle.usda_words.specs.declared.word.Before.{Before}
use Rattle.value_texts.specs.Cuts.{Said, IsCut, Cuts}
use Rattle.value_texts.specs.Follows.{ends_name, ends_number, begins_not, anything, may_follow}
use Rattle.value_texts.specs.Lists.{Piece, AreCut, text_of, said_by, bracketed_text, line_text}
use Rattle.value_texts.specs.ValueWords.{listed_said, name_said, number_said, string_said, asset_said, path_said, open_paren, close_paren, open_bracket, close_bracket, open_brace, close_brace, comma, semicolon, equals, dot}
use Rattle.value_texts.specs.Words.{IsWorded, is_no_dot}
use Rattle.value_texts.specs.Writable.{is_decimal, is_writable_number, is_writable_whole, is_writable_asset, is_writable_path}

-- no name and no number goes on
abbrev pub ends_both : List ℕ → Bool
ends_both rest = ends_name rest && ends_number rest

-- no digit stands in front
abbrev pub begins_no_digit : List ℕ → Type 0
begins_no_digit rest = digits_len rest ≡ 0

-- which texts are which tokens, before what may follow them
pub record ArePieces : Type 0 where
  pub nothing : Cuts [] [] anything
  pub blank : (c : ℕ) → is_blank c ≡ true → Cuts (c ∷ []) [] anything
  -- one text behind another
  pub joined : (at : ℕ) (s t : List ℕ) (a b : List Said) (rest : List ℕ) → IsCut at s a (t ++ rest) → IsCut (at + length s) t b rest → IsCut at (s ++ t) (a ++ b) rest
  -- tokens among which is no `.`, as words, and one text behind another
  pub as_words : (at : ℕ) (b : Before) (text : List ℕ) (said : List Said) (rest : List ℕ) → b.is_dot ≡ false → list_all is_no_dot said ≡ true → IsCut at text said rest → IsWorded at b text said rest
  pub words_joined : (at : ℕ) (b : Before) (s t : List ℕ) (x y : List Said) (rest : List ℕ) → IsWorded at b s x (t ++ rest) → ((c : Before) → c.is_dot ≡ false → IsWorded (at + length s) c t y rest)
      → IsWorded at b (s ++ t) (x ++ y) rest
  pub name : (t : List ℕ) → is_utf8 t ≡ true → is_name t ≡ true → Cuts t (name_said t ∷ []) ends_name
  pub digits : (t : List ℕ) (d : DecimalNumber) → is_number t ≡ true → decimal_of t ≡ Some d → Cuts t (number_said t ∷ []) ends_number
  pub number : (x : Num) → is_writable_number x ≡ true → Cuts (num_text x) (number_said (num_text x) ∷ []) ends_both
  pub whole : (n : ℤ) → is_writable_whole n ≡ true → Cuts (whole_text n) (number_said (whole_text n) ∷ []) ends_number
  pub time : (t : ℤ) → nat_le (unsigned_abs t) (10 ^ 30) ≡ true → Cuts (time_text t) (number_said (time_text t) ∷ []) ends_number
  pub string : (t : List ℕ) → Cuts (quoted t) (string_said (quoted t) ∷ []) (begins_not 34)
  pub asset : (t : List ℕ) → is_writable_asset t ≡ true → Cuts (asset_text t) (asset_said (asset_text t) ∷ []) (begins_not 64)
  pub path : (t : List ℕ) → is_writable_path t ≡ true → Cuts (codes "<" ++ t ++ codes ">") (path_said (codes "<" ++ t ++ codes ">") ∷ []) anything
  pub open_paren_mark : Cuts (codes "(") (open_paren ∷ []) anything
  pub close_paren_mark : Cuts (codes ")") (close_paren ∷ []) anything
  pub open_bracket_mark : Cuts (codes "[") (open_bracket ∷ []) anything
  pub close_bracket_mark : Cuts (codes "]") (close_bracket ∷ []) anything
  pub open_brace_mark : Cuts (codes "{") (open_brace ∷ []) anything
  pub close_brace_mark : Cuts (codes "}") (close_brace ∷ []) anything
  pub comma_mark : Cuts (codes ",") (comma ∷ []) anything
  pub semicolon_mark : Cuts (codes ";") (semicolon ∷ []) anything
  pub equals_mark : Cuts (codes "=") (equals ∷ []) anything
  pub point : (at : ℕ) (rest : List ℕ) → begins_no_digit rest → IsCut at (codes ".") (dot ∷ []) rest
  -- pieces between brackets, each but the first behind a comma, and a text on a line of its own
  pub bracketed : (ps : List Piece) → AreCut ps → Cuts (bracketed_text (map text_of ps)) (open_bracket ∷ listed_said (map said_by ps) ++ close_bracket ∷ []) anything
  pub line : (level : ℕ) (text : List ℕ) (said : List Said) → Cuts text said may_follow → Cuts (line_text level text) said anything
  -- two names with a point between them, as words
  pub dotted : (at : ℕ) (b : Before) (a c rest : List ℕ) → is_utf8 a ≡ true → is_name a ≡ true → is_utf8 c ≡ true → is_name c ≡ true → ends_name rest ≡ true → b.is_dot ≡ false
      → IsWorded at b (a ++ 46 ∷ c) (name_said a ∷ dot ∷ name_said c ∷ []) rest

-- what the tokens mean
pub record AreMeant : Type 0 where
  pub number : (x : Num) → is_writable_number x ≡ true → number_of (num_text x) ≡ Some x
  pub whole : (n : ℤ) → is_writable_whole n ≡ true → (d : DecimalNumber) × (number_of (whole_text n) ≡ Some (Finite d)) × (whole_of d ≡ Some n)
  pub time : (t : ℤ) → nat_le (unsigned_abs t) (10 ^ 30) ≡ true → (d : DecimalNumber) × (number_of (time_text t) ≡ Some (Finite d)) × (time_of d ≡ Some t)
  -- every decimal in its one form can be written
  pub decimals_are_writable : (d : DecimalNumber) → (is_decimal d ≡ true) ↔ IsDecimal d
  -- whole numbers with at most 34 digits can be written, and plainly
  pub wholes_are_writable : (n : ℤ) → unsigned_abs n < 10 ^ 34 → (is_writable_whole n ≡ true) × (whole_text n ≡ signed_decimal n)
  pub string : (t : List ℕ) → is_utf8 t ≡ true → string_text (quoted t) ≡ Some t
  pub asset : (t : List ℕ) → asset_of (asset_text t) ≡ t
  pub path : (t : List ℕ) → path_of (codes "<" ++ t ++ codes ">") ≡ t
  -- nothing closes a text within it that is read as a path
  pub paths_are_writable : (t : List ℕ) → is_utf8 t ≡ true → is_path_text t ≡ true → is_writable_path t ≡ true

-- names have nothing to escape: a string that is one is written as it stands
pub record AreQuotedPlainly : Type 0 where
  pub identifier : (t : List ℕ) → is_identifier t ≡ true → quoted t ≡ codes "\"" ++ t ++ codes "\""
  pub variant : (t : List ℕ) → is_variant t ≡ true → quoted t ≡ codes "\"" ++ t ++ codes "\""
  -- identifiers joined by `:`, also `inf` and `nan`, which name no property
  pub name : (t : List ℕ) → is_utf8 t ≡ true → spells_joined false (chars t) ≡ true → quoted t ≡ codes "\"" ++ t ++ codes "\""
