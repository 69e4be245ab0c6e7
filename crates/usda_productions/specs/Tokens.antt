-- Tests of a token's kind.
use Rattle.std.specs.Prelude.{ℕ, Bool, not, ◌&&◌, ◌||◌, ◌==◌, nat_lt, List, [], ◌∷◌}
use Rattle.usda_grammar.specs.declared.kinds.WordKind.{WordKind}
use Rattle.usda_grammar.specs.declared.kinds.WordKind.TheVariants as token
use Rattle.usda_grammar.specs.declared.kinds.Keyword.{Keyword}
use Rattle.usda_grammar.specs.declared.kinds.Keyword.TheVariants as word

-- a number for each kind, those of words below 100
abbrev pub word_number : Keyword → ℕ
word_number word.Specifier = 0
word_number word.StringField = 1
word_number word.PathField = 2
word_number word.ReferenceField = 3
word_number word.Edit = 4
word_number word.Reorder = 5
word_number word.Variants = 6
word_number word.VariantSet = 7
word_number word.SubLayers = 8
word_number word.RootPrims = 9
word_number word.OrderedField = 10
word_number word.Custom = 11
word_number word.Variability = 12
word_number word.Rel = 13
word_number word.TimeSamples = 14
word_number word.Connect = 15
word_number word.Spline = 16
word_number word.NoneWord = 17
word_number word.Dictionary = 18
word_number word.Other = 19

-- no two kinds have one number
abbrev pub number_of : WordKind → ℕ
number_of (token.Word w) = word_number w
number_of token.Number = 100
number_of token.Quoted = 101
number_of token.Asset = 102
number_of token.Path = 103
number_of token.OpenParen = 104
number_of token.CloseParen = 105
number_of token.OpenBrace = 106
number_of token.CloseBrace = 107
number_of token.OpenBracket = 108
number_of token.CloseBracket = 109
number_of token.Equals = 110
number_of token.Comma = 111
number_of token.Semicolon = 112
number_of token.Colon = 113
number_of token.Dot = 114
number_of token.Fault = 115

-- two kinds are one
abbrev pub is : WordKind → WordKind → Bool
is j k = number_of j == number_of k

-- a name, whether it is a word of the grammar or not
abbrev pub is_name : WordKind → Bool
is_name k = nat_lt (number_of k) 100

-- a name, but none of these words
abbrev pub is_name_but : List Keyword → WordKind → Bool
is_name_but [] k = is_name k
is_name_but (w ∷ ws) k = not (is (token.Word w) k) && is_name_but ws k

-- `delete`, `add`, `prepend`, `append` or `reorder`
abbrev pub is_edit_word : WordKind → Bool
is_edit_word k = is (token.Word word.Edit) k || is (token.Word word.Reorder) k

-- the key of a dictionary's entry
abbrev pub is_key : WordKind → Bool
is_key k = is_name k || is token.Quoted k

-- a value of one token: a name is `None`, a word, or `true` or `false`
abbrev pub is_literal : WordKind → Bool
is_literal k = is_name k || is token.Number k || is token.Quoted k || is token.Asset k || is token.Path k

-- what may stand behind an entry of a dictionary: one `;` or `,`
abbrev pub is_separator : WordKind → Bool
is_separator k = is token.Semicolon k || is token.Comma k
