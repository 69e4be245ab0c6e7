-- Where a list stands that is being read, and which token may follow there.
use Rattle.std.specs.Prelude.{ℕ, ◌==◌, Bool, true, false, if◌then◌else◌, List, codes, Option, Some, None}
use Rattle.std.specs.Cmp.Lexicographic.{pointwise}
use Rattle.usda_lexer.specs.declared.token.Mark.TheVariants as mark
use Rattle.usda_lexer.specs.declared.token.TokenKind.{TokenKind}
use Rattle.usda_lexer.specs.declared.token.TokenKind.TheVariants as kind
use Rattle.usda_lists.specs.declared.offset.OffsetKey.TheVariants as key
use Rattle.script_words.specs.declared.place.ItemForm.{ItemForm}
use Rattle.script_words.specs.declared.place.ItemForm.TheVariants as form
use Rattle.script_words.specs.declared.place.ListPlace.{ListPlace}
use Rattle.script_words.specs.declared.place.ListPlace.TheVariants.{Start, Bracket, Item, Asset, Named, Key, Equals, Number, BehindNumber, Behind, Complete}

-- the place behind the first token of an item
abbrev pub behind_first : ItemForm → TokenKind → Option ListPlace
behind_first form.Texts kind.String = Some Behind
behind_first form.Paths kind.Path = Some Behind
behind_first form.References kind.Asset = Some Asset
behind_first form.References kind.Path = Some Named
behind_first form.SubLayers kind.Asset = Some Named
behind_first form k = None

-- behind an item in brackets
abbrev pub behind_item : Bool → TokenKind → Option ListPlace
behind_item true (kind.Mark mark.Comma) = Some Item
behind_item true (kind.Mark mark.CloseBracket) = Some Complete
behind_item bracketed k = None

-- behind an item that an offset may follow
abbrev pub behind_named : Bool → TokenKind → Option ListPlace
behind_named bracketed (kind.Mark mark.OpenParen) = Some Key
behind_named bracketed k = behind_item bracketed k

-- behind an asset, which a path may follow
abbrev pub behind_asset : Bool → TokenKind → Option ListPlace
behind_asset bracketed kind.Path = Some Named
behind_asset bracketed k = behind_named bracketed k

-- an item, or the bracket that ends the list: so a list may be empty, and a comma may stand behind its last item
abbrev pub item_or_end : ItemForm → TokenKind → Option ListPlace
item_or_end form (kind.Mark mark.CloseBracket) = Some Complete
item_or_end form k = behind_first form k

-- the bracket with which a list begins that may not stand without
abbrev pub opening : TokenKind → Option ListPlace
opening (kind.Mark mark.OpenBracket) = Some Item
opening k = None

-- a list in brackets, one item alone, or `None` for the empty list
abbrev pub begun : ItemForm → TokenKind → List ℕ → Option ListPlace
begun form (kind.Mark mark.OpenBracket) text = Some Item
begun form kind.Name text = if pointwise ◌==◌ text (codes "None") then Some Complete else None
begun form k text = behind_first form k

-- behind the word `offset` or `scale`
abbrev pub before_equals : List ℕ → Option ListPlace
before_equals text =
    if pointwise ◌==◌ text (codes "offset") then Some (Equals key.Offset)
    else if pointwise ◌==◌ text (codes "scale") then Some (Equals key.Scale)
    else None

-- one of the two, or the end of the parentheses
abbrev pub key_or_end : TokenKind → List ℕ → Option ListPlace
key_or_end (kind.Mark mark.CloseParen) text = Some Behind
key_or_end kind.Name text = before_equals text
key_or_end k text = None

-- one `;` may follow a number
abbrev pub behind_number : TokenKind → List ℕ → Option ListPlace
behind_number (kind.Mark mark.Semicolon) text = Some Key
behind_number k text = key_or_end k text

-- the place behind a token, which has to be one that may stand there
abbrev pub place_behind : ItemForm → Bool → ListPlace → TokenKind → List ℕ → Option ListPlace
place_behind form bracketed Start k text = begun form k text
place_behind form bracketed Bracket k text = opening k
place_behind form bracketed Item k text = item_or_end form k
place_behind form bracketed Asset k text = behind_asset bracketed k
place_behind form bracketed Named k text = behind_named bracketed k
place_behind form bracketed Key k text = key_or_end k text
place_behind form bracketed (Equals word) (kind.Mark mark.Equals) text = Some (Number word)
place_behind form bracketed (Equals word) k text = None
place_behind form bracketed (Number word) kind.Number text = Some BehindNumber
place_behind form bracketed (Number word) k text = None
place_behind form bracketed BehindNumber k text = behind_number k text
place_behind form bracketed Behind k text = behind_item bracketed k
place_behind form bracketed Complete k text = None

-- whether a list may end there
abbrev pub may_end : Bool → ListPlace → Bool
may_end bracketed Complete = true
may_end false Asset = true
may_end false Named = true
may_end false Behind = true
may_end bracketed place = false

-- an item may follow only in brackets, if it is not the first token
abbrev pub is_in_brackets : Bool → ListPlace → Bool
is_in_brackets bracketed Item = true
is_in_brackets bracketed place = bracketed
