-- Statements, or items of metadata, one behind the other.
use Rattle.std.specs.Prelude.{◌≡◌, Bool, true, false, List, [], ◌∷◌, ◌++◌, None}
use Rattle.usda_grammar.specs.Table.{starts, may_be_absent}
use Rattle.usda_grammar.specs.declared.kinds.WordKind.{WordKind}
use Rattle.usda_grammar.specs.declared.kinds.WordKind.TheVariants as token
use Rattle.usda_grammar.specs.declared.symbols.Symbol.{Symbol}
use Rattle.usda_drafts.specs.declared.draft.Draft.{Draft}
use Rattle.value_texts.specs.Cuts.{Said}
use Rattle.value_texts.specs.Each.{AreAll}
use Rattle.layer_reads.specs.Taking.{AreTaken}

-- a word with which an item begins, or a mark behind the last one
abbrev pub begins_item : WordKind → Bool
begins_item (token.Word w) = true
begins_item token.Quoted = true
begins_item token.CloseBrace = true
begins_item token.CloseParen = true
begins_item k = false

-- a symbol that may be open still behind an item, as that of its `;`: it is absent where another item follows, or none
pub record IsLeft (s : Symbol) : Type 0 where
  pub absent : may_be_absent s ≡ true
  pub begins_none : (k : WordKind) → begins_item k ≡ true → starts s k ≡ None

-- the symbols that are open still behind items
pub record Left : Type 0 where
  pub symbols : List Symbol
  pub each : AreAll IsLeft symbols

-- Words that are items of a symbol, any number of them: they lead each draft of the one kind to one of the other, whatever is open still
-- of an item before. Where there are no words, a draft of the one kind is of the other.
pub record AreItems (s : Symbol) (said : List Said) (Before After : Draft → Type 0) : Type 0 where
  pub left : Left → Left
  pub taken : (l : Left) (d : Draft) → Before d → AreTaken (l.symbols ++ s ∷ []) d said ((left l).symbols ++ s ∷ []) After
  pub unsaid : said ≡ [] → (d : Draft) → Before d → After d
