-- Which symbols do not open lists: what may follow a word that they take.
use Rattle.std.proofs.Common.{◌≡◌, refl, Bool, true, false, ◌&&◌, List, [], ◌∷◌, Option, Some, None, not, ◌||◌}
use Rattle.usda_grammar.specs.declared.kinds.Keyword.TheVariants as word
use Rattle.usda_grammar.specs.declared.kinds.WordKind.{WordKind}
use Rattle.usda_grammar.specs.declared.kinds.WordKind.TheVariants as token
use Rattle.usda_grammar.specs.declared.symbols.Symbol.{Symbol}
use Rattle.usda_grammar.specs.declared.symbols.Symbol.TheVariants as symbol
use Rattle.usda_grammar.specs.Table.{starts, may_be_absent}
use Rattle.properties_read.specs.Drafts.{takes_lists}
use Rattle.properties_read.specs.Stacks.{has_no_list, is_above}
use Rattle.usda_productions.proofs.AllSymbols.{every_row}
use Rattle.value_texts.proofs.Tests.{implied, other_holds}

-- the symbols behind a word, where it may stand there, take no words of lists
abbrev pub opens_none : Option (List Symbol) → Bool
opens_none None = true
opens_none (Some pushed) = has_no_list pushed

-- the symbols behind a word of which a list may stand
abbrev pub may_open : Symbol → Bool
may_open symbol.PrimMetadata = true
may_open symbol.EditedField = true
may_open symbol.MaybeTargets = true
may_open symbol.AfterDot = true
may_open symbol.ConnectWord = true
may_open s = takes_lists s

-- what a row of the grammar's table has to keep
abbrev is_plain_row : Symbol → WordKind → Bool
is_plain_row s k = may_open s || opens_none (starts s k)

plain_rows : (s : Symbol) (k : WordKind) → is_plain_row s k ≡ true
plain_rows = every_row is_plain_row refl

pub starts_plain : (s : Symbol) (k : WordKind) → may_open s ≡ false → opens_none (starts s k) ≡ true
starts_plain s k h = other_holds (may_open s) (opens_none (starts s k)) h (plain_rows s k)

-- the words of metadata that name a field whose list is edited
abbrev pub is_field_word : WordKind → Bool
is_field_word (token.Word word.StringField) = true
is_field_word (token.Word word.PathField) = true
is_field_word (token.Word word.ReferenceField) = true
is_field_word k = false

-- any other word of metadata opens no list
pub metadata_plain : (k : WordKind) → is_field_word k ≡ false → opens_none (starts symbol.PrimMetadata k) ≡ true
metadata_plain (token.Word word.StringField) h = absurd cc
metadata_plain (token.Word word.PathField) h = absurd cc
metadata_plain (token.Word word.ReferenceField) h = absurd cc
metadata_plain (token.Word word.Edit) h = refl
metadata_plain (token.Word word.Reorder) h = refl
metadata_plain (token.Word word.Variants) h = refl
metadata_plain (token.Word w) h = refl
metadata_plain token.Quoted h = refl
metadata_plain k h = refl

pub edited_plain : (k : WordKind) → is_field_word k ≡ false → opens_none (starts symbol.EditedField k) ≡ true
edited_plain (token.Word word.StringField) h = absurd cc
edited_plain (token.Word word.PathField) h = absurd cc
edited_plain (token.Word word.ReferenceField) h = absurd cc
edited_plain token.Equals h = refl
edited_plain k h = refl

-- ---- symbols that may stand above an open list

-- each of these may
abbrev pub are_above : List Symbol → Bool
are_above [] = true
are_above (s ∷ rest) = is_above s && are_above rest

abbrev pub opens_above : Option (List Symbol) → Bool
opens_above None = true
opens_above (Some pushed) = are_above pushed

-- behind a word of one, too
abbrev is_above_row : Symbol → WordKind → Bool
is_above_row s k = not (is_above s) || opens_above (starts s k)

above_rows : (s : Symbol) (k : WordKind) → is_above_row s k ≡ true
above_rows = every_row is_above_row refl

pub starts_above : (s : Symbol) (k : WordKind) → is_above s ≡ true → opens_above (starts s k) ≡ true
starts_above s k h = implied (is_above s) (opens_above (starts s k)) h (above_rows s k)

-- ---- symbols that may be absent

-- the words of a list are taken by no symbol that may be absent
pub absent_other : (s : Symbol) → may_be_absent s ≡ true → takes_lists s ≡ false
absent_other symbol.StringList h = absurd cc
absent_other symbol.StringsOrEnd h = absurd cc
absent_other symbol.MoreStrings h = absurd cc
absent_other symbol.PathList h = absurd cc
absent_other symbol.PathsOrEnd h = absurd cc
absent_other symbol.MorePaths h = absurd cc
absent_other symbol.ReferenceList h = absurd cc
absent_other symbol.ReferencesOrEnd h = absurd cc
absent_other symbol.MoreReferences h = absurd cc
absent_other s h = refl

-- nor by one that may stand above
pub above_other : (s : Symbol) → is_above s ≡ true → takes_lists s ≡ false
above_other symbol.StringList h = absurd cc
above_other symbol.StringsOrEnd h = absurd cc
above_other symbol.MoreStrings h = absurd cc
above_other symbol.PathList h = absurd cc
above_other symbol.PathsOrEnd h = absurd cc
above_other symbol.MorePaths h = absurd cc
above_other symbol.ReferenceList h = absurd cc
above_other symbol.ReferencesOrEnd h = absurd cc
above_other symbol.MoreReferences h = absurd cc
above_other s h = refl
