-- What holds of the canonical texts of values.
use Rattle.std.specs.Prelude.{◌≡◌, ℕ, ◌+◌, ◌≤◌, true, false, List, ◌++◌, length, Ok}
use Rattle.sdf_values.specs.Conforms.{conforms}
use Rattle.sdf_values.specs.Print.{print}
use Rattle.sdf_values.specs.declared.type_name.TypeName.{TypeName}
use Rattle.sdf_values.specs.declared.value.DictItem.{DictItem}
use Rattle.sdf_values.specs.declared.value.Value.{Value}
use Rattle.sdf_values.specs.declared.value.Value.TheVariants.{Dict}
use Rattle.usda_lexer.specs.Words.{lexing_from, left}
use Rattle.usda_values.specs.Drafts.{draft_of, give_act, awaits_value, is_full, is_statement}
use Rattle.usda_values.specs.Reads.{got, reads, reads_left}
use Rattle.usda_values.specs.declared.draft.ValueDraft.{ValueDraft}
use Rattle.usda_values.specs.declared.level.Place.TheVariants as place
use Rattle.usda_values.specs.declared.shape.Shape.{Shape}
use Rattle.usda_values.specs.declared.shape.Shape.TheVariants.{Typed, Dictionary}
use Rattle.usda_words.specs.declared.word.Before.{Before}
use Rattle.value_texts.specs.Acts.{acts}
use Rattle.value_texts.specs.Cuts.{Cuts}
use Rattle.value_texts.specs.Follows.{may_follow}
use Rattle.value_texts.specs.Readable.{is_read_as, depth}
use Rattle.value_texts.specs.ValueWords.{words_of_value}
use Rattle.value_texts.specs.Words.{IsWorded}
use Rattle.value_texts.specs.Writable.{is_writable}

-- the text of a value that can be written is the value's tokens, wherever it stands
abbrev pub AreTokens : Type 0
AreTokens = (v : Value) → is_writable v ≡ true → (indent : ℕ) → Cuts (print v indent) (words_of_value v) may_follow

-- and the value's words, behind any word but a `.`
abbrev pub AreWords : Type 0
AreWords = (v : Value) → is_writable v ≡ true → (indent at : ℕ) (before : Before) (rest : List ℕ) → before.is_dot ≡ false → may_follow rest ≡ true → IsWorded at before (print v indent) (words_of_value v) rest

-- a draft in which a value has to come, and the value that its tokens put there, which is no deeper than the levels that may still be
-- opened
abbrev pub AreGiven : Type 0
AreGiven =
    (v : Value) (d : ValueDraft) → awaits_value d.place ≡ true → is_full d.level.room ≡ false → is_writable v ≡ true → is_read_as v d.level.item (is_statement d.level.bracket) ≡ true
    → depth v + length d.outer ≤ 64 → acts (words_of_value v) d ≡ Ok (give_act v d)

-- what is printed of a value is read as the value, where it is expected
abbrev pub AreRead : Type 0
AreRead =
    (v : Value) (shape : Shape) (indent at end : ℕ) (rest : List ℕ) → is_writable v ≡ true → is_read_as v shape true ≡ true → depth v ≤ 64 → may_follow rest ≡ true
    → reads (lexing_from 0 at (print v indent ++ rest)).words (lexing_from 0 at (print v indent ++ rest)).fault end (draft_of place.Value shape)
    ≡ got v (lexing_from 0 (at + length (print v indent)) rest)

-- the same of a dictionary that has to begin with its bracket
abbrev pub AreDictionariesRead : Type 0
AreDictionariesRead =
    (items : List DictItem) (indent at end : ℕ) (rest : List ℕ) → is_writable (Dict items) ≡ true → is_read_as (Dict items) Dictionary true ≡ true → depth (Dict items) ≤ 64
    → reads (lexing_from 0 at (print (Dict items) indent ++ rest)).words (lexing_from 0 at (print (Dict items) indent ++ rest)).fault end (draft_of place.Dictionary Dictionary)
    ≡ got (Dict items) (lexing_from 0 (at + length (print (Dict items) indent)) rest)

-- the same of a whole source, as it is read from its first token on
abbrev pub AreSourcesRead : Type 0
AreSourcesRead =
    (v : Value) (shape : Shape) (rest : List ℕ) → is_writable v ≡ true → is_read_as v shape true ≡ true → depth v ≤ 64 → may_follow rest ≡ true
    → reads_left (record { source = print v 0 ++ rest; at = 0 }) (draft_of place.Value shape) ≡ got v (left (record { source = print v 0 ++ rest; at = length (print v 0) }))

-- which values are read where a type is expected, directly behind the `=` of a statement: those of the type, and the block
abbrev pub AreTypesRead : Type 0
AreTypesRead = (v : Value) (t : TypeName) → is_read_as v (Typed t) true ≡ conforms v t

-- A value of a type is read where the type is expected. It is at most three levels deep, so nothing is said of its depth.
abbrev pub AreTypedRead : Type 0
AreTypedRead =
    (v : Value) (t : TypeName) (indent at end : ℕ) (rest : List ℕ) → is_writable v ≡ true → conforms v t ≡ true → may_follow rest ≡ true
    → reads (lexing_from 0 at (print v indent ++ rest)).words (lexing_from 0 at (print v indent ++ rest)).fault end (draft_of place.Value (Typed t))
    ≡ got v (lexing_from 0 (at + length (print v indent)) rest)
