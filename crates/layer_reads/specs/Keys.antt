-- Keys of metadata, and the draft behind a line of it.
use Rattle.std.specs.Prelude.{◌≡◌, ◌≤◌, ℕ, Bool, true, false, List, [], ◌∷◌, Ok}
use Rattle.sdf_values.specs.declared.value.Value.{Value}
use Rattle.usda_fields.specs.Keys.{rule_shape}
use Rattle.usda_fields.specs.Owners.{key_act, value_act}
use Rattle.usda_fields.specs.declared.keys.KeyRule.{KeyRule}
use Rattle.usda_fields.specs.declared.owner.OwnerDraft.{OwnerDraft}
use Rattle.usda_grammar.specs.declared.kinds.Keyword.{Keyword}
use Rattle.usda_grammar.specs.declared.kinds.Keyword.TheVariants as word
use Rattle.usda_grammar.specs.declared.symbols.Symbol.{Symbol}
use Rattle.usda_grammar.specs.declared.symbols.Symbol.TheVariants as symbol
use Rattle.usda_grammar.specs.Words.{keyword_of}
use Rattle.usda_lists.specs.Edits.{edit_of}
use Rattle.usda_statements.specs.OpenValues.{no_value, is_open}
use Rattle.usda_drafts.specs.Values.{aimed_at_key, with_said}
use Rattle.usda_drafts.specs.declared.aim.Goal.TheVariants as goal
use Rattle.usda_drafts.specs.declared.draft.Draft.{Draft}
use Rattle.value_texts.specs.Readable.{is_read_as, depth}
use Rattle.value_texts.specs.ValueWords.{words_of_value, name_said, equals}
use Rattle.value_texts.specs.Writable.{is_writable}
use Rattle.layer_reads.specs.Fixed.{AreFixed}
use Rattle.layer_reads.specs.Membered.{is_membered}
use Rattle.layer_reads.specs.Taking.{AreTaken}

-- no word that says something else before `=` in the metadata of a prim or a variant
abbrev pub is_plain_key : Keyword → Bool
is_plain_key word.StringField = false
is_plain_key word.PathField = false
is_plain_key word.ReferenceField = false
is_plain_key word.Variants = false
is_plain_key w = true

-- the same in the metadata of a layer
abbrev pub is_plain_head_key : Keyword → Bool
is_plain_head_key word.SubLayers = false
is_plain_head_key w = true

-- in the metadata of a prim or a variant a list of a field may begin with this word, as well as a key
abbrev pub is_edit_word : Symbol → Keyword → Bool
is_edit_word symbol.PrimMetadata word.Edit = true
is_edit_word symbol.PrimMetadata word.Reorder = true
is_edit_word s w = false

-- the draft behind the word of a key, which begins at this byte: an edit word is noted
abbrev pub noted : Bool → List ℕ → ℕ → Draft → Draft
noted true key at d = record d { edit = edit_of key; word = key; word_at = at }
noted false key at d = d

-- the draft behind the value of a key, by which this is said of its owner; no value is open
abbrev pub behind_key : List ℕ → KeyRule → OwnerDraft → Draft → Draft
behind_key key rule said d = with_said (record (aimed_at_key goal.OwnerKey key rule d) { value = no_value }) said

-- A line of metadata, its key and its value, makes of a draft what the value makes of the draft's owner, where the key and the value are
-- taken there; an edit word is noted beside.
abbrev pub IsLineTaken : (Keyword → Bool) → Symbol → List Symbol → Type 0
IsLineTaken is_plain s from =
    (key : List ℕ) (v : Value) (rule : KeyRule) (d : Draft) (said : OwnerDraft) → is_plain (keyword_of key) ≡ true → is_open d.value ≡ false → key_act key d.owner.said ≡ Ok rule
    → value_act key v d.owner.said ≡ Ok said → is_membered v ≡ true → is_writable v ≡ true → is_read_as v (rule_shape rule) true ≡ true → depth v ≤ 64 → AreFixed d.owner.said.base (words_of_value v)
    → AreTaken from d (name_said key ∷ equals ∷ words_of_value v) (symbol.MaybeSemicolon ∷ s ∷ []) (λ e. (at : ℕ) × (e ≡ behind_key key rule said (noted (is_edit_word s (keyword_of key)) key at d)))
