-- What a text of the format says, and where it is refused first, by the productions of the grammar: they say which words stand where,
-- and by which symbol each is acted on (`usda_productions`, specs/Rules.antt). What a word adds to a layer there, or why it is refused,
-- is the draft's (`usda_drafts`, specs/Acts.antt). Neither the reader nor the table by which it goes stands in these definitions.
use Rattle.std.specs.Prelude.{◌≡◌, ◌⊎◌, ℕ, List, length, Option, Some, None}
use Rattle.sdf_specs.specs.Layers.{LayerTable}
use Rattle.sdf_values.specs.declared.refusal.RefusalKind.TheVariants.{Syntax}
use Rattle.spec_parts.specs.declared.items.Refusal.{Refusal}
use Rattle.usda_drafts.specs.Acts.{act}
use Rattle.usda_drafts.specs.Drafts.{blank, layer_of}
use Rattle.usda_drafts.specs.Refusals.{refused}
use Rattle.usda_drafts.specs.declared.draft.Draft.{Draft}
use Rattle.usda_drafts.specs.declared.fault.Refused.{Refused}
use Rattle.usda_lexer.specs.Places.{place_of}
use Rattle.usda_productions.specs.Refusals.{HaveFirstRefusal}
use Rattle.usda_productions.specs.Rules.{layer_forms}
use Rattle.usda_productions.specs.Texts.{MakeBy}
use Rattle.usda_words.specs.Words.{Word, words_of, word_kind}
use Rattle.usda_reader.specs.Checks.{first_check}

-- A word with which no text goes on is refused where it begins; the end of a text of this length, where none ends, behind the last byte.
abbrev pub syntax_at : ℕ → Option Word → Refused
syntax_at end (Some w) = refused Syntax w.start
syntax_at end None = refused Syntax end

-- the words of the bytes are those of a layer by the productions, and make this draft of a blank one
abbrev pub MakeDraft : List ℕ → Draft → Type 0
MakeDraft bytes d = MakeBy word_kind act layer_forms blank (words_of bytes) d

-- the first word that no text goes on with, or that is refused for what it means, or the end
abbrev pub HaveRefusedWord : List ℕ → Refused → Type 0
HaveRefusedWord bytes r = HaveFirstRefusal word_kind act (syntax_at (length bytes)) blank (words_of bytes) r

-- the bytes are a text of the format, which says this layer
pub record IsText (bytes : List ℕ) (layer : LayerTable) : Type 0 where
  pub passes : first_check bytes ≡ None
  pub draft : Draft
  pub makes : MakeDraft bytes draft
  pub says : layer ≡ layer_of draft

-- a refusal with its line and column
abbrev pub refusal_at : List ℕ → Refused → Refusal
refusal_at bytes r = record { kind = r.kind; line = (place_of bytes r.at).line; column = (place_of bytes r.at).column }

-- the bytes are refused before their words, or pass and are refused at a word or at their end
pub record IsRefusedFirst (bytes : List ℕ) (refusal : Refusal) : Type 0 where
  pub refused : Refused
  pub place : refusal ≡ refusal_at bytes refused
  pub reason : (first_check bytes ≡ Some refused) ⊎ (first_check bytes ≡ None) × HaveRefusedWord bytes refused

-- bytes are a text of at most one layer, have at most one first refusal, and one of the two
pub record HaveOneAnswer (bytes : List ℕ) : Type 0 where
  pub one_layer : (a b : LayerTable) → IsText bytes a → IsText bytes b → a ≡ b
  pub one_refusal : (a b : Refusal) → IsRefusedFirst bytes a → IsRefusedFirst bytes b → a ≡ b
  pub not_both : (a : LayerTable) (r : Refusal) → IsText bytes a → IsRefusedFirst bytes r → ⊥
  pub some : ((layer : LayerTable) × IsText bytes layer) ⊎ ((r : Refusal) × IsRefusedFirst bytes r)
