-- What reading a text answers, as a function of its bytes.
use Rattle.std.specs.Prelude.{◌≡◌, ℕ, List, length, Option, Some, None, Result, Ok, Err}
use Rattle.sdf_specs.specs.Layers.{LayerTable}
use Rattle.spec_parts.specs.declared.items.Refusal.{Refusal}
use Rattle.usda_drafts.specs.Acts.{act}
use Rattle.usda_drafts.specs.Drafts.{blank, layer_of}
use Rattle.usda_drafts.specs.declared.draft.Draft.{Draft}
use Rattle.usda_drafts.specs.declared.fault.ActFault.{ActFault}
use Rattle.usda_drafts.specs.declared.fault.ActFault.TheVariants as act_fault
use Rattle.usda_drafts.specs.declared.fault.Refused.{Refused}
use Rattle.usda_grammar.specs.declared.symbols.Symbol.{Symbol}
use Rattle.usda_grammar.specs.Table.{layer}
use Rattle.usda_machine.specs.Reading.{run}
use Rattle.usda_words.specs.Words.{Word, words_of, word_kind}
use Rattle.usda_reader.specs.Checks.{first_check}
use Rattle.usda_reader.specs.Texts.{syntax_at, refusal_at, IsText, IsRefusedFirst}
use Rattle.usda_reader.specs.declared.fault.LayerFault.{LayerFault}
use Rattle.usda_reader.specs.declared.fault.LayerFault.TheVariants as fault

-- the draft behind these words, from these symbols and this draft on, in a text of this length
unfoldable pub run_from : ℕ → List Symbol → Draft → List Word → Result Draft Refused
run_from end stack d ws = run word_kind act (syntax_at end) stack d ws

-- the draft behind all words of a text
unfoldable pub draft_of : List ℕ → Result Draft Refused
draft_of bytes = run_from (length bytes) layer blank (words_of bytes)

-- what is judged over all bytes comes before any word
abbrev pub unless_refused : Option Refused → Result Draft Refused → Result Draft Refused
unless_refused (Some r) d = Err r
unless_refused None d = d

-- the layer of the draft, or the refusal with its line and column
abbrev pub layer_in : List ℕ → Result Draft Refused → Result LayerTable Refusal
layer_in bytes (Ok d) = Ok (layer_of d)
layer_in bytes (Err r) = Err (refusal_at bytes r)

-- the layer of the bytes, or their first refusal
unfoldable pub read : List ℕ → Result LayerTable Refusal
read bytes = layer_in bytes (unless_refused (first_check bytes) (draft_of bytes))

-- a word was taken: what was to be read before it is what is left to be read now
abbrev pub GoesOn : Result (Unit {0}) ActFault → Result Draft Refused → Result Draft Refused → Type 0
GoesOn (Ok u) before after = before ≡ after
GoesOn (Err (act_fault.Refused r)) before after = before ≡ Err r
GoesOn (Err act_fault.NoMemory) before after = Unit {0}

-- the fault of a word, with its line and column
abbrev pub Places : LayerFault → List ℕ → ActFault → Type 0
Places f bytes (act_fault.Refused r) = f ≡ fault.Refused (refusal_at bytes r)
Places f bytes act_fault.NoMemory = f ≡ fault.NoMemory

-- what a call answers: what a definition gives, unless memory ran out
abbrev pub Gives : {A : Type 0} → Result A LayerFault → Result A Refusal → Type 0
Gives (Ok a) found = found ≡ Ok a
Gives (Err (fault.Refused r)) found = found ≡ Err r
Gives (Err fault.NoMemory) found = Unit {0}

-- a layer is answered where the bytes are a text that says it, a refusal where it is their first
abbrev pub Reads : Result LayerTable LayerFault → List ℕ → Type 0
Reads (Ok l) bytes = IsText bytes l
Reads (Err (fault.Refused r)) bytes = IsRefusedFirst bytes r
Reads (Err fault.NoMemory) bytes = Unit {0}

-- this layer is answered, unless memory ran out
abbrev pub IsRead : Result LayerTable LayerFault → LayerTable → Type 0
IsRead (Ok l) said = l ≡ said
IsRead (Err (fault.Refused r)) said = ⊥
IsRead (Err fault.NoMemory) said = Unit {0}

-- this refusal is answered, unless memory ran out
abbrev pub IsRefused : Result LayerTable LayerFault → Refusal → Type 0
IsRefused (Ok l) refusal = ⊥
IsRefused (Err (fault.Refused r)) refusal = r ≡ refusal
IsRefused (Err fault.NoMemory) refusal = Unit {0}
