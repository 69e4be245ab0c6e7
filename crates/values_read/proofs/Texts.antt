-- The values of each text are sound.
use Rattle.std.proofs.Common.{◌≡◌, ℕ, true, List, [], ◌∷◌, ◌++◌, Option, Some, Ok, subst}
use Rattle.std.specs.Str.{is_utf8}
use Rattle.usda_drafts.specs.Acts.{act}
use Rattle.usda_drafts.specs.Drafts.{blank}
use Rattle.usda_drafts.specs.declared.draft.Draft.{Draft}
use Rattle.usda_drafts.specs.declared.fault.Refused.{Refused}
use Rattle.usda_grammar.specs.Derivations.{Derivation, ends, skips, takes}
use Rattle.usda_grammar.specs.Table.{layer, starts}
use Rattle.usda_grammar.specs.declared.symbols.Symbol.{Symbol}
use Rattle.usda_machine.specs.Texts.{Makes, HasRead}
use Rattle.usda_words.specs.Words.{Word, words_of, word_kind}
use Rattle.text_syntax.specs.Open.{IsOfValue}
use Rattle.values_read.specs.Owners.{ArePlaced}
use Rattle.values_read.specs.Texts.{TextsSaySoundValues}
use Rattle.values_read.specs.Tokens.{IsLexedWord, AreLexedWords}
use Rattle.values_read.specs.Words.{IsOpenSound, ValueGoesOn}
use Rattle.values_read.proofs.Acts.{words_keep}
use Rattle.values_read.proofs.Placed.{owners_have_paths}
use Rattle.values_read.proofs.Words.{words_lexed}

-- the words in front of others
front_lexed : (front rest : List Word) → AreLexedWords (front ++ rest) → AreLexedWords front
front_lexed [] rest h = tt
front_lexed (w ∷ front) rest h = (h.0, front_lexed front rest h.1)

next_lexed : (front rest : List Word) (w : Word) → AreLexedWords (front ++ w ∷ rest) → IsLexedWord w
next_lexed [] rest w h = h.0
next_lexed (v ∷ front) rest w h = next_lexed front rest w h.1

made : (refused_as : Option Word → Refused) (t : Derivation) (stack : List Symbol) (d : Draft) (ws : List Word) (left : List Symbol) (out : Draft) → AreLexedWords ws → IsOpenSound d → ArePlaced d
    → Makes word_kind act refused_as t stack d ws left out → IsOpenSound out × ArePlaced out
made refused_as ends stack d [] left out words sound placed h = (subst IsOpenSound h.1 sound, subst ArePlaced h.1 placed)
made refused_as ends stack d (w ∷ ws) left out words sound placed h = absurd h
made refused_as (skips t) [] d ws left out words sound placed h = absurd h
made refused_as (skips t) (s ∷ stack) d ws left out words sound placed h = made refused_as t stack d ws left out words sound placed h.1
made refused_as (takes t) [] d ws left out words sound placed h = absurd h
made refused_as (takes t) (s ∷ stack) d [] left out words sound placed h = absurd h
made refused_as (takes t) (s ∷ stack) d (w ∷ ws) left out words sound placed (after, next, begun, acted, h) =
    made refused_as t (after ++ stack) next ws left out words.1 (words_keep.kept s w d next after words.0 (owners_have_paths.base d placed) sound begun acted) (owners_have_paths.kept s w d next placed acted) h

read : (refused_as : Option Word → Refused) (bytes : List ℕ) (front rest : List Word) (stack : List Symbol) (d : Draft) → is_utf8 bytes ≡ true → words_of bytes ≡ front ++ rest → HasRead word_kind act refused_as blank front stack d
    → IsOpenSound d × ArePlaced d
read refused_as bytes front rest stack d u split has =
    made refused_as has.by layer blank front stack d (front_lexed front rest (subst AreLexedWords split (words_lexed bytes u))) words_keep.begins owners_have_paths.begins has.made

value : (refused_as : Option Word → Refused) (bytes : List ℕ) (front rest : List Word) (w : Word) (stack after : List Symbol) (s : Symbol) (d next : Draft) → is_utf8 bytes ≡ true → words_of bytes ≡ front ++ w ∷ rest
    → HasRead word_kind act refused_as blank front stack d → starts s w.kind ≡ Some after → IsOfValue s d → act s w d ≡ Ok next → ValueGoesOn d w next
value refused_as bytes front rest w stack after s d next u split has took of acted =
    let behind = read refused_as bytes front (w ∷ rest) stack d u split has in
    words_keep.value s w d next after (next_lexed front rest w (subst AreLexedWords split (words_lexed bytes u))) (owners_have_paths.base d behind.1) behind.0 took of acted

pub texts_say : TextsSaySoundValues
texts_say = record { read = read; value = value }
