-- What each word of a text keeps holds behind all of them.
use Rattle.std.proofs.Common.{◌≡◌, ℕ, true, List, Some, Ok}
use Rattle.std.specs.Str.{is_utf8}
use Rattle.usda_drafts.specs.Acts.{act}
use Rattle.usda_drafts.specs.Drafts.{blank}
use Rattle.usda_drafts.specs.declared.draft.Draft.{Draft}
use Rattle.usda_grammar.specs.Machine.{step}
use Rattle.usda_grammar.specs.Table.{layer}
use Rattle.usda_grammar.specs.declared.symbols.Symbol.{Symbol}
use Rattle.usda_productions.specs.Rules.{layer_forms}
use Rattle.usda_productions.specs.Texts.{MakeBy}
use Rattle.usda_words.specs.Words.{Word, words_of, word_kind}
use Rattle.value_texts.proofs.Following.{followed as values_followed}
use Rattle.value_texts.specs.Following.{IsOfToken, AreOfTokens}
use Rattle.values_read.specs.Tokens.{IsLexedWord, AreLexedWords}
use Rattle.values_read.proofs.Words.{words_lexed}
use Rattle.trees_read.proofs.Runs.{IsAtEnd, held_behind}

-- What each word keeps holds behind all of them, where each is what its token is to the grammar, and is as a text has it.
pub holds_behind : (P : List Symbol → Draft → Type 0)
    → ((stack : List Symbol) (d : Draft) (w : Word) (s : Symbol) (after : List Symbol) (next : Draft) → IsOfToken w → IsLexedWord w → P stack d → step stack w.kind ≡ Some (s, after) → act s w d ≡ Ok next → P after next)
    → (bytes : List ℕ) (d : Draft) → is_utf8 bytes ≡ true → P layer blank → MakeBy word_kind act layer_forms blank (words_of bytes) d → IsAtEnd P d
holds_behind P keeps bytes d utf8 begins made =
    held_behind (λ w. IsOfToken w × IsLexedWord w) (λ ws. AreOfTokens ws × AreLexedWords ws) (λ w ws h. ((h.0.0, h.1.0), (h.0.1, h.1.1))) P (λ stack d w s after next is. keeps stack d w s after next is.0 is.1) bytes d
    (values_followed.words bytes, words_lexed bytes utf8) begins made
