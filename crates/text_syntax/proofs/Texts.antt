-- The words of a text, by the ways in which the grammar takes them.
use Rattle.std.proofs.Common.{◌≡◌, ◌∙◌, ℕ, List, [], ◌∷◌, ◌++◌, Option, Some, ap, subst}
use Rattle.sdf_values.specs.declared.refusal.RefusalKind.TheVariants.{Syntax}
use Rattle.usda_drafts.specs.Acts.{act}
use Rattle.usda_drafts.specs.Drafts.{blank}
use Rattle.usda_drafts.specs.declared.draft.Draft.{Draft}
use Rattle.usda_drafts.specs.declared.fault.Refused.{Refused}
use Rattle.usda_grammar.specs.Derivations.{Derivation, ends, skips, takes}
use Rattle.usda_grammar.specs.Machine.{step, choose}
use Rattle.usda_grammar.specs.Table.{layer, starts, may_be_absent}
use Rattle.usda_grammar.specs.declared.kinds.WordKind.{WordKind}
use Rattle.usda_grammar.specs.declared.symbols.Symbol.{Symbol}
use Rattle.usda_grammar.proofs.Clear.{IsClear, clear-after, clear-layer}
use Rattle.usda_machine.specs.Texts.{Makes, HasRead, IsRefusedAct}
use Rattle.usda_machine.proofs.Running.{below_it}
use Rattle.usda_words.specs.Words.{Word, words_of, word_kind}
use Rattle.value_texts.specs.Following.{IsOfToken, AreOfTokens}
use Rattle.value_texts.proofs.Following.{followed as values_followed}
use Rattle.text_syntax.specs.Open.{Follows, IsOfValue, IsNoPathFrom, OpenValuesFollow}
use Rattle.text_syntax.proofs.Tokens.{kept, refused, begins}

-- symbols from which the machine gets to the word, and which the draft goes with
abbrev Reached : Symbol → List Symbol → Draft → WordKind → Type 0
Reached s after d k = (stack : List Symbol) × Follows stack d × (step stack k ≡ Some (s, after))

reach : (refused_as : Option Word → Refused) (t : Derivation) (origin stack : List Symbol) (d : Draft) (front : List Word) (s : Symbol) (below : List Symbol) (out : Draft) (k : WordKind) (after : List Symbol) → IsClear stack → Follows origin d
    → ((j : WordKind) (next : Symbol × List Symbol) → step stack j ≡ Some next → step origin j ≡ Some next) → AreOfTokens front → Makes word_kind act refused_as t stack d front (s ∷ below) out → starts s k ≡ Some after
    → Reached s (after ++ below) out k
reach refused_as ends origin stack d [] s below out k after clear follows up words h at =
    (origin, subst (Follows origin) h.1 follows, up k (s, after ++ below) (ap (λ (x : List Symbol). step x k) h.0 ∙ ap (λ o. choose s below o (may_be_absent s) (step below k)) at))
reach refused_as ends origin stack d (w ∷ ws) s below out k after clear follows up words h at = absurd h
reach refused_as (skips t) origin [] d front s below out k after clear follows up words h at = absurd h
reach refused_as (skips t) origin (u ∷ stack) d front s below out k after clear follows up words h at =
    reach refused_as t origin stack d front s below out k after clear.1 follows (λ j next e. up j next (below_it u stack j next clear h.0 e)) words h.1 at
reach refused_as (takes t) origin [] d front s below out k after clear follows up words h at = absurd h
reach refused_as (takes t) origin (u ∷ stack) d [] s below out k after clear follows up words h at = absurd h
reach refused_as (takes t) origin (u ∷ stack) d (w ∷ ws) s below out k after clear follows up words (left, next, begun, acted, h) at =
    reach refused_as t (left ++ stack) (left ++ stack) next ws s below out k after (clear-after u stack w.kind left clear begun)
    (kept origin d w u (left ++ stack) next words.0 follows (up w.kind (u, left ++ stack) (ap (λ o. choose u stack o (may_be_absent u) (step stack w.kind)) begun)) acted) (λ j n e. e) words.1 h at

parts : (front : List Word) (w : Word) (rest : List Word) → AreOfTokens (front ++ w ∷ rest) → AreOfTokens front × IsOfToken w
parts [] w rest h = (tt, h.0)
parts (v ∷ front) w rest h = let p = parts front w rest h.1 in ((h.0, p.0), p.1)

pub first : (refused_as : Option Word → Refused) (bytes : List ℕ) (front : List Word) (w : Word) (rest : List Word) (stack : List Symbol) (d : Draft) (r : Refused) → words_of bytes ≡ front ++ w ∷ rest
    → HasRead word_kind act refused_as blank front stack d → (is : IsRefusedAct word_kind act refused_as blank stack d w r) → IsOfValue is.symbol d → r.kind ≡ Syntax → IsNoPathFrom d.owner.said.base w.token w.text
first refused_as bytes front w rest stack d r split read is of syntax =
    let words : AreOfTokens front × IsOfToken w = parts front w rest (subst AreOfTokens split (values_followed.words bytes)) in
    let made : Makes word_kind act refused_as read.by layer blank front (is.symbol ∷ is.below) d = subst (λ (x : List Symbol). Makes word_kind act refused_as read.by layer blank front x d) is.top read.made in
    let at : Reached is.symbol (is.after ++ is.below) d w.kind =
    reach refused_as read.by layer layer blank front is.symbol is.below d w.kind is.after clear-layer begins (λ j n e. e) words.0 made is.starts_it in
    refused at.0 d w is.symbol (is.after ++ is.below) r words.1 at.1 at.2 of is.refused syntax

pub followed : OpenValuesFollow
followed = record { begins = begins; kept = kept; refused = refused; first = first }
