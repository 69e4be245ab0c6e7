-- Reading gives exactly the layer that a text says, and exactly its first refusal.
use Rattle.std.proofs.Common.{◌≡◌, ◌⊎◌, inl, inr, ℕ, List, length, Option, Some, None, Result, Ok, Err, refl, ap, sym, subst, ◌∙◌}
use Rattle.sdf_specs.specs.Layers.{LayerTable}
use Rattle.spec_parts.specs.declared.items.Refusal.{Refusal}
use Rattle.usda_drafts.specs.Acts.{act}
use Rattle.usda_drafts.specs.Drafts.{blank, layer_of}
use Rattle.usda_drafts.specs.declared.draft.Draft.{Draft}
use Rattle.usda_drafts.specs.declared.fault.ActFault.{ActFault}
use Rattle.usda_drafts.specs.declared.fault.ActFault.TheVariants as act_fault
use Rattle.usda_drafts.specs.declared.fault.Refused.{Refused}
use Rattle.usda_drafts.specs.Refusals.{Does}
use Rattle.usda_grammar.specs.Table.{layer}
use Rattle.usda_machine.proofs.Running as running
use Rattle.usda_machine.specs.Reading.{run}
use Rattle.usda_productions.proofs.Simulation as by_rules
use Rattle.usda_words.specs.Words.{words_of, word_kind}
use Rattle.usda_reader.specs.Checks.{first_check}
use Rattle.usda_reader.specs.Reading.{run_from, draft_of, unless_refused, layer_in, read, Places, Gives, Reads, IsRead, IsRefused}
use Rattle.usda_reader.specs.Texts.{syntax_at, MakeDraft, HaveRefusedWord, refusal_at, IsText, IsRefusedFirst, HaveOneAnswer}
use Rattle.usda_reader.specs.declared.fault.LayerFault.{LayerFault}
use Rattle.usda_reader.specs.declared.fault.LayerFault.TheVariants as fault

-- ---- the words

pub words_make : (bytes : List ℕ) (d : Draft) → run word_kind act (syntax_at (length bytes)) layer blank (words_of bytes) ≡ Ok d → MakeDraft bytes d
words_make bytes d e =
    by_rules.written word_kind act (syntax_at (length bytes)) blank (words_of bytes) d
    (running.found word_kind act (syntax_at (length bytes)) blank (words_of bytes) d e)

draft_found : (bytes : List ℕ) (d : Draft) → draft_of bytes ≡ Ok d → MakeDraft bytes d
unfolding draft_of run_from
draft_found bytes d e = words_make bytes d e

draft_only : (bytes : List ℕ) (d : Draft) → MakeDraft bytes d → draft_of bytes ≡ Ok d
unfolding draft_of run_from
draft_only bytes d h =
    running.only word_kind act (syntax_at (length bytes)) blank (words_of bytes) d
    (by_rules.read word_kind act (syntax_at (length bytes)) blank (words_of bytes) d h)

word_refused : (bytes : List ℕ) (r : Refused) → draft_of bytes ≡ Err r → HaveRefusedWord bytes r
unfolding draft_of run_from
word_refused bytes r e =
    by_rules.refused word_kind act (syntax_at (length bytes)) blank (words_of bytes) r
    (running.refusal word_kind act (syntax_at (length bytes)) blank (words_of bytes) r e)

word_exact : (bytes : List ℕ) (r : Refused) → HaveRefusedWord bytes r → draft_of bytes ≡ Err r
unfolding draft_of run_from
word_exact bytes r h =
    running.exact word_kind act (syntax_at (length bytes)) blank (words_of bytes) r
    (by_rules.refuses word_kind act (syntax_at (length bytes)) blank (words_of bytes) r h)

-- ---- the text, by what its checks and its words give

read_by : (bytes : List ℕ) (check : Option Refused) (words : Result Draft Refused) → first_check bytes ≡ check → draft_of bytes ≡ words → read bytes ≡ layer_in bytes (unless_refused check words)
unfolding read
read_by bytes check words at by = ap (λ (c : Option Refused). layer_in bytes (unless_refused c (draft_of bytes))) at ∙ ap (λ (x : Result Draft Refused). layer_in bytes (unless_refused check x)) by

pub text_read : (bytes : List ℕ) (l : LayerTable) → IsText bytes l → read bytes ≡ Ok l
text_read bytes l t = read_by bytes None (Ok t.draft) t.passes (draft_only bytes t.draft t.makes) ∙ ap Ok (sym t.says)

pub refusal_read : (bytes : List ℕ) (r : Refusal) → IsRefusedFirst bytes r → read bytes ≡ Err r
refusal_read bytes r t = by t.reason
  where
    by : ((first_check bytes ≡ Some t.refused) ⊎ (first_check bytes ≡ None) × HaveRefusedWord bytes t.refused) → read bytes ≡ Err r
    by (inl at) = read_by bytes (Some t.refused) (draft_of bytes) at refl ∙ ap Err (sym t.place)
    by (inr h) = read_by bytes None (Err t.refused) h.0 (word_exact bytes t.refused h.1) ∙ ap Err (sym t.place)

-- what the bytes are: a text of a layer, or refused
abbrev Judged : List ℕ → Type 0
Judged bytes = ((l : LayerTable) × IsText bytes l × (read bytes ≡ Ok l)) ⊎ ((r : Refusal) × IsRefusedFirst bytes r × (read bytes ≡ Err r))

judged : (bytes : List ℕ) → Judged bytes
judged bytes = by (first_check bytes) (draft_of bytes) refl refl
  where
    by : (check : Option Refused) (words : Result Draft Refused) → first_check bytes ≡ check → draft_of bytes ≡ words → Judged bytes
    by (Some r) words at made = inr (refusal_at bytes r, record { refused = r; place = refl; reason = inl at }, read_by bytes (Some r) words at made)
    by None (Ok d) at made = inl (layer_of d, record { passes = at; draft = d; makes = draft_found bytes d made; says = refl }, read_by bytes None (Ok d) at made)
    by None (Err r) at made = inr (refusal_at bytes r, record { refused = r; place = refl; reason = inr (at, word_refused bytes r made) }, read_by bytes None (Err r) at made)

pub one_answer : (bytes : List ℕ) → HaveOneAnswer bytes
one_answer bytes = record {
  one_layer = λ a b h g. let e : Ok a ≡ Ok b = sym (text_read bytes a h) ∙ text_read bytes b g in cc;
  one_refusal = λ a b h g. let e : Err a ≡ Err b = sym (refusal_read bytes a h) ∙ refusal_read bytes b g in cc;
  not_both = λ a r h g. let e : Ok a ≡ Err r = sym (text_read bytes a h) ∙ refusal_read bytes r g in absurd cc;
  some = some (judged bytes);
}
  where
    some : Judged bytes → ((l : LayerTable) × IsText bytes l) ⊎ ((r : Refusal) × IsRefusedFirst bytes r)
    some (inl h) = inl (h.0, h.1)
    some (inr h) = inr (h.0, h.1)

-- ---- what is answered

pub reads : (bytes : List ℕ) (answer : Result LayerTable LayerFault) → Gives answer (read bytes) → Reads answer bytes
reads bytes (Err fault.NoMemory) gives = tt
reads bytes (Ok l) gives = by (judged bytes)
  where
    by : Judged bytes → IsText bytes l
    by (inl h) = let e : Ok h.0 ≡ Ok l = sym h.2 ∙ gives in let f : h.0 ≡ l = cc in subst (λ (x : LayerTable). IsText bytes x) f h.1
    by (inr h) = let e : Err h.0 ≡ Ok l = sym h.2 ∙ gives in absurd cc
reads bytes (Err (fault.Refused r)) gives = by (judged bytes)
  where
    by : Judged bytes → IsRefusedFirst bytes r
    by (inl h) = let e : Ok h.0 ≡ Err r = sym h.2 ∙ gives in absurd cc
    by (inr h) = let e : Err h.0 ≡ Err r = sym h.2 ∙ gives in let f : h.0 ≡ r = cc in subst (λ (x : Refusal). IsRefusedFirst bytes x) f h.1

pub is_read : (bytes : List ℕ) (answer : Result LayerTable LayerFault) (l : LayerTable) → Gives answer (read bytes) → IsText bytes l → IsRead answer l
is_read bytes (Err fault.NoMemory) l gives t = tt
is_read bytes (Ok a) l gives t = let e : Ok a ≡ Ok l = sym gives ∙ text_read bytes l t in cc
is_read bytes (Err (fault.Refused r)) l gives t = let e : Err r ≡ Ok l = sym gives ∙ text_read bytes l t in absurd cc

pub is_refused : (bytes : List ℕ) (answer : Result LayerTable LayerFault) (r : Refusal) → Gives answer (read bytes) → IsRefusedFirst bytes r → IsRefused answer r
is_refused bytes (Err fault.NoMemory) r gives t = tt
is_refused bytes (Ok a) r gives t = let e : Ok a ≡ Err r = sym gives ∙ refusal_read bytes r t in absurd cc
is_refused bytes (Err (fault.Refused x)) r gives t = let e : Err x ≡ Err r = sym gives ∙ refusal_read bytes r t in cc

-- ---- a text that passes the first checks

pub passed : (bytes : List ℕ) (old d : Draft) (l : LayerTable) → old ≡ blank → run_from (length bytes) layer old (words_of bytes) ≡ Ok d → l ≡ layer_of d → layer_in bytes (draft_of bytes) ≡ Ok l
unfolding draft_of
passed bytes old d l from ran says = ap (layer_in bytes) (ap (λ (x : Draft). run_from (length bytes) layer x (words_of bytes)) (sym from) ∙ ran) ∙ ap Ok (sym says)

pub stopped : (bytes : List ℕ) (old new : Draft) (why : ActFault) (answer : LayerFault) → old ≡ blank → Does (Err why) new (run_from (length bytes) layer old (words_of bytes)) → Places answer bytes why → Gives (Err answer) (layer_in bytes (draft_of bytes))
unfolding draft_of
stopped bytes old new (act_fault.Refused r) answer from ran placed =
    subst (λ (f : LayerFault). Gives (Err f) (layer_in bytes (run_from (length bytes) layer blank (words_of bytes)))) (sym placed)
    (ap (layer_in bytes) (ap (λ (x : Draft). run_from (length bytes) layer x (words_of bytes)) (sym from) ∙ ran))
stopped bytes old new act_fault.NoMemory answer from ran placed =
    subst (λ (f : LayerFault). Gives (Err f) (layer_in bytes (run_from (length bytes) layer blank (words_of bytes)))) (sym placed) tt

-- ---- the whole

pub checked : (bytes : List ℕ) (r : Refused) (refusal : Refusal) → first_check bytes ≡ Some r → refusal ≡ refusal_at bytes r → read bytes ≡ Err refusal
checked bytes r refusal at place = read_by bytes (Some r) (draft_of bytes) at refl ∙ ap Err (sym place)

pub unchecked : (bytes : List ℕ) (answer : Result LayerTable LayerFault) → first_check bytes ≡ None → Gives answer (layer_in bytes (draft_of bytes)) → Gives answer (read bytes)
unchecked bytes answer at gives = subst (λ (x : Result LayerTable Refusal). Gives answer x) (sym (read_by bytes None (draft_of bytes) at refl)) gives
