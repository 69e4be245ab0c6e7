-- What is left to be read, word by word.
use Rattle.std.proofs.Common.{◌≡◌, ℕ, true, false, List, [], ◌∷◌, Option, Some, None, Result, Ok, Err, refl, ap, sym, subst, ◌∙◌}
use Rattle.std.specs.declared.alloc.AllocError.{AllocError}
use Rattle.sdf_values.specs.declared.refusal.RefusalKind.TheVariants.{Syntax}
use Rattle.usda_drafts.specs.Acts.{act}
use Rattle.usda_drafts.specs.Refusals.{refused, Does}
use Rattle.usda_drafts.specs.declared.draft.Draft.{Draft}
use Rattle.usda_drafts.specs.declared.fault.ActFault.{ActFault}
use Rattle.usda_drafts.specs.declared.fault.Refused.{Refused}
use Rattle.usda_drafts.specs.declared.fault.ActFault.TheVariants as fault
use Rattle.usda_grammar.specs.declared.kinds.WordKind.{WordKind}
use Rattle.usda_grammar.specs.declared.symbols.Symbol.{Symbol}
use Rattle.usda_grammar.specs.Machine.{step, is_done}
use Rattle.usda_machine.specs.Reading.{run}
use Rattle.usda_machine.specs.Stacks.{Steps}
use Rattle.usda_words.specs.Words.{Word, word_kind}
use Rattle.usda_reader.specs.Reading.{run_from, GoesOn}
use Rattle.usda_reader.specs.Texts.{syntax_at}

-- what a step answers, where it took the word and where it did not
pub some_step : (answer : Result (Option Symbol) AllocError) (new : List Symbol) (found : Option (Symbol × List Symbol)) (s : Symbol) → answer ≡ Ok (Some s) → Steps answer new found → found ≡ Some (s, new)
some_step (Ok (Some t)) new found s e h = let f : t ≡ s = cc in h ∙ ap (λ (x : Symbol). Some (x, new)) f
some_step (Ok None) new found s e h = absurd cc
some_step (Err x) new found s e h = absurd cc

pub no_step : (answer : Result (Option Symbol) AllocError) (new : List Symbol) (found : Option (Symbol × List Symbol)) → answer ≡ Ok None → Steps answer new found → found ≡ None
no_step (Ok (Some t)) new found e h = absurd cc
no_step (Ok None) new found e h = h
no_step (Err x) new found e h = absurd cc

-- ---- whatever words and drafts are

module _ {W D R : Type 0} (kind : W → WordKind) (does : Symbol → W → D → Result D R) (refused_as : Option W → R) where
  taken : (stack next : List Symbol) (s : Symbol) (d after : D) (w : W) (ws : List W) → step stack (kind w) ≡ Some (s, next) → does s w d ≡ Ok after → run kind does refused_as stack d (w ∷ ws) ≡ run kind does refused_as next after ws
  taken stack next s d after w ws at acted = rw (at, acted) refl

  not_taken : (stack next : List Symbol) (s : Symbol) (d : D) (r : R) (w : W) (ws : List W) → step stack (kind w) ≡ Some (s, next) → does s w d ≡ Err r → run kind does refused_as stack d (w ∷ ws) ≡ Err r
  not_taken stack next s d r w ws at acted = rw (at, acted) refl

  no_symbol : (stack : List Symbol) (d : D) (w : W) (ws : List W) → step stack (kind w) ≡ None → run kind does refused_as stack d (w ∷ ws) ≡ Err (refused_as (Some w))
  no_symbol stack d w ws at = rw at refl

  at_an_end : (stack : List Symbol) (d : D) → is_done stack ≡ true → run kind does refused_as stack d [] ≡ Ok d
  at_an_end stack d done = rw done refl

  too_short : (stack : List Symbol) (d : D) → is_done stack ≡ false → run kind does refused_as stack d [] ≡ Err (refused_as None)
  too_short stack d done = rw done refl

-- ---- the words of a text, and its draft

pub goes_on : (end : ℕ) (stack next : List Symbol) (s : Symbol) (old new : Draft) (w : Word) (ws : List Word) (answer : Result (Unit {0}) ActFault) → step stack (word_kind w) ≡ Some (s, next) → Does answer new (act s w old) → GoesOn answer (run_from end stack old (w ∷ ws)) (run_from end next new ws)
unfolding run_from
goes_on end stack next s old new w ws (Ok u) at does = taken word_kind act (syntax_at end) stack next s old new w ws at does
goes_on end stack next s old new w ws (Err (fault.Refused r)) at does = not_taken word_kind act (syntax_at end) stack next s old r w ws at does
goes_on end stack next s old new w ws (Err fault.NoMemory) at does = tt

pub stops : (end : ℕ) (stack : List Symbol) (d : Draft) (w : Word) (ws : List Word) → step stack (word_kind w) ≡ None → run_from end stack d (w ∷ ws) ≡ Err (refused Syntax w.start)
unfolding run_from
stops end stack d w ws at = no_symbol word_kind act (syntax_at end) stack d w ws at

pub stops_at : (end : ℕ) (stack : List Symbol) (d : Draft) (w : Word) (ws : List Word) (fault_ : ActFault) (after : Result Draft Refused) → fault_ ≡ fault.Refused (refused Syntax w.start) → step stack (word_kind w) ≡ None → GoesOn (Err fault_) (run_from end stack d (w ∷ ws)) after
stops_at end stack d w ws fault_ after e at = subst (λ (f : ActFault). GoesOn (Err f) (run_from end stack d (w ∷ ws)) after) (sym e) (stops end stack d w ws at)

pub ends : (end : ℕ) (stack : List Symbol) (d : Draft) → is_done stack ≡ true → run_from end stack d [] ≡ Ok d
unfolding run_from
ends end stack d done = at_an_end word_kind act (syntax_at end) stack d done

pub breaks_off : (end : ℕ) (stack : List Symbol) (d : Draft) → is_done stack ≡ false → run_from end stack d [] ≡ Err (refused Syntax end)
unfolding run_from
breaks_off end stack d done = too_short word_kind act (syntax_at end) stack d done

-- a word that is refused refuses the whole
pub refused_there : (fault_ : ActFault) (new : Draft) (whole before after : Result Draft Refused) → whole ≡ before → GoesOn (Err fault_) before after → Does (Err fault_) new whole
refused_there (fault.Refused r) new whole before after at h = at ∙ h
refused_there fault.NoMemory new whole before after at h = tt

-- a text that breaks off is refused at its end
pub breaks_off_at : (end : ℕ) (stack : List Symbol) (d : Draft) (fault_ : ActFault) (whole : Result Draft Refused) → whole ≡ run_from end stack d [] → fault_ ≡ fault.Refused (refused Syntax end) → is_done stack ≡ false → Does (Err fault_) d whole
breaks_off_at end stack d fault_ whole at e done = subst (λ (f : ActFault). Does (Err f) d whole) (sym e) (at ∙ breaks_off end stack d done)
