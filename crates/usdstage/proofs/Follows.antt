-- The replies to the lines of a script that were taken, whatever lines follow them.
use Rattle.std.proofs.Common.{◌≡◌, ℕ, ◌+◌, ◌≤◌, length, arith, false, List, [], ◌++◌, Option, Some, None, Ok, Err, refl, ap, sym, subst, ◌∙◌, append_assoc}
use Rattle.std.specs.Io.KnownBytes.{Appends}
use Rattle.std.specs.List.{concat}
use Rattle.std.proofs.lemmas.List.{append-nil}
use Rattle.composition.specs.Texts.{Text}
use Rattle.edit_batches.specs.declared.op.Op.{Op}
use Rattle.layer_set.specs.declared.held.Held.{Held}
use Rattle.session_script.specs.Pieces.{lines_of, AreFed}
use Rattle.session_script.specs.Reading.{Steps, at_end, steps_from, steps_of}
use Rattle.session_script.specs.States.{State, Passes, steps_behind}
use Rattle.session_script.specs.Told.{BothTold, coming}
use Rattle.session_script.specs.declared.faults.ScriptFault.TheVariants.{ReadFault as ScriptReadFault}
use Rattle.session_script.specs.declared.faults.ScriptKind.TheVariants.{Unfinished}
use Rattle.session_script.specs.declared.steps.Step.{Step}
use Rattle.session_script.proofs.Going.{none_left, told_then}
use Rattle.session_script.proofs.Whole.{fed_append, front_lines, longer_by_all, whole_lines}
use Rattle.stage_session.specs.Sessions.{Session}
use Rattle.usdstage.specs.Course.{Course, turn, carried}
use Rattle.usdstage.specs.Outcome.{Carries, GoesOn, RepliesToLines}
use Rattle.usdstage.proofs.Carrying.{Reached, carried-ended, carried-refused, reached_more}
use Rattle.usdstage.proofs.Outcomes.{appends_none}

module _ (held : Text → Held) (size : Text → ℕ) where
  -- The lines that were taken, and what was written by then, whatever lines follow them. While the script has not told its end, each
  -- has its line feed.
  pub record Follows (start now : Session) (b0 b : ℕ) (steps : State) (p q x y : Option (List ℕ)) : Type 0 where
    pub lines : List (List ℕ)
    pub fed : steps.ended ≡ false → AreFed lines
    pub count : length (concat lines) ≡ steps.taken
    pub front : BothTold p q (λ all rest. lines_of all ≡ lines ++ lines_of (steps.held ++ rest))
    pub reached : (rs : List (List ℕ)) → Reached held size start now b0 b (steps_from 0 0 None (lines ++ rs)) (steps_behind steps rs) x y

  all_left : (left : Option (List ℕ)) → BothTold left left (λ all rest. lines_of all ≡ lines_of rest)
  all_left None = tt
  all_left (Some a) = refl

  pub follows_none : (session : Session) (b : ℕ) (fresh : State) (left out : Option (List ℕ)) → fresh ≡ record { taken = 0; held = []; ended = false; lines = 0; batch = None; line = 0; stopped = None }
      → Follows session session b b fresh left (coming fresh.ended left) out out
  follows_none session b fresh left out e = rw e (record { lines = []; fed = λ yet. tt; count = refl; front = all_left left; reached = λ rs. record { written = []; appends = appends_none out; same = refl } })

  pub follows_on : (start now next : Session) (b0 b total : ℕ) (old new : State) (s : Step) (p q r x y z : Option (List ℕ)) → Follows start now b0 b old p q x y → Passes (Ok (Some s)) old new q r
      → Carries (Ok total) next (turn held size now b s) y z → Follows start next b0 total new p r x z
  follows_on start now next b0 b total old new s p q r x y z f (ls, taken, passes, whole, count) (reply, turns, wrote) = record {
    lines = f.lines ++ ls;
    fed = λ yet. let w = whole yet in fed_append f.lines ls (f.fed w.0) w.1;
    count = omega (arith, longer_by_all f.lines ls, f.count, count);
    front = told_then p q r (λ all rest. lines_of all ≡ f.lines ++ lines_of (old.held ++ rest)) (λ rest more. lines_of (old.held ++ rest) ≡ ls ++ lines_of (new.held ++ more)) _ f.front taken
        (λ a u c e h. e ∙ ap (λ (l : List (List ℕ)). f.lines ++ l) h ∙ sym (append_assoc f.lines ls (lines_of (new.held ++ c))));
    reached = λ rs.
        rw (append_assoc f.lines ls rs) (reached_more held size start now next b0 b total (steps_from 0 0 None (f.lines ++ (ls ++ rs))) (steps_behind old (ls ++ rs)) (steps_behind new rs) new.line s reply x y z (f.reached (ls ++ rs)) (passes rs) turns wrote);
  }

  -- where no line follows, nothing more is written
  nothing_more : (now : Session) (b : ℕ) (s : State) → s.stopped ≡ None → (carried held size now b (steps_behind s [])).text ≡ []
  nothing_more now b s e = rw e (ap (λ (x : Steps). (carried held size now b x).text) (none_left s.taken s.lines s.batch) ∙ by_batch s.batch)
    where
      by_batch : (batch : Option (List Op)) → (carried held size now b (at_end batch (s.lines + 1))).text ≡ []
      by_batch None = ap (λ (c : Course). c.text) (carried-ended held size now b)
      by_batch (Some ops) = ap (λ (c : Course). c.text) (carried-refused held size now b (s.lines + 1) _)

  -- where no line follows, the run goes on
  goes_on_there : (now : Session) (b : ℕ) (s : State) → s.stopped ≡ None → GoesOn (carried held size now b (steps_behind s [])).due
  goes_on_there now b s e =
      rw e (subst (λ (x : Steps). GoesOn (carried held size now b x).due) (sym (none_left s.taken s.lines s.batch)) (by_batch s.batch))
    where
      by_batch : (batch : Option (List Op)) → GoesOn (carried held size now b (at_end batch (s.lines + 1))).due
      by_batch None = subst (λ (c : Course). GoesOn c.due) (sym (carried-ended held size now b)) tt
      by_batch (Some ops) = subst (λ (c : Course). GoesOn c.due) (sym (carried-refused held size now b (s.lines + 1) Unfinished)) refl

  -- a fault of the source: what was written are the replies to the whole lines that were read
  pub fault_writes : (start now : Session) (b0 b : ℕ) (old new : State) (p q left x y : Option (List ℕ)) → Follows start now b0 b old p q x y → Passes (Err ScriptReadFault) old new q (coming new.ended left) → new.stopped ≡ None
      → BothTold p left (λ all left. RepliesToLines (λ lines. carried held size start b0 (steps_of lines)) all left x y)
  fault_writes start now b0 b old new p q left x y f (ls, taken, passes, whole, count, yet, none, few) going =
      let w = whole yet in
      let fed : AreFed (f.lines ++ ls) = fed_append f.lines ls (f.fed w.0) w.1 in
      let short : length (concat (f.lines ++ ls)) + length new.held ≤ 16777216 = omega (arith, longer_by_all f.lines ls, f.count, count, few) in
      let ready = f.reached (ls ++ []) in
      let here : (carried held size now b (steps_behind old (ls ++ []))).text ≡ [] = ap (λ (t : Steps). (carried held size now b t).text) (passes []) ∙ nothing_more now b new going in
      let text : (carried held size start b0 (steps_from 0 0 None (f.lines ++ (ls ++ [])))).text ≡ ready.written =
      ap (λ (c : Course). c.text) ready.same ∙ ap (λ (l : List ℕ). ready.written ++ l) here ∙ append-nil ready.written in
      let due : GoesOn (carried held size start b0 (steps_from 0 0 None (f.lines ++ (ls ++ [])))).due =
      subst (λ (c : Course). GoesOn c.due) (sym ready.same) (subst (λ (t : Steps). GoesOn (carried held size now b t).due) (sym (passes [])) (goes_on_there now b new going)) in
      told_then p q left (λ all rest. lines_of all ≡ f.lines ++ lines_of (old.held ++ rest)) (λ rest more. lines_of (old.held ++ rest) ≡ ls ++ lines_of (new.held ++ more)) _ f.front (rw yet at taken) (λ a u c e h.
      let cut : lines_of a ≡ (f.lines ++ ls) ++ lines_of (new.held ++ c) = e ∙ ap (λ (l : List (List ℕ)). f.lines ++ l) h ∙ sym (append_assoc f.lines ls (lines_of (new.held ++ c))) in
      let lines : lines_of (concat (f.lines ++ ls)) ≡ f.lines ++ (ls ++ []) = front_lines a (f.lines ++ ls) (lines_of (new.held ++ c)) cut ∙ ap (λ (l : List (List ℕ)). f.lines ++ l) (sym (append-nil ls)) in
      (concat (f.lines ++ ls), whole_lines a c new.held (f.lines ++ ls) cut fed none short, subst (Appends x y) (sym (ap (λ (l : List (List ℕ)). (carried held size start b0 (steps_from 0 0 None l)).text) lines ∙ text)) ready.appends, subst (λ (l : List (List ℕ)). GoesOn (carried held size start b0 (steps_from 0 0 None l)).due) (sym lines) due))
