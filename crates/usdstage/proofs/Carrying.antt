-- The replies to the steps of a script, as they are written.
use Rattle.std.proofs.Common.{◌≡◌, ℕ, ◌≤◌, ◌<◌, Bool, true, false, inl, inr, List, [], ◌++◌, length, take, drop, Option, Some, None, Result, Ok, Err, refl, ap, sym, subst, ◌∙◌, append_assoc}
use Rattle.std.specs.Prelude.{IfSome}
use Rattle.std.specs.Io.KnownBytes.{Appends}
use Rattle.std.proofs.lemmas.List.{append-nil, take-append-drop}
use Rattle.composition.specs.Texts.{Text}
use Rattle.layer_set.specs.Worlds.{WorldData}
use Rattle.layer_set.specs.declared.held.Held.{Held}
use Rattle.session_script.specs.Reading.{Steps, steps_of, ended, step}
use Rattle.session_script.specs.Reading as reading
use Rattle.session_script.specs.States.{State, steps_left, AnswersNext}
use Rattle.session_script.specs.Told.{BothTold, coming}
use Rattle.session_script.specs.declared.faults.ScriptFault.{ScriptFault}
use Rattle.session_script.specs.declared.faults.ScriptFault.TheVariants.{Refused as LineRefused, ReadFault as ScriptReadFault, NoMemory as ScriptNoMemory}
use Rattle.session_script.specs.declared.faults.ScriptKind.{ScriptKind}
use Rattle.session_script.specs.declared.steps.Step.{Step}
use Rattle.stage_session.specs.Sessions.{Session, stage_after, most_paths, opening, opening_text}
use Rattle.usdstage.specs.Course.{Course, Turn, nothing, onto, by_turn, turn, carried, session_course}
use Rattle.usdstage.specs.Outcome.{Carries, Ends, EndsWith, Takes, WritesFront}
use Rattle.usdstage.specs.declared.status.Status.{Status}
use Rattle.usdstage.specs.declared.status.Status.TheVariants.{Done, Usage, ReadFault, WriteFault, RootRefused, ScriptRefused, StageFull, WorldTooLarge, NoMemory}
use Rattle.usdstage.proofs.Outcomes.{IsCut, appends_none, appends_then, cut, whole, ends_with_nothing, not_full, full}

-- ---- courses

pub onto_onto : (a b : List ℕ) (c : Course) → onto a (onto b c) ≡ onto (a ++ b) c
onto_onto a b c = ap (λ (l : List ℕ). record { text = l; due = c.due }) (sym (append_assoc a b c.text))

module _ (held : Text → Held) (size : Text → ℕ) where
  pub carried-ended : (s : Session) (b : ℕ) → carried held size s b ended ≡ nothing Done
  unfolding carried
  carried-ended s b = refl

  pub carried-refused : (s : Session) (b line : ℕ) (kind : ScriptKind) → carried held size s b (reading.refused line kind) ≡ nothing (ScriptRefused line kind)
  unfolding carried
  carried-refused s b line kind = refl

  carried-step : (s : Session) (b line : ℕ) (next : Step) (more : Steps) → carried held size s b (step line next more) ≡ by_turn (λ t k. carried held size t k more) (turn held size s b next)
  unfolding carried
  carried-step s b line next more = refl

  -- what a session wrote so far, and what is left of its course
  pub record Reached (start now : Session) (b0 b : ℕ) (all left : Steps) (x y : Option (List ℕ)) : Type 0 where
    pub written : List ℕ
    pub appends : Appends x y written
    pub same : carried held size start b0 all ≡ onto written (carried held size now b left)

  text_of : (start now : Session) (b0 b : ℕ) (all left : Steps) (x y : Option (List ℕ)) (r : Reached start now b0 b all left x y) → (carried held size start b0 all).text ≡ r.written ++ (carried held size now b left).text
  text_of start now b0 b all left x y r = ap (λ (c : Course). c.text) r.same

  due_of : (start now : Session) (b0 b : ℕ) (all left : Steps) (x y : Option (List ℕ)) → Reached start now b0 b all left x y → (carried held size start b0 all).due ≡ (carried held size now b left).due
  due_of start now b0 b all left x y r = ap (λ (c : Course). c.due) r.same

  -- the course ends here
  reached_whole : (start now : Session) (b0 b : ℕ) (all left : Steps) (status : Status) (x y : Option (List ℕ)) → Reached start now b0 b all left x y → carried held size now b left ≡ nothing status
      → EndsWith (carried held size start b0 all) status x y
  reached_whole start now b0 b all left status x y r e =
      let text : (carried held size start b0 all).text ≡ r.written = text_of start now b0 b all left x y r ∙ ap (λ (c : Course). r.written ++ c.text) e ∙ append-nil r.written in
      (r.written, whole (carried held size start b0 all) status r.written text (due_of start now b0 b all left x y r ∙ ap (λ (c : Course). c.due) e), r.appends)

  -- the run is cut off here
  pub reached_cut : (start now : Session) (b0 b : ℕ) (all left : Steps) (status : Status) (x y : Option (List ℕ)) → IsCut status → Reached start now b0 b all left x y → EndsWith (carried held size start b0 all) status x y
  reached_cut start now b0 b all left status x y k r =
      (r.written, cut (carried held size start b0 all) status r.written k ((carried held size now b left).text, sym (text_of start now b0 b all left x y r)), r.appends)

  -- one step more, whose reply was written whole
  pub reached_more : (start now next : Session) (b0 b total : ℕ) (all before left : Steps) (line : ℕ) (s : Step) (reply : List ℕ) (x y z : Option (List ℕ)) → Reached start now b0 b all before x y → before ≡ step line s left
      → turn held size now b s ≡ Ok (record { reply = reply; session = next; bytes = total }) → Appends y z reply → Reached start next b0 total all left x z
  reached_more start now next b0 b total all before left line s reply x y z r e turns wrote =
      let here : carried held size now b before ≡ onto reply (carried held size next total left) = ap (carried held size now b) e ∙ carried-step now b line s left ∙ ap (by_turn (λ t k. carried held size t k left)) turns in
      record {
        written = r.written ++ reply;
        appends = appends_then x y z r.written reply r.appends wrote;
        same = r.same ∙ ap (onto r.written) here ∙ onto_onto r.written reply (carried held size next total left);
      }

  -- the front of a reply was written
  reached_front : (start now : Session) (b0 b : ℕ) (all before left : Steps) (line : ℕ) (s : Step) (status : Status) (x y z : Option (List ℕ)) → IsCut status → Reached start now b0 b all before x y → before ≡ step line s left
      → WritesFront (turn held size now b s) y z → EndsWith (carried held size start b0 all) status x z
  reached_front start now b0 b all before left line s status x y z k r e (t, turns, (n, wrote)) =
      let rest : List ℕ = (carried held size t.session t.bytes left).text in
      let here : (carried held size now b before).text ≡ t.reply ++ rest = ap (λ (c : Course). c.text) (ap (carried held size now b) e ∙ carried-step now b line s left ∙ ap (by_turn (λ u m. carried held size u m left)) turns) in
      let split : take n t.reply ++ (drop n t.reply ++ rest) ≡ t.reply ++ rest = sym (append_assoc (take n t.reply) (drop n t.reply) rest) ∙ ap (λ (l : List ℕ). l ++ rest) (take-append-drop n t.reply) in
      let front : (r.written ++ take n t.reply) ++ (drop n t.reply ++ rest) ≡ (carried held size start b0 all).text =
      append_assoc r.written (take n t.reply) (drop n t.reply ++ rest) ∙ ap (λ (l : List ℕ). r.written ++ l) (split ∙ sym here) ∙ sym (text_of start now b0 b all before x y r) in
      (r.written ++ take n t.reply, cut (carried held size start b0 all) status (r.written ++ take n t.reply) k (drop n t.reply ++ rest, front), appends_then x y z r.written (take n t.reply) r.appends wrote)

  -- a step that ended the run without a reply
  reached_stop : (start now : Session) (b0 b : ℕ) (all before left : Steps) (line : ℕ) (s : Step) (status : Status) (x y : Option (List ℕ)) → Reached start now b0 b all before x y → before ≡ step line s left
      → turn held size now b s ≡ Err status → EndsWith (carried held size start b0 all) status x y
  reached_stop start now b0 b all before left line s status x y r e turns =
      reached_whole start now b0 b all before status x y r (ap (carried held size now b) e ∙ carried-step now b line s left ∙ ap (by_turn (λ t k. carried held size t k left)) turns)

  -- a step that ended the run
  reached_end : (start now new : Session) (b0 b : ℕ) (all before left : Steps) (line : ℕ) (s : Step) (status : Status) (x y z : Option (List ℕ)) → Reached start now b0 b all before x y → before ≡ step line s left
      → Carries (Err status) new (turn held size now b s) y z → EndsWith (carried held size start b0 all) status x z
  reached_end start now new b0 b all before left line s StageFull x y z r e (turns, same) = rw same (reached_stop start now b0 b all before left line s StageFull x y r e turns)
  reached_end start now new b0 b all before left line s WorldTooLarge x y z r e (turns, same) = rw same (reached_stop start now b0 b all before left line s WorldTooLarge x y r e turns)
  reached_end start now new b0 b all before left line s ReadFault x y z r e same = rw same (reached_cut start now b0 b all before ReadFault x y tt r)
  reached_end start now new b0 b all before left line s WriteFault x y z r e front = reached_front start now b0 b all before left line s WriteFault x y z tt r e front
  reached_end start now new b0 b all before left line s NoMemory x y z r e (inl same) = rw same (reached_cut start now b0 b all before NoMemory x y tt r)
  reached_end start now new b0 b all before left line s NoMemory x y z r e (inr front) = reached_front start now b0 b all before left line s NoMemory x y z tt r e front
  reached_end start now new b0 b all before left line s Done x y z r e c = absurd c
  reached_end start now new b0 b all before left line s Usage x y z r e c = absurd c
  reached_end start now new b0 b all before left line s (RootRefused name refusal) x y z r e c = absurd c
  reached_end start now new b0 b all before left line s (ScriptRefused n kind) x y z r e c = absurd c

  -- ---- by what the source tells

  -- how the run stands behind what was read of the script
  abbrev pub Stands : Session → Session → ℕ → ℕ → State → Option (List ℕ) → Option (List ℕ) → Option (List ℕ) → Option (List ℕ) → Type 0
  Stands start now b0 b steps before after x y = BothTold before after (λ all rest. Reached start now b0 b (steps_of all) (steps_left steps rest) x y)

  pub starts : (session : Session) (b : ℕ) (fresh : State) (left out : Option (List ℕ)) → fresh ≡ record { taken = 0; held = []; ended = false; lines = 0; batch = None; line = 0; stopped = None } → Stands session session b b fresh left (coming fresh.ended left) out out
  starts session b fresh None out e = tt
  starts session b fresh (Some all) out e = rw e (record { written = []; appends = appends_none out; same = refl })

  pub goes_on : (start now next : Session) (b0 b total : ℕ) (old new : State) (s : Step) (p q r x y z : Option (List ℕ)) → Stands start now b0 b old p q x y → BothTold q r (λ u v. AnswersNext (Ok (Some s)) new.line (steps_left old u) (steps_left new v))
      → Carries (Ok total) next (turn held size now b s) y z → Stands start next b0 total new p r x z
  goes_on start now next b0 b total old new s None q r x y z have asked (reply, turns, wrote) = tt
  goes_on start now next b0 b total old new s (Some all) None r x y z have asked (reply, turns, wrote) = absurd have
  goes_on start now next b0 b total old new s (Some all) (Some u) None x y z have asked (reply, turns, wrote) = absurd asked
  goes_on start now next b0 b total old new s (Some all) (Some u) (Some v) x y z have asked (reply, turns, wrote) =
      reached_more start now next b0 b total (steps_of all) (steps_left old u) (steps_left new v) new.line s reply x y z have asked turns wrote

  pub stops : (start now next : Session) (b0 b : ℕ) (old new : State) (s : Step) (status : Status) (p q r x y z : Option (List ℕ)) → Stands start now b0 b old p q x y
      → BothTold q r (λ u v. AnswersNext (Ok (Some s)) new.line (steps_left old u) (steps_left new v)) → Carries (Err status) next (turn held size now b s) y z
      → IfSome p (λ all. EndsWith (carried held size start b0 (steps_of all)) status x z)
  stops start now next b0 b old new s status None q r x y z have asked c = tt
  stops start now next b0 b old new s status (Some all) None r x y z have asked c = absurd have
  stops start now next b0 b old new s status (Some all) (Some u) None x y z have asked c = absurd asked
  stops start now next b0 b old new s status (Some all) (Some u) (Some v) x y z have asked c =
      reached_end start now next b0 b (steps_of all) (steps_left old u) (steps_left new v) new.line s status x y z have asked c

  -- how a run ends where the script gives no step
  abbrev pub EndsScript : Result (Option Step) ScriptFault → Status → Type 0
  EndsScript (Ok None) status = status ≡ Done
  EndsScript (Ok (Some s)) status = ⊥
  EndsScript (Err (LineRefused line kind)) status = status ≡ ScriptRefused line kind
  EndsScript (Err ScriptReadFault) status = status ≡ ReadFault
  EndsScript (Err ScriptNoMemory) status = status ≡ NoMemory

  at_the_end : (start now : Session) (b0 b : ℕ) (all before after : Steps) (line : ℕ) (answer : Result (Option Step) ScriptFault) (status : Status) (x y : Option (List ℕ)) → EndsScript answer status → Reached start now b0 b all before x y
      → AnswersNext answer line before after → EndsWith (carried held size start b0 all) status x y
  at_the_end start now b0 b all before after line (Ok None) status x y is r asked = rw is (reached_whole start now b0 b all before Done x y r (ap (carried held size now b) asked.0 ∙ carried-ended now b))
  at_the_end start now b0 b all before after line (Ok (Some s)) status x y is r asked = absurd is
  at_the_end start now b0 b all before after line (Err (LineRefused n kind)) status x y is r asked = rw is (reached_whole start now b0 b all before (ScriptRefused n kind) x y r (ap (carried held size now b) asked.0 ∙ carried-refused now b n kind))
  at_the_end start now b0 b all before after line (Err ScriptReadFault) status x y is r asked = rw is (reached_cut start now b0 b all before ReadFault x y tt r)
  at_the_end start now b0 b all before after line (Err ScriptNoMemory) status x y is r asked = rw is (reached_cut start now b0 b all before NoMemory x y tt r)

  pub gives_none : (start now : Session) (b0 b : ℕ) (old new : State) (answer : Result (Option Step) ScriptFault) (status : Status) (p q r x y : Option (List ℕ)) → EndsScript answer status → Stands start now b0 b old p q x y
      → BothTold q r (λ u v. AnswersNext answer new.line (steps_left old u) (steps_left new v)) → IfSome p (λ all. EndsWith (carried held size start b0 (steps_of all)) status x y)
  gives_none start now b0 b old new answer status None q r x y is have asked = tt
  gives_none start now b0 b old new answer status (Some all) None r x y is have asked = absurd have
  gives_none start now b0 b old new answer status (Some all) (Some u) None x y is have asked = absurd asked
  gives_none start now b0 b old new answer status (Some all) (Some u) (Some v) x y is have asked =
      at_the_end start now b0 b (steps_of all) (steps_left old u) (steps_left new v) new.line answer status x y is have asked

  -- ---- the opening

  module _ (world : WorldData) (bytes : ℕ) (script : List ℕ) where
    abbrev opened_by : Bool → Course
    opened_by b = elim b [ true ↦ nothing StageFull | false ↦ onto (opening_text world) (carried held size (opening world) bytes (steps_of script)) ]

    opened : length (stage_after world []) ≤ most_paths → session_course held size world bytes script ≡ onto (opening_text world) (carried held size (opening world) bytes (steps_of script))
    opened few = ap opened_by (not_full (stage_after world []) few)

    pub opened_full : (out : Option (List ℕ)) → most_paths < length (stage_after world []) → EndsWith (session_course held size world bytes script) StageFull out out
    opened_full out many = ends_with_nothing (session_course held size world bytes script) StageFull out (ap opened_by (full (stage_after world []) many))

    pub opened_cut : (status : Status) (n : ℕ) (x y : Option (List ℕ)) → IsCut status → length (stage_after world []) ≤ most_paths → Appends x y (take n (opening_text world))
        → EndsWith (session_course held size world bytes script) status x y
    opened_cut status n x y k few wrote =
        let reply : List ℕ = opening_text world in
        let rest : List ℕ = (carried held size (opening world) bytes (steps_of script)).text in
        let text : (session_course held size world bytes script).text ≡ reply ++ rest = ap (λ (c : Course). c.text) (opened few) in
        let front : take n reply ++ (drop n reply ++ rest) ≡ (session_course held size world bytes script).text =
        sym (append_assoc (take n reply) (drop n reply) rest) ∙ ap (λ (l : List ℕ). l ++ rest) (take-append-drop n reply) ∙ sym text in
        (take n reply, cut (session_course held size world bytes script) status (take n reply) k (drop n reply ++ rest, front), wrote)

  after_reply : (c d : Course) (reply : List ℕ) (status : Status) (written : List ℕ) → c ≡ onto reply d → Ends d status written → Ends c status (reply ++ written)
  after_reply c d reply ReadFault written e (more, m) = (more, append_assoc reply written more ∙ ap (λ (l : List ℕ). reply ++ l) m ∙ sym (ap (λ (k : Course). k.text) e))
  after_reply c d reply WriteFault written e (more, m) = (more, append_assoc reply written more ∙ ap (λ (l : List ℕ). reply ++ l) m ∙ sym (ap (λ (k : Course). k.text) e))
  after_reply c d reply NoMemory written e (more, m) = (more, append_assoc reply written more ∙ ap (λ (l : List ℕ). reply ++ l) m ∙ sym (ap (λ (k : Course). k.text) e))
  after_reply c d reply Done written e (t, u) = (ap (λ (k : Course). k.text) e ∙ ap (λ (l : List ℕ). reply ++ l) t, ap (λ (k : Course). k.due) e ∙ u)
  after_reply c d reply Usage written e (t, u) = (ap (λ (k : Course). k.text) e ∙ ap (λ (l : List ℕ). reply ++ l) t, ap (λ (k : Course). k.due) e ∙ u)
  after_reply c d reply (RootRefused name refusal) written e (t, u) = (ap (λ (k : Course). k.text) e ∙ ap (λ (l : List ℕ). reply ++ l) t, ap (λ (k : Course). k.due) e ∙ u)
  after_reply c d reply (ScriptRefused line kind) written e (t, u) = (ap (λ (k : Course). k.text) e ∙ ap (λ (l : List ℕ). reply ++ l) t, ap (λ (k : Course). k.due) e ∙ u)
  after_reply c d reply StageFull written e (t, u) = (ap (λ (k : Course). k.text) e ∙ ap (λ (l : List ℕ). reply ++ l) t, ap (λ (k : Course). k.due) e ∙ u)
  after_reply c d reply WorldTooLarge written e (t, u) = (ap (λ (k : Course). k.text) e ∙ ap (λ (l : List ℕ). reply ++ l) t, ap (λ (k : Course). k.due) e ∙ u)

  -- what is written behind the opening
  behind : (c d : Course) (reply : List ℕ) (status : Status) (x y z : Option (List ℕ)) → c ≡ onto reply d → Appends x y reply → EndsWith d status y z → EndsWith c status x z
  behind c d reply status x y z e first (written, ends, then) = (reply ++ written, after_reply c d reply status written e ends, appends_then x y z reply written first then)

  -- the reply to the opening was written, and then how the run ends behind it
  pub opened_then : (world : WorldData) (bytes : ℕ) (script : List ℕ) (status : Status) (x y z : Option (List ℕ)) → length (stage_after world []) ≤ most_paths → Appends x y (opening_text world)
      → EndsWith (carried held size (opening world) bytes (steps_of script)) status y z → EndsWith (session_course held size world bytes script) status x z
  opened_then world bytes script status x y z few first ends =
      behind (session_course held size world bytes script) (carried held size (opening world) bytes (steps_of script)) (opening_text world) status x y z (opened world bytes script few) first ends

  -- the reply to the opening was written, and then the replies to the lines of a script
  pub opened_replies : (world : WorldData) (bytes : ℕ) (script : List ℕ) (x y z : Option (List ℕ)) → length (stage_after world []) ≤ most_paths → Appends x y (opening_text world)
      → Appends y z (carried held size (opening world) bytes (steps_of script)).text → Appends x z (session_course held size world bytes script).text
  opened_replies world bytes script x y z few first then =
      subst (λ (c : Course). Appends x z c.text) (sym (opened world bytes script few)) (appends_then x y z (opening_text world) (carried held size (opening world) bytes (steps_of script)).text first then)

  -- the run ends as it does behind the reply to the opening
  pub opened_due : (world : WorldData) (bytes : ℕ) (script : List ℕ) → length (stage_after world []) ≤ most_paths → (session_course held size world bytes script).due ≡ (carried held size (opening world) bytes (steps_of script)).due
  opened_due world bytes script few = ap (λ (c : Course). c.due) (opened world bytes script few)

  -- ---- what a reply makes of a run

  -- a reply that was written whole, or its front
  pub carries_whole : (reply : List ℕ) (total : ℕ) (session : Session) (t : Result Turn Status) (x y : Option (List ℕ)) → t ≡ Ok (record { reply = reply; session = session; bytes = total }) → Appends x y reply → Carries (Ok total) session t x y
  carries_whole reply total session t x y turns wrote = (reply, turns, wrote)

  pub carries_front : (reply : List ℕ) (total n : ℕ) (session : Session) (t : Result Turn Status) (x y : Option (List ℕ)) → t ≡ Ok (record { reply = reply; session = session; bytes = total }) → Appends x y (take n reply) → WritesFront t x y
  carries_front reply total n session t x y turns wrote = (record { reply = reply; session = session; bytes = total }, turns, (n, wrote))

  pub carries_end : {V : Type 0} (shown : V → List ℕ) (status : Status) (session : Session) (t : Result Turn Status) (x : Option (List ℕ)) → Takes shown (Err status) session t → Carries (Err status) session t x x
  carries_end shown StageFull session t x k = (k, refl)
  carries_end shown WorldTooLarge session t x k = (k, refl)
  carries_end shown ReadFault session t x k = refl
  carries_end shown NoMemory session t x k = inl refl
  carries_end shown Done session t x k = absurd k
  carries_end shown Usage session t x k = absurd k
  carries_end shown WriteFault session t x k = absurd k
  carries_end shown (RootRefused name refusal) session t x k = absurd k
  carries_end shown (ScriptRefused line kind) session t x k = absurd k
