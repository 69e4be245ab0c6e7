-- The lines that a script took, whatever lines follow them.
use Rattle.std.proofs.Common.{◌≡◌, ℕ, ◌+◌, ◌≤◌, Bool, false, List, [], ◌∷◌, ◌++◌, length, take, drop, Option, Some, None, Result, Ok, Err, refl, ap, sym, subst, ◌∙◌, arith, append_assoc}
use Rattle.std.specs.Prelude.{nat_lt}
use Rattle.std.specs.List.{concat}
use Rattle.std.proofs.lemmas.Bool.{le-ltb}
use Rattle.edit_batches.specs.declared.op.Op.{Op}
use Rattle.session_script.specs.declared.steps.Step.{Step}
use Rattle.session_script.specs.declared.faults.ScriptFault.{ScriptFault}
use Rattle.session_script.specs.declared.faults.ScriptFault.TheVariants.{Refused, ReadFault, NoMemory}
use Rattle.session_script.specs.declared.front.Front.TheVariants as front
use Rattle.session_script.specs.Told.{BothTold}
use Rattle.session_script.specs.Pieces.{lines_of, IsFed}
use Rattle.script_lines.specs.Lines.{line_of}
use Rattle.session_script.specs.Reading.{step, Move, goes_on, asks, move, most_bytes, steps_from}
use Rattle.session_script.specs.States.{State, steps_behind, Feeds, FrontIs, TakesLine, EndsScript, AreTaken, AreWhole, Passes, has_feed, behind_line}
use Rattle.session_script.proofs.Going.{moved, short_line, taken_len, told_then}
use Rattle.session_script.proofs.Whole.{fed_append, longer_by}

-- lines were taken between two states, and their steps went by; while the source has not told its end, each has its line feed
abbrev pub Passed : State → State → Option (List ℕ) → Option (List ℕ) → Type 0
Passed old new before after = (ls : List (List ℕ)) × AreTaken ls old new before after × ((rs : List (List ℕ)) → steps_behind old (ls ++ rs) ≡ steps_behind new rs) × AreWhole ls old new
    × (new.taken ≡ old.taken + length (concat ls))

pub passed_none : (s : State) (x : Option (List ℕ)) → Passed s s x x
passed_none s None = ([], tt, λ rs. refl, λ yet. (yet, tt), omega arith)
passed_none s (Some a) = ([], refl, λ rs. refl, λ yet. (yet, tt), omega arith)

-- the bytes that were read are held
held_is : (loop mid : State) (y z : Option (List ℕ)) → Feeds loop mid y z → BothTold y z (λ b c. mid.held ++ c ≡ loop.held ++ b)
held_is loop mid None z f = tt
held_is loop mid (Some b) None f = absurd f.2
held_is loop mid (Some b) (Some c) f = ap (λ (s : State). s.held ++ c) f.1 ∙ append_assoc loop.held f.0 c ∙ ap (λ (l : List ℕ). loop.held ++ l) (sym f.2)

-- more bytes are held, and no line was taken
pub passed_fed : (first loop mid : State) (x y z : Option (List ℕ)) → Passed first loop x y → Feeds loop mid y z → Passed first mid x z
passed_fed first loop mid x y z (ls, taken, same, whole, count) f = (
  ls,
  told_then x y z (λ a b. lines_of (first.held ++ a) ≡ ls ++ lines_of (loop.held ++ b)) (λ b c. mid.held ++ c ≡ loop.held ++ b) _ taken (held_is loop mid y z f)
      (λ a b c e h. e ∙ ap (λ (l : List ℕ). ls ++ lines_of l) (sym h)),
  λ rs. same rs ∙ sym (ap (λ (s : State). steps_behind s rs) f.1),
  λ yet. whole (f.3 yet),
  ap (λ (s : State). s.taken) f.1 ∙ count,
)

-- the steps of a line in front, by its move, whatever lines follow it
line_steps : (len : ℕ) (s : State) (m : Move) (rs : List (List ℕ)) → s.stopped ≡ None → len ≤ length s.held → s.taken + len ≤ 16777216 → move s.batch (line_of (take len s.held)) ≡ m
    → steps_behind s (take len s.held ∷ rs) ≡ moved m s.taken s.lines (take len s.held) rs
line_steps len s m rs unrefused within short is =
    let n : length (take len s.held) ≡ len = taken_len len s.held within in
    let fits : nat_lt most_bytes (s.taken + length (take len s.held)) ≡ false = le-ltb most_bytes (s.taken + length (take len s.held)) (omega (arith, n)) in
    rw unrefused (short_line s.taken s.lines s.batch (take len s.held) rs m fits is)

steps_after : (len line : ℕ) (batch : Option (List Op)) (s new : State) (rs : List (List ℕ)) → s.stopped ≡ None → len ≤ length s.held → new ≡ behind_line s len batch line
    → steps_behind new rs ≡ steps_from (s.taken + length (take len s.held)) (s.lines + 1) batch rs
steps_after len line batch s new rs unrefused within e =
    let n : length (take len s.held) ≡ len = taken_len len s.held within in
    ap (λ (t : State). steps_behind t rs) e ∙ rw unrefused (ap (λ (k : ℕ). steps_from (s.taken + k) (s.lines + 1) batch rs) (sym n))

-- the first lines of what was left, and one more
line_more : (first mid new : State) (len line : ℕ) (batch : Option (List Op)) (ls : List (List ℕ)) (x y z : Option (List ℕ)) → AreTaken ls first mid x z
    → BothTold y z (λ _ more. lines_of (mid.held ++ more) ≡ take len mid.held ∷ lines_of (drop len mid.held ++ more)) → BothTold x y (λ _ _. Unit {0}) → new ≡ behind_line mid len batch line
    → AreTaken (ls ++ take len mid.held ∷ []) first new x z
line_more first mid new len line batch ls None y z taken front heard e = tt
line_more first mid new len line batch ls (Some a) None z taken front heard e = absurd heard
line_more first mid new len line batch ls (Some a) (Some b) None taken front heard e = absurd front
line_more first mid new len line batch ls (Some a) (Some b) (Some c) taken front heard e =
    let here : lines_of (new.held ++ c) ≡ lines_of (drop len mid.held ++ c) = ap (λ (s : State). lines_of (s.held ++ c)) e in
    taken ∙ ap (λ (l : List (List ℕ)). ls ++ l) (front ∙ ap (λ (l : List (List ℕ)). take len mid.held ∷ l) (sym here)) ∙ sym (append_assoc ls (take len mid.held ∷ []) (lines_of (new.held ++ c)))

heard : (first loop : State) (ls : List (List ℕ)) (x y : Option (List ℕ)) → AreTaken ls first loop x y → BothTold x y (λ _ _. Unit {0})
heard first loop ls None y t = tt
heard first loop ls (Some a) None t = absurd t
heard first loop ls (Some a) (Some b) t = tt

-- one line more, which has its line feed
one_more : (len line : ℕ) (batch : Option (List Op)) (ls : List (List ℕ)) (first mid new : State) → AreWhole ls first mid → (mid.ended ≡ false → IsFed (take len mid.held)) → new ≡ behind_line mid len batch line
    → AreWhole (ls ++ take len mid.held ∷ []) first new
one_more len line batch ls first mid new whole fed e yet =
    let here : mid.ended ≡ false = sym (ap (λ (s : State). s.ended) e) ∙ yet in
    let w = whole here in
    (w.0, fed_append ls (take len mid.held ∷ []) w.1 (fed here, tt))

counts_on : (len line : ℕ) (batch : Option (List Op)) (ls : List (List ℕ)) (first mid new : State) → len ≤ length mid.held → mid.taken ≡ first.taken + length (concat ls) → new ≡ behind_line mid len batch line
    → new.taken ≡ first.taken + length (concat (ls ++ take len mid.held ∷ []))
counts_on len line batch ls first mid new within count e = omega (arith, ap (λ (s : State). s.taken) e, count, longer_by ls (take len mid.held), taken_len len mid.held within)

-- a line that gives no step
pub passed_line : (len : ℕ) (first loop mid new : State) (x y z : Option (List ℕ)) → mid.stopped ≡ None → Passed first loop x y → Feeds loop mid y z → FrontIs (front.Line len) mid y z
    → TakesLine (Ok None) len mid new (move mid.batch (line_of (take len mid.held))) → Passed first new x z
passed_line len first loop mid new x y z unrefused passed f (some, within, short, ahead, fed) (next, is, e) =
    let m = passed_fed first loop mid x y z passed f in
    let l = take len mid.held in (
      m.0 ++ l ∷ [],
      line_more first mid new len mid.line next m.0 x y z m.1 ahead (heard first loop passed.0 x y passed.1) e,
      λ rs. ap (steps_behind first) (append_assoc m.0 (l ∷ []) rs) ∙ m.2 (l ∷ rs) ∙ line_steps len mid (goes_on next) rs unrefused within short is ∙ sym (steps_after len mid.line next mid new rs unrefused within e),
      one_more len mid.line next m.0 first mid new m.3 fed e,
      counts_on len mid.line next m.0 first mid new within m.4 e,
    )

-- a line that gives a step
pub passed_step : (len : ℕ) (s : Step) (first loop mid new : State) (x y z : Option (List ℕ)) → mid.stopped ≡ None → Passed first loop x y → Feeds loop mid y z → FrontIs (front.Line len) mid y z
    → TakesLine (Ok (Some s)) len mid new (move mid.batch (line_of (take len mid.held))) → Passes (Ok (Some s)) first new x z
passed_step len s first loop mid new x y z unrefused passed f (some, within, short, ahead, fed) (is, e) =
    let m = passed_fed first loop mid x y z passed f in
    let l = take len mid.held in
    let n : new.line ≡ mid.lines + 1 = ap (λ (t : State). t.line) e in (
      m.0 ++ l ∷ [],
      line_more first mid new len (mid.lines + 1) None m.0 x y z m.1 ahead (heard first loop passed.0 x y passed.1) e,
      λ rs. ap (steps_behind first) (append_assoc m.0 (l ∷ []) rs) ∙ m.2 (l ∷ rs) ∙ line_steps len mid (asks s) rs unrefused within short is
          ∙ ap (λ (k : ℕ). step k s (steps_from (mid.taken + length l) (mid.lines + 1) None rs)) (sym n) ∙ ap (step new.line s) (sym (steps_after len (mid.lines + 1) None mid new rs unrefused within e)),
      one_more len (mid.lines + 1) None m.0 first mid new m.3 fed e,
      counts_on len (mid.lines + 1) None m.0 first mid new within m.4 e,
    )

-- a fault of the source, or want of memory
pub passed_fault : (e : ScriptFault) (first loop mid : State) (x y z : Option (List ℕ)) → Passed first loop x y → Feeds loop mid y z → has_feed mid.held ≡ false → mid.ended ≡ false → mid.taken + length mid.held ≤ 16777216 → Passes (Err e) first mid x z
passed_fault (Refused n kind) first loop mid x y z passed f none yet few = tt
passed_fault NoMemory first loop mid x y z passed f none yet few = passed_fed first loop mid x y z passed f
passed_fault ReadFault first loop mid x y z passed f none yet few = let m = passed_fed first loop mid x y z passed f in (m.0, m.1, m.2, m.3, m.4, yet, none, few)

-- what is no step and no fault of the source tells nothing of lines
pub end_passes : (r : Result (Option Step) ScriptFault) (s first new : State) (x z : Option (List ℕ)) → EndsScript r s new → Passes r first new x z
end_passes (Ok None) s first new x z e = tt
end_passes (Ok (Some st)) s first new x z e = absurd e
end_passes (Err (Refused n kind)) s first new x z e = tt
end_passes (Err ReadFault) s first new x z e = absurd e
end_passes (Err NoMemory) s first new x z e = absurd e

-- a line that is refused, or for which memory ran out: then it is not taken
pub refusal_passes : (r : Result (Option Step) ScriptFault) (e : ScriptFault) (len : ℕ) (m : Move) (first loop mid new : State) (x y : Option (List ℕ)) (heard : Bool → Option (List ℕ)) → Passed first loop x y
    → Feeds loop mid y (heard mid.ended) → r ≡ Err e → TakesLine (Err e) len mid new m → Passes r first new x (heard new.ended)
refusal_passes r (Refused n kind) len m first loop mid new x y heard passed f is t = rw is tt
refusal_passes r ReadFault len m first loop mid new x y heard passed f is t = absurd t
refusal_passes r NoMemory len m first loop mid new x y heard passed f is t =
    rw is (subst (λ (s : State). Passed first s x (heard s.ended)) (sym t) (passed_fed first loop mid x y (heard mid.ended) passed f))
