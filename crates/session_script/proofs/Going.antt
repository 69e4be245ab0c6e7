-- The steps of a script, as it is read.
use Rattle.std.proofs.Common.{◌≡◌, ℕ, ◌+◌, ◌<◌, ◌≤◌, true, false, List, [], ◌∷◌, ◌++◌, length, take, drop, Option, Some, None, Result, Ok, Err, refl, ap, sym, ◌∙◌, subst, arith, append_assoc}
use Rattle.std.specs.Prelude.{nat_lt}
use Rattle.std.proofs.lemmas.Bool.{lt-ltb, le-ltb}
use Rattle.std.proofs.lemmas.List.{length-take}
use Rattle.edit_batches.specs.declared.op.Op.{Op}
use Rattle.session_script.specs.declared.steps.Step.{Step}
use Rattle.session_script.specs.declared.faults.ScriptKind.{ScriptKind}
use Rattle.session_script.specs.declared.faults.ScriptKind.TheVariants.{BadLine, TooLong}
use Rattle.session_script.specs.declared.faults.ScriptFault.{ScriptFault}
use Rattle.session_script.specs.declared.faults.ScriptFault.TheVariants.{Refused, ReadFault, NoMemory}
use Rattle.session_script.specs.Told.{BothTold}
use Rattle.session_script.specs.Pieces.{lines_of}
use Rattle.script_lines.specs.Lines.{line_of}
use Rattle.session_script.specs.Reading.{Steps, ended, refused, step, Move, goes_on, asks, refuses, move, most_bytes, at_end, steps_from}
use Rattle.session_script.specs.States.{State, steps_left, AnswersNext, Feeds, TakesLine, EndsScript, stopped_at, behind_line}

pub told_then : (x y z : Option (List ℕ)) (P Q R : List ℕ → List ℕ → Type 0) → BothTold x y P → BothTold y z Q → ((a b c : List ℕ) → P a b → Q b c → R a c) → BothTold x z R
told_then None y z P Q R p q h = tt
told_then (Some a) None z P Q R p q h = absurd p
told_then (Some a) (Some b) None P Q R p q h = absurd q
told_then (Some a) (Some b) (Some c) P Q R p q h = h a b c p q

pub told_also : (x y : Option (List ℕ)) (P Q R : List ℕ → List ℕ → Type 0) → BothTold x y P → BothTold x y Q → ((a b : List ℕ) → P a b → Q a b → R a b) → BothTold x y R
told_also None y P Q R p q h = tt
told_also (Some a) None P Q R p q h = absurd p
told_also (Some a) (Some b) P Q R p q h = h a b p q

pub told_weaker : (x y : Option (List ℕ)) (P Q : List ℕ → List ℕ → Type 0) → BothTold x y P → ((a b : List ℕ) → P a b → Q a b) → BothTold x y Q
told_weaker None y P Q p h = tt
told_weaker (Some a) None P Q p h = absurd p
told_weaker (Some a) (Some b) P Q p h = h a b p

-- the steps that are left behind no refusal
abbrev going : State → List ℕ → Steps
going s left = steps_from s.taken s.lines s.batch (lines_of (s.held ++ left))

left_going : (s : State) (left : List ℕ) → s.stopped ≡ None → steps_left s left ≡ going s left
left_going s left e = rw e refl

-- bytes that are held now were the source's
pub fed : (old new : State) (before after : Option (List ℕ)) → Feeds old new before after → BothTold before after (λ a b. steps_left new b ≡ steps_left old a)
fed old new None after f = tt
fed old new (Some a) None f = absurd f.2
fed old new (Some a) (Some b) f =
    let s : steps_left new b ≡ steps_left (record old { held = old.held ++ f.0; ended = new.ended }) b = ap (λ (s : State). steps_left s b) f.1 in
    let same : (old.held ++ f.0) ++ b ≡ old.held ++ a = append_assoc old.held f.0 b ∙ ap (λ (l : List ℕ). old.held ++ l) (sym f.2) in
    s ∙ ap (λ (l : List ℕ). elim old.stopped [ Some at ↦ refused at.0 at.1 | None ↦ steps_from old.taken old.lines old.batch (lines_of l) ]) same

-- ---- the lines in front

pub none_left : (taken lines : ℕ) (batch : Option (List Op)) → steps_from taken lines batch [] ≡ at_end batch (lines + 1)
unfolding steps_from
none_left taken lines batch = refl

long_line : (taken lines : ℕ) (batch : Option (List Op)) (l : List ℕ) (ls : List (List ℕ)) → nat_lt most_bytes (taken + length l) ≡ true → steps_from taken lines batch (l ∷ ls) ≡ refused (lines + 1) TooLong
unfolding steps_from
long_line taken lines batch l ls e = rw (e, steps_from) refl

-- what comes of a line by its move
abbrev pub moved : Move → ℕ → ℕ → List ℕ → List (List ℕ) → Steps
moved (goes_on next) taken lines l ls = steps_from (taken + length l) (lines + 1) next ls
moved (asks s) taken lines l ls = step (lines + 1) s (steps_from (taken + length l) (lines + 1) None ls)
moved refuses taken lines l ls = refused (lines + 1) BadLine

pub short_line : (taken lines : ℕ) (batch : Option (List Op)) (l : List ℕ) (ls : List (List ℕ)) (m : Move) → nat_lt most_bytes (taken + length l) ≡ false → move batch (line_of l) ≡ m → steps_from taken lines batch (l ∷ ls) ≡ moved m taken lines l ls
unfolding steps_from
short_line taken lines batch l ls (goes_on next) e is = rw (e, is, steps_from) refl
short_line taken lines batch l ls (asks s) e is = rw (e, is, steps_from) refl
short_line taken lines batch l ls refuses e is = rw (e, is, steps_from) refl

-- what taking a line does to the steps that are left
abbrev pub TakesOn : Result (Option Step) ScriptFault → State → State → List ℕ → Type 0
TakesOn (Ok None) old new more = steps_left new more ≡ steps_left old more
TakesOn (Ok (Some s)) old new more = steps_left old more ≡ step new.line s (steps_left new more)
TakesOn (Err (Refused line kind)) old new more = (steps_left old more ≡ refused line kind) × (steps_left new more ≡ refused line kind)
TakesOn (Err ReadFault) old new more = ⊥
TakesOn (Err NoMemory) old new more = new ≡ old

pub taken_len : (len : ℕ) (l : List ℕ) → len ≤ length l → length (take len l) ≡ len
taken_len len l within = omega (arith, length-take len l)

front_line : (len : ℕ) (s : State) (more : List ℕ) (m : Move) → s.stopped ≡ None → len ≤ length s.held → s.taken + len ≤ 16777216
    → lines_of (s.held ++ more) ≡ take len s.held ∷ lines_of (drop len s.held ++ more) → move s.batch (line_of (take len s.held)) ≡ m
    → steps_left s more ≡ moved m s.taken s.lines (take len s.held) (lines_of (drop len s.held ++ more))
front_line len s more m unrefused within short line is =
    let n : length (take len s.held) ≡ len = taken_len len s.held within in
    let fits : nat_lt most_bytes (s.taken + length (take len s.held)) ≡ false = le-ltb most_bytes (s.taken + length (take len s.held)) (omega (arith, n)) in
    left_going s more unrefused ∙ ap (steps_from s.taken s.lines s.batch) line ∙ short_line s.taken s.lines s.batch (take len s.held) (lines_of (drop len s.held ++ more)) m fits is

behind : (len line : ℕ) (batch : Option (List Op)) (s new : State) (more : List ℕ) → s.stopped ≡ None → len ≤ length s.held → new ≡ behind_line s len batch line
    → steps_left new more ≡ steps_from (s.taken + length (take len s.held)) (s.lines + 1) batch (lines_of (drop len s.held ++ more))
behind len line batch s new more unrefused within e =
    let n : length (take len s.held) ≡ len = taken_len len s.held within in
    ap (λ (t : State). steps_left t more) e ∙ left_going (behind_line s len batch line) more unrefused ∙ ap (λ (k : ℕ). steps_from (s.taken + k) (s.lines + 1) batch (lines_of (drop len s.held ++ more))) (sym n)

-- a line that is taken, by what taking it answered
pub takes : (r : Result (Option Step) ScriptFault) (len : ℕ) (s new : State) (more : List ℕ) → s.stopped ≡ None → len ≤ length s.held → s.taken + len ≤ 16777216
    → lines_of (s.held ++ more) ≡ take len s.held ∷ lines_of (drop len s.held ++ more) → TakesLine r len s new (move s.batch (line_of (take len s.held)))
    → TakesOn r s new more
takes (Ok None) len s new more unrefused within short line (next, is, e) =
    behind len s.line next s new more unrefused within e ∙ sym (front_line len s more (goes_on next) unrefused within short line is)
takes (Ok (Some st)) len s new more unrefused within short line (is, e) =
    let n : new.line ≡ s.lines + 1 = ap (λ (t : State). t.line) e in
    front_line len s more (asks st) unrefused within short line is ∙ ap (λ (k : ℕ). step k st (steps_from (s.taken + length (take len s.held)) (s.lines + 1) None (lines_of (drop len s.held ++ more)))) (sym n)
    ∙ ap (step new.line st) (sym (behind len (s.lines + 1) None s new more unrefused within e))
takes (Err (Refused n kind)) len s new more unrefused within short line (is, at, bad, e) =
    (front_line len s more refuses unrefused within short line is ∙ rw (at, bad) refl, ap (λ (t : State). steps_left t more) e ∙ rw (at, bad) refl)
takes (Err ReadFault) len s new more unrefused within short line took = absurd took
takes (Err NoMemory) len s new more unrefused within short line took = took

-- a line that is too long
pub too_long : (s : State) (more : List ℕ) → s.stopped ≡ None → (l : List ℕ) (ls : List (List ℕ)) → lines_of (s.held ++ more) ≡ l ∷ ls → 16777216 < s.taken + length l
    → steps_left s more ≡ refused (s.lines + 1) TooLong
too_long s more unrefused l ls line long = left_going s more unrefused ∙ ap (steps_from s.taken s.lines s.batch) line ∙ long_line s.taken s.lines s.batch l ls (lt-ltb most_bytes (s.taken + length l) long)

lines-none : lines_of [] ≡ []
unfolding lines_of
lines-none = refl

-- the end of a script
pub at_its_end : (s : State) (more : List ℕ) → s.stopped ≡ None → s.held ≡ [] → more ≡ [] → steps_left s more ≡ at_end s.batch (s.lines + 1)
at_its_end s more unrefused none nothing =
    let e : s.held ++ more ≡ [] = rw (none, nothing) refl in
    left_going s more unrefused ∙ ap (λ (l : List ℕ). steps_from s.taken s.lines s.batch (lines_of l)) e ∙ ap (steps_from s.taken s.lines s.batch) lines-none ∙ none_left s.taken s.lines s.batch

pub ends : (r : Result (Option Step) ScriptFault) (s new : State) (line : ℕ) (more : List ℕ) → s.stopped ≡ None → s.held ≡ [] → more ≡ [] → EndsScript r s new → AnswersNext r line (steps_left s more) (steps_left new more)
ends (Ok None) s new line more unrefused none nothing (closed, e) =
    let here : steps_left s more ≡ ended = at_its_end s more unrefused none nothing ∙ ap (λ (b : Option (List Op)). at_end b (s.lines + 1)) closed in
    (here, ap (λ (t : State). steps_left t more) e ∙ here)
ends (Ok (Some st)) s new line more unrefused none nothing e = absurd e
ends (Err (Refused n kind)) s new line more unrefused none nothing (ops, batch, at, is, e) =
    (at_its_end s more unrefused none nothing ∙ ap (λ (b : Option (List Op)). at_end b (s.lines + 1)) batch ∙ rw (at, is) refl, ap (λ (t : State). steps_left t more) e ∙ rw (at, is) refl)
ends (Err ReadFault) s new line more unrefused none nothing e = absurd e
ends (Err NoMemory) s new line more unrefused none nothing e = absurd e

-- ---- the loop over lines

pub still_unrefused : (loop mid : State) (y z : Option (List ℕ)) → loop.stopped ≡ None → Feeds loop mid y z → mid.stopped ≡ None
still_unrefused loop mid y z none f = ap (λ (s : State). s.stopped) f.1 ∙ none

-- the answer that holds of the state in front holds of the first one
pub answered : (r : Result (Option Step) ScriptFault) (line : ℕ) (first loop mid new : State) (x y z : Option (List ℕ)) (Q : List ℕ → Type 0)
    → BothTold x y (λ a b. steps_left loop b ≡ steps_left first a) → Feeds loop mid y z → BothTold y z (λ _ b. Q b)
    → ((b : List ℕ) → Q b → AnswersNext r line (steps_left mid b) (steps_left new b))
    → BothTold x z (λ a b. AnswersNext r line (steps_left first a) (steps_left new b))
answered r line first loop mid new x y z Q told f q h =
    told_then x y z (λ a b. steps_left loop b ≡ steps_left first a) (λ b c. (steps_left mid c ≡ steps_left loop b) × Q c) _ told
    (told_also y z (λ b c. steps_left mid c ≡ steps_left loop b) (λ _ c. Q c) _ (fed loop mid y z f) q (λ b c e k. (e, k)))
    (λ a b c e k. subst (λ (s : Steps). AnswersNext r line s (steps_left new c)) (k.0 ∙ e) (h c k.1))

-- one line more
pub goes_further : (first loop mid new : State) (x y z : Option (List ℕ)) (Q : List ℕ → Type 0)
    → BothTold x y (λ a b. steps_left loop b ≡ steps_left first a) → Feeds loop mid y z → BothTold y z (λ _ b. Q b)
    → ((b : List ℕ) → Q b → steps_left new b ≡ steps_left mid b)
    → BothTold x z (λ a b. steps_left new b ≡ steps_left first a)
goes_further first loop mid new x y z Q told f q h =
    told_then x y z (λ a b. steps_left loop b ≡ steps_left first a) (λ b c. (steps_left mid c ≡ steps_left loop b) × Q c) _ told
    (told_also y z (λ b c. steps_left mid c ≡ steps_left loop b) (λ _ c. Q c) _ (fed loop mid y z f) q (λ b c e k. (e, k)))
    (λ a b c e k. h c k.1 ∙ k.0 ∙ e)

pub answer_of_take : (r : Result (Option Step) ScriptFault) (old new : State) (more : List ℕ) (e : ScriptFault) → r ≡ Err e → TakesOn (Err e) old new more → AnswersNext r new.line (steps_left old more) (steps_left new more)
answer_of_take r old new more (Refused n kind) is t = rw is t
answer_of_take r old new more ReadFault is t = absurd t
answer_of_take r old new more NoMemory is t = rw is (ap (λ (s : State). steps_left s more) t)

pub stops : (s new : State) (more : List ℕ) (kind : ScriptKind) (n : ℕ) → steps_left s more ≡ refused (s.lines + 1) kind → new ≡ stopped_at s kind → n ≡ s.lines + 1
    → AnswersNext (Err (Refused n kind)) new.line (steps_left s more) (steps_left new more)
stops s new more kind n e is at = rw at (e, ap (λ (t : State). steps_left t more) is)

-- ---- what changes neither the bytes nor what the source told leaves its end as it was

pub same_at_end : (r : Result (Option Step) ScriptFault) (old new : State) → EndsScript r old new → new.ended ≡ old.ended
same_at_end (Ok None) old new (closed, e) = ap (λ (s : State). s.ended) e
same_at_end (Ok (Some st)) old new e = absurd e
same_at_end (Err (Refused n kind)) old new (ops, batch, at, is, e) = ap (λ (s : State). s.ended) e
same_at_end (Err ReadFault) old new e = absurd e
same_at_end (Err NoMemory) old new e = absurd e

pub same_at_line : (r : Result (Option Step) ScriptFault) (len : ℕ) (old new : State) (m : Move) → TakesLine r len old new m → new.ended ≡ old.ended
same_at_line (Ok None) len old new m (next, is, e) = ap (λ (s : State). s.ended) e
same_at_line (Ok (Some st)) len old new m (is, e) = ap (λ (s : State). s.ended) e
same_at_line (Err (Refused n kind)) len old new m (is, at, bad, e) = ap (λ (s : State). s.ended) e
same_at_line (Err ReadFault) len old new m e = absurd e
same_at_line (Err NoMemory) len old new m e = ap (λ (s : State). s.ended) e
