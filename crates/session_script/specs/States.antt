-- What is known of a script that is being read, and what its calls do.
use Rattle.std.specs.Prelude.{◌≡◌, ℕ, ◌+◌, ◌-◌, ◌<◌, ◌≤◌, ◌==◌, Bool, true, false, List, [], ◌∷◌, ◌++◌, length, take, drop, Option, Some, None, Result, Ok, Err}
use Rattle.std.specs.Io.KnownBytes.{Consumes}
use Rattle.session_script.specs.declared.front.Front.{Front}
use Rattle.session_script.specs.declared.front.Front.TheVariants.{Line, TooLong, End}
use Rattle.std.specs.List.{concat, list_any}
use Rattle.edit_batches.specs.declared.op.Op.{Op}
use Rattle.session_script.specs.declared.steps.Step.{Step}
use Rattle.session_script.specs.declared.faults.ScriptKind.{ScriptKind}
use Rattle.session_script.specs.declared.faults.ScriptKind.TheVariants.{BadLine, Unfinished}
use Rattle.session_script.specs.declared.faults.ScriptFault.{ScriptFault}
use Rattle.session_script.specs.declared.faults.ScriptFault.TheVariants.{Refused, ReadFault, NoMemory}
use Rattle.session_script.specs.Told.{BothTold}
use Rattle.session_script.specs.Pieces.{lines_of, IsFed, AreFed}
use Rattle.session_script.specs.Reading.{Steps, ended, refused, step, Move, goes_on, asks, refuses, steps_from}

-- A script of which a part was read: as many bytes and lines as were taken, the bytes behind them that are held, whether the source
-- told its end, the operations of the batch that is open, the line that ended the last step, and the line that was refused.
pub record State : Type 0 where
  pub taken : ℕ
  pub held : List ℕ
  pub ended : Bool
  pub lines : ℕ
  pub batch : Option (List Op)
  pub line : ℕ
  pub stopped : Option (ℕ × ScriptKind)

-- the steps of these lines, where so much was read of a script before them
abbrev pub steps_behind : State → List (List ℕ) → Steps
steps_behind s lines = elim s.stopped [ Some at ↦ refused at.0 at.1 | None ↦ steps_from s.taken s.lines s.batch lines ]

-- the steps that are left, where the source has these bytes left
abbrev pub steps_left : State → List ℕ → Steps
steps_left s left = steps_behind s (lines_of (s.held ++ left))

-- what a call answers, of the steps that were left before and are left after it, and of the line that it ended
abbrev pub AnswersNext : Result (Option Step) ScriptFault → ℕ → Steps → Steps → Type 0
AnswersNext (Ok (Some s)) line before after = before ≡ step line s after
AnswersNext (Ok None) line before after = (before ≡ ended) × (after ≡ ended)
AnswersNext (Err (Refused n kind)) line before after = (before ≡ refused n kind) × (after ≡ refused n kind)
AnswersNext (Err ReadFault) line before after = after ≡ before
AnswersNext (Err NoMemory) line before after = after ≡ before

-- a line feed is among these bytes
abbrev pub has_feed : List ℕ → Bool
has_feed = list_any (λ c. c == 10)

-- the bytes up to this place have no line feed behind the start
pub record IsScanned (start scanned : ℕ) (bytes : List ℕ) : Type 0 where
  pub before : start ≤ scanned
  pub within : scanned ≤ length bytes
  pub no_feed : has_feed (take (scanned - start) (drop start bytes)) ≡ false

-- what is kept of a script beside its bytes
pub record IsKept (start scanned lines : ℕ) (bytes : List ℕ) : Type 0 where
  pub scan : IsScanned start scanned bytes
  pub short : start ≤ 16777216
  pub few : lines ≤ start

-- some bytes more are held, that the source told, or it told its end, and nothing else changed
abbrev pub Feeds : State → State → Option (List ℕ) → Option (List ℕ) → Type 0
Feeds old new before after = (piece : List ℕ) × (new ≡ record old { held = old.held ++ piece; ended = new.ended }) × Consumes before after piece × (new.ended ≡ false → old.ended ≡ false)

-- what stands in front of what is held, where the source told these bytes before and after
abbrev pub FrontIs : Front → State → Option (List ℕ) → Option (List ℕ) → Type 0
FrontIs (Line len) s before after = (0 < len) × (len ≤ length s.held) × (s.taken + len ≤ 16777216)
    × BothTold before after (λ _ more. lines_of (s.held ++ more) ≡ take len s.held ∷ lines_of (drop len s.held ++ more))
    × (s.ended ≡ false → IsFed (take len s.held))
FrontIs TooLong s before after = BothTold before after (λ _ more. (l : List ℕ) × (ls : List (List ℕ)) × (lines_of (s.held ++ more) ≡ l ∷ ls) × (16777216 < s.taken + length l))
FrontIs End s before after = (s.held ≡ []) × BothTold before after (λ _ more. more ≡ []) × (s.ended ≡ true)

-- the line behind those that were taken is refused
abbrev pub stopped_at : State → ScriptKind → State
stopped_at s kind = record s { stopped = Some (s.lines + 1, kind) }

-- one line of so many bytes is taken
abbrev pub behind_line : State → ℕ → Option (List Op) → ℕ → State
behind_line s len batch line = record { taken = s.taken + len; held = drop len s.held; ended = s.ended; lines = s.lines + 1; batch = batch; line = line; stopped = s.stopped }

-- what taking a line of so many bytes does, by the move that it is
abbrev pub TakesLine : Result (Option Step) ScriptFault → ℕ → State → State → Move → Type 0
TakesLine (Ok None) len old new move = (next : Option (List Op)) × (move ≡ goes_on next) × (new ≡ behind_line old len next old.line)
TakesLine (Ok (Some s)) len old new move = (move ≡ asks s) × (new ≡ behind_line old len None (old.lines + 1))
TakesLine (Err (Refused line kind)) len old new move = (move ≡ refuses) × (line ≡ old.lines + 1) × (kind ≡ BadLine) × (new ≡ stopped_at old BadLine)
TakesLine (Err ReadFault) len old new move = ⊥
TakesLine (Err NoMemory) len old new move = new ≡ old

-- what the end of the script does: it has no more steps, or a batch that is open is refused
abbrev pub EndsScript : Result (Option Step) ScriptFault → State → State → Type 0
EndsScript (Ok None) old new = (old.batch ≡ None) × (new ≡ old)
EndsScript (Ok (Some s)) old new = ⊥
EndsScript (Err (Refused line kind)) old new = (ops : List Op) × (old.batch ≡ Some ops) × (line ≡ old.lines + 1) × (kind ≡ Unfinished) × (new ≡ stopped_at old Unfinished)
EndsScript (Err ReadFault) old new = ⊥
EndsScript (Err NoMemory) old new = ⊥

-- These lines were taken: they are the first of those that were left, and the others are left after them.
abbrev pub AreTaken : List (List ℕ) → State → State → Option (List ℕ) → Option (List ℕ) → Type 0
AreTaken ls old new before after = BothTold before after (λ a b. lines_of (old.held ++ a) ≡ ls ++ lines_of (new.held ++ b))

-- Where the source has not told its end, each line that was taken has its line feed.
abbrev pub AreWhole : List (List ℕ) → State → State → Type 0
AreWhole ls old new = new.ended ≡ false → (old.ended ≡ false) × AreFed ls

-- The lines that a call took: whatever lines follow them, these are their steps. Up to want of memory they have none, and the next call
-- goes on behind them. At a fault of the source, which has not told its end, all whole lines were taken.
abbrev pub Passes : Result (Option Step) ScriptFault → State → State → Option (List ℕ) → Option (List ℕ) → Type 0
Passes (Ok (Some s)) old new before after = (ls : List (List ℕ)) × AreTaken ls old new before after × ((rs : List (List ℕ)) → steps_behind old (ls ++ rs) ≡ step new.line s (steps_behind new rs)) × AreWhole ls old new
    × (new.taken ≡ old.taken + length (concat ls))
Passes (Ok None) old new before after = Unit {0}
Passes (Err (Refused n kind)) old new before after = Unit {0}
Passes (Err ReadFault) old new before after = (ls : List (List ℕ)) × AreTaken ls old new before after × ((rs : List (List ℕ)) → steps_behind old (ls ++ rs) ≡ steps_behind new rs) × AreWhole ls old new
    × (new.taken ≡ old.taken + length (concat ls)) × (new.ended ≡ false) × (has_feed new.held ≡ false) × (new.taken + length new.held ≤ 16777216)
Passes (Err NoMemory) old new before after = (ls : List (List ℕ)) × AreTaken ls old new before after × ((rs : List (List ℕ)) → steps_behind old (ls ++ rs) ≡ steps_behind new rs) × AreWhole ls old new
    × (new.taken ≡ old.taken + length (concat ls))

-- how the counts of a script go on: only a step has a line, and each takes bytes
abbrev pub Counts : Result (Option Step) ScriptFault → State → State → Type 0
Counts (Ok (Some s)) old new = (new.line ≡ new.lines) × (old.taken < new.taken) × (new.taken ≤ 16777216) × (new.stopped ≡ None)
Counts (Ok None) old new = (new.line ≡ old.line) × (new.stopped ≡ None)
Counts (Err (Refused line kind)) old new = (new.line ≡ old.line) × (new.stopped ≡ Some (line, kind))
Counts (Err ReadFault) old new = (new.line ≡ old.line) × (new.stopped ≡ None)
Counts (Err NoMemory) old new = (new.line ≡ old.line) × (new.stopped ≡ None)
