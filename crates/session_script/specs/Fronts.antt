-- The line in front of a script.
use Rattle.std.specs.Prelude.{◌≡◌, ℕ, ◌+◌, ◌<◌, ◌≤◌, Bool, true, false, List, [], ◌∷◌, ◌++◌, length, take, drop, Option, Result, Ok, Err}
use Rattle.std.specs.Io.KnownBytes.{Consumes, IsAtEnd, Keeps}
use Rattle.session_script.specs.declared.faults.ScriptFault.{ScriptFault}
use Rattle.session_script.specs.declared.faults.ScriptFault.TheVariants.{Refused, ReadFault, NoMemory}
use Rattle.session_script.specs.declared.front.Front.{Front}
use Rattle.session_script.specs.declared.front.Front.TheVariants.{Line, TooLong, End}
use Rattle.session_script.specs.Told.{BothTold}
use Rattle.session_script.specs.Pieces.{lines_of, IsFed}

-- some bytes more, that the source told; or none, at its end or at a fault
abbrev pub ReadsMore : Result Bool ScriptFault → List ℕ → List ℕ → Option (List ℕ) → Option (List ℕ) → Type 0
ReadsMore (Ok true) old new before after = (piece : List ℕ) × (0 < length piece) × (new ≡ old ++ piece) × Consumes before after piece
ReadsMore (Ok false) old new before after = (new ≡ old) × IsAtEnd before × Keeps before after
ReadsMore (Err e) old new before after = (new ≡ old) × Keeps before after

-- What stands in front of the bytes behind the start, where the source told these bytes before and after. A line may lack its line
-- feed only where the source told its end.
abbrev pub IsFront : Front → ℕ → List ℕ → Bool → Option (List ℕ) → Option (List ℕ) → Type 0
IsFront (Line len) start bytes ended before after = (0 < len) × (start + len ≤ length bytes) × (start + len ≤ 16777216)
    × BothTold before after (λ _ more. lines_of (drop start bytes ++ more) ≡ take len (drop start bytes) ∷ lines_of (drop (start + len) bytes ++ more))
    × (ended ≡ false → IsFed (take len (drop start bytes)))
IsFront TooLong start bytes ended before after = BothTold before after (λ _ more. (l : List ℕ) × (ls : List (List ℕ)) × (lines_of (drop start bytes ++ more) ≡ l ∷ ls) × (16777216 < start + length l))
IsFront End start bytes ended before after = (drop start bytes ≡ []) × BothTold before after (λ _ more. more ≡ []) × (ended ≡ true)

-- some bytes more, or none, that the source told
abbrev pub Grows : List ℕ → List ℕ → Option (List ℕ) → Option (List ℕ) → Type 0
Grows old new before after = (piece : List ℕ) × (new ≡ old ++ piece) × Consumes before after piece

-- no line is refused by what reads from the source alone
abbrev pub IsReadError : {X : Type 0} → Result X ScriptFault → Type 0
IsReadError (Ok x) = Unit {0}
IsReadError (Err (Refused line kind)) = ⊥
IsReadError (Err ReadFault) = Unit {0}
IsReadError (Err NoMemory) = Unit {0}
