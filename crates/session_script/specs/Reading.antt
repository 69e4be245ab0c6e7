-- A script as the steps that it asks for, up to its end or to the first line that is refused.
use Rattle.std.specs.Prelude.{ℕ, ◌+◌, nat_lt, true, false, List, [], ◌∷◌, ◌++◌, length, Option, Some, None}
use Rattle.edit_batches.specs.declared.op.Op.{Op}
use Rattle.script_lines.specs.Lines.{line_of}
use Rattle.script_lines.specs.declared.line.Line.{Line}
use Rattle.script_lines.specs.declared.line.Line.TheVariants.{Blank, Begin, Change, Commit, Open, Publish, Ask}
use Rattle.session_script.specs.declared.steps.Step.{Step}
use Rattle.session_script.specs.declared.steps.Step.TheVariants as steps
use Rattle.session_script.specs.declared.faults.ScriptKind.{ScriptKind}
use Rattle.session_script.specs.declared.faults.ScriptKind.TheVariants.{BadLine, Unfinished, TooLong}
use Rattle.session_script.specs.Pieces.{lines_of}

-- what comes of a line: the script goes on, it asks for a step, or the line is refused
pub data Move : Type 0 where
  goes_on : Option (List Op) → Move
  asks : Step → Move
  refuses : Move

-- a step stands in no batch
abbrev pub asked : Option (List Op) → Step → Move
asked None s = asks s
asked (Some ops) s = refuses

-- Operations stand exactly between `begin` and `commit`, and nothing else does. An open batch has the operations so far.
abbrev pub move : Option (List Op) → Option Line → Move
move batch None = refuses
move batch (Some Blank) = goes_on batch
move None (Some Begin) = goes_on (Some [])
move (Some ops) (Some Begin) = refuses
move None (Some (Change op)) = refuses
move (Some ops) (Some (Change op)) = goes_on (Some (ops ++ op ∷ []))
move None (Some Commit) = refuses
move (Some ops) (Some Commit) = asks (steps.Batch ops)
move batch (Some (Open id)) = asked batch (steps.OpenLayer id)
move batch (Some Publish) = asked batch steps.Publish
move batch (Some (Ask question)) = asked batch (steps.Ask question)

-- the steps of a script, each with the number of the line that ends it
pub data Steps : Type 0 where
  ended : Steps
  refused : ℕ → ScriptKind → Steps
  step : ℕ → Step → Steps → Steps

-- as many bytes as a script has at most
abbrev pub most_bytes : ℕ
most_bytes = 16777216

-- what comes of the end of the script, where the number after that of the last line is this one
abbrev pub at_end : Option (List Op) → ℕ → Steps
at_end None number = ended
at_end (Some ops) number = refused number Unfinished

-- the steps of these lines, behind so many bytes and so many lines
unfoldable pub steps_from : ℕ → ℕ → Option (List Op) → List (List ℕ) → Steps
steps_from taken lines batch [] = at_end batch (lines + 1)
steps_from taken lines batch (l ∷ ls) = elim (nat_lt most_bytes (taken + length l)) [
  | true ↦ refused (lines + 1) TooLong
  | false ↦ elim (move batch (line_of l)) [
    | goes_on next ↦ steps_from (taken + length l) (lines + 1) next ls
    | asks s ↦ step (lines + 1) s (steps_from (taken + length l) (lines + 1) None ls)
    | refuses ↦ refused (lines + 1) BadLine
  ]
]

-- the steps of a script of these bytes
abbrev pub steps_of : List ℕ → Steps
steps_of bytes = steps_from 0 0 None (lines_of bytes)
