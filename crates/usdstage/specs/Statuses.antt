-- The exit status and the line of each way to end.
use Rattle.std.specs.Prelude.{ℕ, List, [], ◌++◌, codes}
use Rattle.std.specs.Fmt.{decimal}
use Rattle.usdstage.specs.Kinds.{kind_text}
use Rattle.usdstage.specs.Refusals.{refusal_text}
use Rattle.usdstage.specs.declared.status.Status.{Status}
use Rattle.usdstage.specs.declared.status.Status.TheVariants.{Done, Usage, ReadFault, WriteFault, RootRefused, ScriptRefused, StageFull, WorldTooLarge, NoMemory}

-- the exit status of each way to end
abbrev pub exit_code : Status → ℕ
exit_code Done = 0
exit_code Usage = 2
exit_code ReadFault = 3
exit_code WriteFault = 4
exit_code (RootRefused name why) = 5
exit_code (ScriptRefused line kind) = 6
exit_code StageFull = 7
exit_code WorldTooLarge = 8
exit_code NoMemory = 9

-- the line on standard error, without its line feed
abbrev pub status_line : Status → List ℕ
status_line Done = []
status_line Usage = codes "usdstage: not a command"
status_line ReadFault = codes "usdstage: reading failed"
status_line WriteFault = codes "usdstage: writing failed"
status_line (RootRefused name why) = codes "usdstage: " ++ name ++ refusal_text why
status_line (ScriptRefused line kind) = codes "usdstage: script line " ++ decimal line ++ codes ": " ++ kind_text kind
status_line StageFull = codes "usdstage: more than 262144 paths"
status_line WorldTooLarge = codes "usdstage: too many layers or bytes"
status_line NoMemory = codes "usdstage: out of memory"
