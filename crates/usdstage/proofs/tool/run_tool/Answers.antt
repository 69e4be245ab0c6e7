use Rattle.std.proofs.Common.{Some, map}
use Rattle.std.specs.Prelude.{string_bytes}
use Rattle.usdstage.specs.Course.{course}
use Rattle.usdstage.specs.Outcome.{IsScript}
use Rattle.layer_load.proofs.Asking.{nothing_asked}
use Rattle.usdstage.specs.Command.{command_of}
use Rattle.usdstage.proofs.Runs.{command_all, completes, reads_rose, rose}
use Rattle.usdstage.proofs.tool.run_tool.Goals as goal

pub returns-in-Ok-Some-clause-outcome : goal.returns-in-Ok-Some-clause-outcome
returns-in-Ok-Some-clause-outcome g c =
    let command = rw c.in-Ok-Some.field-0-is at c.in-Ok-Some.ensures in
    rw (← command) c.run_command.ensures.outcome

pub returns-in-Ok-Some-clause-complete : goal.returns-in-Ok-Some-clause-complete
returns-in-Ok-Some-clause-complete g c =
    let command = rw c.in-Ok-Some.field-0-is at c.in-Ok-Some.ensures in
    rw (← command) (completes (g.F.LayerFiles.files c.args.files.now) (IsScript (Some c.in-Ok-Some.command) (g.S.Source.left c.args.script.now)) (λ held size s. course held size (Some c.in-Ok-Some.command) s) c.run_command.result _ _ _ _ _
    (reads_rose _ _ _ _ _ c.run_command.ensures.reads) (λ e. rose _ _ (c.run_command.ensures.writes.0 e)) c.run_command.ensures.outcome)

pub returns-in-Ok-Some-clause-script_fault : goal.returns-in-Ok-Some-clause-script_fault
returns-in-Ok-Some-clause-script_fault g c =
    let command = rw c.in-Ok-Some.field-0-is at c.in-Ok-Some.ensures in
    rw (← command) c.run_command.ensures.script_fault

pub returns-in-Ok-Some-clause-asks : goal.returns-in-Ok-Some-clause-asks
returns-in-Ok-Some-clause-asks g c =
    let command = rw c.in-Ok-Some.field-0-is at c.in-Ok-Some.ensures in
    rw (← command) c.run_command.ensures.asks

pub returns-in-Err-clause-asks : goal.returns-in-Err-clause-asks
returns-in-Err-clause-asks g c =
    command_all (command_of (map string_bytes c.args.words.now)) _ (λ command flatten. nothing_asked (g.F.LayerFiles.files c.args.files.now) command.root command.session (g.F.LayerFiles.asked c.args.files.now))
