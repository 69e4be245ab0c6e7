use Rattle.usdstage.proofs.Runs.{not_opened, unopened_counted}
use Rattle.usdstage.proofs.tool.run_command.Goals as goal

pub returns-in-Err-clause-outcome : goal.returns-in-Err-clause-outcome
returns-in-Err-clause-outcome g c =
    not_opened (g.F.LayerFiles.files c.args.files.now) c.args.command (g.S.Source.left c.args.script.now) _ c.in-Err.fault c.unopened.result c.in-Err.ensures.opens c.unopened.ensures.value

pub returns-in-Err-clause-reads : goal.returns-in-Err-clause-reads
returns-in-Err-clause-reads g c =
    unopened_counted c.in-Err.fault c.unopened.result c.unopened.ensures.value _ _ _ c.in-Err.ensures.counted
