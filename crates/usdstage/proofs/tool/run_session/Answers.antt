use Rattle.std.proofs.Common.{ap, Err}
use Rattle.usdstage.proofs.Runs.{session_told, session_ended, session_replies}
use Rattle.usdstage.proofs.tool.run_session.Goals as goal

pub returns-in-Ok-clause-outcome : goal.returns-in-Ok-clause-outcome
returns-in-Ok-clause-outcome g c =
    session_told (g.F.LayerFiles.files c.args.files.now) (g.S.Source.left c.args.script.now) _ _ _ c.args.loaded.world c.args.loaded.bytes c.in-Ok.session c.run_script.result c.in-Ok.ensures.opened.0 c.in-Ok.ensures.few c.in-Ok.ensures.opened.1 c.run_script.ensures.outcome

pub returns-in-Err-clause-outcome : goal.returns-in-Err-clause-outcome
returns-in-Err-clause-outcome g c =
    session_ended (g.F.LayerFiles.files c.args.files.now) (g.S.Source.left c.args.script.now) _ _ c.args.loaded.world c.args.loaded.bytes c.in-Err.status c.in-Err.ensures.outcome

pub returns-in-Err-clause-end : goal.returns-in-Err-clause-end
returns-in-Err-clause-end g c = λ e. absurd (c.in-Err.ensures.calm.1 (ap Err e))

pub returns-in-Ok-clause-script_fault : goal.returns-in-Ok-clause-script_fault
returns-in-Ok-clause-script_fault g c =
    λ e k. session_replies (g.F.LayerFiles.files c.args.files.now) (g.S.Source.left c.args.script.now) _ _ _ _ c.args.loaded.world c.args.loaded.bytes c.in-Ok.session c.in-Ok.ensures.opened.0 c.in-Ok.ensures.few c.in-Ok.ensures.opened.1 (c.run_script.ensures.script_fault e k)

pub returns-in-Err-clause-script_fault : goal.returns-in-Err-clause-script_fault
returns-in-Err-clause-script_fault g c = λ e. absurd (c.in-Err.ensures.calm.0 (ap Err e))
