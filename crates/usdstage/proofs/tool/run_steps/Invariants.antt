use Rattle.std.proofs.Common.{◌≡◌, ◌-◌, false}
use Rattle.session_script.specs.Told.{coming, Heeds}
use Rattle.usdstage.specs.Outcome.{ByFiles}
use Rattle.usdstage.proofs.Carrying.{Stands}
use Rattle.usdstage.proofs.Follows.{Follows}
use Rattle.usdstage.proofs.tool.run_steps.Given as goal

abbrev pub invariant-loop-step : goal.invariant-loop-step
invariant-loop-step g l = record {
  told : ByFiles (g.F.LayerFiles.files l.initial.files)
      (λ held size. Stands held size l.initial.session l.session l.initial.bytes l.bytes l.steps (g.S.Source.left l.initial.script) (coming l.steps.ended (g.S.Source.left l.script)) (g.K.Sink.taken l.initial.out) (g.K.Sink.taken l.out));
  follows : ByFiles (g.F.LayerFiles.files l.initial.files)
      (λ held size. Follows held size l.initial.session l.session l.initial.bytes l.bytes l.steps (g.S.Source.left l.initial.script) (coming l.steps.ended (g.S.Source.left l.script)) (g.K.Sink.taken l.initial.out) (g.K.Sink.taken l.out));
  heeds : Heeds false l.steps.ended (g.S.Source.left l.initial.script) (g.S.Source.left l.script);
  same : g.F.LayerFiles.files l.files ≡ g.F.LayerFiles.files l.initial.files;
  fetched : g.F.LayerFiles.faults l.files ≡ g.F.LayerFiles.faults l.initial.files;
  read : g.S.Source.faults l.script ≡ g.S.Source.faults l.initial.script;
  wrote : g.K.Sink.faults l.out ≡ g.K.Sink.faults l.initial.out;
}

abbrev pub decreases-loop-step : goal.decreases-loop-step
decreases-loop-step g l = 16777216 - l.steps.taken
