-- What a publish of the core gives a session.
use Rattle.std.specs.Prelude.{◌≡◌, ℕ, List}
use Rattle.change_core.specs.Cores as cores
use Rattle.change_core.specs.History.{version_count, batch_count}
use Rattle.edit_batches.specs.declared.op.Op.{Op}
use Rattle.edit_batches.specs.declared.fault.EditFault.{EditFault}
use Rattle.layer_set.specs.Worlds.{WorldData}
use Rattle.stage_query.specs.Answers.{Stage}
use Rattle.stage_session.specs.Sessions.{stage_after, with_publish}

-- the stage of the world is handed out under the next version, and noted
pub record Publishes (old new : cores.Session WorldData (List Op) EditFault) (version batches : ℕ) (items : Stage) : Type 0 where
  pub noted : new ≡ record { opened = old.opened; history = with_publish old.history }
  pub version_is : version ≡ version_count old.history
  pub batches_is : batches ≡ batch_count old.history
  pub stage : items ≡ stage_after old.opened old.history
