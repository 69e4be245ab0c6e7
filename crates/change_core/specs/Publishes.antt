-- What a publish answers and does.
use Rattle.std.specs.Prelude.{◌≡◌, ℕ, List}
use Rattle.compose_api.specs.declared.composer.Composer.{Ghosts}
use Rattle.compose_api.specs.Stage.{stage_of}
use Rattle.change_core.specs.declared.history.HistoryEntry.TheVariants.{Publish}
use Rattle.change_core.specs.History.{batch_count, version_count}
use Rattle.change_core.specs.Cores.{Session, Notes, world_of}

module _ {C World Place Entry Key Index Batch Fault : Type 0} (g : Ghosts C World Place Entry Key Index Batch Fault) where
  -- the stage of the world was published under the next version, and noted
  pub record NotesPublish (old new : Session World Batch Fault) (seat version batches : ℕ) (items : List (Place × Entry)) : Type 0 where
    pub noted : Notes g.applied old new (Publish seat version batches)
    pub version_is : version ≡ version_count old.history
    pub batches_is : batches ≡ batch_count old.history
    pub stage : items ≡ stage_of g.entry_of g.listed (world_of g.applied old) g.root_place
