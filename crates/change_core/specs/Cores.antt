-- What callers see of a core, and what its calls do.
use Rattle.std.specs.Prelude.{◌≡◌, ℕ, ◌<◌, List, [], ◌∷◌, ◌++◌, Result}
use Rattle.change_core.specs.declared.history.HistoryEntry.{HistoryEntry}
use Rattle.change_core.specs.declared.history.HistoryEntry.TheVariants.{Edit}
use Rattle.change_core.specs.declared.history.EditReply.{EditReply}
use Rattle.change_core.specs.declared.history.EditReply.TheVariants.{Accepted, Refused, JournalFull}
use Rattle.change_core.specs.History.{replay, reply_of, edit_count, batch_count}

-- the world that was opened, and the calls that were noted, each with its reply, in their order
pub record Session (World Batch Fault : Type 0) : Type 0 where
  pub opened : World
  pub history : List (HistoryEntry Batch Fault)

module _ {World Batch Fault : Type 0} (applied : World → Batch → Result World (ℕ × Fault)) where
  -- the world after the accepted batches
  abbrev pub world_of : Session World Batch Fault → World
  world_of s = replay applied s.opened s.history

  -- one more entry in the history, and nothing else changed
  abbrev pub Notes : Session World Batch Fault → Session World Batch Fault → HistoryEntry Batch Fault → Type 0
  Notes old new entry = new ≡ record { opened = old.opened; history = old.history ++ entry ∷ [] }

  -- the call was noted with the reply that its batch gives in the world before it
  pub record NotesEdit (old new : Session World Batch Fault) (seat : ℕ) (batch : Batch) (reply : EditReply Fault) : Type 0 where
    pub room : edit_count old.history < 65536
    pub noted : Notes old new (Edit seat batch reply)
    pub right : reply ≡ reply_of applied (batch_count old.history) (applied (world_of old) batch)

  -- what an edit call answers and does
  abbrev pub AnswersEdit : Session World Batch Fault → Session World Batch Fault → ℕ → Batch → EditReply Fault → Type 0
  AnswersEdit old new seat batch JournalFull = (edit_count old.history ≡ 65536) × (new ≡ old)
  AnswersEdit old new seat batch (Accepted number) = NotesEdit old new seat batch (Accepted number)
  AnswersEdit old new seat batch (Refused op fault) = NotesEdit old new seat batch (Refused op fault)
