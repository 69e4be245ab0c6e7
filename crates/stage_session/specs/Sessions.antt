-- What a session replies, computed from scratch: each publish composes the whole stage of the world after the batches accepted before
-- it, and each question is asked of the stage that was published last.
use Rattle.std.specs.Prelude.{ℕ, ◌==◌, nat_lt, Bool, true, false, List, [], ◌∷◌, ◌++◌, length}
use Rattle.compose_api.specs.Stage.{stage_of}
use Rattle.change_core.specs.History.{edit_count, batch_count, version_count, replay, reply_of}
use Rattle.change_core.specs.declared.history.HistoryEntry.{HistoryEntry}
use Rattle.change_core.specs.declared.history.HistoryEntry.TheVariants as noted
use Rattle.change_core.specs.declared.history.EditReply.{EditReply}
use Rattle.change_core.specs.declared.history.EditReply.TheVariants.{Accepted, Refused, JournalFull}
use Rattle.layer_apply.specs.Edits.{edit}
use Rattle.edit_batches.specs.declared.op.Op.{Op}
use Rattle.edit_batches.specs.declared.fault.EditFault.{EditFault}
use Rattle.edit_batches.specs.declared.op.Op.TheVariants.{PutLayer}
use Rattle.layer_set.specs.Worlds.{WorldData}
use Rattle.layer_set.specs.declared.held.Held.{Held}
use Rattle.composition.specs.Texts.{Text}
use Rattle.stage_composer.specs.Composed.{listed_below}
unfoldable pub use Rattle.stage_composer.specs.Composed.{view_at, entry_at}
use Rattle.stage_query.specs.Answers.{Stage}
use Rattle.stage_questions.specs.Answers.{answer_line}
use Rattle.stage_questions.specs.Replies.{edit_text, published_text}
use Rattle.stage_questions.specs.declared.question.Question.{Question}

-- the calls of a session: batches with their replies, and publishes
abbrev pub History : Type 0
History = List (HistoryEntry (List Op) EditFault)

-- what is known of a session: the world that was opened, the history of its calls, and the stage that was published last
pub record Session : Type 0 where
  pub opened : WorldData
  pub history : History
  pub stage : Stage

-- the stage of the world after the batches that a history accepted
unfoldable pub stage_after : WorldData → History → Stage
stage_after opened history = stage_of entry_at listed_below (replay edit opened history) []

-- as many paths as a stage has at most, `/` among them
abbrev pub most_paths : ℕ
most_paths = 262144

-- the stage has more paths than it may
abbrev pub is_full : Stage → Bool
is_full stage = nat_lt most_paths (length stage)

-- the reply to a batch: a history has at most 65,536 edit calls
abbrev pub reply_to_batch : WorldData → History → List Op → EditReply EditFault
reply_to_batch opened history batch = elim (edit_count history == 65536) [
  | true ↦ JournalFull
  | false ↦ reply_of edit (batch_count history) (edit (replay edit opened history) batch)
]

-- the history with a batch and its reply; a call for which there is no room is not noted
abbrev pub with_batch : History → List Op → EditReply EditFault → History
with_batch history batch (Accepted number) = history ++ noted.Edit 0 batch (Accepted number) ∷ []
with_batch history batch (Refused op fault) = history ++ noted.Edit 0 batch (Refused op fault) ∷ []
with_batch history batch JournalFull = history

-- the history with one more publish
abbrev pub with_publish : History → History
with_publish history = history ++ noted.Publish 0 (version_count history) (batch_count history) ∷ []

-- ---- a batch

-- what is replied to a batch
abbrev pub batch_reply : Session → List Op → List ℕ
batch_reply s batch = edit_text (reply_to_batch s.opened s.history batch)

-- a batch changes the history alone: the stage stays the one that was published last
abbrev pub after_batch : Session → List Op → Session
after_batch s batch = record s { history = with_batch s.history batch (reply_to_batch s.opened s.history batch) }

-- the batch of one operation that puts what stands at a name of a layer
abbrev pub opening_of : Text → Held → List Op
opening_of id held = PutLayer id held ∷ []

-- ---- a publish

-- the stage that a publish shows: that of all batches accepted so far
abbrev pub next_stage : Session → Stage
next_stage s = stage_after s.opened s.history

-- the reply to a publish: its version, the batches accepted so far, and the prims of the new stage
abbrev pub publish_reply : Session → List ℕ
publish_reply s = published_text (version_count s.history) (batch_count s.history) (length (next_stage s))

-- from a publish on its stage is the one that is asked
abbrev pub after_publish : Session → Session
after_publish s = record s { history = with_publish s.history; stage = next_stage s }

-- ---- a question

-- the reply to a question, which is asked of the stage published last and changes nothing
abbrev pub question_reply : Session → Question → List ℕ
question_reply s question = answer_line s.opened.root s.stage question

-- ---- the opening

-- a session on a world that was opened and published as version 0
abbrev pub opening : WorldData → Session
opening opened = record { opened = opened; history = with_publish []; stage = stage_after opened [] }

-- the reply to the opening
abbrev pub opening_text : WorldData → List ℕ
opening_text opened = published_text 0 0 (length (stage_after opened []))
