-- What a run writes and how it ends, where nothing fails and memory suffices. A run is a function of the words, of what stands at each
-- name of a layer, and of the script.
use Rattle.std.specs.Prelude.{ℕ, ◌+◌, nat_lt, true, false, List, [], ◌++◌, Option, Some, None, Result, Ok, Err}
use Rattle.composition.specs.Texts.{Text}
use Rattle.layer_load.specs.Opening.{Ending, most_bytes, most_names, opened}
use Rattle.layer_load.specs.declared.fault.LoadFault.{LoadFault}
use Rattle.layer_load.specs.declared.fault.LoadFault.TheVariants as load
use Rattle.layer_load.specs.declared.load.Loaded.{Loaded}
use Rattle.layer_set.specs.Worlds.{WorldData}
use Rattle.layer_set.specs.declared.held.Held.{Held}
use Rattle.session_script.specs.Reading.{Steps, ended, refused, step, steps_of}
use Rattle.session_script.specs.declared.steps.Step.{Step}
use Rattle.session_script.specs.declared.steps.Step.TheVariants as steps
use Rattle.stage_questions.specs.Answers.{flat_text}
use Rattle.stage_session.specs.Sessions.{Session, stage_after, is_full, batch_reply, after_batch, opening_of, publish_reply, after_publish, next_stage, question_reply, opening, opening_text}
use Rattle.usdstage.specs.declared.words.Verb.{Verb}
use Rattle.usdstage.specs.declared.words.Verb.TheVariants as verbs
use Rattle.usdstage.specs.declared.words.Command.{Command}
use Rattle.usdstage.specs.declared.status.Status.{Status}
use Rattle.usdstage.specs.declared.status.Status.TheVariants.{Done, Usage, ReadFault, RootRefused, ScriptRefused, StageFull, WorldTooLarge, NoMemory}

-- all that is written, and the status that is due
pub record Course : Type 0 where
  pub text : List ℕ
  pub due : Status

-- nothing more is written, and this status is due
abbrev pub nothing : Status → Course
nothing status = record { text = []; due = status }

-- a text before what is written
abbrev pub onto : List ℕ → Course → Course
onto text c = record { text = text ++ c.text; due = c.due }

-- the reply to a step, the session after it, and the bytes that were fetched by then
pub record Turn : Type 0 where
  pub reply : List ℕ
  pub session : Session
  pub bytes : ℕ

-- a step that was carried out: the run goes on
abbrev pub turned : List ℕ → Session → ℕ → Result Turn Status
turned reply session bytes = Ok (record { reply = reply; session = session; bytes = bytes })

-- the reply, and what is written behind it; or the end
abbrev pub by_turn : (Session → ℕ → Course) → Result Turn Status → Course
by_turn go (Ok t) = onto t.reply (go t.session t.bytes)
by_turn go (Err status) = nothing status

-- how a run ends whose world is not opened
abbrev pub unopened : LoadFault → Status
unopened load.ReadFault = ReadFault
unopened (load.RootRefused name refusal) = RootRefused name refusal
unopened load.WorldTooLarge = WorldTooLarge
unopened load.NoMemory = NoMemory

-- `flatten` writes the text of the flattened layer of the stage
abbrev pub flat_course : WorldData → Course
flat_course world = elim (is_full (stage_after world [])) [ true ↦ nothing StageFull | false ↦ record { text = flat_text (stage_after world []); due = Done } ]

module _ (held : Text → Held) (size : Text → ℕ) where
  -- What comes of a step: a batch is tried; the layer of a name is fetched and put, where the bytes fetched by then are not too many; the
  -- stage is published, where it is not too large; a question is answered.
  unfoldable pub turn : Session → ℕ → Step → Result Turn Status
  turn s bytes (steps.Batch batch) = turned (batch_reply s batch) (after_batch s batch) bytes
  turn s bytes (steps.OpenLayer id) = elim (nat_lt most_bytes (bytes + size id)) [
    | true ↦ Err WorldTooLarge
    | false ↦ turned (batch_reply s (opening_of id (held id))) (after_batch s (opening_of id (held id))) (bytes + size id)
  ]
  turn s bytes steps.Publish = elim (is_full (next_stage s)) [ true ↦ Err StageFull | false ↦ turned (publish_reply s) (after_publish s) bytes ]
  turn s bytes (steps.Ask question) = turned (question_reply s question) s bytes

  -- the replies to these steps, one after the other, up to their end or to the first that ends the run
  unfoldable pub carried : Session → ℕ → Steps → Course
  carried s bytes ended = nothing Done
  carried s bytes (refused line kind) = nothing (ScriptRefused line kind)
  carried s bytes (step line next more) = by_turn (λ t b. carried t b more) (turn s bytes next)

  -- `session` writes the reply to the opening, and the replies to the steps of the script
  abbrev pub session_course : WorldData → ℕ → List ℕ → Course
  session_course world bytes script = elim (is_full (stage_after world [])) [
    | true ↦ nothing StageFull
    | false ↦ onto (opening_text world) (carried (opening world) bytes (steps_of script))
  ]

  -- what comes of an opened world; `flatten` reads no script
  abbrev pub world_course : Verb → Loaded → List ℕ → Course
  world_course verbs.Flatten loaded script = flat_course loaded.world
  world_course verbs.Session loaded script = session_course loaded.world loaded.bytes script

  -- what comes of an opening; a world that is not opened ends the run
  abbrev pub opened_course : Verb → Ending → List ℕ → Course
  opened_course verb (Ok loaded) script = world_course verb loaded script
  opened_course verb (Err fault) script = nothing (unopened fault)

  -- the course of a command, or of words that are none
  abbrev pub course : Option Command → List ℕ → Course
  course None script = nothing Usage
  course (Some c) script = opened_course c.verb (opened held size most_names c.root c.session) script
