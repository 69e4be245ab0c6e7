-- What was answered and written, by the course of the run.
use Rattle.std.specs.Prelude.{◌≡◌, ℕ, ◌⊎◌, List, ◌++◌, take, Option, Some, None, Result, Ok, Err, IfSome}
use Rattle.std.specs.Io.KnownBytes.{Appends}
use Rattle.composition.specs.Texts.{Text}
use Rattle.io_edges.specs.Causes.{one_more}
use Rattle.layer_load.specs.Files.{Files, AreRead, taken_at}
use Rattle.layer_set.specs.declared.held.Held.{Held}
use Rattle.session_script.specs.Cuts.{AreWholeLines}
use Rattle.session_script.specs.declared.faults.ScriptKind.TheVariants.{Unfinished}
use Rattle.stage_session.specs.Sessions.{Session}
use Rattle.usdstage.specs.Course.{Course, Turn}
use Rattle.usdstage.specs.declared.words.Command.{Command}
use Rattle.usdstage.specs.declared.words.Verb.TheVariants as verbs
use Rattle.usdstage.specs.declared.status.Status.{Status}
use Rattle.usdstage.specs.declared.status.Status.TheVariants.{Done, Usage, ReadFault, WriteFault, RootRefused, ScriptRefused, StageFull, WorldTooLarge, NoMemory}

-- all was written, and the run ended as it is due
abbrev pub IsWhole : Course → Status → List ℕ → Type 0
IsWhole c status written = (c.text ≡ written) × (c.due ≡ status)

-- the front of it was written
abbrev pub IsFront : Course → List ℕ → Type 0
IsFront c written = (more : List ℕ) × (written ++ more ≡ c.text)

-- What was answered and written is the course of the run; at a fault or want of memory the front of what it writes was written.
abbrev pub Ends : Course → Status → List ℕ → Type 0
Ends c Done written = IsWhole c Done written
Ends c Usage written = IsWhole c Usage written
Ends c (RootRefused name refusal) written = IsWhole c (RootRefused name refusal) written
Ends c (ScriptRefused line kind) written = IsWhole c (ScriptRefused line kind) written
Ends c StageFull written = IsWhole c StageFull written
Ends c WorldTooLarge written = IsWhole c WorldTooLarge written
Ends c ReadFault written = IsFront c written
Ends c WriteFault written = IsFront c written
Ends c NoMemory written = IsFront c written

-- something was written with which the run ends so
abbrev pub EndsWith : Course → Status → Option (List ℕ) → Option (List ℕ) → Type 0
EndsWith c status before after = (written : List ℕ) × Ends c status written × Appends before after written

-- where it failed, one fault was counted, of the files or of the script, and else none
abbrev pub AreCounted : Type 0 → ℕ → ℕ → ℕ → ℕ → Type 0
AreCounted Failed files files_now script script_now =
    (Failed → ((files_now ≡ one_more files) × (script_now ≡ script)) ⊎ ((files_now ≡ files) × (script_now ≡ one_more script)))
    × ((Failed → ⊥) → (files_now ≡ files) × (script_now ≡ script))

-- the run ended for no other reason than that its lines did: outside of a batch, or in one that further lines could have completed
abbrev pub GoesOn : Status → Type 0
GoesOn Done = Unit {0}
GoesOn (ScriptRefused line kind) = kind ≡ Unfinished
GoesOn Usage = ⊥
GoesOn ReadFault = ⊥
GoesOn WriteFault = ⊥
GoesOn (RootRefused name refusal) = ⊥
GoesOn StageFull = ⊥
GoesOn WorldTooLarge = ⊥
GoesOn NoMemory = ⊥

-- What was written are the replies of a course to all whole lines that were read of a script, of which so much is left; none of them ends the
-- run, and each has its line feed.
abbrev pub RepliesToLines : (List ℕ → Course) → List ℕ → List ℕ → Option (List ℕ) → Option (List ℕ) → Type 0
RepliesToLines c all left before after = (whole : List ℕ) × AreWholeLines all left whole × Appends before after (c whole).text × GoesOn (c whole).due

-- the fact of what stands at each name, and of the bytes fetched for it, where the files are told
abbrev pub ByFiles : Option Files → ((Text → Held) → (Text → ℕ) → Type 0) → Type 0
ByFiles told P = IfSome told (λ files. (held : Text → Held) → AreRead files held → P held (taken_at files))

-- the script that a command reads; what reads none may be told of any
abbrev pub IsScript : Option Command → Option (List ℕ) → List ℕ → Type 0
IsScript None left script = Unit {0}
IsScript (Some c) left script = elim c.verb [ verbs.Flatten ↦ Unit {0} | verbs.Session ↦ left ≡ Some script ]

-- the run ended as it is due, unless memory ran out
abbrev pub EndsAsDue : Course → Status → Type 0
EndsAsDue c status = (c.due ≡ status) ⊎ (status ≡ NoMemory)

-- the reply to a step, and the bytes fetched by then, or how the run ends without one
abbrev pub Takes : {V : Type 0} → (V → List ℕ) → Result (V × ℕ) Status → Session → Result Turn Status → Type 0
Takes shown (Ok x) session turn = turn ≡ Ok (record { reply = shown x.0; session = session; bytes = x.1 })
Takes shown (Err StageFull) session turn = turn ≡ Err StageFull
Takes shown (Err WorldTooLarge) session turn = turn ≡ Err WorldTooLarge
Takes shown (Err ReadFault) session turn = Unit {0}
Takes shown (Err NoMemory) session turn = Unit {0}
Takes shown (Err Done) session turn = ⊥
Takes shown (Err Usage) session turn = ⊥
Takes shown (Err WriteFault) session turn = ⊥
Takes shown (Err (RootRefused name refusal)) session turn = ⊥
Takes shown (Err (ScriptRefused line kind)) session turn = ⊥

-- the front of a reply was written
abbrev pub WritesFront : Result Turn Status → Option (List ℕ) → Option (List ℕ) → Type 0
WritesFront turn before after = (t : Turn) × (turn ≡ Ok t) × ((n : ℕ) × Appends before after (take n t.reply))

-- A step was carried out: its reply was written, or it ended the run.
abbrev pub Carries : Result ℕ Status → Session → Result Turn Status → Option (List ℕ) → Option (List ℕ) → Type 0
Carries (Ok bytes) session turn before after = (reply : List ℕ) × (turn ≡ Ok (record { reply = reply; session = session; bytes = bytes })) × Appends before after reply
Carries (Err StageFull) session turn before after = (turn ≡ Err StageFull) × (after ≡ before)
Carries (Err WorldTooLarge) session turn before after = (turn ≡ Err WorldTooLarge) × (after ≡ before)
Carries (Err ReadFault) session turn before after = after ≡ before
Carries (Err WriteFault) session turn before after = WritesFront turn before after
Carries (Err NoMemory) session turn before after = (after ≡ before) ⊎ WritesFront turn before after
Carries (Err Done) session turn before after = ⊥
Carries (Err Usage) session turn before after = ⊥
Carries (Err (RootRefused name refusal)) session turn before after = ⊥
Carries (Err (ScriptRefused line kind)) session turn before after = ⊥
