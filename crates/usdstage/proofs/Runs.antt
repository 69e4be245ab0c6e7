-- A run by what its parts answer.
use Rattle.std.proofs.Common.{◌≡◌, ◌∙◌, ℕ, List, [], Option, Some, None, Result, Ok, Err, refl, ap, subst, sym, inl, inr, arith, ◌⊎◌}
use Rattle.std.specs.Prelude.{IfSome}
use Rattle.std.specs.Io.KnownBytes.{Appends}
use Rattle.composition.specs.Texts.{Text}
use Rattle.io_edges.specs.Causes.{IsCounted, Rose, one_more}
use Rattle.layer_load.specs.Answers.{Opens}
use Rattle.layer_load.specs.Files.{Files, taken_at}
use Rattle.layer_load.specs.Opening.{Ending, most_names, opened}
use Rattle.layer_load.specs.declared.fault.LoadFault.{LoadFault}
use Rattle.layer_load.specs.declared.fault.LoadFault.TheVariants as load
use Rattle.layer_load.specs.declared.load.Loaded.{Loaded}
use Rattle.layer_set.specs.Worlds.{WorldData}
use Rattle.layer_set.specs.declared.held.Held.{Held}
use Rattle.session_script.specs.Reading.{steps_of}
use Rattle.session_script.specs.Told.{BothTold}
use Rattle.session_script.proofs.Going.{told_weaker}
use Rattle.stage_session.specs.Sessions.{Session as SessionState, stage_after, most_paths, opening, opening_text}
use Rattle.std.specs.Prelude.{length, ◌≤◌}
use Rattle.usdstage.specs.Course.{Course, unopened, flat_course, session_course, world_course, opened_course, carried, course}
use Rattle.usdstage.specs.Outcome.{AreCounted, ByFiles, EndsAsDue, EndsWith, IsScript, GoesOn, RepliesToLines}
use Rattle.usdstage.specs.declared.status.Status.{Status}
use Rattle.usdstage.specs.declared.status.Status.TheVariants.{ReadFault, WriteFault, RootRefused, WorldTooLarge, NoMemory, Usage}
use Rattle.usdstage.specs.declared.words.Command.{Command}
use Rattle.usdstage.specs.declared.words.Verb.{Verb}
use Rattle.usdstage.specs.declared.words.Verb.TheVariants as verbs
use Rattle.usdstage.proofs.Carrying.{opened_then, opened_replies, opened_due}
use Rattle.usdstage.proofs.Files.{by_files, then_files}
use Rattle.usdstage.proofs.Outcomes.{cut_at_once, ends_with_nothing, due_by}

pub some_then : (x : Option (List ℕ)) (P Q : List ℕ → Type 0) → IfSome x P → ((all : List ℕ) → P all → Q all) → IfSome x Q
some_then None P Q p h = tt
some_then (Some a) P Q p h = h a p

pub command_all : (x : Option Command) (Q : Command → Type 0) → ((c : Command) → Q c) → IfSome x Q
command_all None Q h = tt
command_all (Some c) Q h = h c

pub some_all : (x : Option (List ℕ)) (Q : List ℕ → Type 0) → ((all : List ℕ) → Q all) → IfSome x Q
some_all None Q h = tt
some_all (Some a) Q h = h a

some_is : (x : Option (List ℕ)) (s : List ℕ) (P : List ℕ → Type 0) → x ≡ Some s → IfSome x P → P s
some_is x s P e p = rw e at p

-- ---- a session

pub session_told : (told : Option Files) (left a b c : Option (List ℕ)) (world : WorldData) (bytes : ℕ) (session : SessionState) (status : Status) → session ≡ opening world → length (stage_after world []) ≤ most_paths → Appends a b (opening_text world)
    → ByFiles told (λ held size. IfSome left (λ all. EndsWith (carried held size session bytes (steps_of all)) status b c))
    → ByFiles told (λ held size. IfSome left (λ all. EndsWith (session_course held size world bytes all) status a c))
session_told told left a b c world bytes session status is few first o =
    then_files told _ _ o (λ held size p. some_then left _ _ p (λ all e. opened_then held size world bytes all status a b c few first (subst (λ (s : SessionState). EndsWith (carried held size s bytes (steps_of all)) status b c) is e)))

pub session_ended : (told : Option Files) (left a b : Option (List ℕ)) (world : WorldData) (bytes : ℕ) (status : Status) → ((bytes : ℕ) (held : Text → Held) (size : Text → ℕ) (script : List ℕ) → EndsWith (session_course held size world bytes script) status a b)
    → ByFiles told (λ held size. IfSome left (λ all. EndsWith (session_course held size world bytes all) status a b))
session_ended told left a b world bytes status h = by_files told _ (λ held size. some_all left _ (λ all. h bytes held size all))

-- the replies behind the one to the opening
replies_behind : (held : Text → Held) (size : Text → ℕ) (all left : List ℕ) (a b c : Option (List ℕ)) (world : WorldData) (bytes : ℕ) (session : SessionState) → session ≡ opening world → length (stage_after world []) ≤ most_paths
    → Appends a b (opening_text world) → RepliesToLines (λ lines. carried held size session bytes (steps_of lines)) all left b c → RepliesToLines (λ lines. session_course held size world bytes lines) all left a c
replies_behind held size all left a b c world bytes session is few first (whole, cut, wrote, on) = (
  whole,
  cut,
  opened_replies held size world bytes whole a b c few first (subst (λ (s : SessionState). Appends b c (carried held size s bytes (steps_of whole)).text) is wrote),
  subst GoesOn (sym (opened_due held size world bytes whole few)) (subst (λ (s : SessionState). GoesOn (carried held size s bytes (steps_of whole)).due) is on),
)

pub session_replies : (told : Option Files) (p q a b c : Option (List ℕ)) (world : WorldData) (bytes : ℕ) (session : SessionState) → session ≡ opening world → length (stage_after world []) ≤ most_paths → Appends a b (opening_text world)
    → ByFiles told (λ held size. BothTold p q (λ all left. RepliesToLines (λ lines. carried held size session bytes (steps_of lines)) all left b c))
    → ByFiles told (λ held size. BothTold p q (λ all left. RepliesToLines (λ lines. session_course held size world bytes lines) all left a c))
session_replies told p q a b c world bytes session is few first o =
    then_files told (λ held size. BothTold p q (λ all left. RepliesToLines (λ lines. carried held size session bytes (steps_of lines)) all left b c)) (λ held size. BothTold p q (λ all left. RepliesToLines (λ lines. session_course held size world bytes lines) all left a c)) o
    (λ held size k. told_weaker p q (λ all left. RepliesToLines (λ lines. carried held size session bytes (steps_of lines)) all left b c) (λ all left. RepliesToLines (λ lines. session_course held size world bytes lines) all left a c) k
    (λ all left r. replies_behind held size all left a b c world bytes session is few first r))

-- ---- the opening of a world

-- a run of these words on what the opening ended with
abbrev pub RunsOn : (Text → Held) → (Text → ℕ) → Command → Option (List ℕ) → Status → Option (List ℕ) → Option (List ℕ) → Type 0
RunsOn held size command left status a b = (s : List ℕ) → IsScript (Some command) left s → EndsWith (course held size (Some command) s) status a b

opened_is : (held : Text → Held) (size : Text → ℕ) (command : Command) (s : List ℕ) (e : Ending) → opened held size most_names command.root command.session ≡ e → course held size (Some command) s ≡ opened_course held size command.verb e s
opened_is held size command s e is = ap (λ (x : Ending). opened_course held size command.verb x s) is

pub not_opened : (told : Option Files) (command : Command) (left out : Option (List ℕ)) (fault : LoadFault) (status : Status) → Opens told most_names command.root command.session (Err fault) → status ≡ unopened fault
    → ByFiles told (λ held size. RunsOn held size command left status out out)
not_opened told command left out load.ReadFault status o is = rw is (by_files told (λ held size. RunsOn held size command left ReadFault out out) (λ held size s k. cut_at_once (course held size (Some command) s) ReadFault out tt))
not_opened told command left out load.NoMemory status o is = rw is (by_files told (λ held size. RunsOn held size command left NoMemory out out) (λ held size s k. cut_at_once (course held size (Some command) s) NoMemory out tt))
not_opened None command left out (load.RootRefused name refusal) status o is = tt
not_opened None command left out load.WorldTooLarge status o is = tt
not_opened (Some f) command left out (load.RootRefused name refusal) status o is = rw is (λ held read s k.
    let here = rw o.fit at o.answers in
    ends_with_nothing (course held (taken_at f) (Some command) s) _ out (opened_is held (taken_at f) command s (Err (load.RootRefused name refusal)) (here held read)))
not_opened (Some f) command left out load.WorldTooLarge status o is = rw is (λ held read s k.
    let here = rw o.fit at o.answers in
    ends_with_nothing (course held (taken_at f) (Some command) s) _ out (opened_is held (taken_at f) command s (Err load.WorldTooLarge) (here held read)))

pub opened_flat : (told : Option Files) (command : Command) (left a b : Option (List ℕ)) (loaded : Loaded) (status : Status) → Opens told most_names command.root command.session (Ok loaded) → command.verb ≡ verbs.Flatten
    → EndsWith (flat_course loaded.world) status a b → ByFiles told (λ held size. RunsOn held size command left status a b)
opened_flat None command left a b loaded status o verb e = tt
opened_flat (Some f) command left a b loaded status o verb e = λ held read s k.
    let here = rw o.fit at o.answers in
    let c : course held (taken_at f) (Some command) s ≡ flat_course loaded.world = opened_is held (taken_at f) command s (Ok loaded) (here held read) ∙ ap (λ (v : Verb). world_course held (taken_at f) v loaded s) verb in
    subst (λ (x : Course). EndsWith x status a b) (sym c) e

reads : (command : Command) (left : Option (List ℕ)) (s : List ℕ) → command.verb ≡ verbs.Session → IsScript (Some command) left s → left ≡ Some s
reads command left s verb k = rw verb at k

pub opened_session : (told : Option Files) (command : Command) (left a b : Option (List ℕ)) (loaded : Loaded) (status : Status) → Opens told most_names command.root command.session (Ok loaded) → command.verb ≡ verbs.Session
    → ByFiles told (λ held size. IfSome left (λ all. EndsWith (session_course held size loaded.world loaded.bytes all) status a b)) → ByFiles told (λ held size. RunsOn held size command left status a b)
opened_session None command left a b loaded status o verb e = tt
opened_session (Some f) command left a b loaded status o verb e = λ held read s k.
    let here = rw o.fit at o.answers in
    let c : course held (taken_at f) (Some command) s ≡ session_course held (taken_at f) loaded.world loaded.bytes s = opened_is held (taken_at f) command s (Ok loaded) (here held read) ∙ ap (λ (v : Verb). world_course held (taken_at f) v loaded s) verb in
    subst (λ (x : Course). EndsWith x status a b) (sym c) (some_is left s _ (reads command left s verb k) (e held read))

pub command_replies : (told : Option Files) (command : Command) (p q a b : Option (List ℕ)) (loaded : Loaded) → Opens told most_names command.root command.session (Ok loaded) → command.verb ≡ verbs.Session
    → ByFiles told (λ held size. BothTold p q (λ all left. RepliesToLines (λ lines. session_course held size loaded.world loaded.bytes lines) all left a b))
    → ByFiles told (λ held size. BothTold p q (λ all left. RepliesToLines (λ lines. course held size (Some command) lines) all left a b))
command_replies None command p q a b loaded o verb k = tt
command_replies (Some f) command p q a b loaded o verb k = λ held read.
    let here = rw o.fit at o.answers in
    told_weaker p q _ _ (k held read) (λ all left r.
    let c : course held (taken_at f) (Some command) r.0 ≡ session_course held (taken_at f) loaded.world loaded.bytes r.0 = opened_is held (taken_at f) command r.0 (Ok loaded) (here held read) ∙ ap (λ (v : Verb). world_course held (taken_at f) v loaded r.0) verb in
    (r.0, r.1, subst (λ (x : Course). Appends a b x.text) (sym c) r.2, subst (λ (x : Course). GoesOn x.due) (sym c) r.3))

-- a run that was not opened ended with a fault of the files
pub unopened_by_files : (fault : LoadFault) (status : Status) → status ≡ unopened fault → status ≡ ReadFault → fault ≡ load.ReadFault
unopened_by_files load.ReadFault status is e = refl
unopened_by_files (load.RootRefused name refusal) status is e = absurd (let f : RootRefused name refusal ≡ ReadFault = sym is ∙ e in cc)
unopened_by_files load.WorldTooLarge status is e = absurd (let f : WorldTooLarge ≡ ReadFault = sym is ∙ e in cc)
unopened_by_files load.NoMemory status is e = absurd (let f : NoMemory ≡ ReadFault = sym is ∙ e in cc)

-- ---- the whole run

pub completes : (told : Option Files) (P : List ℕ → Type 0) (c : (Text → Held) → (Text → ℕ) → List ℕ → Course) (status : Status) (a b : Option (List ℕ)) (F S W : Type 0)
    → (status ≡ ReadFault → F ⊎ S) → (status ≡ WriteFault → W) → ByFiles told (λ held size. (s : List ℕ) → P s → EndsWith (c held size s) status a b)
    → ByFiles told (λ held size. (s : List ℕ) → P s → (F → ⊥) → (S → ⊥) → (W → ⊥) → EndsAsDue (c held size s) status)
completes told P c status a b F S W read write o =
    then_files told (λ held size. (s : List ℕ) → P s → EndsWith (c held size s) status a b) (λ held size. (s : List ℕ) → P s → (F → ⊥) → (S → ⊥) → (W → ⊥) → EndsAsDue (c held size s) status) o (λ held size e s k f r w'.
    due_by (c held size s) status (e s k).0 (F ⊎ S) W read write (λ x. elim x [ inl y ↦ f y | inr z ↦ r z ]) w' (e s k).1)

pub no_command : (told : Option Files) (left out : Option (List ℕ)) → ByFiles told (λ held size. (s : List ℕ) → IsScript None left s → EndsWith (course held size None s) Usage out out)
no_command told left out = by_files told (λ held size. (s : List ℕ) → IsScript None left s → EndsWith (course held size None s) Usage out out) (λ held size s k. ends_with_nothing (course held size None s) Usage out refl)

by_verb : (command : Command) (verb : Verb) (script : List ℕ) → command.verb ≡ verb → IsScript (Some command) (Some script) script
by_verb command verbs.Flatten script e = rw e tt
by_verb command verbs.Session script e = rw e refl

-- a script that is told is the one that is read
pub is_script : (c : Option Command) (script : List ℕ) → IsScript c (Some script) script
is_script None script = tt
is_script (Some command) script = by_verb command command.verb script refl

pub never_rose : Rose 0 0 → ⊥
never_rose rose = absurd (omega arith)

-- ---- faults that were counted

pub never_counted : 0 ≡ one_more 0 → ⊥
never_counted is = absurd (omega (arith, is))

pub rose : (before now : ℕ) → now ≡ one_more before → Rose before now
rose before now is = omega (arith, is)

-- a fault of the files or of the script rose its count
pub reads_rose : (Failed : Type 0) (files files_now script script_now : ℕ) → AreCounted Failed files files_now script script_now → Failed → Rose files files_now ⊎ Rose script script_now
reads_rose Failed files files_now script script_now counted failed = elim (counted.0 failed) [ inl f ↦ inl (rose files files_now f.0) | inr s ↦ inr (rose script script_now s.1) ]

-- what did not fail counted nothing
pub uncounted : {Failed : Type 0} → (Failed → ⊥) → (before now : ℕ) → now ≡ before → IsCounted Failed before now
uncounted not before now same = (λ failed. absurd (not failed), λ k. same)

-- a whole counted what its part counted, where it failed exactly where the part did
pub counted_as : {Part Whole : Type 0} → (before now : ℕ) → (Whole → Part) → (Part → Whole) → IsCounted Part before now → IsCounted Whole before now
counted_as before now to from counted = (λ w. counted.0 (to w), λ not. counted.1 (λ p. not (from p)))

abbrev fault_in : {T : Type 0} → LoadFault → Result T LoadFault → LoadFault
fault_in fault (Ok t) = fault
fault_in fault (Err f) = f

abbrev status_in : {V : Type 0} → Status → Result V Status → Status
status_in status (Ok v) = status
status_in status (Err s) = s

as_status : (fault : LoadFault) (status : Status) → status ≡ unopened fault → fault ≡ load.ReadFault → status ≡ ReadFault
as_status fault status is e = is ∙ ap unopened e

-- a run that was not opened counted what its opening counted
pub unopened_counted : {T : Type 0} → (fault : LoadFault) (status : Status) → status ≡ unopened fault → (before now other : ℕ)
    → IsCounted (◌≡◌ {A = Result T LoadFault} (Err fault) (Err load.ReadFault)) before now → AreCounted (status ≡ ReadFault) before now other other
unopened_counted fault status is before now other counted =
    (λ e. inl (counted.0 (ap Err (unopened_by_files fault status is e)), refl), λ not. (counted.1 (λ e. not (as_status fault status is (ap (fault_in fault) e))), refl))

-- the same of a step that was not carried out
pub step_counted : {T V : Type 0} → (fault : LoadFault) (status : Status) → status ≡ unopened fault → (before now : ℕ)
    → IsCounted (◌≡◌ {A = Result T LoadFault} (Err fault) (Err load.ReadFault)) before now → IsCounted (◌≡◌ {A = Result V Status} (Err status) (Err ReadFault)) before now
step_counted fault status is before now counted =
    counted_as before now (λ e. ap Err (unopened_by_files fault status is (ap (status_in status) e))) (λ e. ap Err (as_status fault status is (ap (fault_in fault) e))) counted
