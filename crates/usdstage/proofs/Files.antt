-- What is known where the files are told.
use Rattle.std.proofs.Common.{◌≡◌, ◌∙◌, ℕ, ◌+◌, ◌<◌, ◌≤◌, Bool, true, false, List, Option, Some, None, Result, Ok, Err, refl, ap, subst}
use Rattle.std.proofs.lemmas.Bool.{lt-ltb, le-ltb}
use Rattle.std.specs.Prelude.{nat_lt, length}
use Rattle.asset_names.specs.Anchoring.{kind_of}
use Rattle.layer_load.specs.Answers.{AnswersOne}
use Rattle.layer_load.specs.Opening.{most_bytes}
use Rattle.layer_load.specs.declared.fault.LoadFault.{LoadFault}
use Rattle.layer_load.specs.declared.fault.LoadFault.TheVariants as load
use Rattle.layer_load.proofs.Reading.{one_stands}
use Rattle.usda_reader.specs.Laws.{TextsHaveOneAnswer}
use Rattle.session_script.specs.Told.{BothTold}
use Rattle.session_script.specs.declared.steps.Step.TheVariants as steps
use Rattle.stage_session.specs.Sessions.{Session, batch_reply, after_batch, opening_of, most_paths, next_stage, publish_reply, after_publish}
use Rattle.usdstage.specs.Course.{Turn, turned, turn, unopened}
use Rattle.usdstage.specs.declared.status.Status.{Status}
use Rattle.usdstage.specs.declared.status.Status.TheVariants.{StageFull, WorldTooLarge}
use Rattle.usdstage.proofs.Outcomes.{not_full, full}
use Rattle.composition.specs.Texts.{Text}
use Rattle.layer_load.specs.Files.{Files, taken_at}
use Rattle.layer_set.specs.declared.held.Held.{Held}
use Rattle.usdstage.specs.Outcome.{ByFiles, Takes}

pub by_files : (told : Option Files) (P : (Text → Held) → (Text → ℕ) → Type 0) → ((held : Text → Held) (size : Text → ℕ) → P held size) → ByFiles told P
by_files None P h = tt
by_files (Some f) P h = λ held read. h held (taken_at f)

pub then_files : (told : Option Files) (P Q : (Text → Held) → (Text → ℕ) → Type 0) → ByFiles told P → ((held : Text → Held) (size : Text → ℕ) → P held size → Q held size) → ByFiles told Q
then_files None P Q p h = tt
then_files (Some f) P Q p h = λ held read. h held (taken_at f) (p held read)

pub both_files : (told : Option Files) (P Q R : (Text → Held) → (Text → ℕ) → Type 0) → ByFiles told P → ByFiles told Q → ((held : Text → Held) (size : Text → ℕ) → P held size → Q held size → R held size) → ByFiles told R
both_files None P Q R p q h = tt
both_files (Some f) P Q R p q h = λ held read. h held (taken_at f) (p held read) (q held read)

-- the files are as they were
pub same_files : (old new : Option Files) (P : (Text → Held) → (Text → ℕ) → Type 0) → new ≡ old → ByFiles new P → ByFiles old P
same_files old new P e p = subst (λ (t : Option Files). ByFiles t P) e p

-- ---- a layer that is opened

module _ (held : Text → Held) (size : Text → ℕ) (s : Session) (bytes : ℕ) (id : Text) where
  abbrev opened_by : Bool → Result Turn Status
  opened_by b = elim b [ true ↦ Err WorldTooLarge | false ↦ turned (batch_reply s (opening_of id (held id))) (after_batch s (opening_of id (held id))) (bytes + size id) ]

  opens : nat_lt most_bytes (bytes + size id) ≡ false → turn held size s bytes (steps.OpenLayer id) ≡ opened_by false
  unfolding turn
  opens e = ap opened_by e

  opens_not : nat_lt most_bytes (bytes + size id) ≡ true → turn held size s bytes (steps.OpenLayer id) ≡ opened_by true
  unfolding turn
  opens_not e = ap opened_by e

pub layer_opened : {V : Type 0} (shown : V → List ℕ) (law : TextsHaveOneAnswer) (told : Option Files) (id : Text) (bytes total : ℕ) (h : Held) (reply : V) (s new : Session) → AnswersOne told id bytes (Ok (h, total))
    → shown reply ≡ batch_reply s (opening_of id h) → new ≡ after_batch s (opening_of id h) → ByFiles told (λ held size. Takes shown (Ok (reply, total)) new (turn held size s bytes (steps.OpenLayer id)))
layer_opened shown law None id bytes total h reply s new a is after = tt
layer_opened shown law (Some f) id bytes total h reply s new a is after = λ held read.
    let file : a.file ≡ f id = a.fits in
    let same : held id ≡ h = one_stands law (kind_of id) (f id) (held id) h (read.stands id) (rw (← file) a.answers.0) in
    let count : total ≡ bytes + taken_at f id = rw (← file) a.answers.1 in
    let few : total ≤ most_bytes = a.answers.2 in
    let fits : nat_lt most_bytes (bytes + taken_at f id) ≡ false = le-ltb most_bytes (bytes + taken_at f id) (rw (← count) few) in
    opens held (taken_at f) s bytes id fits ∙ rw (is, after, same, count) refl

pub layer_not_opened : {V : Type 0} (shown : V → List ℕ) (told : Option Files) (id : Text) (bytes : ℕ) (fault : LoadFault) (status : Status) (s new : Session) → AnswersOne told id bytes (Err fault) → status ≡ unopened fault
    → ByFiles told (λ held size. Takes shown (Err status) new (turn held size s bytes (steps.OpenLayer id)))
layer_not_opened shown told id bytes load.ReadFault status s new a is = rw is (by_files told _ (λ held size. tt))
layer_not_opened shown told id bytes load.NoMemory status s new a is = rw is (by_files told _ (λ held size. tt))
layer_not_opened shown told id bytes (load.RootRefused name refusal) status s new a is = absurd a.answers
layer_not_opened shown None id bytes load.WorldTooLarge status s new a is = tt
layer_not_opened shown (Some f) id bytes load.WorldTooLarge status s new a is = rw is (λ held read.
    let file : a.file ≡ f id = a.fits in
    let many : most_bytes < bytes + taken_at f id = rw (← file) a.answers in
    opens_not held (taken_at f) s bytes id (lt-ltb most_bytes (bytes + taken_at f id) many))

-- ---- a publish

module _ (held : Text → Held) (size : Text → ℕ) (s : Session) (bytes : ℕ) where
  abbrev published_by : Bool → Result Turn Status
  published_by b = elim b [ true ↦ Err StageFull | false ↦ turned (publish_reply s) (after_publish s) bytes ]

  pub publishes : length (next_stage s) ≤ most_paths → turn held size s bytes steps.Publish ≡ turned (publish_reply s) (after_publish s) bytes
  unfolding turn
  publishes few = ap published_by (not_full (next_stage s) few)

  pub publishes_not : most_paths < length (next_stage s) → turn held size s bytes steps.Publish ≡ Err StageFull
  unfolding turn
  publishes_not many = ap published_by (full (next_stage s) many)

-- ---- what a source told

pub heard_here : (x : Option (List ℕ)) → BothTold x x (λ _ _. Unit {0})
heard_here None = tt
heard_here (Some a) = tt
