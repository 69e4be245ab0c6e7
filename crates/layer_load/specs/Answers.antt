-- What the calls answer.
use Rattle.std.specs.Prelude.{◌≡◌, ℕ, ◌+◌, ◌<◌, ◌≤◌, List, Option, Result, Ok, Err, OnOk}
use Rattle.asset_names.specs.Anchoring.{kind_of}
use Rattle.composition.specs.Texts.{Text}
use Rattle.layer_set.specs.declared.held.Held.{Held}
use Rattle.layer_load.specs.Closure.{IsClosed}
use Rattle.layer_load.specs.Files.{Files, AreRead, Fit, FitsAt, Holds, Stands, size_of, taken_of, taken_at}
use Rattle.layer_load.specs.Opening.{Opening, Ending, most_bytes, taken, opened, with_assets}
use Rattle.layer_load.specs.declared.fault.LoadFault.{LoadFault}
use Rattle.layer_load.specs.declared.fault.LoadFault.TheVariants.{ReadFault, RootRefused, WorldTooLarge, NoMemory}

-- an opening is answered as it is defined, unless a fetch failed or memory ran out
abbrev pub Answers : Ending → Ending → Type 0
Answers (Ok loaded) defined = defined ≡ Ok loaded
Answers (Err (RootRefused name refusal)) defined = defined ≡ Err (RootRefused name refusal)
Answers (Err WorldTooLarge) defined = defined ≡ Err WorldTooLarge
Answers (Err ReadFault) defined = Unit {0}
Answers (Err NoMemory) defined = Unit {0}

-- a step was taken: what the opening ended with before it, it ends with now
abbrev pub GoesOn : Result (Unit {0}) LoadFault → Ending → Ending → Type 0
GoesOn (Ok u) before now = before ≡ now
GoesOn (Err (RootRefused name refusal)) before now = before ≡ Err (RootRefused name refusal)
GoesOn (Err WorldTooLarge) before now = before ≡ Err WorldTooLarge
GoesOn (Err ReadFault) before now = Unit {0}
GoesOn (Err NoMemory) before now = Unit {0}

-- What one layer is answered as: what stands there, with the bytes in all, or that these are too many.
abbrev pub AnswersWith : (Held → Type 0) → ℕ → ℕ → Result (Held × ℕ) LoadFault → Type 0
AnswersWith Is before size (Ok p) = Is p.0 × (p.1 ≡ before + size) × (p.1 ≤ most_bytes)
AnswersWith Is before size (Err WorldTooLarge) = most_bytes < before + size
AnswersWith Is before size (Err (RootRefused root refusal)) = ⊥
AnswersWith Is before size (Err ReadFault) = Unit {0}
AnswersWith Is before size (Err NoMemory) = Unit {0}

-- the same of a file that is read, whatever its name
pub record AnswersFile (told : Option Files) (name : Text) (before : ℕ) (result : Result (Held × ℕ) LoadFault) : Type 0 where
  pub file : Option (List ℕ)
  pub fits : FitsAt told name file
  pub answers : AnswersWith (Holds file) before (size_of file) result

-- There is a file of this name, or none, which is the one that is told, and the layer is answered as this file has it.
pub record AnswersOne (told : Option Files) (name : Text) (before : ℕ) (result : Result (Held × ℕ) LoadFault) : Type 0 where
  pub file : Option (List ℕ)
  pub fits : FitsAt told name file
  pub answers : AnswersWith (Stands (kind_of name) file) before (taken_of (kind_of name) file) result

-- A name had its turn: there is a file of this name, or none, which is the one that is told. By what stands there the opening ends now
-- as it did before, and the names are those with what it names.
pub record TakesTurn (told : Option Files) (name : Text) (old new : Opening) (result : Result (Unit {0}) LoadFault) : Type 0 where
  pub file : Option (List ℕ)
  pub fits : FitsAt told name file
  pub goes_on : (held : Held) → Stands (kind_of name) file held → (go : Opening → Ending) → GoesOn result (taken go old name held (taken_of (kind_of name) file)) (go new)
  pub names : OnOk result ((held : Held) → Stands (kind_of name) file held → new.names ≡ with_assets old.names name held)

-- a world that is opened has what stands at the names that are met, and no more; of a fault nothing is said
abbrev pub OpensWorld : (Text → Held) → Text → Option Text → Ending → Type 0
OpensWorld held root session (Ok loaded) = IsClosed held root session loaded.world
OpensWorld held root session (Err fault) = Unit {0}

-- There are files, those that are told, and the opening is answered as it is defined by what stands at their names. The world has what
-- stands at the names that are met, and no more.
pub record Opens (told : Option Files) (names : ℕ) (root : Text) (session : Option Text) (result : Ending) : Type 0 where
  pub files : Files
  pub fit : Fit told files
  pub answers : (held : Text → Held) → AreRead files held → Answers result (opened held (taken_at files) names root session)
  pub closed : (held : Text → Held) → AreRead files held → OpensWorld held root session result
