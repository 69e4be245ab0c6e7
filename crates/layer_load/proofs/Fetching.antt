-- What is answered for a file, and for a name.
use Rattle.std.proofs.Common.{◌≡◌, sym, subst, refl, ℕ, ◌≤◌, List, [], length, Option, Some, None, Result, Err}
use Rattle.std.specs.Prelude.{IfSome}
use Rattle.std.proofs.lemmas.List.{take_all}
use Rattle.asset_names.specs.Anchoring.{kind_of}
use Rattle.asset_names.specs.declared.name.NameKind.{NameKind}
use Rattle.asset_names.specs.declared.name.NameKind.TheVariants as kind
use Rattle.composition.specs.Texts.{Text}
use Rattle.io_edges.specs.Edges.{FetchTells, most}
use Rattle.io_edges.specs.declared.Fetched.TheVariants as fetched
use Rattle.layer_set.specs.declared.held.Held.{Held}
use Rattle.layer_set.specs.declared.held.Held.TheVariants.{Absent}
use Rattle.sdf_values.specs.declared.refusal.RefusalKind.TheVariants as refusal
use Rattle.layer_load.specs.Answers.{AnswersWith, AnswersOne, AnswersFile}
use Rattle.layer_load.specs.Files.{Files, FitsAt, Says, Holds, Stands, unread, size_of, taken_of}
use Rattle.layer_load.specs.declared.fault.LoadFault.{LoadFault}
use Rattle.layer_load.specs.declared.fault.LoadFault.TheVariants.{ReadFault, NoMemory}

-- a file that fits what is told
some_file : (told : Option Files) (name : Text) → (file : Option (List ℕ)) × FitsAt told name file
some_file None name = (None, tt)
some_file (Some f) name = (f name, refl)

pub read_failed : (told : Option Files) (name : Text) (before : ℕ) → AnswersFile told name before (Err ReadFault)
read_failed told name before = let some = some_file told name in record { file = some.0; fits = some.1; answers = tt }

pub no_memory : (told : Option Files) (name : Text) (before : ℕ) → AnswersFile told name before (Err NoMemory)
no_memory told name before = let some = some_file told name in record { file = some.0; fits = some.1; answers = tt }

module _ (before : ℕ) (result : Result (Held × ℕ) LoadFault) where
  pub found_file : (told : Option Files) (name : Text) (bytes : List ℕ) → IfSome told (λ f. FetchTells fetched.Found (f name) [] bytes) → length bytes ≤ most
      → AnswersWith (Says bytes) before (length bytes) result → AnswersFile told name before result
  found_file None name bytes tells short answers = record {
    file = Some bytes;
    fits = tt;
    answers = subst (λ (x : List ℕ). AnswersWith (Says x) before (length x) result) (sym (take_all most bytes short)) answers;
  }
  found_file (Some f) name bytes (file, there, took) short answers = record {
    file = f name;
    fits = refl;
    answers = subst (λ (x : Option (List ℕ)). AnswersWith (Holds x) before (size_of x) result) (sym there)
        (subst (λ (x : List ℕ). AnswersWith (Says x) before (length x) result) took answers);
  }

  pub absent_file : (told : Option Files) (name : Text) (new : List ℕ) → IfSome told (λ f. FetchTells fetched.Absent (f name) [] new)
      → AnswersWith (λ (h : Held). h ≡ Absent) before 0 result → AnswersFile told name before result
  absent_file None name new tells answers = record { file = None; fits = tt; answers = answers }
  absent_file (Some f) name new tells answers = record {
    file = f name;
    fits = refl;
    answers = subst (λ (x : Option (List ℕ)). AnswersWith (Holds x) before (size_of x) result) (sym tells) answers;
  }

  abbrev by_kind : Option (List ℕ) → NameKind → Type 0
  by_kind file k = AnswersWith (Stands k file) before (taken_of k file) result

  pub plain_one : (told : Option Files) (name text : Text) → kind_of name ≡ kind.Plain → text ≡ name → AnswersFile told text before result → AnswersOne told name before result
  plain_one told name text plain same answers = record {
    file = answers.file;
    fits = subst (λ (x : Text). FitsAt told x answers.file) same answers.fits;
    answers = subst (by_kind answers.file) (sym plain) answers.answers;
  }

  pub crate_one : (told : Option Files) (name : Text) → kind_of name ≡ kind.Crate → AnswersWith (λ (h : Held). h ≡ unread refusal.Crate) before 0 result
      → AnswersOne told name before result
  crate_one told name is answers = let some = some_file told name in record { file = some.0; fits = some.1; answers = subst (by_kind some.0) (sym is) answers }

  pub package_one : (told : Option Files) (name : Text) → kind_of name ≡ kind.Package → AnswersWith (λ (h : Held). h ≡ unread refusal.Package) before 0 result
      → AnswersOne told name before result
  package_one told name is answers = let some = some_file told name in record { file = some.0; fits = some.1; answers = subst (by_kind some.0) (sym is) answers }
