-- Faults each once, with a table of the texts that were met.
use Rattle.std.proofs.Common.{◌≡◌, ◌∙◌, sym, ap, subst, ℕ, ◌+◌, ◌<◌, Bool, true, false, List, [], ◌∷◌, ◌++◌, take, length, get_or}
use Rattle.std.specs.Option.{is_some}
use Rattle.layer_set.specs.Named.{at_name, with_name}
use Rattle.composition.specs.Texts.{Text, same_text}
use Rattle.layer_stack.proofs.Names.{at_with}
use Rattle.composition.specs.Faults.{Fault}
use Rattle.prim_view.specs.Printing.{fault_text}
use Rattle.prim_index.specs.Once.{faults_once}
use Rattle.prim_index.proofs.Once.{AreMet, so_far, none_so_far, kept_once, passed_over, still_met, now_met}
use Rattle.composition.proofs.Same.{same_text_same}

-- the table has the texts of these faults
abbrev pub AreNoted : List (Text × Bool) → List Fault → Type 0
AreNoted met faults = AreMet same_text fault_text (λ q. at_name q met) faults

abbrev pub once_so_far : List Fault → ℕ → List Fault → List Fault
once_so_far faults i once = so_far same_text fault_text faults i once

pub none_yet : (faults once : List Fault) → once ≡ [] → once_so_far faults 0 once ≡ faults_once faults
unfolding faults_once
none_yet faults once is = ap (λ (l : List Fault). once_so_far faults 0 l) is ∙ none_so_far same_text fault_text faults

pub none_noted : (met : List (Text × Bool)) → met ≡ [] → AreNoted met []
none_noted met is q = ap (λ (es : List (Text × Bool)). is_some (at_name q es)) is

module _ (faults : List Fault) (i : ℕ) (x : Fault) (text : Text) (met : List (Text × Bool)) (once : List Fault) (has : Bool)
    (within : i < length faults) (item : x ≡ get_or faults i x) (printed : text ≡ fault_text x) (told : has ≡ is_some (at_name text met))
    (noted : AreNoted met (take i faults)) (before : once_so_far faults i once ≡ faults_once faults) where
  told_there : has ≡ is_some (at_name (fault_text x) met)
  told_there = told ∙ ap (λ (q : Text). is_some (at_name q met)) printed

  pub kept : has ≡ false → once_so_far faults (i + 1) (once ++ x ∷ []) ≡ faults_once faults
  kept new = kept_once same_text fault_text faults i x (λ q. at_name q met) once (faults_once faults) within item noted before has told_there new

  pub passed : has ≡ true → once_so_far faults (i + 1) once ≡ faults_once faults
  passed old = passed_over same_text fault_text faults i x (λ q. at_name q met) once (faults_once faults) within item noted before has told_there old

  pub noted_still : has ≡ true → AreNoted met (take (i + 1) faults)
  noted_still old = still_met same_text fault_text same_text_same faults i x (λ q. at_name q met) within item noted (sym told_there ∙ old)

  pub noted_now : AreNoted (with_name text true met) (take (i + 1) faults)
  noted_now =
      subst (λ (t : Text). AreNoted (with_name t true met) (take (i + 1) faults)) (sym printed)
      (now_met same_text fault_text same_text_same faults i x (λ q. at_name q met) within item noted (λ q. at_name q (with_name (fault_text x) true met)) (λ q. at_with q (fault_text x) true met))
