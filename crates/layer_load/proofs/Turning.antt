-- A turn, by what the layer of its name was answered as.
use Rattle.std.proofs.Common.{◌≡◌, ◌∙◌, sym, ap, subst, ℕ, ◌+◌, ◌≤◌, Option, Result, Ok, Err}
use Rattle.std.specs.Prelude.{OnOk}
use Rattle.asset_names.specs.Anchoring.{kind_of}
use Rattle.composition.specs.Texts.{Text}
use Rattle.layer_set.specs.declared.held.Held.{Held}
use Rattle.usda_reader.specs.Laws.{TextsHaveOneAnswer}
use Rattle.layer_load.specs.Answers.{GoesOn, AnswersOne, TakesTurn}
use Rattle.layer_load.specs.Files.{Files, Stands, taken_of}
use Rattle.layer_load.specs.Opening.{Opening, Ending, most_bytes, judged, taken, with_assets}
use Rattle.layer_load.specs.declared.fault.LoadFault.{LoadFault}
use Rattle.layer_load.proofs.Reading.{one_stands}
use Rattle.layer_load.proofs.Turns.{taken_small, not_loaded}

on_ok : (result : Result (Unit {0}) LoadFault) {P Q : Type 0} → OnOk result P → (P → Q) → OnOk result Q
on_ok (Ok u) p f = f p
on_ok (Err e) p f = tt

module _ (told : Option Files) (name : Text) (s new : Opening) where
  pub turn_added : TextsHaveOneAnswer → (result : Result (Unit {0}) LoadFault) (h : Held) (total : ℕ) → AnswersOne told name s.bytes (Ok (h, total))
      → ((go : Opening → Ending) → GoesOn result (judged go s name h total) (go new)) → OnOk result (new.names ≡ with_assets s.names name h) → TakesTurn told name s new result
  turn_added law result h total one judges named = record {
    file = one.file;
    fits = one.fits;
    goes_on = λ held stands go.
        let size : ℕ = taken_of (kind_of name) one.file in
        let same : h ≡ held = one_stands law (kind_of name) one.file h held one.answers.0 stands in
        let small : s.bytes + size ≤ most_bytes = subst (λ (n : ℕ). n ≤ most_bytes) one.answers.1 one.answers.2 in
        let is : judged go s name h total ≡ taken go s name held size =
        ap (λ (x : Held). judged go s name x total) same
        ∙ (ap (λ (n : ℕ). judged go s name held n) one.answers.1 ∙ sym (taken_small go s name held size small)) in
        subst (λ (x : Ending). GoesOn result x (go new)) is (judges go);
    names = on_ok result named (λ is held stands. is ∙ ap (with_assets s.names name) (one_stands law (kind_of name) one.file h held one.answers.0 stands));
  }

  pub turn_failed : (fault : LoadFault) → AnswersOne told name s.bytes (Err fault) → TakesTurn told name s new (Err fault)
  turn_failed fault one = record {
    file = one.file;
    fits = one.fits;
    goes_on = λ held stands go. not_loaded go s name held (taken_of (kind_of name) one.file) (Stands (kind_of name) one.file) fault (go new) one.answers;
    names = tt;
  }
