-- The turns of a loop over places.
use Rattle.std.proofs.Common.{◌≡◌, ◌∙◌, sym, refl, subst, ℕ, suc, ◌+◌, ◌-◌, ◌<◌, arith, List, Option, Some, Ok, Err}
use Rattle.std.specs.List.{slice_get}
use Rattle.composition.specs.Texts.{Text}
use Rattle.layer_set.specs.declared.held.Held.{Held}
use Rattle.layer_stack.specs.Visiting.{AreApart}
use Rattle.layer_load.specs.Answers.{TakesTurn, Opens}
use Rattle.layer_load.specs.Files.{Files}
use Rattle.layer_load.specs.Opening.{Opening, assets_of, with_assets, begun}
use Rattle.layer_load.specs.declared.fault.LoadFault.{LoadFault}
use Rattle.layer_load.proofs.Apart.{all_apart, first_apart}
use Rattle.layer_load.proofs.Known.{Known, known_first, known_next, known_fault}
use Rattle.layer_load.proofs.Noting.{more}

pub begun_apart : (root : Text) (session : Option Text) (s : Opening) → s ≡ begun root session → AreApart s.names
begun_apart root session s is = subst (λ (x : Opening). AreApart x.names) (sym is) (first_apart root session)

pub begun_known : (told : Option Files) (names : ℕ) (root : Text) (session : Option Text) (s : Opening) → s ≡ begun root session → Known told names root session (names - 0) 0 s
begun_known told names root session s is =
    let whole : names ≡ names - 0 = omega arith in
    subst (λ (n : ℕ). Known told names root session n 0 s) whole (known_first told names root session s is)

pub still_apart : (s new : List Text) (name : Text) (held : Held) → new ≡ with_assets s name held → AreApart s → AreApart new
still_apart s new name held is apart = subst AreApart (sym is) (all_apart name (assets_of held) s apart)

module _ (told now : Option Files) (names place : ℕ) (root : Text) (session : Option Text) (s new : Opening) (name : Text)
    (lt : place < names) (same : now ≡ told) (some : Some name ≡ slice_get s.names place) (apart : AreApart s.names) (k : Known told names root session (names - place) place s) where
  one_less : names - place ≡ suc (names - (place + 1))
  one_less = omega (arith, lt)

  known_here : Known told names root session (suc (names - (place + 1))) place s
  known_here = subst (λ (n : ℕ). Known told names root session n place s) one_less k

  pub next_known : (held : Held) → new.names ≡ with_assets s.names name held → TakesTurn now name s new (Ok tt) → Known told names root session (names - (place + 1)) (place + 1) new
  next_known held is turn =
      let m = more name (assets_of held) s.names in
      known_next told names root session (names - (place + 1)) place s new name (sym some) apart known_here m.0 (is ∙ m.1) (Ok tt) refl
      (subst (λ (o : Option Files). TakesTurn o name s new (Ok tt)) same turn)

  pub fault_opens : (fault : LoadFault) → TakesTurn now name s new (Err fault) → Opens told names root session (Err fault)
  fault_opens fault turn =
      known_fault told names root session (names - (place + 1)) place s new name (sym some) apart known_here fault (Err fault) refl
      (subst (λ (o : Option Files). TakesTurn o name s new (Err fault)) same turn)
