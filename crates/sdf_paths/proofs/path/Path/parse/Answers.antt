use Rattle.std.proofs.Common.{◌≡◌, ◌⊎◌, Ok, Err, List, ℕ, Result, inl, inr, ap, refl, sym, subst, ◌∙◌}
use Rattle.std.specs.Str.{IsUtf8}
use Rattle.sdf_paths.specs.declared.element.Element.{Element}
use Rattle.sdf_paths.specs.declared.fault.PathFault.{PathFault}
use Rattle.sdf_paths.specs.declared.fault.PathFault.TheVariants.{Bad, NoMemory}
use Rattle.sdf_paths.specs.Paths.{IsPath, IsReadAs}
use Rattle.sdf_paths.specs.Refusal.{IsFaultOf}
use Rattle.sdf_paths.specs.Reader.{StopsAsTold}
use Rattle.sdf_paths.proofs.ParseExact.{is_read, read_once, is_refused, path_of_read}
use Rattle.sdf_paths.proofs.path.Path.parse.Goals as goal

fault_is : (text : List ℕ) (e : PathFault) → IsUtf8 text → StopsAsTold text e → IsFaultOf text e
fault_is text (Bad at) utf8 h = is_refused text at utf8 h
fault_is text NoMemory utf8 h = tt

not_read : (text : List ℕ) (e : PathFault) → IsUtf8 text → StopsAsTold text e → (path : List Element) → IsReadAs text path
    → (◌≡◌ {A = Result (List Element) PathFault} (Err e) (Ok path)) ⊎ (◌≡◌ {A = Result (List Element) PathFault} (Err e) (Err NoMemory))
not_read text (Bad at) utf8 h path read = absurd ((is_refused text at utf8 h).unread path read)
not_read text NoMemory utf8 h path read = inr refl

pub invariant_of-result : goal.invariant_of-result
invariant_of-result c =
    let read = is_read c.args.text.now c.in-Ok.elements c.utf8.text c.in-Ok.ensures.ok in
    subst IsPath (sym c.in_ok-of-in-Ok.ensures) (path_of_read c.args.text.now c.in-Ok.elements read)

pub returns-in_ok-of-in-Ok-clause-ok : goal.returns-in_ok-of-in-Ok-clause-ok
returns-in_ok-of-in-Ok-clause-ok c =
    let read = is_read c.args.text.now c.in-Ok.elements c.utf8.text c.in-Ok.ensures.ok in
    subst (IsReadAs c.args.text.now) (sym c.in_ok-of-in-Ok.ensures) read

pub returns-in_ok-of-in-Ok-clause-read : goal.returns-in_ok-of-in-Ok-clause-read
returns-in_ok-of-in-Ok-clause-read c =
    λ path read. inl (ap Ok (c.in_ok-of-in-Ok.ensures ∙ sym (read_once c.args.text.now c.in-Ok.elements path c.utf8.text c.in-Ok.ensures.ok read)))

pub returns-in-Err-clause-bad : goal.returns-in-Err-clause-bad
returns-in-Err-clause-bad c = fault_is c.args.text.now c.in-Err.fault c.utf8.text c.in-Err.ensures.bad

pub returns-in-Err-clause-read : goal.returns-in-Err-clause-read
returns-in-Err-clause-read c = not_read c.args.text.now c.in-Err.fault c.utf8.text c.in-Err.ensures.bad
