use Rattle.std.proofs.Common.{◌≡◌, ◌∙◌, List, ℕ, Result, Ok, Err, IfOk, string_bytes, subst, sym}
use Rattle.sdf_paths.specs.declared.element.Element.{Element}
use Rattle.sdf_paths.specs.Paths.{IsPath, IsReadAs, printed}
use Rattle.sdf_paths.proofs.ParseExact.{read_printed}
use Rattle.sdf_paths.proofs.path.Path.print.Goals as goal

reads_back : {S E : Type 0} (text_of : S → List ℕ) (r : Result S E) (path : List Element) → IsPath path → IfOk r (λ s. text_of s ≡ printed path) → IfOk r (λ s. IsReadAs (text_of s) path)
reads_back text_of (Ok s) path valid h = subst (λ (t : List ℕ). IsReadAs t path) (sym h) (read_printed path valid)
reads_back text_of (Err e) path valid h = h

pub returns-clause-read : goal.returns-clause-read
returns-clause-read c = reads_back string_bytes c.print.result c.args.self.now
    (subst IsPath c.self.view_is c.self.invariant) (subst (λ (es : List Element). IfOk c.print.result (λ s. string_bytes s ≡ printed es)) (c.as_slice.ensures ∙ c.self.view_is) c.print.ensures)
