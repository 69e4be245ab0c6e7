use Rattle.std.proofs.Common.{◌≡◌, ◌∙◌, Bool, List, Result, subst, ap}
use Rattle.std.specs.Result.{IfOk}
use Rattle.list_ops.specs.ListEdits.{firsts}
use Rattle.edit_batches.specs.declared.written.WrittenReference.{WrittenReference}
use Rattle.script_words.specs.Repeats.{reference_is, same_reference}
use Rattle.script_words.proofs.repeats.first_references.Goals as goal

along : {E : Type 0} (r : Result (List WrittenReference) E) (a b : List WrittenReference) → a ≡ b → IfOk r (λ all. all ≡ a) → IfOk r (λ all. all ≡ b)
along r a b e h = subst (λ (x : List WrittenReference). IfOk r (λ all. all ≡ x)) e h

pub returns : goal.returns
returns c =
    along c.unordered.result c.in_ok-kept.kept (firsts same_reference c.args.items)
    (c.in_ok-kept.ensures ∙ ap (λ (same : WrittenReference → WrittenReference → Bool). firsts same c.as_slice.result.now) reference_is ∙ ap (firsts same_reference) (c.as_slice.ensures ∙ c.in_ok-all.ensures))
    c.unordered.ensures
