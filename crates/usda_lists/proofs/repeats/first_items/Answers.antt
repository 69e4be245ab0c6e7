use Rattle.std.proofs.Common.{◌≡◌, ◌∙◌, Bool, List, Result, subst, ap}
use Rattle.std.specs.Result.{IfOk}
use Rattle.list_ops.specs.ListEdits.{firsts}
use Rattle.spec_parts.specs.declared.items.RefItem.{RefItem}
use Rattle.usda_lists.specs.Repeats.{item_is}
use Rattle.usda_lists.specs.References.{same_item}
use Rattle.usda_lists.proofs.repeats.first_items.Goals as goal

along : {E : Type 0} (r : Result (List RefItem) E) (a b : List RefItem) → a ≡ b → IfOk r (λ all. all ≡ a) → IfOk r (λ all. all ≡ b)
along r a b e h = subst (λ (x : List RefItem). IfOk r (λ all. all ≡ x)) e h

pub returns : goal.returns
returns c =
    along c.unordered.result c.in_ok-kept.kept (firsts same_item c.args.items)
    (c.in_ok-kept.ensures ∙ ap (λ (same : RefItem → RefItem → Bool). firsts same c.as_slice.result.now) item_is ∙ ap (firsts same_item) (c.as_slice.ensures ∙ c.in_ok-all.ensures))
    c.unordered.ensures
