use Rattle.std.proofs.Common.{◌≡◌, Bool, List, Result, subst}
use Rattle.std.specs.Result.{IfOk}
use Rattle.list_ops.specs.ListEdits.{firsts}
use Rattle.sdf_paths.specs.declared.element.Element.{Element}
use Rattle.sdf_paths.specs.PathOrder.{path_is}
use Rattle.sdf_paths.specs.contracts.path.PathPartialEq.TheImpl.{ghosts as path_eq}
use Rattle.usda_lists.proofs.repeats.first_paths.Goals as goal

-- the slice that is handed on is the list
sliced : {E : Type 0} (r : Result (List (List Element)) E) (same : List Element → List Element → Bool) (a b : List (List Element)) → a ≡ b → IfOk r (λ kept. kept ≡ firsts same a) → IfOk r (λ kept. kept ≡ firsts same b)
sliced r same a b e h = subst (λ (x : List (List Element)). IfOk r (λ kept. kept ≡ firsts same x)) e h

pub returns : goal.returns
returns c =
    subst (λ (same : List Element → List Element → Bool). IfOk c.firsts_ordered.result (λ kept. kept ≡ firsts same c.args.items)) path_is
    (sliced c.firsts_ordered.result path_eq.eq c.as_slice.result.now c.args.items c.as_slice.ensures c.firsts_ordered.ensures)
