use Rattle.std.proofs.Common.{◌∙◌, ap, List}
use Rattle.std.specs.Map.{keys_of}
use Rattle.sdf_paths.specs.declared.element.Element.{Element}
use Rattle.sdf_specs.specs.Layers.{tree, without_paths}
use Rattle.sdf_specs.proofs.TreeLemmas.{removed_is, told_some}
use Rattle.sdf_specs.proofs.trees.remove_tree.Goals as goal

pub returns-clause-some : goal.returns-clause-some
returns-clause-some g c = told_some c.args.front.now c.args.specs.now c.in_ok-gone.gone c.is_empty.result c.in_ok-gone.ensures c.is_empty.ensures

pub returns-clause-ok : goal.returns-clause-ok
returns-clause-ok g c =
    c.in_ok-remove_all.ensures
    ∙ (ap (λ (paths : List (List Element)). without_paths paths c.in_ok-left.left) (c.as_slice.ensures ∙ c.in_ok-gone.ensures)
    ∙ (ap (without_paths (keys_of (tree c.args.front.now c.args.specs.now))) c.in_ok-left.ensures
    ∙ removed_is c.args.front.now c.args.specs.now))
