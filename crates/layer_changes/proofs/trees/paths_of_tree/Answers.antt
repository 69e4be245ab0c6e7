use Rattle.std.proofs.Common.{◌≡◌, ◌∙◌, []}
use Rattle.sdf_specs.proofs.TreeLemmas.{leading, ended, left_behind}
use Rattle.layer_changes.proofs.Walked.{tree_walked}
use Rattle.layer_changes.proofs.trees.paths_of_tree.Goals as goal
use Rattle.layer_changes.proofs.trees.paths_of_tree.Goals.{in-None, in-Some+then-not-has_prefix}

pub returns : goal.returns
returns c =
    let done : leading c.args.front.now c.loop-path.path-iterator ≡ [] = elim c.match-next.branch [
      | in-None w ↦ ended c.args.front.now c.loop-path.path-iterator w.in-None.ensures.steps.0
      | in-Some+then-not-has_prefix w ↦
          left_behind c.args.front.now (w.in-Some.path.now, w.in-Some.field-0-1.now) c.next.new.self c.loop-path.path-iterator w.in-Some.ensures.steps w.if-not-has_prefix.ensures.value
    ] in
    tree_walked c.args.front.now c.loop-path.paths c.args.layer.now.specs c.into_iter-path-iterator.result c.loop-path.path-iterator done c.loop-path.invariant
    (c.into_iter-path-iterator.ensures.into_iter_gives ∙ c.iter_from-path-items.ensures.rest) c.iter_from-path-items.ensures.order
