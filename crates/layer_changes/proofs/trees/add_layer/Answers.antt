use Rattle.std.proofs.Common.{◌∙◌, subst, List}
use Rattle.std.specs.List.{All}
use Rattle.sdf_paths.specs.declared.element.Element.{Element}
use Rattle.layer_changes.specs.Covering.{HasSpec}
use Rattle.layer_changes.proofs.trees.add_layer.Goals as goal

pub returns-clause-added : goal.returns-clause-added
returns-clause-added c =
    subst (λ (paths : List (List Element)). All (HasSpec c.add_specs.new.keys.keys c.args.name.now) paths) (c.as_slice.ensures ∙ c.in_ok-paths.ensures) c.in_ok-add_specs.ensures.added
