use Rattle.std.proofs.Common.{sym, subst}
use Rattle.layer_set.specs.declared.held.Held.{Held}
use Rattle.layer_changes.specs.Covering.{HasTree}
use Rattle.layer_changes.proofs.Standing.{layer_has}
use Rattle.layer_changes.proofs.trees.add_tree.Goals as goal

pub returns-in_ok-add_layer-in-Present-clause-added : goal.returns-in_ok-add_layer-in-Present-clause-added
returns-in_ok-add_layer-in-Present-clause-added c =
    subst (λ (h : Held). HasTree c.add_layer.new.keys.keys h c.args.name.now c.args.front.now) (sym c.in-Present.is)
    (layer_has c.add_layer.new.keys.keys c.in-Present.layer c.args.name.now c.args.front.now c.in_ok-add_layer-in-Present.ensures.added)
