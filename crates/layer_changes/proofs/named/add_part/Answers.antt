use Rattle.layer_changes.proofs.Standing.{key_named, tree_named}
use Rattle.layer_changes.proofs.named.add_part.Goals as goal

pub returns-in_ok-add-in-At-clause-added : goal.returns-in_ok-add-in-At-clause-added
returns-in_ok-add-in-At-clause-added c =
    key_named c.args.old.now c.args.new.now c.add.new.set.keys c.in-At.key c.in_ok-copy-in-At.field-0 c.args.part.now c.in-At.is c.in_ok-copy-in-At.ensures c.in_ok-add-in-At.ensures.added

pub returns-in_ok-add_tree-in-Below-2-clause-added : goal.returns-in_ok-add_tree-in-Below-2-clause-added
returns-in_ok-add_tree-in-Below-2-clause-added c =
    tree_named c.args.old.now c.args.new.now c.add_spec.new.keys.keys c.add_tree.new.keys.keys c.add_tree-in-Below.new.keys.keys c.in-Below.name c.in-Below.front c.held.result.now c.held-in-Below.result.now
    c.args.part.now c.in-Below.is c.held.ensures c.held-in-Below.ensures c.in_ok-add_spec-in-Below.ensures.added c.in_ok-add_tree-in-Below.ensures.kept c.in_ok-add_tree-in-Below.ensures.added
    c.in_ok-add_tree-in-Below-2.ensures.kept c.in_ok-add_tree-in-Below-2.ensures.added

pub returns-in_ok-add_tree-in-Below-2-clause-kept : goal.returns-in_ok-add_tree-in-Below-2-clause-kept
returns-in_ok-add_tree-in-Below-2-clause-kept c =
    λ k has. c.in_ok-add_tree-in-Below-2.ensures.kept k (c.in_ok-add_tree-in-Below.ensures.kept k (c.in_ok-add_spec-in-Below.ensures.kept k has))
