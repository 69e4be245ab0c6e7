use Rattle.std.proofs.Common.{◌≡◌, ◌∙◌, sym, ap, arith, false, ◌++◌, [], List, drop, append-nil}
use Rattle.std.proofs.lemmas.List.{drop_all}
use Rattle.composition.specs.Faults.{own_children}
use Rattle.prim_trees.specs.declared.tree.Child.{Child}
use Rattle.prim_trees.specs.Meant.{trees_of}
use Rattle.site_order.specs.Places.{trees_shown}
use Rattle.site_order.proofs.Telling.{children_are}
use Rattle.site_order.proofs.faults.children_of.Goals as goal

pub returns : goal.returns
returns c = λ is_cut.
    let gone : drop c.loop-child.child-index c.args.own.now ≡ [] = drop_all c.loop-child.child-index c.args.own.now (omega arith) in
    sym (append-nil (trees_shown c.loop-child.trees.items))
    ∙ ap (λ (cs : List Child). trees_shown c.loop-child.trees.items ++ own_children c.args.kind (trees_of cs false)) (sym gone)
    ∙ c.loop-child.invariant
    ∙ sym (children_are c.args.kind c.args.own.now is_cut)
