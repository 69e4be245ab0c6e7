use Rattle.std.proofs.Common.{◌++◌, ◌∷◌, ap, sym, ◌∙◌}
use Rattle.shared_tables.specs.Trees.{entries, link_entries}
use Rattle.shared_tables.proofs.Nodes.{node_is, if_made, regrouped}
use Rattle.shared_tables.proofs.node.around.Goals as goal

pub returns : goal.returns
returns g c =
    let made = regrouped (link_entries c.args.before) _ _ _ _ (link_entries c.args.after) _ _ c.args.first _ _ c.args.last c.in_ok-shared.ensures c.in_ok-shared-2.ensures c.in_ok-shared-3.ensures c.in_ok-front.ensures c.in_ok-back.ensures in
    let is = ap (λ m. link_entries c.args.before ++ c.args.first ∷ (m ++ c.args.last ∷ link_entries c.args.after)) (sym (node_is c.args.middle.now)) in
    if_made (λ n. entries n.value) _ _ (made ∙ is) _ c.joined-3.ensures
