use Rattle.std.proofs.Common.{Some, sym, ap, ◌∙◌}
use Rattle.shared_tables.specs.Rest.{head}
use Rattle.shared_tables.proofs.Firsts.{head_found, head_missed}
use Rattle.shared_tables.proofs.Nodes.{tree_is}
use Rattle.shared_tables.proofs.search.+first.Goals as goal

pub returns-in-None-first : goal.returns-in-None-first
returns-in-None-first g t c =
    let is = tree_is c.args.tree.now _ _ c.in-Some.is c.deref-node.ensures in
    ap Some c.pair.ensures ∙ sym (ap head is ∙ head_missed _ _ c.in-None-first.ensures)

pub returns-in-Some-first : goal.returns-in-Some-first
returns-in-Some-first g t c =
    let is = tree_is c.args.tree.now _ _ c.in-Some.is c.deref-node.ensures in
    head_found _ _ _ c.in-Some-first.ensures ∙ sym (ap head is)
