use Rattle.std.proofs.Common.{false}
use Rattle.node_branches.proofs.Cutting.{kind_made}
use Rattle.node_branches.proofs.branches.push_kind.Goals as goal

pub returns : goal.returns
returns c =
    kind_made c.push_all_lifted.result c.args.kind c.args.node.now c.args.own.now c.push_all_lifted.new.out c.args.out.now c.as_slice.result.now c.in_ok-classes.classes
    c.as_slice.ensures (c.in_ok-classes.ensures false) c.push_all_lifted.ensures
