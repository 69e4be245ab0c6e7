use Rattle.node_branches.proofs.Cutting.{both_made}
use Rattle.node_branches.proofs.branches.lifted_branches.Goals as goal

pub returns : goal.returns
returns c =
    both_made c.args.node.now c.args.own.now c.new-all.result c.push_kind.new.out c.push_kind-2.new.out c.new-all.ensures c.in_ok-push_kind.ensures c.in_ok-push_kind-2.ensures
