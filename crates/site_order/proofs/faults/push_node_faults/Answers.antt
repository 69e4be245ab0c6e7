use Rattle.std.proofs.Common.{append_assoc, append-nil}
use Rattle.site_order.proofs.Telling.{faults_are}
use Rattle.site_order.proofs.faults.push_node_faults.Goals as goal

pub returns : goal.returns
returns c =
    simp (c.in_ok-push_kind_faults-4.ensures, c.in_ok-push_kind_faults-3.ensures, c.in_ok-push_kind_faults-2.ensures, c.in_ok-push_kind_faults.ensures, faults_are c.args.tree.now, append_assoc, append-nil)
