use Rattle.std.proofs.Common.{append_assoc}
use Rattle.site_order.proofs.faults.push_faults.Goals as goal

pub returns : goal.returns
returns c =
    simp (c.in_ok-push_unresolved_of.ensures, c.in_ok-push_sublayers.ensures, c.in_ok-push_group-3.ensures, c.in_ok-push_group-2.ensures, c.in_ok-push_group.ensures, append_assoc)
