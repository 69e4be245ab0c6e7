use Rattle.std.proofs.Common.{◌++◌, ◌∙◌, ap, sym, append-nil}
use Rattle.list_ops.proofs.EditLemmas.{group_placed, group_absent}
use Rattle.list_ops.proofs.edits.push_group_of.Goals as goal

pub returns-in_default : goal.returns-in_default
returns-in_default g c =
    sym (ap (λ l. c.args.out.now ++ l) (group_absent g.T.PartialEq.eq c.args.order.now c.args.items.now c.args.item.now c.in_default.ensures.at) ∙ append-nil c.args.out.now)

pub returns : goal.returns
returns g c =
    c.in_ok-push_group.ensures
    ∙ sym (ap (λ l. c.args.out.now ++ l) (group_placed g.T.PartialEq.eq c.args.order.now c.args.items.now c.args.item.now c.in-Some.at c.in-Some.ensures.at).1)
