use Rattle.std.proofs.Common.{◌∙◌}
use Rattle.node_branches.proofs.Cutting.{lifted_own, lifted_selected, lifted_refused, lifted_followed}
use Rattle.node_branches.proofs.branches.push_lifted.Goals as goal

pub returns-then-known : goal.returns-then-known
returns-then-known c =
    lifted_own c.args.kind c.args.node.now c.args.own.now c.args.class.now c.is_own-known.result c.args.out.now c.is_own-known.ensures c.if-known.true

pub returns-then-selected : goal.returns-then-selected
returns-then-selected c =
    lifted_selected c.args.kind c.args.node.now c.args.own.now c.args.class.now c.is_own-known.result c.is_selected-selected.result c.args.out.now
    c.is_own-known.ensures c.if-known.false c.is_selected-selected.ensures c.if-selected.true

pub returns-then-is_some : goal.returns-then-is_some
returns-then-is_some c =
    lifted_refused c.args.kind c.args.node.now c.args.own.now c.args.class.now c.is_own-known.result c.is_selected-selected.result c.in_ok-reason.reason c.args.out.now
    c.is_own-known.ensures c.if-known.false c.is_selected-selected.ensures c.if-selected.false c.in_ok-reason.ensures c.if-is_some.ensures

pub returns : goal.returns
returns c =
    c.in_ok-push.ensures.ok
    ∙ lifted_followed c.args.kind c.args.node.now c.args.own.now c.args.class.now c.is_own-known.result c.is_selected-selected.result c.in_ok-reason.reason c.args.out.now
    c.in_ok-branch.branch c.is_own-known.ensures c.if-known.false c.is_selected-selected.ensures c.if-selected.false c.in_ok-reason.ensures c.if-is_some.ensures c.in_ok-branch.ensures
