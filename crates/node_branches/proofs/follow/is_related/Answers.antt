use Rattle.node_branches.proofs.Following.{related_one, related_other}
use Rattle.node_branches.proofs.follow.is_related.Goals as goal

pub returns-then-has_prefix : goal.returns-then-has_prefix
returns-then-has_prefix c = related_one c.args.p.now c.args.q.now c.has_prefix.result c.has_prefix.ensures.value c.if-has_prefix.true

pub returns-else-has_prefix : goal.returns-else-has_prefix
returns-else-has_prefix c =
    related_other c.args.p.now c.args.q.now c.has_prefix.result c.has_prefix-else-has_prefix.result c.has_prefix.ensures.value c.if-has_prefix.false
    c.has_prefix-else-has_prefix.ensures.value
