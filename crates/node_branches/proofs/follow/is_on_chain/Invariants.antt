use Rattle.std.proofs.Common.{◌≡◌, drop}
use Rattle.node_branches.specs.Following.{on_chain}
use Rattle.node_branches.proofs.follow.is_on_chain.Given as goal

abbrev pub invariant-loop-stack : goal.invariant-loop-stack
invariant-loop-stack l = on_chain (drop l.stack-index l.chain) l.lead ≡ on_chain l.chain l.lead
