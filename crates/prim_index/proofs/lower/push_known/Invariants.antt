use Rattle.std.proofs.Common.{◌≡◌, ◌++◌, drop}
use Rattle.prim_index.specs.Extending.{known_items}
use Rattle.prim_index.proofs.lower.push_known.Given as goal

abbrev pub invariant-loop-tried : goal.invariant-loop-tried
invariant-loop-tried l = l.out ++ known_items l.node (drop l.tried-index l.old) l.kind ≡ l.fn.out ++ known_items l.node l.old l.kind
