use Rattle.std.proofs.Common.{◌≡◌, take}
use Rattle.prim_opinions.specs.Counting.{counted}
use Rattle.prim_opinions.proofs.counting.specs_of.Given as goal

abbrev pub invariant-loop-opinion : goal.invariant-loop-opinion
invariant-loop-opinion l = l.specs ≡ counted l.name (take l.opinion-index l.said)
