use Rattle.std.proofs.Common.{◌≡◌, None}
use Rattle.composition.specs.Texts.{first_of}
use Rattle.composition.specs.Paths.{up, below}
use Rattle.layer_set.specs.Rules.{rule_at}
use Rattle.layer_set.proofs.rules.Rules.nearest.Given as goal

abbrev pub invariant-loop-j : goal.invariant-loop-j
invariant-loop-j l = first_of (λ j. rule_at (up l.elements j) l.self) (below l.j) ≡ None
