use Rattle.std.proofs.Common.{arith, sym, ◌∙◌, ◌+◌, ◌-◌, length}
use Rattle.composition.specs.Paths.{up}
use Rattle.layer_set.specs.Rules.{rule_at}
use Rattle.layer_set.proofs.Nearest.{none_yet, found}
use Rattle.layer_set.proofs.rules.Rules.nearest.Goals as goal

pub returns-in-Some : goal.returns-in-Some
returns-in-Some c =
    sym (found (λ j. rule_at (up c.args.elements.now j) c.args.self.now) c.in-Some.rule c.loop-j.j (length c.args.elements.now - (c.loop-j.j + 1)) (length c.args.elements.now)
    (omega arith) c.loop-j.invariant (sym c.get.ensures ∙ c.in-Some.is))

pub loop-j-preserved : goal.loop-j-preserved
loop-j-preserved c =
    none_yet (λ j. rule_at (up c.args.elements.now j) c.args.self.now) c.loop-j.j (c.loop-j.j + 1) (omega arith) c.loop-j.invariant (sym c.get.ensures ∙ c.in_default.is)
