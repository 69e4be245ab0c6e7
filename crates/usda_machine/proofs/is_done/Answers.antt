use Rattle.std.proofs.Common.{sym, ap, ◌∙◌}
use Rattle.usda_grammar.specs.Machine.{is_done}
use Rattle.usda_machine.specs.Stacks.{stack_of}
use Rattle.usda_machine.proofs.Symbols.{pop_shorter, done_refused, done_goes, done_none}
use Rattle.usda_machine.proofs.is_done.Goals as goal

pub returns-then-not-may_be_absent : goal.returns-then-not-may_be_absent
returns-then-not-may_be_absent c = sym (sym c.loop-symbol.invariant ∙ done_refused c.loop-symbol.stack c.in-Some.symbol c.in-Some.ensures.value (sym c.may_be_absent.ensures ∙ c.if-not-may_be_absent.true))

pub loop-symbol-smaller : goal.loop-symbol-smaller
loop-symbol-smaller c = rw c.pop.ensures.left (pop_shorter c.loop-symbol.stack c.in-Some.symbol c.in-Some.ensures.value)

pub loop-symbol-preserved : goal.loop-symbol-preserved
loop-symbol-preserved c = ap (λ ss. is_done (stack_of ss)) c.pop.ensures.left ∙ sym (done_goes c.loop-symbol.stack c.in-Some.symbol c.in-Some.ensures.value (sym c.may_be_absent.ensures ∙ c.if-not-may_be_absent.false)) ∙ c.loop-symbol.invariant

pub returns : goal.returns
returns c = sym (sym c.loop-symbol.invariant ∙ done_none c.loop-symbol.stack c.in_default.ensures.value)
