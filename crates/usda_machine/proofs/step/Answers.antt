use Rattle.std.proofs.Common.{sym, ap, ◌∙◌, Some, ◌++◌}
use Rattle.usda_grammar.specs.Machine.{step}
use Rattle.usda_machine.specs.Stacks.{stack_of}
use Rattle.usda_machine.proofs.Symbols.{pop_shorter, step_taken, step_refused, step_goes, step_none}
use Rattle.usda_machine.proofs.step.Goals as goal

pub returns-in-Some-starts : goal.returns-in-Some-starts
returns-in-Some-starts c =
    let pushed = c.in_ok-push_front.ensures in
    sym c.loop-symbol.invariant ∙ step_taken c.loop-symbol.stack c.in-Some.symbol c.args.kind c.in-Some-starts.after.now c.in-Some.ensures.value c.in-Some-starts.ensures
    ∙ ap (λ ss. Some (c.in-Some.symbol, c.in-Some-starts.after.now ++ stack_of ss)) (sym c.pop.ensures.left) ∙ ap (λ ss. Some (c.in-Some.symbol, ss)) (sym pushed)

pub returns-then-not-may_be_absent : goal.returns-then-not-may_be_absent
returns-then-not-may_be_absent c = sym c.loop-symbol.invariant ∙ step_refused c.loop-symbol.stack c.in-Some.symbol c.args.kind c.in-Some.ensures.value c.in_default-starts.ensures (sym c.may_be_absent.ensures ∙ c.if-not-may_be_absent.true)

pub loop-symbol-smaller : goal.loop-symbol-smaller
loop-symbol-smaller c = rw c.pop.ensures.left (pop_shorter c.loop-symbol.stack c.in-Some.symbol c.in-Some.ensures.value)

pub loop-symbol-preserved : goal.loop-symbol-preserved
loop-symbol-preserved c = ap (λ ss. step (stack_of ss) c.args.kind) c.pop.ensures.left ∙ sym (step_goes c.loop-symbol.stack c.in-Some.symbol c.args.kind c.in-Some.ensures.value c.in_default-starts.ensures (sym c.may_be_absent.ensures ∙ c.if-not-may_be_absent.false)) ∙ c.loop-symbol.invariant

pub returns : goal.returns
returns c = sym c.loop-symbol.invariant ∙ step_none c.loop-symbol.stack c.args.kind c.in_default.ensures.value
