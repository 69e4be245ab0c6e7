use Rattle.std.proofs.Common.{◌≡◌, ◌∙◌, sym, ap, false, length, drop, ◌-◌, arith}
use Rattle.std.proofs.lemmas.List.{take_all, length-drop}
use Rattle.asset_names.specs.Anchoring.{begins_with}
use Rattle.asset_names.proofs.Walks.{inside_step}
use Rattle.asset_names.proofs.kind.has_inside.Goals as goal

pub loop-i-preserved : goal.loop-i-preserved
loop-i-preserved c =
    let none : begins_with (drop c.loop-i.i c.args.name.now) c.args.part.now ≡ false =
    ap (λ l. begins_with l c.args.part.now) (sym (take_all (length c.args.name.now - c.loop-i.i) (drop c.loop-i.i c.args.name.now) (omega (arith, length-drop c.loop-i.i c.args.name.now))))
    ∙ sym c.begins_with.ensures ∙ c.if-begins_with.false in
    c.loop-i.invariant ∙ inside_step c.args.name.now c.args.part.now c.loop-i.i c.loop-i-test.true none
