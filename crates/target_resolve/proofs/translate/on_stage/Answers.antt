use Rattle.std.proofs.Common.{◌∙◌, sym, arith, Some, None}
use Rattle.target_resolve.proofs.Moved.{step_on, at_end}
use Rattle.target_resolve.proofs.translate.on_stage.Goals as goal

pub returns-in-None : goal.returns-in-None
returns-in-None c =
    sym (step_on c.args.maps.now c.loop-map.map-index c.loop-map.moved c.map-item.result None c.loop-map-test.true c.map-item.is (sym c.in_ok-next.ensures ∙ c.in-None.is))
    ∙ c.loop-map.invariant

pub loop-map-preserved : goal.loop-map-preserved
loop-map-preserved c =
    sym (step_on c.args.maps.now c.loop-map.map-index c.loop-map.moved c.map-item.result (Some c.in-Some.next) c.loop-map-test.true c.map-item.is (sym c.in_ok-next.ensures ∙ c.in-Some.is))
    ∙ c.loop-map.invariant

pub returns : goal.returns
returns c = sym (at_end c.args.maps.now c.loop-map.map-index c.loop-map.moved (omega arith)) ∙ c.loop-map.invariant
