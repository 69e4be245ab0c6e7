use Rattle.std.proofs.Common.{◌≡◌, drop}
use Rattle.target_resolve.specs.Translating.{on_stage}
use Rattle.target_resolve.proofs.translate.on_stage.Given as goal

abbrev pub invariant-loop-map : goal.invariant-loop-map
invariant-loop-map l = on_stage (drop l.map-index l.maps) l.moved ≡ on_stage l.maps l.fn.path
