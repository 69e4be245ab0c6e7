-- Which payloads are followed.
use Rattle.std.specs.Prelude.{Bool, true}
use Rattle.composition.specs.Paths.{Path}
use Rattle.composition.specs.World.{World, is_loaded}
use Rattle.prim_index.specs.declared.grow.Payloads.{Payloads}
use Rattle.prim_index.specs.declared.grow.Payloads.TheVariants.{Ruled, All}

-- plain prim paths of the stage are loaded by the rules, those above an arc's target always
unfoldable pub loads : World → Payloads → Path → Bool
loads w Ruled q = is_loaded w q
loads w All q = true
