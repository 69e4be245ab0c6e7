use Rattle.std.proofs.Common.{◌≡◌, ◌++◌, drop}
use Rattle.layer_set.specs.LookUps.{look_ups}
use Rattle.prim_reads.specs.Gathered.{sites_bodies}
use Rattle.prim_reads.proofs.bodies.push_sites.Given as goal

abbrev pub invariant-loop-site : goal.invariant-loop-site
invariant-loop-site l = l.out ++ sites_bodies (look_ups l.world) (drop l.site-index l.sites) ≡ l.fn.out ++ sites_bodies (look_ups l.world) l.sites
