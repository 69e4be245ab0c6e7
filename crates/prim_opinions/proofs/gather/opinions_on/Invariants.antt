use Rattle.std.proofs.Common.{◌≡◌, take}
use Rattle.std.specs.BTreeMap.{get}
use Rattle.layer_set.specs.LookUps.{look_ups}
use Rattle.prim_opinions.specs.Stacks.{name_cmp, AreStacks}
use Rattle.prim_opinions.proofs.Gathered.{gathered}
use Rattle.prim_opinions.proofs.gather.opinions_on.Given as goal

abbrev pub invariant-loop-site : goal.invariant-loop-site
invariant-loop-site l = record { stacks : AreStacks (look_ups l.world) (get name_cmp l.stacks); said : l.said ≡ gathered (look_ups l.world) (take l.site-index l.sites) }
