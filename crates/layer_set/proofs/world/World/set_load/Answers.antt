use Rattle.layer_set.proofs.Loading.{changed_rules}
use Rattle.layer_set.proofs.world.World.set_load.Goals as goal

pub invariant_of-self : goal.invariant_of-self
invariant_of-self c = (
  changed_rules c.set.result c.args.p.now c.args.rule c.set.new.self c.self.inside.rules c.set.ensures.ok c.set.ensures.err
      (record { below = c.requires.below; prim = c.requires.prim; plain = c.requires.plain }) c.self.invariant.0,
  c.self.invariant.1,
)
