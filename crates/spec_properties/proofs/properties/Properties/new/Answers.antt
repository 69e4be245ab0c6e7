use Rattle.spec_properties.proofs.Once.{none_once}
use Rattle.spec_properties.proofs.properties.Properties.new.Goals as goal

pub invariant_of-result : goal.invariant_of-result
invariant_of-result c = rw (c.new.ensures.items, c.new-2.ensures) (none_once, tt)
