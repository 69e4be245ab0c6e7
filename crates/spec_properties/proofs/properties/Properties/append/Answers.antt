use Rattle.spec_properties.proofs.Once.{fits_appended}
use Rattle.spec_properties.proofs.properties.Properties.append.Goals as goal

pub invariant_of-self : goal.invariant_of-self
invariant_of-self c =
    rw c.in-Ok-push_within.ensures.ok
    (fits_appended c.note.new.self c.args.property c.self.inside.list.items (rw c.self.view_is c.requires) c.self.invariant.0 (rw (← c.as_slice.ensures.value, ← c.name.ensures) c.in-Ok.ensures.ok))
