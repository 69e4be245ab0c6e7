use Rattle.std.proofs.Common.{◌∙◌}
use Rattle.spec_properties.proofs.Places.{has_place}
use Rattle.spec_properties.proofs.properties.Properties.has.Goals as goal

pub returns : goal.returns
returns c = c.is_some.ensures ∙ has_place c.args.name.now c.args.self.now c.place.result c.place.ensures
