use Rattle.std.proofs.Common.{◌∙◌, ap, sym, Option, Bor}
use Rattle.std.specs.Option.{option_copied}
use Rattle.spec_properties.specs.declared.property.Property.{Property}
use Rattle.spec_properties.proofs.NamedLists.{named_found}
use Rattle.spec_properties.proofs.Places.{at_place, at_no_place}
use Rattle.spec_properties.proofs.properties.Properties.get.Goals as goal

pub returns-in_err-place-clause-property : goal.returns-in_err-place-clause-property
returns-in_err-place-clause-property c =
    ap (λ (r : Option (Bor Property)). option_copied r) c.from_residual.ensures ∙ sym (at_no_place c.args.name.now c.args.self.now c.in_err-place.ensures)

pub returns-clause-property : goal.returns-clause-property
returns-clause-property c = c.at.ensures ∙ sym (at_place c.args.name.now c.args.self.now c.in_ok-place.place c.in_ok-place.ensures)

pub returns-clause-named : goal.returns-clause-named
returns-clause-named c = named_found c.args.name.now c.args.self.now c.at.result (returns-clause-property c)
