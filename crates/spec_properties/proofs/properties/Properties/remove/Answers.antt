use Rattle.std.proofs.Common.{◌∙◌, ◌<◌, ap, sym, subst, length, get_or, remove, arith, List}
use Rattle.spec_properties.specs.declared.property.Property.{Property}
use Rattle.spec_properties.proofs.Places.{read_at, at_no_place, within, removed, not_removed}
use Rattle.spec_properties.proofs.Once.{fits_removed}
use Rattle.spec_properties.proofs.properties.Properties.remove.Goals as goal

pub returns-in_err-place-clause-before : goal.returns-in_err-place-clause-before
returns-in_err-place-clause-before c = c.from_residual.ensures ∙ sym (at_no_place c.args.name.now c.args.self.now c.in_err-place.ensures)

pub returns-in_err-place-clause-removed : goal.returns-in_err-place-clause-removed
returns-in_err-place-clause-removed c = not_removed c.args.name.now c.args.self.now c.in_err-place.ensures

pub remove-requires-2 : goal.remove-requires-2
remove-requires-2 c =
    let inside : c.in_ok-place.place < length c.self.inside.list.items =
    subst (λ (ps : List Property). c.in_ok-place.place < length ps) (sym c.self.view_is) (within c.args.name.now c.args.self.now c.in_ok-place.place c.in_ok-place.ensures) in
    omega (arith, inside)

pub returns-clause-removed : goal.returns-clause-removed
returns-clause-removed c =
    c.remove-2.ensures.items
    ∙ (ap (λ (ps : List Property). remove ps c.in_ok-place.place) c.self.view_is ∙ removed c.args.name.now c.args.self.now c.in_ok-place.place c.in_ok-place.ensures)

pub invariant_of-self : goal.invariant_of-self
invariant_of-self c = rw (returns-clause-removed c, c.remove.ensures, ← c.self.view_is) (fits_removed c.self.inside.index c.args.name.now c.self.inside.list.items c.self.invariant)

pub returns-clause-before : goal.returns-clause-before
returns-clause-before c =
    read_at c.args.name.now c.args.self.now c.in_ok-place.place c.remove-2.result c.in_ok-place.ensures
    (c.remove-2.ensures.value ∙ ap (λ (ps : List Property). get_or ps c.in_ok-place.place c.remove-2.result) c.self.view_is)
