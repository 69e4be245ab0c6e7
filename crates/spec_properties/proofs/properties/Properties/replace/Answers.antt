use Rattle.std.proofs.Common.{◌≡◌, ◌∙◌, ◌<◌, ap, sym, subst, length, get_or, slice_set, arith, ℕ, List, Some}
use Rattle.spec_properties.specs.declared.property.Property.{Property}
use Rattle.spec_properties.specs.Properties.{property_name, property_at}
use Rattle.spec_properties.specs.Places.{StandsAt}
use Rattle.spec_properties.proofs.Places.{read_at, at_no_place, within, exchanged}
use Rattle.spec_properties.proofs.Once.{fits_exchanged}
use Rattle.spec_properties.proofs.properties.Properties.replace.Goals as goal

pub index_mut-requires : goal.index_mut-requires
index_mut-requires c =
    let inside : c.in-Some.place < length c.self.inside.list.items =
    subst (λ (ps : List Property). c.in-Some.place < length ps) (sym c.self.view_is) (within c.name.result.now c.args.self.now c.in-Some.place c.in-Some.ensures) in
    omega (arith, inside)

pub invariant_of-self : goal.invariant_of-self
invariant_of-self c =
    fits_exchanged c.self.inside.index c.args.property c.replace.new.dest c.self.inside.list.items c.in-Some.place c.replace.ensures.after
    (rw (c.self.view_is, ← c.name.ensures) c.in-Some.ensures) c.self.invariant

pub returns-in-Some-clause-before : goal.returns-in-Some-clause-before
returns-in-Some-clause-before c =
    let at : StandsAt (property_name c.args.property) c.args.self.now c.in-Some.place = rw (← c.name.ensures) c.in-Some.ensures in
    let there : c.index_mut.result.now ≡ get_or c.args.self.now c.in-Some.place c.index_mut.result.now =
    c.index_mut.ensures.value ∙ ap (λ (ps : List Property). get_or ps c.in-Some.place c.index_mut.result.now) c.self.view_is in
    sym (ap Some c.replace.ensures.value ∙ read_at (property_name c.args.property) c.args.self.now c.in-Some.place c.index_mut.result.now at there)

pub returns-in-Some-clause-ok : goal.returns-in-Some-clause-ok
returns-in-Some-clause-ok c =
    let at : StandsAt (property_name c.args.property) c.args.self.now c.in-Some.place = rw (← c.name.ensures) c.in-Some.ensures in
    ap (λ (ps : List Property). slice_set ps c.in-Some.place c.replace.new.dest) c.self.view_is
    ∙ (ap (λ (q : Property). slice_set c.args.self.now c.in-Some.place q) c.replace.ensures.after ∙ exchanged c.args.property c.args.self.now c.in-Some.place at)

pub returns-in-None-clause-absent : goal.returns-in-None-clause-absent
returns-in-None-clause-absent c = ((λ i. c.args.property), ap (λ (n : List ℕ). property_at n c.args.self.now) (sym c.name.ensures) ∙ at_no_place c.name.result.now c.args.self.now c.in-None.ensures)
