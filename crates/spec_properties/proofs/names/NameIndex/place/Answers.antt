use Rattle.std.proofs.Common.{◌≡◌, ◌∙◌, ap, sym, subst, position, List, ℕ}
use Rattle.spec_properties.specs.Properties.{same_name, property_names}
use Rattle.spec_properties.specs.Places.{IsPlace, Keeps}
use Rattle.spec_properties.proofs.Places.{place_by_names}
use Rattle.spec_properties.proofs.names.NameIndex.place.Goals as goal

pub returns-in-Some : goal.returns-in-Some
returns-in-Some c =
    let kept : c.in-Some.names.value.keys ≡ property_names c.args.list.now = subst (λ k. Keeps k (property_names c.args.list.now)) (sym (rw c.in-Some.is at c.self.view_is)) c.requires in
    subst (IsPlace c.args.name.now c.args.list.now)
    (sym (c.get_index_of.ensures.index
    ∙ (ap (λ s. position (same_name c.args.name.now) s.keys) c.deref.ensures ∙ ap (λ (ns : List (List ℕ)). position (same_name c.args.name.now) ns) kept)))
    (place_by_names c.args.name.now c.args.list.now)
