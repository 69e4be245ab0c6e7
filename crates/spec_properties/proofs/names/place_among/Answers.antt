use Rattle.std.proofs.Common.{◌≡◌, ◌∙◌, ap, sym, cond, drop, Bool, true, false, Some, None, ◌+◌}
use Rattle.std.proofs.lemmas.List.{drop_all}
use Rattle.spec_properties.specs.Properties.{same_name, property_name}
use Rattle.spec_properties.specs.Places.{place_from}
use Rattle.spec_properties.proofs.NamedLists.{told_same, told_other}
use Rattle.spec_properties.proofs.Places.{one_step, place_told}
use Rattle.spec_properties.proofs.names.place_among.Goals as goal

pub returns-then-same : goal.returns-then-same
returns-then-same c =
    let name = c.args.name.now in
    let i = c.loop-i.i in
    let here : same_name name (property_name c.index-list-i.result) ≡ true =
    ap (same_name name) (sym c.name.ensures) ∙ told_same c.same.result c.name.result.now name c.same.ensures c.if-same.true in
    place_told name c.args.list.now (Some i)
    (sym c.loop-i.invariant
    ∙ (one_step name c.args.list.now i c.index-list-i.result c.loop-i-test.true c.index-list-i.is
    ∙ ap (λ (b : Bool). cond b (Some i) (place_from name (i + 1) (drop (i + 1) c.args.list.now))) here))

pub loop-i-preserved : goal.loop-i-preserved
loop-i-preserved c =
    let name = c.args.name.now in
    let i = c.loop-i.i in
    let other : same_name name (property_name c.index-list-i.result) ≡ false =
    ap (same_name name) (sym c.name.ensures) ∙ told_other c.same.result c.name.result.now name c.same.ensures c.if-same.false in
    sym (ap (λ (b : Bool). cond b (Some i) (place_from name (i + 1) (drop (i + 1) c.args.list.now))) other)
    ∙ (sym (one_step name c.args.list.now i c.index-list-i.result c.loop-i-test.true c.index-list-i.is) ∙ c.loop-i.invariant)

pub returns : goal.returns
returns c =
    place_told c.args.name.now c.args.list.now None
    (sym c.loop-i.invariant ∙ ap (place_from c.args.name.now c.loop-i.i) (drop_all c.loop-i.i c.args.list.now c.loop-i-test.false))
