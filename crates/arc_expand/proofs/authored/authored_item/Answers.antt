use Rattle.std.proofs.Common.{◌≡◌, ◌∙◌, sym, ap, [], Option, Some}
use Rattle.std.specs.Option.{unwrap_or}
use Rattle.std.specs.BTreeMap.{get}
use Rattle.composition.specs.Texts.{Text}
use Rattle.composition.specs.Arcs.{Item}
use Rattle.layer_set.specs.LookUps.{look_ups}
use Rattle.arc_expand.specs.ItemOrder.{item_cmp}
use Rattle.arc_expand.specs.Authoring.{authored_by}
use Rattle.arc_expand.specs.Outcomes.{outcome_of}
use Rattle.arc_expand.proofs.authored.authored_item.Goals as goal

pub returns-in-Ok : goal.returns-in-Ok
unfolding authored_by
returns-in-Ok c =
    let item : c.in-Ok.item ≡ c.args.item.now = ap (λ (p : Item × Text). p.0) c.in-Ok.ensures ∙ c.item.view_is in
    let found : get item_cmp c.args.authors.now c.args.item.now ≡ Some c.in-Some.layer.now = sym c.in-Some.ensures.value in
    let author : c.in-Ok.author ≡ unwrap_or (get item_cmp c.args.authors.now c.args.item.now) [] =
    ap (λ (p : Item × Text). p.1) c.in-Ok.ensures ∙ sym (ap (λ (o : Option Text). unwrap_or o []) found) in
    let outcome : c.in_ok-outcome.outcome ≡ outcome_of (look_ups c.args.world.now) c.args.stack.now.name c.args.item.now =
    c.in_ok-outcome.ensures ∙ ap (λ (i : Item). outcome_of (look_ups c.args.world.now) c.args.stack.now.name i) c.item.view_is in
    λ i. record { item = item i; author = author i; outcome = outcome i }
