use Rattle.std.proofs.Common.{◌≡◌, ◌∙◌, sym, ap, subst, true, List, map}
use Rattle.std.specs.List.{All}
use Rattle.std.specs.Option.{is_some}
use Rattle.std.specs.BTreeMap.{get}
use Rattle.std.proofs.lemmas.Result.{IfOk-weaker}
use Rattle.list_ops.specs.declared.op.ListOp.{ListOp}
use Rattle.composition.specs.Texts.{Text}
use Rattle.composition.specs.Arcs.{Item}
use Rattle.layer_set.specs.LookUps.{look_ups}
use Rattle.arc_expand.specs.Authors.{author_in}
use Rattle.arc_expand.specs.ItemOrder.{item_cmp}
use Rattle.arc_expand.specs.Authoring.{authored_by, edits, folded_items}
use Rattle.arc_expand.proofs.Authoring.{authors_there, authored_is}
use Rattle.arc_expand.proofs.NothingSaid.{nothing_authored}
use Rattle.arc_expand.proofs.authored.authored_in.Goals as goal

pub returns-then-not-is_said : goal.returns-then-not-is_said
returns-then-not-is_said c = c.new.ensures ∙ nothing_authored (look_ups c.args.world.now) c.args.stack.now.name c.args.opinions.now c.args.kind (sym c.is_said.ensures ∙ c.if-not-is_said.true)

pub authored_items-requires-clause-authors : goal.authored_items-requires-clause-authors
authored_items-requires-clause-authors c =
    let items : folded_items c.as_slice-2.result.now ≡ c.as_slice-3.result.now =
    ap (λ (es : List (Text × ListOp Item)). folded_items es) (c.as_slice-2.ensures ∙ sym c.as_slice.ensures) ∙ (sym c.in_ok-items.ensures ∙ sym c.as_slice-3.ensures) in
    subst (λ (is : List Item). All (λ i. is_some (get item_cmp c.in_ok-authors.authors i) ≡ true) is) items
    (authors_there c.as_slice-2.result.now (get item_cmp c.in_ok-authors.authors) c.in_ok-authors.ensures)

pub returns : goal.returns
returns c =
    let own : c.as_slice-2.result.now ≡ edits c.args.kind c.args.opinions.now = c.as_slice-2.ensures ∙ c.in_ok-edits.ensures in
    let items : c.as_slice-3.result.now ≡ folded_items (edits c.args.kind c.args.opinions.now) =
    c.as_slice-3.ensures ∙ (c.in_ok-items.ensures ∙ ap (λ (es : List (Text × ListOp Item)). folded_items es) (c.as_slice.ensures ∙ (sym c.as_slice-2.ensures ∙ own))) in
    IfOk-weaker c.authored_items.result _ _
    (λ all is.
    is
    ∙ (ap (λ (is : List Item). map (authored_by (look_ups c.args.world.now) c.args.stack.now.name (get item_cmp c.in_ok-authors.authors)) is) items
    ∙ authored_is (look_ups c.args.world.now) c.args.stack.now.name c.args.kind c.args.opinions.now (get item_cmp c.in_ok-authors.authors)
    (λ x. c.in_ok-authors.ensures x ∙ ap (λ (es : List (Text × ListOp Item)). author_in es x) own)))
    c.authored_items.ensures
