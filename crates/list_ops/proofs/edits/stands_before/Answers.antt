use Rattle.std.proofs.Common.{◌∙◌, ap, sym, zero-add}
use Rattle.std.specs.List.{position_from}
use Rattle.list_ops.proofs.EditLemmas.{any_take, found_before}
use Rattle.list_ops.proofs.edits.stands_before.Goals as goal

pub returns-in-Some : goal.returns-in-Some
returns-in-Some g c =
    ap (λ o. found_before o c.args.at) (c.in-Some.ensures ∙ c.requires c.args.item.now) ∙ ap (found_before (position_from (λ y. g.T.PartialEq.eq y c.args.item.now) 0 c.args.items.now)) (sym (zero-add c.args.at))
    ∙ sym (any_take (λ y. g.T.PartialEq.eq y c.args.item.now) 0 c.args.at c.args.items.now)

pub returns-in-None : goal.returns-in-None
returns-in-None g c =
    ap (λ o. found_before o c.args.at) (c.in-None.ensures ∙ c.requires c.args.item.now) ∙ ap (found_before (position_from (λ y. g.T.PartialEq.eq y c.args.item.now) 0 c.args.items.now)) (sym (zero-add c.args.at))
    ∙ sym (any_take (λ y. g.T.PartialEq.eq y c.args.item.now) 0 c.args.at c.args.items.now)
