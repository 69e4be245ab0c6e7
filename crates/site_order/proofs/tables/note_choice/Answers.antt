use Rattle.std.proofs.Common.{◌∙◌, sym, cond, Some}
use Rattle.std.specs.Ordering.{is_eq}
use Rattle.plain_data.specs.contracts.text.TextOrd.TheImpl.{ghosts as text_order}
use Rattle.site_order.specs.ChoiceTables.{noted_for}
use Rattle.site_order.proofs.Noting.{note_kept, note_put}
use Rattle.site_order.proofs.tables.note_choice.Goals as goal

pub returns-then-contains_key : goal.returns-then-contains_key
returns-then-contains_key c = note_kept (noted_for c.args.table.now) c.args.set.now c.args.variant.now (sym c.contains_key.ensures ∙ c.if-contains_key.true)

pub returns : goal.returns
returns c =
    note_put (noted_for c.args.table.now) c.args.set.now c.args.variant.now (noted_for c.insert.new.self) (sym c.contains_key.ensures ∙ c.if-contains_key.false)
    (λ q. c.in_ok-insert.ensures.updates.0 q ∙ (λ i. cond (is_eq (text_order.cmp (c.in_ok-copy.ensures i) q)) (Some (c.in_ok-copy-2.ensures i)) (noted_for c.args.table.now q)))
