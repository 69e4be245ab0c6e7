use Rattle.std.proofs.Common.{◌∙◌, ap}
use Rattle.std.specs.Option.{is_some}
use Rattle.list_ops.proofs.EditLemmas.{any_position}
use Rattle.list_ops.proofs.edits.is_among.Goals as goal

pub returns : goal.returns
returns g c = c.is_some.ensures ∙ ap is_some c.place_in.ensures ∙ any_position (λ y. g.T.PartialEq.eq y c.args.item.now) 0 c.args.items.now
