use Rattle.composition.proofs.Same.{text_told}
use Rattle.site_order.proofs.deciding.same_text.Goals as goal

pub returns : goal.returns
returns c = text_told c.args.a.now c.args.b.now c.same.result c.same.ensures
