use Rattle.std.proofs.Common.{◌∙◌, ap}
use Rattle.composition.specs.Arcs.{Item, same_item}
use Rattle.arc_expand.specs.SameItems.{item_told}
use Rattle.arc_expand.proofs.ordered.OrderedItemPartialEq.eq.Goals as goal

pub returns : goal.returns
returns c =
    item_told c.self.inside.item c.other.inside.item c.same.result c.same.ensures
    ∙ (ap (λ (a : Item). same_item a c.other.inside.item) c.self.view_is ∙ ap (λ (b : Item). same_item c.args.self.now b) c.other.view_is)
