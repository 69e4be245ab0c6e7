use Rattle.std.proofs.Common.{◌∙◌, sym}
use Rattle.layer_edit.specs.Offsets.{item_of}
use Rattle.layer_edit.proofs.AllOf.{none_more}
use Rattle.layer_edit.proofs.offsets.items_of.Goals as goal

pub returns-in-None : goal.returns-in-None
returns-in-None c = sym (none_more item_of c.args.written.now c.loop-reference.reference-index c.reference-item.result c.loop-reference.items c.loop-reference-test.true c.reference-item.is (sym c.in_ok-item.ensures ∙ c.in-None.is) c.loop-reference.invariant)
