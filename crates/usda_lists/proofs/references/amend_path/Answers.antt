use Rattle.std.proofs.Common.{sym}
use Rattle.usda_lists.proofs.Ends.{amend_none}
use Rattle.usda_lists.specs.References.{with_path}
use Rattle.usda_lists.proofs.references.amend_path.Goals as goal

pub returns-in_default : goal.returns-in_default
returns-in_default c = amend_none (with_path c.args.base.now c.args.text.now) c.args.items.now _ _ (sym c.pop.ensures.value) c.in_default.is c.pop.ensures.left
