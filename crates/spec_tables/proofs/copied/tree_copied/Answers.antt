use Rattle.std.proofs.Common.{rules}
use Rattle.spec_tables.proofs.Copies.{entries_copied}
use Rattle.spec_tables.proofs.copied.tree_copied.Goals as goal

pub returns : goal.returns
returns g c = let same = entries_copied g.K.Clone.is_clone g.V.Clone.is_clone g.met.K.ExactClone.copy_is_same g.met.V.ExactClone.copy_is_same in search rules
