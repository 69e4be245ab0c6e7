use Rattle.std.proofs.Common.{◌∙◌}
use Rattle.shared_tables.proofs.Nodes.{not_empty}
use Rattle.shared_tables.proofs.table.SharedTable.is_empty.Goals as goal

pub returns-in-Some : goal.returns-in-Some
returns-in-Some g c = (λ h. cc, λ e. absurd (not_empty _ _ c.in-Some.is (c.self.view_is ∙ e)))
