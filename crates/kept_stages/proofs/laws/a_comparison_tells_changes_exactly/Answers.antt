use Rattle.kept_stages.proofs.Compared.{exact_test}
use Rattle.kept_stages.proofs.laws.a_comparison_tells_changes_exactly.Goals as goal

pub returns : goal.returns
returns c = exact_test
