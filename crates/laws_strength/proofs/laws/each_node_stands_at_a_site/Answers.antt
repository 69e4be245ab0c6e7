use Rattle.laws_strength.proofs.Whole.{each_at_a_site}
use Rattle.laws_strength.proofs.laws.each_node_stands_at_a_site.Goals as goal

pub returns : goal.returns
returns c = each_at_a_site
