use Rattle.laws_strength.proofs.Once.{each_once}
use Rattle.laws_strength.proofs.laws.each_site_stands_once.Goals as goal

pub returns : goal.returns
returns c = each_once
