use Rattle.laws_extending.proofs.Kept.{index_extends}
use Rattle.laws_extending.proofs.laws.an_index_that_is_extended_misses_no_fault.Goals as goal

pub returns : goal.returns
returns c = index_extends
