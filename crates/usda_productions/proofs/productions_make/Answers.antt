use Rattle.std.specs.Prelude.{[]}
use Rattle.usda_productions.specs.Productions.{kept_unless}
use Rattle.usda_productions.proofs.Simulation.{make_the_same}
use Rattle.usda_productions.proofs.productions_make.Goals as goal

pub returns : goal.returns
returns c refuses = make_the_same (λ k. k) (kept_unless refuses) (λ k. k) []
