use Rattle.std.specs.Prelude.{[]}
use Rattle.usda_machine.specs.Laws.{kept_unless}
use Rattle.usda_machine.proofs.Running.{found, only, refusal, exact, one_answer}
use Rattle.usda_machine.proofs.kinds_are_exact.Goals as goal

pub returns : goal.returns
returns c refuses = record {
  found = found (λ k. k) (kept_unless refuses) (λ k. k) [];
  only = only (λ k. k) (kept_unless refuses) (λ k. k) [];
  refusal = refusal (λ k. k) (kept_unless refuses) (λ k. k) [];
  exact = exact (λ k. k) (kept_unless refuses) (λ k. k) [];
  one = one_answer (λ k. k) (kept_unless refuses) (λ k. k) [];
}
