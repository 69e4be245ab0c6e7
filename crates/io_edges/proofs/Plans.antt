-- Calls that a plan lets fail.
use Rattle.std.proofs.Common.{◌≡◌, ◌↔◌, ap, refl, true, IsTrue, Contains}
use Rattle.io_edges.specs.Causes.{one_more}
use Rattle.io_edges.specs.Plans.{Plan, after_call, IsCalled}

-- a call that was to fail, and failed
pub called_to_fail : {Failed : Type 0} → (before after : Plan) → Failed → (IsTrue true ↔ Contains before.failing (one_more before.calls)) → after ≡ after_call before true → IsCalled before after Failed
called_to_fail before after failed planned is = record {
  fails = (λ f. planned.0 refl, λ c. failed);
  failing = ap (λ (p : Plan). p.failing) is;
  calls = ap (λ (p : Plan). p.calls) is;
  counted = λ f. ap (λ (p : Plan). p.faults) is;
  uncounted = λ not. absurd (not failed);
}
