-- Which calls of an object in memory are to fail.
use Rattle.std.specs.Prelude.{◌≡◌, ◌↔◌, ℕ, Bool, List, if◌then◌else◌, Contains}
use Rattle.io_edges.specs.Causes.{one_more}

-- the numbers of the calls that are to fail, how many calls there were, and how many of them failed
pub record Plan : Type 0 where
  pub failing : List ℕ
  pub calls : ℕ
  pub faults : ℕ

-- the plan after one more call, which failed or not
abbrev pub after_call : Plan → Bool → Plan
after_call p failed = record { failing = p.failing; calls = one_more p.calls; faults = if failed then one_more p.faults else p.faults }

-- what a call makes of the plan: it fails exactly where its number is one of those that are to fail, and is counted
pub record IsCalled (before after : Plan) (Failed : Type 0) : Type 0 where
  pub fails : Failed ↔ Contains before.failing (one_more before.calls)
  pub failing : after.failing ≡ before.failing
  pub calls : after.calls ≡ one_more before.calls
  -- a fault is counted, and only a fault
  pub counted : Failed → after.faults ≡ one_more before.faults
  pub uncounted : (Failed → ⊥) → after.faults ≡ before.faults
