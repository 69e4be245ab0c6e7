use Rattle.std.proofs.Common.{ℕ, ◌<◌, ◌≤◌, ◌∙◌, sym, ap, subst, List, length, get_or, arith}
use Rattle.asset_names.specs.Anchoring.{control, empty}
use Rattle.asset_names.proofs.Walks.{no_length, zero_length}
use Rattle.asset_names.proofs.path.first_fault.Goals as goal

pub returns-then-is_empty : goal.returns-then-is_empty
returns-then-is_empty c name =
    empty (sym c.as_bytes-bytes.ensures.value ∙ no_length c.as_bytes-bytes.result.now (zero_length (length c.as_bytes-bytes.result.now) (sym c.is_empty.ensures ∙ c.if-is_empty.true)))

pub returns-then-bytes-at-lt32 : goal.returns-then-bytes-at-lt32
returns-then-bytes-at-lt32 c name =
    let same = c.as_bytes-bytes.ensures.value in
    control c.loop-at.at (omega (arith, c.loop-at-test.true, ap length same)) (subst (λ (l : List ℕ). get_or l c.loop-at.at 0 < 32) same c.if-bytes-at-lt32.true)
    (λ k h. subst (λ (l : List ℕ). 32 ≤ get_or l k 0) same (c.loop-at.invariant k h))
