use Rattle.std.proofs.Common.{◌∙◌, ap, subst, ℕ, ◌<◌, ◌≤◌, ◌^◌, Option, Some}
use Rattle.std.specs.Prelude.{ℤ, ◌+ℤ◌, ◌*ℤ◌, unsigned_abs}
use Rattle.prim_opinions.proofs.Times.{a_time, no_time, moved_is}
use Rattle.prim_opinions.proofs.offset.mapped_units.Goals as goal

pub returns-then-unsigned_abs-gt-MAX_UNITS : goal.returns-then-unsigned_abs-gt-MAX_UNITS
returns-then-unsigned_abs-gt-MAX_UNITS c =
    let is = moved_is c.args.time c.args.scale c.args.shift c.in_ok-scaled.scaled c.in_ok-moved.moved c.ranges.time c.ranges.scale c.ranges.shift c.in_ok-scaled.ensures c.in_ok-moved.ensures in
    no_time ((c.args.time *ℤ c.args.scale) +ℤ c.args.shift)
    (subst (λ (n : ℕ). 10 ^ 30 < n) (c.unsigned_abs.ensures.value ∙ ap unsigned_abs is) c.if-unsigned_abs-gt-MAX_UNITS.true)

pub returns : goal.returns
returns c =
    let is = moved_is c.args.time c.args.scale c.args.shift c.in_ok-scaled.scaled c.in_ok-moved.moved c.ranges.time c.ranges.scale c.ranges.shift c.in_ok-scaled.ensures c.in_ok-moved.ensures in
    ap (λ (z : ℤ). let o : Option ℤ = Some z in o) is
    ∙ a_time ((c.args.time *ℤ c.args.scale) +ℤ c.args.shift)
    (subst (λ (n : ℕ). n ≤ 10 ^ 30) (c.unsigned_abs.ensures.value ∙ ap unsigned_abs is) c.if-unsigned_abs-gt-MAX_UNITS.false)
