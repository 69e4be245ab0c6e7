use Rattle.std.proofs.Common.{◌≡◌, ◌++◌, drop}
use Rattle.std.specs.Prelude.{filter}
use Rattle.site_order.specs.Best.{place_at, is_alone}
use Rattle.site_order.specs.Entries.{entries}
use Rattle.site_order.proofs.keeping.not_among.Given as goal

abbrev pub invariant-loop-place : goal.invariant-loop-place
invariant-loop-place l =
    entries l.left.items ++ filter (is_alone (place_at l.strong)) (entries (drop l.place-index l.weak)) ≡ filter (is_alone (place_at l.strong)) (entries l.weak)
