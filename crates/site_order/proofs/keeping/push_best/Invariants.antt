use Rattle.std.proofs.Common.{◌≡◌, ◌++◌, map, drop}
use Rattle.site_order.specs.Best.{place_at, kept_by}
use Rattle.site_order.specs.Entries.{entries}
use Rattle.site_order.specs.Places.{trees_shown}
use Rattle.site_order.proofs.keeping.push_best.Given as goal

abbrev pub invariant-loop-i : goal.invariant-loop-i
invariant-loop-i l =
    trees_shown l.out.items ++ map (λ e. e.0) (kept_by (place_at l.best) l.i (entries (drop l.i l.part)))
    ≡ trees_shown l.fn.out.items ++ map (λ e. e.0) (kept_by (place_at l.best) 0 (entries l.part))
