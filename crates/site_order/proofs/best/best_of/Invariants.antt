use Rattle.std.proofs.Common.{◌≡◌, None, drop}
use Rattle.site_order.specs.Best.{place_at, best_from}
use Rattle.site_order.specs.Entries.{entries}
use Rattle.site_order.specs.declared.best.SiteKey.{SiteKey}
use Rattle.site_order.proofs.best.best_of.Given as goal

abbrev pub invariant-loop-i : goal.invariant-loop-i
invariant-loop-i l = (q : SiteKey) → best_from q (place_at l.best q) l.i (entries (drop l.i l.part)) ≡ best_from q None 0 (entries l.part)
