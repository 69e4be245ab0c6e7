use Rattle.std.proofs.Common.{◌≡◌, drop}
use Rattle.composition.specs.Texts.{first_of}
use Rattle.site_order.specs.Places.{trees_shown}
use Rattle.site_order.specs.Said.{selected_at}
use Rattle.site_order.proofs.deciding.first_opinion.Given as goal

abbrev pub invariant-loop-site : goal.invariant-loop-site
invariant-loop-site l = first_of (selected_at l.set) (trees_shown (drop l.site-index l.sites)) ≡ first_of (selected_at l.set) (trees_shown l.sites)
