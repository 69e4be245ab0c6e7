use Rattle.std.proofs.Common.{◌≡◌, drop}
use Rattle.std.specs.Option.{option_or}
use Rattle.composition.specs.Texts.{Text, first_of}
use Rattle.site_order.specs.ChoiceTables.{noted_for}
use Rattle.site_order.specs.Places.{trees_shown}
use Rattle.site_order.specs.Said.{selected_at}
use Rattle.site_order.proofs.tables.opinion_table.Given as goal

abbrev pub invariant-loop-site : goal.invariant-loop-site
invariant-loop-site l = (q : Text) → option_or (noted_for l.table q) (first_of (selected_at q) (trees_shown (drop l.site-index l.sites))) ≡ first_of (selected_at q) (trees_shown l.sites)
