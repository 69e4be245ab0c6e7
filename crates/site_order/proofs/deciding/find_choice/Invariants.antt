use Rattle.std.proofs.Common.{◌≡◌, drop}
use Rattle.composition.specs.Texts.{same_text, find_at}
use Rattle.site_order.proofs.deciding.find_choice.Given as goal

abbrev pub invariant-loop-selection : goal.invariant-loop-selection
invariant-loop-selection l = find_at same_text l.set (drop l.selection-index l.selections) ≡ find_at same_text l.set l.selections
