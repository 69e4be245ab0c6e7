use Rattle.std.proofs.Common.{◌≡◌, drop}
use Rattle.std.specs.Option.{option_or}
use Rattle.composition.specs.Texts.{Text, same_text, find_at}
use Rattle.site_order.specs.ChoiceTables.{noted_for}
use Rattle.site_order.proofs.tables.note_choices.Given as goal

abbrev pub invariant-loop-set : goal.invariant-loop-set
invariant-loop-set l =
    (q : Text) → option_or (noted_for l.table q) (find_at same_text q (drop l.set-index l.entries)) ≡ option_or (noted_for l.initial.table q) (find_at same_text q l.entries)
