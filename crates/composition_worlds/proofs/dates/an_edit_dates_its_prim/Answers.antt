-- One batch gives another value to an attribute.
use Rattle.std.proofs.Common.{◌≡◌, codes, pos, [], ap, inl, inr, arith}
use Rattle.composition.specs.Keys.{body}
use Rattle.composition.specs.Paths.{limits}
use Rattle.composition_worlds.specs.WorldDates.{two, opened, after}
use Rattle.composition_worlds.proofs.Dating.{first_number, same_numbers, is_read, dated_by_touch, left}
use Rattle.composition_worlds.proofs.TwoPrims.{a, b, keys_of, reads_b, a_there, root_there, body_read, a_untouched, root_untouched}
use Rattle.composition_worlds.proofs.dates.an_edit_dates_its_prim.Goals as goal

pub returns-clause-edited : goal.returns-clause-edited
returns-clause-edited c =
    dated_by_touch limits (after [] (two (pos 3))) (opened (two (pos 2))) b
    (inl (record {
      key = body (codes "root.usda") b;
      is_read = is_read limits (two (pos 2)) b (keys_of b) (body (codes "root.usda") b) reads_b (body_read b);
      is_changed = λ e. let same : 2 ≡ 3 = same_numbers (pos 2) (pos 3) (ap first_number e) in absurd (omega arith);
    }))

pub returns-clause-beside : goal.returns-clause-beside
returns-clause-beside c = left limits (after [] (two (pos 3))) (opened (two (pos 2))) a a_there (λ t. elim t [ inl by ↦ a_untouched by | inr none ↦ none ])

pub returns-clause-above : goal.returns-clause-above
returns-clause-above c = left limits (after [] (two (pos 3))) (opened (two (pos 2))) [] root_there (λ t. elim t [ inl by ↦ root_untouched by | inr none ↦ none ])
