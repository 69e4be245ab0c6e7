use Rattle.std.proofs.Common.{◌∙◌, sym, ap}
use Rattle.plain_data.specs.Ends.{last, last-push}
use Rattle.spec_tables.proofs.few.last_until.Goals as goal

pub returns-in-Some : goal.returns-in-Some
returns-in-Some g c = λ s.
    sym (ap last (sym (c.until.ensures s) ∙ c.in-Some.ensures.cases.0) ∙ last-push c.in-Some.field-0-1.now c.in-Some.entry.now)
