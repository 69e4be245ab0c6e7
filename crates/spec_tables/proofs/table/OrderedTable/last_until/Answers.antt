use Rattle.std.proofs.Common.{◌∙◌, sym, ap}
use Rattle.std.specs.Map.Iter.{deref_pair}
use Rattle.plain_data.specs.Ends.{last}
use Rattle.spec_tables.specs.Forms.{form_entries}
use Rattle.spec_tables.specs.Tables.{entries_until}
use Rattle.spec_tables.proofs.Ends.{last_taken}
use Rattle.spec_tables.proofs.table.OrderedTable.last_until.Goals as goal

pub returns-in-Many : goal.returns-in-Many
returns-in-Many g c =
    let R = g.K.Ord.cmp in
    let key = c.args.key.now in
    let until = c.range.ensures.between _ ∙ ap (λ m. entries_until R key m.entries) c.deref-in-Many.ensures in
    let whole = sym (ap (λ f. entries_until R key (form_entries f)) c.in-Many.is) ∙ ap (entries_until R key) c.self.view_is in
    last_taken deref_pair c.range.result c.next_back.result _ c.next_back.ensures.steps ∙ ap last (until ∙ whole)
