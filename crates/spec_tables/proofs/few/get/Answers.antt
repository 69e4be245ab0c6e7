use Rattle.std.proofs.Common.{◌∙◌, Some, sym, ap}
use Rattle.spec_tables.proofs.Places.{at_found, at_missed, entry_is}
use Rattle.spec_tables.proofs.few.get.Goals as goal

pub returns-in-Ok : goal.returns-in-Ok
returns-in-Ok g c = λ s.
    let found = c.in-Ok.ensures.place s in
    ap (λ e. Some e.1) (entry_is g.met.K.Ord.total c.args.key.now c.args.entries.now c.in-Ok.i s found c.index-entries-i.result) ∙ sym (at_found g.met.K.Ord.total c.args.key.now c.args.entries.now c.in-Ok.i s found)

pub returns-in-Err : goal.returns-in-Err
returns-in-Err g c = λ s. sym (at_missed g.K.Ord.cmp c.args.key.now c.args.entries.now _ (c.in-Err.ensures.place s))
