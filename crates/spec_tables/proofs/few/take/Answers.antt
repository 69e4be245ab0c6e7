use Rattle.std.proofs.Common.{◌∙◌, Some, sym, ap}
use Rattle.spec_tables.proofs.Places.{at_found, at_missed, entry_is, without_found, without_missed}
use Rattle.spec_tables.proofs.few.take.Goals as goal

pub returns-in-Ok-clause-before : goal.returns-in-Ok-clause-before
returns-in-Ok-clause-before g c = λ s.
    let w = (rw c.deref.ensures.value at c.in-Ok.ensures.place) s in
    ap (λ e. Some e.1) (c.remove-value.ensures.value ∙ entry_is g.met.K.Ord.total c.args.key.now c.args.entries.now.items c.in-Ok.i s w c.remove-value.result) ∙ sym (at_found g.met.K.Ord.total c.args.key.now c.args.entries.now.items c.in-Ok.i s w)

pub returns-in-Ok-clause-removed : goal.returns-in-Ok-clause-removed
returns-in-Ok-clause-removed g c = λ s.
    let w = (rw c.deref.ensures.value at c.in-Ok.ensures.place) s in
    c.remove-value.ensures.items ∙ sym (without_found g.met.K.Ord.total c.args.key.now c.args.entries.now.items c.in-Ok.i s w)

pub returns-in-Err-clause-before : goal.returns-in-Err-clause-before
returns-in-Err-clause-before g c = λ s.
    let w = (rw c.deref.ensures.value at c.in-Err.ensures.place) s in
    sym (at_missed g.K.Ord.cmp c.args.key.now c.args.entries.now.items _ w)

pub returns-in-Err-clause-removed : goal.returns-in-Err-clause-removed
returns-in-Err-clause-removed g c = λ s.
    let w = (rw c.deref.ensures.value at c.in-Err.ensures.place) s in
    sym (without_missed g.K.Ord.cmp c.args.key.now c.args.entries.now.items _ w)
