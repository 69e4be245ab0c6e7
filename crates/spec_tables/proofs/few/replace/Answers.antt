use Rattle.std.proofs.Common.{◌∙◌, Some, refl, sym, ap}
use Rattle.spec_tables.proofs.Places.{at_found, at_missed, value_found}
use Rattle.spec_tables.proofs.few.replace.Goals as goal

pub returns-in-Ok-clause-before : goal.returns-in-Ok-clause-before
returns-in-Ok-clause-before g c = λ s.
    let w = (rw c.deref.ensures.value at c.in-Ok.ensures.place) s in
    at_found g.met.K.Ord.total c.args.key.now c.args.entries.now.items c.in-Ok.i s w ∙ ap Some (sym (c.exchange.ensures.exchanged w.front w.entry w.back w.parts w.place).0)

pub returns-in-Ok-clause-ok : goal.returns-in-Ok-clause-ok
returns-in-Ok-clause-ok g c = λ s.
    let w = (rw c.deref.ensures.value at c.in-Ok.ensures.place) s in
    (c.exchange.ensures.exchanged w.front w.entry w.back w.parts w.place).1 ∙ sym (value_found g.met.K.Ord.total c.args.key.now c.args.entries.now.items c.in-Ok.i s w c.args.value)

pub returns-in-Err-clause-absent : goal.returns-in-Err-clause-absent
returns-in-Err-clause-absent g c = λ s.
    let w = (rw c.deref.ensures.value at c.in-Err.ensures.place) s in
    (refl, at_missed g.K.Ord.cmp c.args.key.now c.args.entries.now.items _ w)
