use Rattle.std.proofs.Common.{◌∙◌, ◌≤◌, Some, length, sym, ap, arith, rules}
use Rattle.std.specs.List.{insert}
use Rattle.spec_tables.proofs.Places.{at_found, at_missed, with_found, with_missed, any_err}
use Rattle.spec_tables.proofs.few.put.Goals as goal

pub returns-in_err-reserve-in-Err-clause-absent : goal.returns-in_err-reserve-in-Err-clause-absent
returns-in_err-reserve-in-Err-clause-absent g c = λ s.
    let w = (rw c.deref.ensures.value at c.in-Err.ensures.place) s in
    any_err _ (at_missed g.K.Ord.cmp c.args.key c.args.entries.now.items _ w)

pub returns-in_err-insert-in-Err-clause-absent : goal.returns-in_err-insert-in-Err-clause-absent
returns-in_err-insert-in-Err-clause-absent g c = λ s.
    let w = (rw c.deref.ensures.value at c.in-Err.ensures.place) s in
    any_err _ (at_missed g.K.Ord.cmp c.args.key c.args.entries.now.items _ w)

pub returns-in-Ok-clause-before : goal.returns-in-Ok-clause-before
returns-in-Ok-clause-before g c = λ s.
    let w = (rw c.deref.ensures.value at c.in-Ok.ensures.place) s in
    ap Some (c.exchange.ensures.exchanged w.front w.entry w.back w.parts w.place).0 ∙ sym (at_found g.met.K.Ord.total c.args.key c.args.entries.now.items c.in-Ok.i s w)

pub returns-in-Ok-clause-ok : goal.returns-in-Ok-clause-ok
returns-in-Ok-clause-ok g c = λ s.
    let w = (rw c.deref.ensures.value at c.in-Ok.ensures.place) s in
    (c.exchange.ensures.exchanged w.front w.entry w.back w.parts w.place).1 ∙ sym (with_found g.met.K.Ord.total c.args.key c.args.entries.now.items c.in-Ok.i s w c.args.value)

pub returns-in_ok-insert-in-Err-clause-before : goal.returns-in_ok-insert-in-Err-clause-before
returns-in_ok-insert-in-Err-clause-before g c = λ s.
    let w = (rw c.deref.ensures.value at c.in-Err.ensures.place) s in
    sym (at_missed g.K.Ord.cmp c.args.key c.args.entries.now.items _ w)

pub returns-in_ok-insert-in-Err-clause-ok : goal.returns-in_ok-insert-in-Err-clause-ok
returns-in_ok-insert-in-Err-clause-ok g c = λ s.
    let w = (rw c.deref.ensures.value at c.in-Err.ensures.place) s in
    let whole = with_missed g.K.Ord.cmp c.args.key c.args.entries.now.items c.in-Err.i w c.args.value in
    c.in_ok-insert-in-Err.ensures.items ∙ ap (λ l. insert l c.in-Err.i (c.args.key, c.args.value)) c.reserve.ensures ∙ sym whole

pub returns-in_ok-insert-in-Err-clause-few : goal.returns-in_ok-insert-in-Err-clause-few
returns-in_ok-insert-in-Err-clause-few g c = λ n s b room.
    let w = (rw c.deref.ensures.value at c.in-Err.ensures.place) s in
    let less = room (at_missed g.K.Ord.cmp c.args.key c.args.entries.now.items _ w) in
    omega (arith, less, c.in_ok-insert-in-Err.ensures.len, ap length c.reserve.ensures)
