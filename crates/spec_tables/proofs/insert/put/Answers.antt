use Rattle.spec_tables.specs.Forms.{most_listed}
use Rattle.spec_tables.proofs.insert.put.Goals as goal

pub returns-in-Few-clause-few : goal.returns-in-Few-clause-few
returns-in-Few-clause-few g c =
    let order = rw c.in-Few.is at c.requires.order in
    let few = rw c.in-Few.is at c.requires.few in
    let room = rw c.in-Few.is at c.requires.room in
    let keeps = rw c.deref_mut-in-Few.ensures.value at c.put.ensures.few in
    keeps most_listed order few room
