use Rattle.usdstage.specs.declared.status.Status.TheVariants as status
use Rattle.usdstage.proofs.Outcomes.{flat_cut}
use Rattle.usdstage.proofs.tool.write_flat.Goals as goal

pub returns-in-Failed-clause-outcome : goal.returns-in-Failed-clause-outcome
returns-in-Failed-clause-outcome g c =
    let front = rw c.deref.ensures.value at c.write_all.ensures.front in
    flat_cut c.args.world.now c.in-Ok.text.items status.WriteFault front.0 _ _ tt c.in-Ok.ensures.text c.in-Ok.ensures.few front.1

pub returns-clause-outcome : goal.returns-clause-outcome
returns-clause-outcome g c =
    let front = rw c.deref.ensures.value at c.write_all.ensures.front in
    flat_cut c.args.world.now c.in-Ok.text.items status.NoMemory front.0 _ _ tt c.in-Ok.ensures.text c.in-Ok.ensures.few front.1
