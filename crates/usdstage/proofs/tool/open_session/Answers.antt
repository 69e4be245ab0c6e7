use Rattle.usdstage.specs.declared.status.Status.TheVariants as status
use Rattle.usdstage.proofs.Carrying.{opened_cut}
use Rattle.usdstage.proofs.tool.open_session.Goals as goal

pub returns-in-Failed-clause-outcome : goal.returns-in-Failed-clause-outcome
returns-in-Failed-clause-outcome g c = λ bytes held size script.
    let front = rw (c.deref.ensures.value, c.in-Ok.ensures.reply) at c.write_all.ensures.front in
    opened_cut held size c.args.world bytes script status.WriteFault front.0 _ _ tt c.in-Ok.ensures.few front.1

pub returns-clause-outcome : goal.returns-clause-outcome
returns-clause-outcome g c = λ bytes held size script.
    let front = rw (c.deref.ensures.value, c.in-Ok.ensures.reply) at c.write_all.ensures.front in
    opened_cut held size c.args.world bytes script status.NoMemory front.0 _ _ tt c.in-Ok.ensures.few front.1
