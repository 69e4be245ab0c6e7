use Rattle.layer_stack.proofs.Uncut.{nothing_cut}
use Rattle.layer_stack.proofs.laws.no_stack_is_cut.Goals as goal

pub returns : goal.returns
returns c = nothing_cut c.args.world.now c.args.most c.args.name.now c.requires.few c.requires.more
