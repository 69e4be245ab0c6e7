use Rattle.std.proofs.Common.{◌∙◌, sym, ap}
use Rattle.std.specs.BTreeMap.{get}
use Rattle.composition.specs.World.{StackName}
use Rattle.layer_set.specs.LookUps.{look_ups}
use Rattle.layer_stack.specs.Meant.{defined_stack}
use Rattle.prim_opinions.specs.Stacks.{name_cmp}
use Rattle.prim_opinions.proofs.Noted.{still_stacks}
use Rattle.prim_opinions.proofs.stacks.note_stack.Goals as goal

pub returns-clause-stacks : goal.returns-clause-stacks
returns-clause-stacks c =
    still_stacks (look_ups c.args.world.now) (get name_cmp c.args.stacks.now) (get name_cmp c.insert.new.self) c.in_ok-key.key c.in_ok-layers.layers c.requires
    (c.in_ok-layers.ensures ∙ ap (λ (n : StackName). (defined_stack (look_ups c.args.world.now) n).layers) (sym c.in_ok-key.ensures))
    c.in_ok-insert.ensures.updates.0
