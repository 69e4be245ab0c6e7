use Rattle.std.proofs.Common.{◌∙◌}
use Rattle.prim_compose.proofs.Rooms.{listed_are, too_long_are}
use Rattle.prim_compose.proofs.children.children_below.Goals as goal

pub returns-clause-names : goal.returns-clause-names
returns-clause-names c = c.in_ok-listed_in.ensures ∙ listed_are c.args.place.now c.in_ok-room.room c.args.names.now c.in_ok-room.ensures.room c.requires c.in_ok-room.ensures.path

pub returns-clause-faults : goal.returns-clause-faults
returns-clause-faults c = c.in_ok-too_long_in.ensures ∙ too_long_are c.args.place.now c.in_ok-room.room c.args.names.now c.in_ok-room.ensures.room c.requires c.in_ok-room.ensures.path
