use Rattle.std.proofs.Common.{◌∙◌}
use Rattle.target_resolve.proofs.Fitting.{arc_kept, arc_refused}
use Rattle.target_resolve.proofs.translate.through_arc.Goals as goal

pub returns-in-Ok : goal.returns-in-Ok
returns-in-Ok c = c.in-Ok.ensures.ok ∙ arc_kept c.args.map.now c.args.path.now c.in-Ok.ensures.path

pub returns-in-Err-Bad : goal.returns-in-Err-Bad
returns-in-Err-Bad c =
    arc_refused c.args.map.now c.args.path.now c.in-Err-Bad.field-0-0 c.author_of-author.ensures.path c.elements-elements.ensures.path c.author_of-author.ensures.prim
    (rw c.in-Err-Bad.field-0-is at c.in-Err-Bad.ensures.bad)
