use Rattle.layer_edit.proofs.Changing.{changed_in}
use Rattle.layer_edit.proofs.spec_changes.change_property.Goals as goal

pub returns-in_ok-insert-in-Some : goal.returns-in_ok-insert-in-Some
returns-in_ok-insert-in-Some c =
    changed_in c.args.change c.args.name.now c.args.spec.now c.in-Ok.taken c.in-Some.property c.in_ok-property-in-Some.property c.take.new.self c.insert.new.self
    c.in-Ok.ensures.taken c.in-Some.is c.in-Ok.ensures.ok c.in_ok-property-in-Some.ensures c.in_ok-insert-in-Some.ensures.ok
