use Rattle.std.proofs.Common.{◌∙◌, ap, sym}
use Rattle.std.specs.Option.{option_copied}
use Rattle.prim_compose.proofs.Propertied.{none_pushed, one_pushed}
use Rattle.prim_compose.proofs.properties.push_view.Goals as goal

pub returns-in_ok-push-in-Some : goal.returns-in_ok-push-in-Some
returns-in_ok-push-in-Some c =
    one_pushed c.args.views.now c.push.new.self c.args.name.now c.args.specs.now c.in-Some.strongest.now c.property.result.now c.args.folded c.in_ok-view-in-Some.view
    (sym c.first.ensures.value ∙ ap option_copied c.in-Some.is) c.property.ensures c.requires c.in_ok-view-in-Some.ensures c.in_ok-push-in-Some.ensures.ok

pub returns-in-None : goal.returns-in-None
returns-in-None c = none_pushed c.args.views.now c.args.name.now c.args.specs.now (sym c.first.ensures.value ∙ ap option_copied c.in-None.is)
