use Rattle.std.proofs.Common.{◌∙◌, ap, sym, Some, None}
use Rattle.std.specs.Option.{option_copied}
use Rattle.field_resolve.proofs.Active.{by_value}
use Rattle.field_resolve.proofs.activity.is_inactive.Goals as goal

pub returns-in-Some : goal.returns-in-Some
returns-in-Some c = c.is_false.ensures ∙ by_value c.args.meta.now c.in_ok-key.key (Some c.in-Some.value.now) c.in_ok-key.ensures (sym c.get.ensures ∙ ap option_copied c.in-Some.is)

pub returns : goal.returns
returns c = by_value c.args.meta.now c.in_ok-key.key None c.in_ok-key.ensures (sym c.get.ensures ∙ ap option_copied c.in-None.is)
