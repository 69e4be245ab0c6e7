use Rattle.std.proofs.Common.{◌∙◌, ap, Bool, not}
use Rattle.layer_set.specs.LookUps.{look_ups}
use Rattle.arc_expand.proofs.Authoring.{opinions_are, has_spec_is, empty_told}
use Rattle.arc_expand.proofs.authored.has_spec_at.Goals as goal

pub returns : goal.returns
returns c =
    ap (λ (b : Bool). not b) (empty_told c.in_ok-opinions.opinions c.is_empty.result c.is_empty.ensures)
    ∙ has_spec_is (look_ups c.args.world.now) c.args.stack.now.name c.args.at.now c.in_ok-opinions.opinions
    (c.in_ok-opinions.ensures ∙ opinions_are (look_ups c.args.world.now) c.args.stack.now c.args.at.now c.requires)
