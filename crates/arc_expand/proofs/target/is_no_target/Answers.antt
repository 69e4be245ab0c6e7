use Rattle.std.proofs.Common.{◌∙◌, sym}
use Rattle.arc_expand.proofs.NoTargets.{root_is_none, selected_is_none, property_is_none}
use Rattle.arc_expand.proofs.target.is_no_target.Goals as goal

pub returns-then-is_root : goal.returns-then-is_root
returns-then-is_root c = root_is_none c.args.path.now c.is_root.result c.is_root.ensures c.if-is_root.true

pub returns-then-has_selections : goal.returns-then-has_selections
returns-then-has_selections c = selected_is_none c.args.path.now (sym c.has_selections.ensures ∙ c.if-has_selections.true)

pub returns : goal.returns
returns c =
    c.is_property.ensures
    ∙ property_is_none c.args.path.now c.is_root.result c.is_root.ensures c.if-is_root.false (sym c.has_selections.ensures ∙ c.if-has_selections.false)
