use Rattle.std.proofs.Common.{◌∙◌, sym}
use Rattle.sdf_paths.proofs.Shapes.{may_follow}
use Rattle.text_tables.proofs.paths.moved.Goals as goal

pub replace_prefix-requires : goal.replace_prefix-requires
replace_prefix-requires c = λ rest is. may_follow c.args.by.now rest (λ none. absurd (cc (c.is_root.ensures.1 none, c.if-is_root.false))) (sym c.is_property.ensures ∙ c.if-is_property.false)
