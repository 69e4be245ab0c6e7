use Rattle.std.proofs.Common.{◌∙◌, ap}
use Rattle.sdf_paths.specs.Order.{text_cmp}
use Rattle.sdf_values.specs.declared.value.Value.TheVariants as value
use Rattle.spec_tables.specs.Tables.{with_key}
use Rattle.usda_writer.proofs.write.with_key.Goals as goal

pub returns : goal.returns
returns c =
    c.in_ok-insert.ensures.ok
    ∙ (ap (λ k. with_key text_cmp k (value.Text c.in_ok-copy.field-0) c.in_ok-new.new) c.in_ok-key.ensures
    ∙ (ap (λ v. with_key text_cmp _ (value.Text v) c.in_ok-new.new) c.in_ok-copy.ensures ∙ ap (λ m. with_key text_cmp _ (value.Text c.args.name.now) m) c.in_ok-new.ensures))
