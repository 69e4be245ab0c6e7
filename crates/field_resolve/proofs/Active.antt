-- Whether metadata says that its prim is not active.
use Rattle.std.proofs.Common.{◌≡◌, ◌∙◌, ap, sym, Option}
use Rattle.sdf_paths.specs.Order.{text_cmp}
use Rattle.sdf_values.specs.declared.value.Value.{Value}
use Rattle.spec_properties.specs.Entries.{MetaEntries}
use Rattle.spec_tables.specs.Tables.{at_key}
use Rattle.composition.specs.Fields.{is_false}
use Rattle.composition.specs.Texts.{Text}
use Rattle.field_resolve.specs.Activity.{active_key, says_inactive}

pub by_value : (meta : MetaEntries) (key : Text) (o : Option Value) → key ≡ active_key → at_key text_cmp key meta ≡ o → is_false o ≡ says_inactive meta
unfolding active_key says_inactive
by_value meta key o is there = ap is_false (sym there) ∙ ap (λ (k : Text). is_false (at_key text_cmp k meta)) is
