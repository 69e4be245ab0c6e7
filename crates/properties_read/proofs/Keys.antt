-- What an act and another have given, and metadata of no keys.
use Rattle.std.proofs.Common.{◌≡◌, refl, [], Ok, Err}
use Rattle.std.specs.Prelude.{Result}
use Rattle.sdf_paths.specs.Order.{text_cmp}
use Rattle.sdf_values.specs.declared.refusal.RefusalKind.{RefusalKind}
use Rattle.usda_lists.specs.Acts.{and_then}
use Rattle.layer_reads.specs.Properties.{is_any_key}
use Rattle.value_returns.specs.Proper.{IsProperMeta}
use Rattle.shared_tables.proofs.Order.{none as no_entries}

-- what an act and another on what it gives have given
pub then_ok : {A B : Type 0} (r : Result A RefusalKind) (more : A → Result B RefusalKind) (b : B) → and_then r more ≡ Ok b → (a : A) × ((r ≡ Ok a) × (more a ≡ Ok b))
then_ok (Ok a) more b h = (a, (refl, h))
then_ok (Err k) more b h = absurd cc

pub no_meta : IsProperMeta is_any_key []
no_meta = record { ordered = no_entries text_cmp; each = tt }
