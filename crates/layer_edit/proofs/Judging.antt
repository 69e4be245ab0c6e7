-- Values of metadata, by what putting them into an empty table does.
use Rattle.std.proofs.Common.{◌≡◌, ◌∙◌, sym, ap, refl, ℕ, List, [], None, Result, Ok, Err}
use Rattle.std.specs.Cmp.Lexicographic.{nat_list_cmp_total}
use Rattle.std.specs.Result.{result_ok}
use Rattle.std.proofs.lemmas.Map.Lookups.{exact_bytes}
use Rattle.std.proofs.lemmas.Cmp.{tied_itself}
use Rattle.sdf_paths.specs.Order.{text_cmp}
use Rattle.sdf_values.specs.declared.refusal.RefusalKind.{RefusalKind}
use Rattle.sdf_values.specs.declared.value.Value.{Value}
use Rattle.spec_properties.specs.Entries.{MetaEntries}
use Rattle.spec_tables.specs.Tables.{at_key, with_key}
use Rattle.usda_lists.specs.Acts.{and_then}
use Rattle.layer_edit.proofs.Found.{same_put}

pub judged_ok : (j : Result Value RefusalKind) (key : List ℕ) (old new : MetaEntries) → old ≡ [] → and_then j (λ v. Ok (with_key text_cmp key v old)) ≡ Ok new → at_key text_cmp key new ≡ result_ok j
judged_ok (Ok v) key old new empty put =
    let is : with_key text_cmp key v old ≡ new = cc in
    sym (ap (at_key text_cmp key) is) ∙ same_put text_cmp exact_bytes (tied_itself nat_list_cmp_total) key v old
judged_ok (Err k) key old new empty put = absurd cc

pub judged_err : (j : Result Value RefusalKind) (key : List ℕ) (old : MetaEntries) (k : RefusalKind) → and_then j (λ v. Ok (with_key text_cmp key v old)) ≡ Err k → None ≡ result_ok j
judged_err (Ok v) key old k put = absurd cc
judged_err (Err x) key old k put = refl
