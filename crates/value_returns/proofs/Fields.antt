-- The proper fields of a prim or a variant come back.
use Rattle.std.proofs.Common.{ℕ, List, [], ◌∷◌, Option, Some, None}
use Rattle.sdf_paths.specs.Paths.{IsPath}
use Rattle.sdf_paths.specs.declared.element.Element.{Element}
use Rattle.spec_parts.specs.declared.items.RefItem.{RefItem}
use Rattle.usda_lists.specs.References.{same_path, same_item}
use Rattle.path_returns.proofs.Returns.{paths_return}
use Rattle.path_returns.specs.Returns.{IsPathOrAbsent}
use Rattle.layer_reads.specs.FieldLists.{IsPathHere}
use Rattle.layer_reads.specs.Keys.{is_plain_key}
use Rattle.layer_reads.specs.Fields.{IsAssetOrNone, IsPathOrNone, IsReferenceHere}
use Rattle.value_returns.specs.Fields.{IsAssetOrAbsent, IsProperReference}
use Rattle.value_returns.specs.Laws.{ProperFieldsAreKept}
use Rattle.value_returns.proofs.Kept.{metadata_kept}
use Rattle.value_returns.proofs.Lists.{list_so}

path_or_none : (base : List Element) (o : Option (List Element)) → IsPathOrAbsent o → IsPathOrNone base o
path_or_none base None p = tt
path_or_none base (Some path) p = paths_return base path p

asset_or_none : (o : Option (List ℕ)) → IsAssetOrAbsent o → IsAssetOrNone o
asset_or_none None p = tt
asset_or_none (Some []) p = absurd p
asset_or_none (Some (c ∷ cs)) p = tt

reference_here : (base : List Element) (r : RefItem) → IsProperReference r → IsReferenceHere base r
reference_here base r p = record { asset = asset_or_none r.asset p.asset; path = path_or_none base r.path p.path; offset = p.offset }

pub fields_kept : ProperFieldsAreKept
fields_kept spec p base = record {
  meta = metadata_kept is_plain_key spec.body.meta p.keys base;
  api_schemas = p.api_schemas;
  clip_sets = p.clip_sets;
  inherits = list_so same_path IsPath (IsPathHere base) (paths_return base) spec.arcs.inherits p.inherits;
  variant_sets = p.variant_sets;
  selections = p.selections;
  references = list_so same_item IsProperReference (IsReferenceHere base) (reference_here base) spec.arcs.references p.references;
  payloads = list_so same_item IsProperReference (IsReferenceHere base) (reference_here base) spec.arcs.payloads p.payloads;
  specializes = list_so same_path IsPath (IsPathHere base) (paths_return base) spec.arcs.specializes p.specializes;
}
