-- Proper values, metadata and properties come back.
use Rattle.std.proofs.Common.{◌≡◌, ◌∙◌, ℕ, Bool, true, false, List, Option, Some, None, arith}
use Rattle.std.specs.Prelude.{ℤ}
use Rattle.sdf_paths.specs.declared.element.Element.{Element}
use Rattle.sdf_values.specs.declared.type_name.TypeName.{TypeName}
use Rattle.sdf_values.specs.declared.value.Value.{Value}
use Rattle.spec_properties.specs.declared.property.Property.TheVariants.{Attr, Rel}
use Rattle.usda_fields.specs.Keys.{key_rule, rule_shape}
use Rattle.usda_grammar.specs.declared.kinds.Keyword.{Keyword}
use Rattle.usda_lists.specs.References.{same_path}
use Rattle.usda_values.specs.declared.shape.Shape.TheVariants.{Typed}
use Rattle.usda_writer.specs.Fields.{is_comment}
use Rattle.value_texts.specs.Readable.{is_read_as}
use Rattle.value_texts.proofs.TypesRead.{types_read}
use Rattle.value_texts.proofs.EachOf.{all_so}
use Rattle.path_returns.proofs.Returns.{targets_return}
use Rattle.layer_reads.specs.Meta.{IsKeyKept, IsKeptAs, IsEntryKept}
use Rattle.layer_reads.specs.Properties.{IsTargetHere, IsDefaultKept, IsSampleKept, is_any_key}
use Rattle.value_returns.specs.Laws.{ProperValuesAreKept, ProperMetaIsKept, ProperPropertiesAreKept}
use Rattle.value_returns.specs.Proper.{IsProperDefault, IsProperSample, IsProperKey, IsProperAs, IsProperEntry, IsProperTarget}
use Rattle.value_returns.proofs.Fixed.{full_paths_fixed}
use Rattle.value_returns.proofs.Lists.{list_so}
use Rattle.value_returns.proofs.Members.{members_had}
use Rattle.value_returns.proofs.Typed.{shallow, typed_full}

pub values_kept : ProperValuesAreKept
values_kept ty v p base =
    let read : is_read_as v (Typed ty) true ≡ true = types_read v ty ∙ p.typed in
    record {
      membered = members_had v (Typed ty) true read;
      writable = p.writable;
      read = read;
      deep = omega (arith, shallow v ty true read);
      fixed = full_paths_fixed v (typed_full v ty true read) base;
    }

default_kept : (ty : TypeName) (o : Option Value) → IsProperDefault ty o → (base : List Element) → IsDefaultKept base ty o
default_kept ty None p base = tt
default_kept ty (Some v) p base = values_kept ty v p base

sample_kept : (base : List Element) (ty : TypeName) (s : ℤ × Value) → IsProperSample ty s → IsSampleKept base ty s
sample_kept base ty s p = (p.0, values_kept ty s.1 p.1 base)

key_kept : (is_name : Keyword → Bool) (base : List Element) (key : List ℕ) (v : Value) → IsProperKey is_name key v → IsKeyKept is_name base key v
key_kept is_name base key v p = record {
  plain = p.name;
  taken = p.taken;
  membered = members_had v (rule_shape (key_rule key)) true p.read;
  writable = p.writable;
  read = p.read;
  deep = p.deep;
  fixed = full_paths_fixed v p.full base;
}

kept_as : (b : Bool) (is_name : Keyword → Bool) (base : List Element) (key : List ℕ) (v : Value) → IsProperAs b is_name key v → IsKeptAs b is_name base key v
kept_as true is_name base key v p = p
kept_as false is_name base key v p = key_kept is_name base key v p

pub metadata_kept : ProperMetaIsKept
metadata_kept is_name meta p base = record {
  ordered = p.ordered;
  each = all_so (IsProperEntry is_name) (IsEntryKept is_name base) (λ e q. kept_as (is_comment e.0) is_name base e.0 e.1 q) meta p.each;
}

pub properties_kept : ProperPropertiesAreKept
properties_kept (Attr name ty custom uniform default samples connections meta) p base = record {
  default = default_kept ty default p.defaulted base;
  times = p.times;
  samples = all_so (IsProperSample ty) (IsSampleKept base ty) (sample_kept base ty) samples p.sampled;
  connections = list_so same_path IsProperTarget (IsTargetHere base) (λ path t. targets_return base path t.formed t.plain) connections p.connected;
  meta = metadata_kept is_any_key meta p.said base;
}
properties_kept (Rel name custom targets meta) p base = record {
  targets = list_so same_path IsProperTarget (IsTargetHere base) (λ path t. targets_return base path t.formed t.plain) targets p.related;
  meta = metadata_kept is_any_key meta p.said base;
}
