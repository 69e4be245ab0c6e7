use Rattle.std.proofs.Common.{◌≡◌}
use Rattle.std.specs.Str.{chars, IsUtf8}
use Rattle.std.specs.Str.Iter.{chars_rest}
use Rattle.usd_names.specs.Names.{spells_variant}
use Rattle.sdf_paths.specs.Variants.{ends_variant}
use Rattle.sdf_paths.proofs.variants.spells_variant.Given as goal

abbrev pub invariant-loop-c : goal.invariant-loop-c
invariant-loop-c l = record {
  rest : ends_variant l.part (chars (chars_rest l.c-iterator)) ≡ spells_variant (chars l.text);
  utf8 : IsUtf8 (chars_rest l.c-iterator);
}
