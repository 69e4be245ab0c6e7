use Rattle.std.proofs.Common.{◌≡◌}
use Rattle.std.specs.Str.{chars}
use Rattle.std.specs.Str.Iter.{chars_rest}
use Rattle.std.specs.Str.{IsUtf8}
use Rattle.usd_names.specs.Names.{spells_identifier, identifier_rest}
use Rattle.usd_names.proofs.names.spells_identifier.Given as goal

abbrev pub invariant-loop-c : goal.invariant-loop-c
invariant-loop-c l = record {
  rest : identifier_rest l.begun (chars (chars_rest l.c-iterator)) ≡ spells_identifier (chars l.text);
  utf8 : IsUtf8 (chars_rest l.c-iterator);
}
