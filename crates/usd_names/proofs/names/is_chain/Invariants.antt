use Rattle.std.proofs.Common.{◌≡◌, false}
use Rattle.std.specs.Str.{chars, IsUtf8}
use Rattle.usd_names.specs.Names.{spells_joined}
use Rattle.usd_names.proofs.names.is_chain.Given as goal

abbrev pub invariant-loop-c : goal.invariant-loop-c
invariant-loop-c l = record {
  name : spells_joined false (chars l.text) ≡ spells_joined l.begun (chars l.c-iterator.rest.now);
  utf8 : IsUtf8 l.c-iterator.rest.now;
}
