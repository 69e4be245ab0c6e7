use Rattle.std.proofs.Common.{◌≡◌, filter, take}
use Rattle.composition.specs.Names.{is_name}
use Rattle.field_resolve.proofs.names.prim_names.Given as goal

abbrev pub invariant-loop-name : goal.invariant-loop-name
invariant-loop-name l = l.kept ≡ filter is_name (take l.name-index l.names)
