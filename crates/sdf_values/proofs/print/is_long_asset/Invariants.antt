use Rattle.std.proofs.Common.{◌≡◌, drop}
use Rattle.sdf_values.specs.Print.{is_long_asset}
use Rattle.sdf_values.proofs.print.is_long_asset.Given as goal

abbrev pub invariant-loop-byte : goal.invariant-loop-byte
invariant-loop-byte l = is_long_asset l.text ≡ is_long_asset (drop l.byte-index l.text)
