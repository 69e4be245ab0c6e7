use Rattle.std.proofs.Common.{◌≡◌, length, Some}
use Rattle.std.specs.Str.{IsUtf8}
use Rattle.usda_lists.specs.Paths.{path_below}
use Rattle.usda_lists.proofs.paths.path_below.Given as goal

abbrev pub invariant-loop-prim : goal.invariant-loop-prim
invariant-loop-prim l = record {
  same : path_below 0 (Some l.prim) l.rest ≡ path_below 0 (Some l.fn.base) l.text;
  utf8 : IsUtf8 l.rest;
}

abbrev pub decreases-loop-prim : goal.decreases-loop-prim
decreases-loop-prim l = length l.rest
