use Rattle.std.proofs.Common.{◌≡◌, take}
use Rattle.std.specs.Prelude.{filter, filter_map}
use Rattle.target_resolve.specs.Translating.{on_stage, is_lost}
use Rattle.target_resolve.proofs.translate.translated_paths.Given as goal

abbrev pub invariant-loop-path : goal.invariant-loop-path
invariant-loop-path l = record {
  kept : l.kept ≡ filter_map (on_stage l.maps) (take l.path-index l.paths);
  lost : l.lost ≡ filter (is_lost l.maps) (take l.path-index l.paths);
}
