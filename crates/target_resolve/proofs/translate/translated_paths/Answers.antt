use Rattle.std.proofs.Common.{◌∙◌, ap, List, ◌++◌}
use Rattle.std.specs.Prelude.{option_to_list}
use Rattle.composition.specs.Paths.{Path}
use Rattle.target_resolve.specs.Translating.{if_missing}
use Rattle.target_resolve.proofs.Moved.{moved_next, lost_next}
use Rattle.target_resolve.proofs.translate.translated_paths.Goals as goal

pub loop-path-preserved : goal.loop-path-preserved
loop-path-preserved c = record {
  kept = c.in_ok-push_moved.ensures.kept
      ∙ (ap (λ (kept : List Path). kept ++ option_to_list c.in_ok-there.there) c.loop-path.invariant.kept
      ∙ moved_next c.args.maps.now c.args.paths.now c.loop-path.path-index c.path-item.result c.loop-path-test.true c.path-item.is c.in_ok-there.there c.in_ok-there.ensures);
  lost = c.in_ok-push_moved.ensures.lost
      ∙ (ap (λ (lost : List Path). lost ++ if_missing c.in_ok-there.there c.path-item.result) c.loop-path.invariant.lost
      ∙ lost_next c.args.maps.now c.args.paths.now c.loop-path.path-index c.path-item.result c.loop-path-test.true c.path-item.is c.in_ok-there.there c.in_ok-there.ensures);
}
