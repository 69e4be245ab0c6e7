use Rattle.std.proofs.Common.{◌≡◌, ◌||◌}
use Rattle.std.specs.Prelude.{Some, filter_map}
use Rattle.std.specs.List.{list_any}
use Rattle.sdf_values.specs.contracts.time.TimeCodeOrd.TheImpl.{ghosts as time_order}
use Rattle.composition.specs.Values.{mapped_sample, is_lost}
use Rattle.value_resolve.proofs.Sorted.{put_all}
use Rattle.value_resolve.proofs.samples.samples_on_stage.Given as goal

abbrev pub invariant-loop-time : goal.invariant-loop-time
invariant-loop-time l = record {
  kept : put_all time_order.cmp l.kept (filter_map (mapped_sample l.times l.offset) l.time-iterator) ≡ filter_map (mapped_sample l.times l.offset) l.samples;
  lost : (l.lost || list_any (λ e. is_lost (Some e) (mapped_sample l.times l.offset e)) l.time-iterator) ≡ list_any (λ e. is_lost (Some e) (mapped_sample l.times l.offset e)) l.samples;
}
