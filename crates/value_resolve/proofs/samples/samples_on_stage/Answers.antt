use Rattle.std.proofs.Common.{◌∙◌, sym, ap, subst, Bool, ◌||◌}
use Rattle.std.specs.Prelude.{Option, Some, pos, ◌≤ℤ◌, filter_map}
use Rattle.std.specs.List.{list_any}
use Rattle.sdf_values.specs.Scales.{Offset}
use Rattle.sdf_values.specs.contracts.time.TimeCodeOrd.TheImpl.{ghosts as time_order}
use Rattle.spec_properties.specs.Entries.{SampleEntries}
use Rattle.composition.specs.Values.{mapped_sample, is_lost}
use Rattle.value_resolve.specs.Missing.{is_missing, with_sample}
use Rattle.value_resolve.proofs.Kept.{Sample, kept_start, kept_next, kept_end, missing_lost, lost_next}
use Rattle.value_resolve.proofs.Sorted.{put_all}
use Rattle.value_resolve.proofs.samples.samples_on_stage.Goals as goal

pub loop-time-init : goal.loop-time-init
loop-time-init c =
    let all = c.into_iter-time-iterator.ensures.into_iter_gives ∙ c.iter-time-items.ensures.rest in
    let forward : pos 1 ≤ℤ c.args.offset.scale = subst (λ (o : Offset). pos 1 ≤ℤ o.scale) c.offset.view_is c.offset.invariant in
    record {
      kept = ap (λ (es : SampleEntries). put_all time_order.cmp c.new-kept.result (filter_map (mapped_sample c.args.times c.args.offset) es)) all
          ∙ kept_start c.args.times c.args.offset c.args.samples.now c.new-kept.result forward c.iter-time-items.ensures.order c.new-kept.ensures;
      lost = ap (λ (es : SampleEntries). list_any (λ e. is_lost (Some e) (mapped_sample c.args.times c.args.offset e)) es) all;
    }

pub loop-time-preserved : goal.loop-time-preserved
loop-time-preserved c =
    let e : Sample = (c.in-Some.time.now, c.in-Some.value.now) in
    let rest = c.in-Some.ensures.steps in
    record {
      kept = ap (λ (es : SampleEntries). put_all time_order.cmp es (filter_map (mapped_sample c.args.times c.args.offset) c.next.new.self))
          (c.in_ok-missing.ensures.kept ∙ ap (λ (s : Option Sample). with_sample c.loop-time.kept s) c.in_ok-sample.ensures)
          ∙ (kept_next c.args.times c.args.offset c.loop-time.kept e c.next.new.self
          ∙ (ap (λ (es : SampleEntries). put_all time_order.cmp c.loop-time.kept (filter_map (mapped_sample c.args.times c.args.offset) es)) (sym rest)
          ∙ c.loop-time.invariant.kept));
      lost = ap (λ (b : Bool). b || list_any (λ e. is_lost (Some e) (mapped_sample c.args.times c.args.offset e)) c.next.new.self) c.either-lost.ensures
          ∙ (lost_next c.loop-time.lost c.in_ok-missing.missing (is_lost (Some e) (mapped_sample c.args.times c.args.offset e))
          (list_any (λ e. is_lost (Some e) (mapped_sample c.args.times c.args.offset e)) c.next.new.self)
          (c.in_ok-missing.ensures.missing ∙ (ap (λ (s : Option Sample). is_missing s) c.in_ok-sample.ensures ∙ missing_lost c.args.times c.args.offset e))
          ∙ (ap (λ (es : SampleEntries). c.loop-time.lost || list_any (λ e. is_lost (Some e) (mapped_sample c.args.times c.args.offset e)) es) (sym rest)
          ∙ c.loop-time.invariant.lost));
    }

pub returns-clause-samples : goal.returns-clause-samples
returns-clause-samples c =
    sym (kept_end c.args.times c.args.offset c.loop-time.kept)
    ∙ (ap (λ (es : SampleEntries). put_all time_order.cmp c.loop-time.kept (filter_map (mapped_sample c.args.times c.args.offset) es)) (sym c.in-None.ensures.steps.0)
    ∙ c.loop-time.invariant.kept)
