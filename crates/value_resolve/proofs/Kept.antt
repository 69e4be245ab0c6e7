-- Samples on the stage, one after the other.
use Rattle.std.proofs.Common.{◌≡◌, ◌∙◌, sym, ap, refl, Bool, true, false, ◌||◌, [], ◌∷◌, Option, Some, None}
use Rattle.std.specs.Prelude.{ℤ, pos, ◌≤ℤ◌, ◌*ℤ◌, ◌^◌, filter_map}
use Rattle.std.specs.List.{cons_option}
use Rattle.std.specs.Map.{keys_of}
use Rattle.std.specs.List.Sorted.{IsStrictlySortedBy}
use Rattle.sdf_values.specs.Scales.{Offset, mapped}
use Rattle.sdf_values.specs.contracts.time.TimeCodeOrd.TheImpl.{ghosts as time_order}
use Rattle.sdf_values.specs.declared.value.Value.{Value}
use Rattle.spec_properties.specs.Entries.{SampleEntries}
use Rattle.composition.specs.Values.{is_time, if_time, value_on_stage, sample_of, mapped_sample, is_lost}
use Rattle.value_resolve.specs.Missing.{is_missing, with_sample}
use Rattle.value_resolve.proofs.Order.{mapped_greater}
use Rattle.value_resolve.proofs.Sorted.{put_all, put_in_order}

abbrev pub Sample : Type 0
Sample = ℤ × Value

some_same : {T : Type 0} (x y : T) → ◌≡◌ {A = Option T} (Some x) (Some y) → x ≡ y
some_same x y h = cc

time_kept : (z t : ℤ) → if_time z ≡ Some t → t ≡ z
time_kept z t = by_time (is_time z)
  where
    by_time : (b : Bool) → ◌≡◌ {A = Option ℤ} (elim b as (λ _. Option ℤ) [ true ↦ Some z | false ↦ None ]) (Some t) → t ≡ z
    by_time true h = sym (some_same z t h)
    by_time false h = absurd cc

sample_key : (t : Option ℤ) (v : Option Value) (e : Sample) → sample_of t v ≡ Some e → t ≡ Some e.0
sample_key (Some t) (Some v) e h = ap (λ (s : Sample). let o : Option ℤ = Some s.0 in o) (some_same (t, v) e h)
sample_key (Some t) None e h = absurd cc
sample_key None (Some v) e h = absurd cc
sample_key None None e h = absurd cc

module _ (times : Bool) (o : Offset) where
  mapped_key : (e e' : Sample) → mapped_sample times o e ≡ Some e' → e'.0 ≡ mapped o e.0
  mapped_key e e' h = time_kept (mapped o e.0) e'.0 (sample_key (if_time (mapped o e.0)) (value_on_stage times o e.1) e' h)

  pub kept_start : (samples kept : SampleEntries) → pos 1 ≤ℤ o.scale → IsStrictlySortedBy time_order.cmp (keys_of samples) → kept ≡ []
      → put_all time_order.cmp kept (filter_map (mapped_sample times o) samples) ≡ filter_map (mapped_sample times o) samples
  kept_start samples kept forward sorted is =
      ap (λ (acc : SampleEntries). put_all time_order.cmp acc (filter_map (mapped_sample times o) samples)) is
      ∙ put_in_order time_order.cmp (mapped_sample times o) (mapped o) mapped_key (λ x y l. mapped_greater o.scale forward (o.offset *ℤ pos (10 ^ 18)) x y l) samples sorted

  pub kept_next : (kept : SampleEntries) (e : Sample) (rest : SampleEntries)
      → put_all time_order.cmp (with_sample kept (mapped_sample times o e)) (filter_map (mapped_sample times o) rest) ≡ put_all time_order.cmp kept (filter_map (mapped_sample times o) (e ∷ rest))
  unfolding put_all
  kept_next kept e rest = by_sample (mapped_sample times o e)
    where
      by_sample : (s : Option Sample) → put_all time_order.cmp (with_sample kept s) (filter_map (mapped_sample times o) rest)
          ≡ put_all time_order.cmp kept (cons_option s (filter_map (mapped_sample times o) rest))
      by_sample (Some e') = refl
      by_sample None = refl

  pub kept_end : (kept : SampleEntries) → put_all time_order.cmp kept (filter_map (mapped_sample times o) []) ≡ kept
  unfolding put_all
  kept_end kept = refl

  pub missing_lost : (e : Sample) → is_missing (mapped_sample times o e) ≡ is_lost (Some e) (mapped_sample times o e)
  missing_lost e = by_sample (mapped_sample times o e)
    where
      by_sample : (s : Option Sample) → is_missing s ≡ is_lost (Some e) s
      by_sample (Some e') = refl
      by_sample None = refl

pub lost_next : (a b c r : Bool) → b ≡ c → ((a || b) || r) ≡ (a || (c || r))
lost_next true b c r h = refl
lost_next false b c r h = ap (λ (x : Bool). x || r) h
