-- The default and the samples of an attribute.
use Rattle.std.proofs.Common.{◌≡◌, ◌∙◌, sym, ap, refl, subst, ◌≤◌, ◌^◌, nat_le, Bool, true, false, [], Option, Some, None, Ok, arith}
use Rattle.std.specs.Prelude.{ℤ, negsuc, pos, ◌+ℤ◌, ◌*ℤ◌, int_le, unsigned_abs, if◌then◌else◌}
use Rattle.std.specs.Ordering.{int_cmp}
use Rattle.std.proofs.lemmas.Bool.Decides.{nat_tests}
use Rattle.std.proofs.lemmas.Cmp.{int_cmp_total}
use Rattle.std.proofs.lemmas.Map.Lookups.{exact_signed}
use Rattle.sdf_values.specs.Numbers.{DecimalNumber, natural}
use Rattle.sdf_values.specs.declared.decimal.Num.{Num}
use Rattle.sdf_values.specs.declared.decimal.Num.TheVariants as num
use Rattle.sdf_values.specs.declared.type_name.TypeName.{TypeName}
use Rattle.sdf_values.specs.declared.value.Value.{Value}
use Rattle.spec_properties.specs.Entries.{SampleEntries}
use Rattle.spec_tables.specs.Tables.{with_key}
use Rattle.usda_lexer.specs.Meanings.{number_of}
use Rattle.usda_values.specs.Scalars.{if_time, time_of, finite_time}
use Rattle.value_texts.proofs.TypesRead.{types_read}
use Rattle.usda_drafts.specs.Values.{in_range, time_of_number}
use Rattle.properties_read.specs.Laws.{TimesAreNear, TypedValuesAreProper}
use Rattle.value_returns.specs.Proper.{IsProperSample}
use Rattle.value_returns.proofs.Tables.{all_with}
use Rattle.properties_read.specs.Values.{IsValueOf, AreValuesOf}
use Rattle.shared_tables.proofs.Order.{none as no_entries, table_with}

-- an attribute of which no value is said
pub no_values : (o : Option TypeName) → AreValuesOf o None []
no_values None = tt
no_values (Some ty) = record { defaulted = tt; times = no_entries int_cmp; sampled = tt }

pub value_given : (o : Option TypeName) (default : Option Value) (samples : SampleEntries) (v : Value) → IsValueOf o v → AreValuesOf o default samples → AreValuesOf o (Some v) samples
value_given None default samples v p values = tt
value_given (Some ty) default samples v p values = record { defaulted = p; times = values.times; sampled = values.sampled }

pub sample_given : (o : Option TypeName) (default : Option Value) (samples : SampleEntries) (time : ℤ) (v : Value)
    → unsigned_abs time ≤ 10 ^ 30 → IsValueOf o v → AreValuesOf o default samples → AreValuesOf o default (with_key int_cmp time v samples)
sample_given None default samples time v near p values = tt
sample_given (Some ty) default samples time v near p values = record {
  defaulted = values.defaulted;
  times = table_with int_cmp_total time v samples values.times;
  sampled = all_with int_cmp exact_signed (IsProperSample ty) time v samples (near, p) values.sampled;
}

-- a time is within 10^12
if_near : (units time : ℤ) → if_time units ≡ Some time → unsigned_abs time ≤ 10 ^ 30
if_near units time h = by (nat_le (unsigned_abs units) (10 ^ 30)) refl h
  where
    by : (b : Bool) → nat_le (unsigned_abs units) (10 ^ 30) ≡ b → ◌≡◌ {A = Option ℤ} (if b then Some units else None) (Some time) → unsigned_abs time ≤ 10 ^ 30
    by true e g = let same : units ≡ time = cc g in subst (λ t. unsigned_abs t ≤ 10 ^ 30) same (grind (arith, nat_tests))
    by false e g = absurd cc

time_near : (d : DecimalNumber) (time : ℤ) → time_of d ≡ Some time → unsigned_abs time ≤ 10 ^ 30
unfolding time_of
time_near d time h = by (int_le (negsuc 17) d.exp) h
  where
    by : (b : Bool) → (if b then if_time (d.digits *ℤ pos (10 ^ natural (d.exp +ℤ pos 18))) else None) ≡ Some time → unsigned_abs time ≤ 10 ^ 30
    by true g = if_near (d.digits *ℤ pos (10 ^ natural (d.exp +ℤ pos 18))) time g
    by false g = absurd cc

finite_near : (x : Num) (time : ℤ) → finite_time x ≡ Some time → unsigned_abs time ≤ 10 ^ 30
unfolding finite_time
finite_near (num.Finite d) time h = time_near d time h
finite_near x time h = absurd cc

pub times_near : TimesAreNear
unfolding time_of_number
times_near token time h = by (number_of token) h
  where
    some_near : (x : Num) (o : Option ℤ) → finite_time x ≡ o → in_range o ≡ Ok time → unsigned_abs time ≤ 10 ^ 30
    some_near x None e g = absurd cc
    some_near x (Some units) e g = let same : units ≡ time = cc g in finite_near x time (e ∙ ap Some same)

    by : (o : Option Num) → time_of_number o ≡ Ok time → unsigned_abs time ≤ 10 ^ 30
    by None g = absurd cc
    by (Some x) g = some_near x (finite_time x) refl g

pub typed_proper : TypedValuesAreProper
typed_proper ty v read writable utf8 = record { typed = sym (types_read v ty) ∙ read; writable = writable; utf8 = utf8 }
