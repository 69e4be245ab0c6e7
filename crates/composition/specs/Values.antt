-- The values of an attribute: the opinions that count, their times on the stage, and the first that decides.
-- docs/COMPOSITION.md, 'Values'.
pub use Rattle.prim_view.specs.declared.fault.TimeFault.{TimeFault}
use Rattle.std.specs.Prelude.{◌^◌, nat_le, Bool, true, false, cond, ℤ, int_le, unsigned_abs, List, [], ◌∷◌, flat_map, filter, filter_map, slice_get, Option, Some, None}
use Rattle.std.specs.List.{list_any}
use Rattle.std.specs.Option.{option_map}
use Rattle.plain_data.specs.Ends.{last}
use Rattle.spec_properties.specs.Entries.{SampleEntries}
use Rattle.spec_properties.specs.Properties.{property_at}
use Rattle.spec_properties.specs.declared.property.Property.{Property}
use Rattle.spec_properties.specs.declared.property.Property.TheVariants.{Attr, Rel}
use Rattle.sdf_values.specs.Scales.{Offset, mapped}
use Rattle.sdf_values.specs.TypeNames.{type_text}
use Rattle.sdf_values.specs.declared.type_name.ElementType.{ElementType}
use Rattle.sdf_values.specs.declared.type_name.ElementType.TheVariants.{Timecode}
use Rattle.sdf_values.specs.declared.value.DictItem.{DictItem}
use Rattle.sdf_values.specs.declared.value.Value.{Value, fold-Value}
use Rattle.sdf_values.specs.declared.value.Value.TheVariants as value
use Rattle.sdf_values.specs.declared.value.Value.TheOpen.{Value-F, DictItem-F}
use Rattle.composition.specs.Texts.{Text, same_text, first_of}
use Rattle.composition.specs.Arcs.{is_empty}
use Rattle.composition.specs.Opinions.{Said}

-- a property of one name, as one layer has it at one site
pub record PropertySaid : Type 0 where
  pub said : Said
  pub property : Property

-- the spec of a property, if a layer has it
abbrev pub if_there : Said → Option Property → List PropertySaid
if_there s None = []
if_there s (Some p) = (record { said = s; property = p }) ∷ []

-- the specs of a property at all sites of a prim, the strongest first
abbrev pub specs_of : Text → List Said → List PropertySaid
specs_of name said = flat_map (λ s. if_there s (property_at name s.spec.body.properties)) said

-- Two specs of a property are of one kind: two relationships, or two attributes of one type.
abbrev pub same_sort : Property → Property → Bool
same_sort (Attr n t c u d s cs m) (Attr n' t' c' u' d' s' cs' m') = same_text (type_text t) (type_text t')
same_sort (Rel n c ts m) (Rel n' c' ts' m') = true
same_sort _ _ = false

-- the specs that count: those of the kind and type of the strongest
abbrev pub counting : List PropertySaid → List PropertySaid
counting [] = []
counting (p ∷ ps) = p ∷ filter (λ q. same_sort p.property q.property) ps

-- a time is within 10^12 whole units of time of 0
abbrev pub is_time : ℤ → Bool
is_time t = nat_le (unsigned_abs t) (10 ^ 30)

-- a time, if it is within the range of times
abbrev pub if_time : ℤ → Option ℤ
if_time t = elim (is_time t) [ true ↦ Some t | false ↦ None ]

-- all of them, if none is missing
abbrev pub all_some : {T : Type 0} → List (Option T) → Option (List T)
all_some [] = Some []
all_some (None ∷ xs) = None
all_some (Some x ∷ xs) = elim (all_some xs) [ Some ys ↦ Some (x ∷ ys) | None ↦ None ]

-- a value made of what may be missing
abbrev pub if_value : {T : Type 0} → (T → Value) → Option T → Option Value
if_value f (Some x) = Some (f x)
if_value f None = None

-- the times inside a value through an offset; none where one leaves the range
abbrev pub mapped_step : Offset → Value-F (Option Value) (Option DictItem) → Option Value
mapped_step o (Value-F.Bool b) = Some (value.Bool b)
mapped_step o (Value-F.Whole n) = Some (value.Whole n)
mapped_step o (Value-F.Number x) = Some (value.Number x)
mapped_step o (Value-F.Time t) = if_value value.Time (if_time (mapped o t))
mapped_step o (Value-F.Text t) = Some (value.Text t)
mapped_step o (Value-F.Asset t) = Some (value.Asset t)
mapped_step o (Value-F.PathText t) = Some (value.PathText t)
mapped_step o (Value-F.Word t) = Some (value.Word t)
mapped_step o (Value-F.Tuple vs) = if_value value.Tuple (all_some vs)
mapped_step o (Value-F.Array vs) = if_value value.Array (all_some vs)
mapped_step o (Value-F.Dict is) = if_value value.Dict (all_some is)
mapped_step o Value-F.Block = Some value.Block

-- an entry of a dictionary with its value mapped
abbrev pub mapped_item : DictItem-F (Option Value) (Option DictItem) → Option DictItem
mapped_item item = elim item.value [ Some v ↦ Some (record { key = item.key; ty = item.ty; value = v }) | None ↦ None ]

-- a value with all times in it mapped through an offset; none where one leaves the range
abbrev pub mapped_value : Offset → Value → Option Value
mapped_value o = fold-Value (Option Value) (Option DictItem) (mapped_step o) mapped_item

-- the values of timecodes are mapped, and no others have times inside
abbrev pub is_timecode : ElementType → Bool
is_timecode Timecode = true
is_timecode _ = false

-- a value on the stage: mapped where it is of timecodes, else as it is written
abbrev pub value_on_stage : Bool → Offset → Value → Option Value
value_on_stage true o v = mapped_value o v
value_on_stage false o v = Some v

-- a sample, if neither its time nor its value left the range
abbrev pub sample_of : Option ℤ → Option Value → Option (ℤ × Value)
sample_of (Some t) (Some v) = Some (t, v)
sample_of _ _ = None

-- a sample on the stage; none where something of it leaves the range
abbrev pub mapped_sample : Bool → Offset → ℤ × Value → Option (ℤ × Value)
mapped_sample times o e = sample_of (if_time (mapped o e.0)) (value_on_stage times o e.1)

-- what one opinion gives on the stage, and whether something of it leaves the range and is left out
pub record Given : Type 0 where
  pub default : Option Value
  pub samples : SampleEntries
  pub left_out : Bool

-- a default on the stage; none where there is none, or it leaves the range
abbrev pub given_default : Bool → Offset → Option Value → Option Value
given_default times o None = None
given_default times o (Some v) = value_on_stage times o v

-- it was there, and is left out on the stage
abbrev pub is_lost : {T U : Type 0} → Option T → Option U → Bool
is_lost (Some x) None = true
is_lost _ _ = false

-- what a default and samples give on the stage; what leaves the range is left out, as if it were not there
abbrev pub given_by : Bool → Offset → Option Value → SampleEntries → Given
given_by times o default samples =
    let kept = filter_map (mapped_sample times o) samples in
    let value = given_default times o default in
    record {
      default = value;
      samples = kept;
      left_out = elim (is_lost default value) [ true ↦ true | false ↦ list_any (λ e. is_lost (Some e) (mapped_sample times o e)) samples ];
    }

-- what a spec of a property gives through an offset; a relationship gives no values
abbrev pub given_of : Property → Offset → Given
given_of (Attr name ty custom uniform default samples connections meta) o = given_by (is_timecode ty.element) o default samples
given_of (Rel name custom targets meta) o = record { default = None; samples = []; left_out = false }

-- what one opinion gives, through the offsets of layer and site together
abbrev pub given : PropertySaid → Given
given p = given_of p.property p.said.offset

-- the samples of the first opinion that has samples or a default: samples beat the default of the same layer
abbrev pub deciding_samples : List Given → SampleEntries
deciding_samples [] = []
deciding_samples (g ∷ gs) =
    elim (is_empty g.samples) [
      | false ↦ g.samples
      | true ↦ elim g.default [ Some v ↦ [] | None ↦ deciding_samples gs ]
    ]

-- the default of the first opinion that has one
abbrev pub deciding_default : List Given → Option Value
deciding_default gs = first_of (λ g. g.default) gs

-- the fault of an opinion of which something is left out, also where a stronger one decides
abbrev pub time_fault : Text → PropertySaid → List TimeFault
time_fault name p = cond (given p).left_out ((record { layer = p.said.layer; site = p.said.site.path; name = name }) ∷ []) []

-- the faults of all opinions on a property that count, the strongest first
abbrev pub time_faults : Text → List PropertySaid → List TimeFault
time_faults name ps = flat_map (time_fault name) ps

-- the sample that holds at a time: the last one that is not after it, and before the first sample the first
abbrev pub held_sample : SampleEntries → ℤ → Option (ℤ × Value)
held_sample samples t = elim (last (filter (λ e. int_le e.0 t) samples)) [ Some e ↦ Some e | None ↦ slice_get samples 0 ]

-- the value at a time: samples decide where there are any, and else the default
abbrev pub value_at : Option Value → SampleEntries → ℤ → Option Value
value_at default [] t = default
value_at default (e ∷ es) t = option_map (λ held. held.1) (held_sample (e ∷ es) t)
