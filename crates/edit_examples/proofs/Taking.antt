-- Values as an attribute takes them. The variants of values that nest do not compute, so each is opened by a lemma.
use Rattle.std.proofs.Common.{◌≡◌, ◌∙◌, ℕ, ℤ, Bool, not, List, [], ◌∷◌, Option, Some, Ok, sym, ap}
use Rattle.std.specs.Result.{result_ok}
use Rattle.edit_batches.specs.declared.fault.EditFault.TheVariants.{ValueShape, TimeRange}
use Rattle.layer_edit.specs.Outcomes.{Made, passing, given}
use Rattle.layer_edit.specs.Places.{changed_property}
use Rattle.layer_edit.specs.Properties.{with_default, with_sample, default_given, sample_given}
use Rattle.layer_edit.specs.Typing.{is_but_for_time, has_form_by, has_form, typed, time_at}
use Rattle.sdf_paths.specs.declared.element.Element.{Element}
use Rattle.sdf_specs.specs.Layers.{LayerTable}
use Rattle.sdf_values.specs.declared.decimal.Num.{Num}
use Rattle.sdf_values.specs.declared.type_name.TypeName.{TypeName}
use Rattle.sdf_values.specs.declared.value.Value.{Value, fold-roll-Value, out-Value, out-roll-Value}
use Rattle.sdf_values.specs.declared.value.Value.TheOpen.{Value-F}
use Rattle.sdf_values.specs.declared.value.Value.TheVariants as value
use Rattle.sdf_values.specs.declared.value.Value.TheVariants.{rolls-Whole, rolls-Text}
use Rattle.usda_values.specs.Scalars.{Taken}
use Rattle.usda_values.specs.Shaping.{Taking, take_leaf, take_step, take_item, taken, take_shape}

-- ---- what a type takes

out_whole : (n : ℤ) → out-Value (value.Whole n) ≡ Value-F.Whole n
out_whole n = ap out-Value (sym (rolls-Whole n)) ∙ out-roll-Value (Value-F.Whole n)

out_text : (s : List ℕ) → out-Value (value.Text s) ≡ Value-F.Text s
out_text s = ap out-Value (sym (rolls-Text s)) ∙ out-roll-Value (Value-F.Text s)

pub takes_whole : (n : ℤ) → taken (value.Whole n) ≡ take_leaf (value.Whole n)
takes_whole n = ap taken (sym (rolls-Whole n)) ∙ fold-roll-Value Taking Taking take_step take_item (Value-F.Whole n)

pub takes_text : (s : List ℕ) → taken (value.Text s) ≡ take_leaf (value.Text s)
takes_text s = ap taken (sym (rolls-Text s)) ∙ fold-roll-Value Taking Taking take_step take_item (Value-F.Text s)

form_whole : (t : TypeName) (n : ℤ) → has_form t (value.Whole n) ≡ is_but_for_time (take_leaf (value.Whole n) t)
unfolding has_form take_shape
form_whole t n = ap (has_form_by t (value.Whole n)) (out_whole n) ∙ ap (λ (f : Taking). is_but_for_time (f t)) (takes_whole n)

form_text : (t : TypeName) (s : List ℕ) → has_form t (value.Text s) ≡ is_but_for_time (take_leaf (value.Text s) t)
unfolding has_form take_shape
form_text t s = ap (has_form_by t (value.Text s)) (out_text s) ∙ ap (λ (f : Taking). is_but_for_time (f t)) (takes_text s)

typed_whole : (t : TypeName) (n : ℤ) → typed t (value.Whole n) ≡ result_ok (take_leaf (value.Whole n) t)
unfolding typed take_shape
typed_whole t n = ap (λ (f : Taking). result_ok (f t)) (takes_whole n)

typed_text : (t : TypeName) (s : List ℕ) → typed t (value.Text s) ≡ result_ok (take_leaf (value.Text s) t)
unfolding typed take_shape
typed_text t s = ap (λ (f : Taking). result_ok (f t)) (takes_text s)

-- ---- defaults and samples

module _ (path : List Element) (t : TypeName) (layer : LayerTable) where
  -- the layer with a default, by whether the value has the form of the type and what it is as one
  abbrev with_default_by : Bool → Option Value → Made LayerTable
  with_default_by has v = passing ((not has, ValueShape) ∷ []) (given TimeRange v (λ v. Ok (changed_property path (with_default (Some v)) layer)))

  -- the same of a sample
  abbrev with_sample_by : Num → Bool → Option Value → Made LayerTable
  with_sample_by time has v =
      passing ((not has, ValueShape) ∷ [])
      (given TimeRange (time_at time) (λ t. given TimeRange v (λ v. Ok (changed_property path (with_sample t v) layer))))

  -- what is made by what a type takes of a value
  abbrev pub default_by : Taken → Made LayerTable
  default_by taking = with_default_by (is_but_for_time taking) (result_ok taking)

  abbrev pub sample_by : Num → Taken → Made LayerTable
  sample_by time taking = with_sample_by time (is_but_for_time taking) (result_ok taking)

  default_of : (v : Value) (taking : Taken) → has_form t v ≡ is_but_for_time taking → typed t v ≡ result_ok taking → default_given path t v layer ≡ default_by taking
  unfolding default_given
  default_of v taking h e = ap (λ (has : Bool). with_default_by has (typed t v)) h ∙ ap (with_default_by (is_but_for_time taking)) e

  sample_of : (time : Num) (v : Value) (taking : Taken) → has_form t v ≡ is_but_for_time taking → typed t v ≡ result_ok taking → sample_given path t time v layer ≡ sample_by time taking
  unfolding sample_given
  sample_of time v taking h e = ap (λ (has : Bool). with_sample_by time has (typed t v)) h ∙ ap (with_sample_by time (is_but_for_time taking)) e

  pub default_whole : (n : ℤ) → default_given path t (value.Whole n) layer ≡ default_by (take_leaf (value.Whole n) t)
  default_whole n = default_of (value.Whole n) (take_leaf (value.Whole n) t) (form_whole t n) (typed_whole t n)

  pub default_text : (s : List ℕ) → default_given path t (value.Text s) layer ≡ default_by (take_leaf (value.Text s) t)
  default_text s = default_of (value.Text s) (take_leaf (value.Text s) t) (form_text t s) (typed_text t s)

  pub sample_whole : (time : Num) (n : ℤ) → sample_given path t time (value.Whole n) layer ≡ sample_by time (take_leaf (value.Whole n) t)
  sample_whole time n = sample_of time (value.Whole n) (take_leaf (value.Whole n) t) (form_whole t n) (typed_whole t n)

  pub sample_text : (time : Num) (s : List ℕ) → sample_given path t time (value.Text s) layer ≡ sample_by time (take_leaf (value.Text s) t)
  sample_text time s = sample_of time (value.Text s) (take_leaf (value.Text s) t) (form_text t s) (typed_text t s)
