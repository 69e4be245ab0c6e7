use Rattle.std.proofs.Common.{refl}
use Rattle.sdf_values.specs.declared.value.Value.TheVariants as value
use Rattle.value_shapes.proofs.Apart.{truth_alone, time_alone, text_alone, asset_alone, path_alone, dict_alone, block_alone, word_means, number_means, whole_means, tuple_means, array_means}
use Rattle.value_shapes.proofs.laws.meanings_are_apart.Goals as goal

pub returns : goal.returns
returns c = record {
  truth = λ b w h. truth_alone b (value.Bool b) w h refl;
  time = λ t w h. time_alone t (value.Time t) w h refl;
  text = λ s w h. text_alone s (value.Text s) w h refl;
  asset = λ s w h. asset_alone s (value.Asset s) w h refl;
  path = λ s w h. path_alone s (value.PathText s) w h refl;
  dictionary = λ items w h. dict_alone items (value.Dict items) w h refl;
  block = λ w h. block_alone value.Block w h refl;
  word = λ s w h. word_means s (value.Word s) w h refl;
  number = λ x w h. number_means x (value.Number x) w h refl;
  whole = λ n w h. whole_means n (value.Whole n) w h refl;
  tuple = λ vs w h. tuple_means vs (value.Tuple vs) w h refl;
  array = λ vs w h. array_means vs (value.Array vs) w h refl;
}
