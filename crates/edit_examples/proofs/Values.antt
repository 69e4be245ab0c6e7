-- Defaults and samples: they compute, but for what a type takes of a value.
use Rattle.std.proofs.Common.{List, [], ◌∷◌, pos, codes, refl, ap}
use Rattle.layer_apply.specs.Edits.{put_back}
use Rattle.layer_edit.specs.Outcomes.{Made}
use Rattle.layer_set.specs.Worlds.{WorldData}
use Rattle.sdf_paths.specs.declared.element.Element.{Element}
use Rattle.sdf_specs.specs.Layers.{LayerTable}
use Rattle.sdf_values.specs.declared.type_name.ElementType.TheVariants as element
use Rattle.sdf_values.specs.Conforms.{one}
use Rattle.edit_examples.proofs.Computing.{of_edits}
use Rattle.edit_examples.proofs.Taking.{default_whole, default_text, sample_whole, sample_text}
use Rattle.edit_examples.specs.Values.{ten, far, int_layer, bare_layer, time_layer, DefaultsAreTold, SamplesAreTold, AreTold}
use Rattle.edit_examples.specs.Worlds.{of_a, int, whole, time, root, world}

-- /A.x
abbrev x : List Element
x = of_a (codes "x")

-- the world with what is made of its layer
abbrev of_root : LayerTable → Made LayerTable → Made WorldData
of_root layer made = put_back root made (world layer)

defaults : DefaultsAreTold
unfolding of_edits
defaults = record {
  given = ap (of_root (int_layer (whole 1) [])) (default_whole x int (int_layer (whole 1) []) (pos 3));
  wrong_shape = ap (of_root (int_layer (whole 1) [])) (default_text x int (int_layer (whole 1) []) (codes "3"));
  too_great = ap (of_root (int_layer (whole 1) [])) (default_whole x int (int_layer (whole 1) []) (pos 2147483648));
  far_time = ap (of_root time_layer) (default_whole x (one element.Timecode) time_layer (pos 1000000000001));
  relationship = refl;
  no_attribute = refl;
  prim = refl;
  cleared = refl;
  cleared_twice = refl;
}

samples : SamplesAreTold
unfolding of_edits
samples = record {
  given = ap (of_root (bare_layer ((time 20, whole 2) ∷ []))) (sample_whole x int (bare_layer ((time 20, whole 2) ∷ [])) ten (pos 5));
  replaced = ap (of_root (bare_layer ((time 10, whole 2) ∷ []))) (sample_whole x int (bare_layer ((time 10, whole 2) ∷ [])) ten (pos 5));
  far_time = ap (of_root (bare_layer [])) (sample_whole x int (bare_layer []) far (pos 5));
  shape_first = ap (of_root (bare_layer [])) (sample_text x int (bare_layer []) far (codes "5"));
  taken = refl;
  taken_twice = refl;
  no_time = refl;
}

pub are_told : AreTold
are_told = record { defaults = defaults; samples = samples }
