-- The merges of the two texts are proved, and the rest computes.
use Rattle.std.proofs.Common.{◌≡◌, ℕ, codes, List, [], ◌∷◌}
use Rattle.sdf_values.specs.declared.value.Value.TheVariants as value
use Rattle.composition.specs.Merging.{merged_within}
use Rattle.composition_worlds.proofs.Merging.{of_text, kept}
use Rattle.composition_worlds.proofs.fields.the_root_has_the_metadata_of_two_layers.Goals as goal

-- a text over another
over : (t u : List ℕ) → merged_within 64 (value.Text t) (value.Text u) ≡ value.Text t
over t u = kept 63 (value.Text t) (value.Text u) (of_text t)

pub returns : goal.returns
returns c = λ i.
    (codes "comment", over (codes "of the session") (codes "of the root") i)
    ∷ (codes "defaultPrim", over (codes "S") (codes "R") i)
    ∷ (codes "upAxis", value.Text (codes "Y"))
    ∷ []
