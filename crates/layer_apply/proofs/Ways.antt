-- An operation on the layer of a name.
use Rattle.std.proofs.Common.{◌≡◌, ◌∙◌, sym, ap, ℕ, List, Option, Some, None, Ok, Err}
use Rattle.sdf_specs.specs.Layers.{LayerTable}
use Rattle.layer_set.specs.Worlds.{WorldData, held_at, present_layer, with_held}
use Rattle.layer_set.specs.declared.held.Held.{Held}
use Rattle.layer_set.specs.declared.held.Held.TheVariants.{Present}
use Rattle.layer_edit.specs.Outcomes.{Made, given, Does}
use Rattle.edit_batches.specs.declared.fault.EditFault.TheVariants.{NoLayer}
use Rattle.edit_batches.specs.declared.fault.OpRefused.{OpRefused}
use Rattle.edit_batches.specs.declared.fault.OpRefused.TheVariants.{Fault, NoMemory}
use Rattle.layer_apply.specs.Answers.{DoesOne}
use Rattle.layer_apply.specs.Edits.{put_back, in_layer}

module _ (name : List ℕ) (change : LayerTable → Made LayerTable) (w : WorldData) where
  pub no_layer : None ≡ present_layer (held_at w name) → in_layer name change w ≡ Err NoLayer
  unfolding in_layer given
  no_layer h = ap (λ (l : Option LayerTable). given NoLayer l (λ layer. put_back name (change layer) w)) (sym h)

  on_it : (layer : LayerTable) → Some layer ≡ present_layer (held_at w name) → in_layer name change w ≡ put_back name (change layer) w
  unfolding in_layer given
  on_it layer h = ap (λ (l : Option LayerTable). given NoLayer l (λ layer. put_back name (change layer) w)) (sym h)

  pub refused : (layer after : LayerTable) (mid : WorldData) (why : OpRefused) → Some layer ≡ present_layer (held_at w name) → Does (Err why) layer after (change layer) → DoesOne (Err why) mid (in_layer name change w)
  refused layer after mid (Fault fault) h made = on_it layer h ∙ ap (λ (m : Made LayerTable). put_back name m w) made.0
  refused layer after mid NoMemory h made = tt

  pub done : (layer after : LayerTable) (mid new : WorldData) → Some layer ≡ present_layer (held_at w name) → change layer ≡ Ok after
      → ((held : Held) → with_held name held mid ≡ with_held name held w) → new ≡ with_held name (Present after) mid → in_layer name change w ≡ Ok new
  done layer after mid new h made rest is = on_it layer h ∙ ap (λ (m : Made LayerTable). put_back name m w) made ∙ ap Ok (sym (is ∙ rest (Present after)))
