use Rattle.std.proofs.Common.{◌∙◌, ap}
use Rattle.sdf_specs.specs.Layers.{SpecEntries}
use Rattle.flatten.specs.Flattened.{head_of, with_prims}
use Rattle.flatten.proofs.Flattening.{layer_is}
use Rattle.flatten.proofs.flat.flatten_layer.Goals as goal

pub returns : goal.returns
returns c =
    layer_is c.args.view.now.items c.in_ok-head.head c.put_prims.new.specs _ (c.in_ok-head.ensures ∙ ap head_of c.root_of.ensures)
    (c.in_ok-put_prims.ensures ∙ ap (λ (s : SpecEntries). with_prims c.args.view.now.items s) c.new-specs.ensures) c.from_parts.ensures
