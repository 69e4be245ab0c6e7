use Rattle.std.proofs.Common.{◌∙◌, ap}
use Rattle.spec_parts.specs.declared.spec.Head.{Head}
use Rattle.layer_load.proofs.Layers.{layer_joined}
use Rattle.layer_load.proofs.walk.assets_of_layer.Goals as goal

pub returns : goal.returns
returns c =
    layer_joined c.args.layer.now c.push_prims-2.new.out c.push_sublayers.new.out c.new-assets.result c.as_slice.result.now c.len.result c.root.result c.as_slice-2.result.now
    c.in_ok-push_prims.ensures c.in_ok-push_sublayers.ensures c.new-assets.ensures
    (c.as_slice.ensures ∙ ap (λ (h : Head). h.sublayers) c.head.ensures) c.len.ensures.len c.root.ensures
    (c.as_slice-2.ensures ∙ ap (λ (h : Head). h.root_names) c.head-2.ensures)
