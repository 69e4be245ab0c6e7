use Rattle.layer_texts.proofs.Layers.{order_spelled, prim_head_spelled, variant_head_spelled, set_head_spelled, body_spelled, front_spelled}
use Rattle.layer_texts.proofs.laws.prims_are_spelled.Goals as goal

pub returns : goal.returns
returns c = record { order = order_spelled; prim = prim_head_spelled; variant = variant_head_spelled; set = set_head_spelled; body = body_spelled; front = front_spelled }
