use Rattle.std.proofs.Common.{◌∙◌, ap, arith}
use Rattle.sdf_values.specs.Scales.{Offset, composed}
use Rattle.arc_expand.proofs.Offsets.{scaled, shifted, least}
use Rattle.arc_expand.proofs.offset.composed.Goals as goal

pub returns : goal.returns
returns c =
    let inner = c.inner.invariant in
    let outer = c.outer.invariant in
    let scale = least c.inner.inside.scale inner.scale_least inner.scale_most in
    let outer_scale = least c.outer.inside.scale outer.scale_least outer.scale_most in
    let offset = shifted c.inner.inside.offset c.outer.inside.scale c.outer.inside.offset inner.offset_within outer_scale outer.offset_within in
    let scales = scaled c.inner.inside.scale c.outer.inside.scale (omega (arith, scale)) outer_scale in
    let outer_is : Offset = record { offset = c.outer.inside.offset; scale = c.outer.inside.scale } in
    (λ i. record { offset = offset i; scale = scales i })
    ∙ (ap (λ (a : Offset). composed a outer_is) c.inner.view_is ∙ ap (λ (b : Offset). composed c.args.inner b) c.outer.view_is)
