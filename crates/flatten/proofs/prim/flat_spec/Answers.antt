use Rattle.std.proofs.Common.{◌≡◌, refl}
use Rattle.prim_view.specs.declared.view.PrimView.{PrimView}
use Rattle.spec_parts.specs.Blank.{blank_arcs}
use Rattle.spec_parts.specs.declared.spec.ArcPart.{ArcPart}
use Rattle.spec_parts.specs.declared.spec.BodyPart.{BodyPart}
use Rattle.spec_parts.specs.declared.spec.Spec.{Spec}
use Rattle.flatten.specs.Flattened.{flat_body, flat_spec}
use Rattle.flatten.proofs.prim.flat_spec.Goals as goal

spec_is : (prim : PrimView) (arcs : ArcPart) (body : BodyPart) → arcs ≡ blank_arcs → body ≡ flat_body prim
    → ◌≡◌ {A = Spec} (record { arcs = arcs; body = body }) (flat_spec prim)
unfolding flat_spec
spec_is prim arcs body a b = rw (a, b) refl

pub returns : goal.returns
returns c = spec_is c.args.prim.now c.blank-arcs.result c.in_ok-body.body c.blank-arcs.ensures c.in_ok-body.ensures
