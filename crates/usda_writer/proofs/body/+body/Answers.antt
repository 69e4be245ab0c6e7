use Rattle.std.proofs.Common.{sym, ap, append-nil, append_assoc, arith, rules, refl}
use Rattle.std.specs.Option.{option_map}
use Rattle.sdf_paths.specs.declared.element.Element.TheVariants.{Prim, Selection}
use Rattle.sdf_specs.specs.Found.{spec_below}
use Rattle.usda_writer.proofs.Levels.{no_level, one_level}
use Rattle.sdf_specs.proofs.Standing.{found_path, no_property}
use Rattle.usda_writer.proofs.body.+body.Goals as goal

pub push_body-returns-then-levels-eq0 : goal.push_body-returns-then-levels-eq0
push_body-returns-then-levels-eq0 t c =
    let none = no_level c.args.layer.now.specs c.args.levels c.args.level c.args.path.now c.args.spec.now c.if-levels-eq0.true in
    rw none (sym (append-nil _))

pub push_body-returns : goal.push_body-returns
push_body-returns t c =
    let some = one_level c.args.layer.now.specs c.args.levels c.args.level c.args.path.now c.args.spec.now c.if-levels-eq0.false in
    rw some (search (rules, append_assoc))

pub push_child-push_body-requires : goal.push_child-push_body-requires
push_child-push_body-requires t c =
    let below = found_path (option_map (λ f. (f.0, f.1.now)) c.in_ok-child.field-0) c.args.path.now (Prim c.args.name.now) (spec_below c.args.layer.now.specs c.args.path.now (Prim c.args.name.now))
    c.in-Some.child c.in-Some.spec.now c.in_ok-child.ensures (ap (λ o. option_map (λ f. (f.0, f.1.now)) o) c.in-Some.is) in
    (omega (arith, c.decreases), (c.requires.stand, no_property c.args.path.now (Prim c.args.name.now) refl c.requires.prim c.in-Some.child below))

pub push_variant-push_body-requires : goal.push_variant-push_body-requires
push_variant-push_body-requires t c =
    let below = found_path (option_map (λ f. (f.0, f.1.now)) c.in_ok-below.field-0) c.args.path.now (Selection c.args.set.now c.args.variant.now)
    (spec_below c.args.layer.now.specs c.args.path.now (Selection c.args.set.now c.args.variant.now))
    c.in-Some.below c.in-Some.spec.now c.in_ok-below.ensures (ap (λ o. option_map (λ f. (f.0, f.1.now)) o) c.in-Some.is) in
    (omega (arith, c.decreases), (c.requires.stand, no_property c.args.path.now (Selection c.args.set.now c.args.variant.now) refl c.requires.prim c.in-Some.below below))
