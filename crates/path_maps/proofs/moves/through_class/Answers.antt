use Rattle.std.proofs.Common.{◌≡◌, sym, ◌∙◌, ap, refl, true, List, Option, Some, None, is_some}
use Rattle.sdf_paths.specs.Paths.{replaced}
use Rattle.sdf_paths.specs.declared.element.Element.{Element}
use Rattle.path_maps.specs.Maps.{outside_class}
use Rattle.path_maps.proofs.moves.through_class.Goals as goal

-- a path that moves is the answer
stays_moved : (o q : Option (List Element)) → is_some o ≡ true → ◌≡◌ {A = Option (List Element)} (elim o [ Some m ↦ Some m | None ↦ q ]) o
stays_moved (Some m) q h = refl
stays_moved None q h = absurd cc

pub returns-then-is_some-clause-path : goal.returns-then-is_some-clause-path
returns-then-is_some-clause-path c =
    let some : is_some (replaced c.args.target.now c.args.author.now c.args.path.now) ≡ true =
    sym (c.if-is_some.ensures ∙ ap (λ (o : Option (List Element)). is_some o) c.in_ok-moved.ensures.ok) in
    λ x h. c.in_ok-moved.ensures.path x (sym (stays_moved (replaced c.args.target.now c.args.author.now c.args.path.now) (outside_class c.args.author.now c.args.path.now) some) ∙ h)
