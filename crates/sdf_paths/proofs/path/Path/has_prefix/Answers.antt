use Rattle.std.proofs.Common.{◌≡◌, ◌∙◌, Option, Some, None, refl, sym, ap}
use Rattle.std.specs.Option.{is_some, option_map}
use Rattle.sdf_paths.specs.Paths.{has_prefix, rest_after}
use Rattle.sdf_paths.proofs.Shapes.{has_prefix_tells}
use Rattle.sdf_paths.proofs.path.Path.has_prefix.Goals as goal

map_is_some : {A B : Type 0} (f : A → B) (o : Option A) → is_some o ≡ is_some (option_map f o)
map_is_some f None = refl
map_is_some f (Some x) = refl

value : (c : goal.After-is_some) → c.is_some.result ≡ has_prefix c.args.front.now c.args.self.now
value c =
    c.is_some.ensures ∙ map_is_some (λ r. r.now) c.rest_after.result ∙ ap is_some c.rest_after.ensures
    ∙ ap (λ f. is_some (rest_after f c.as_slice-2.result.now)) (c.as_slice.ensures ∙ c.front.view_is) ∙ ap (has_prefix c.args.front.now) (c.as_slice-2.ensures ∙ c.self.view_is)

pub returns-clause-prefix : goal.returns-clause-prefix
returns-clause-prefix c =
    (λ there. (has_prefix_tells c.args.front.now c.args.self.now).0 (sym (value c) ∙ there), λ h. value c ∙ (has_prefix_tells c.args.front.now c.args.self.now).1 h)
