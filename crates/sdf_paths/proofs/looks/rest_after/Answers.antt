use Rattle.std.proofs.Common.{◌≡◌, ◌<◌, length, Bool, true, false, List, [], ◌∷◌, Option, None, arith, refl}
use Rattle.sdf_paths.specs.declared.element.Element.{Element}
use Rattle.sdf_paths.specs.Paths.{rest_after, same_element}
use Rattle.sdf_paths.proofs.looks.rest_after.Goals as goal

none_either : (b : Bool) (o : Option (List Element)) → None ≡ o → ◌≡◌ {A = Option (List Element)} None (elim b [ true ↦ o | false ↦ None ])
none_either true o h = h
none_either false o h = refl

-- a list does not begin with a longer one
longer : (front path : List Element) → length path < length front → None ≡ rest_after front path
longer [] path h = absurd (omega arith)
longer (x ∷ front) [] h = refl
longer (x ∷ front) (y ∷ path) h = none_either (same_element x y) (rest_after front path) (longer front path (omega arith))

pub returns-then-front-path : goal.returns-then-front-path
returns-then-front-path c = longer c.args.front.now c.args.path.now c.if-front-path.true
