-- What is looked up in a composed prim.
use Rattle.std.specs.Prelude.{ℕ, List, [], ◌∷◌, Option, Some, None, if◌then◌else◌}
use Rattle.std.specs.Str.{bytes_eq}
use Rattle.prim_view.specs.declared.view.PropertyView.{PropertyView}
use Rattle.prim_view.specs.declared.view.PropertyView.TheVariants.{Attr, Rel}

-- the name of an attribute or a relationship
abbrev pub view_name : PropertyView → List ℕ
view_name (Attr name ty custom uniform default samples connections meta) = name
view_name (Rel name custom targets meta) = name

-- the first property of a name
abbrev pub property_of : List ℕ → List PropertyView → Option PropertyView
property_of name [] = None
property_of name (p ∷ ps) = if bytes_eq (view_name p) name then Some p else property_of name ps
