-- Paths of names of prims alone: neither properties nor paths with variant selections.
use Rattle.std.proofs.Common.{◌≡◌, refl, true, false, [], ◌∷◌}
use Rattle.std.specs.List.{list_all}
use Rattle.composition.specs.Paths.{Path}
use Rattle.sdf_paths.specs.Paths.{is_plain, is_property, is_prim_name}
use Rattle.sdf_paths.specs.declared.element.Element.TheVariants.{Prim, Property, Selection}

pub with_property : (p : Path) → is_property p ≡ true → false ≡ list_all is_prim_name p
with_property [] h = absurd cc
with_property (Prim n ∷ p) h = with_property p h
with_property (Property n ∷ p) h = refl
with_property (Selection s v ∷ p) h = refl

pub without_property : (p : Path) → is_property p ≡ false → is_plain p ≡ list_all is_prim_name p
without_property [] h = refl
without_property (Prim n ∷ p) h = without_property p h
without_property (Property n ∷ p) h = absurd cc
without_property (Selection s v ∷ p) h = refl
