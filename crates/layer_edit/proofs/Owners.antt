-- Paths without their last element, and what the last element tells of a path.
use Rattle.std.proofs.Common.{◌≡◌, ◌∙◌, sym, ap, refl, arith, ◌-◌, suc, Bool, true, false, ◌&&◌, List, [], ◌∷◌, length, Option, Some, None}
use Rattle.std.specs.Prelude.{slice_get}
use Rattle.sdf_paths.specs.Paths.{parent, is_ordered, is_property, IsPath}
use Rattle.sdf_paths.specs.declared.element.Element.{Element}
use Rattle.sdf_paths.specs.declared.element.Element.TheVariants.{Prim, Property as Named, Selection}
use Rattle.layer_edit.specs.Places.{last_element, above, ends_in_prim, ends_in_variant, ends_in_property, is_prim_path, is_variant_path}

pub above_some : (p o : List Element) → Some o ≡ parent p → o ≡ above p
above_some [] o h = absurd cc
above_some (e ∷ rest) o h = cc

pub above_none : (p : List Element) → None ≡ parent p → [] ≡ above p
above_none [] h = refl
above_none (e ∷ rest) h = absurd cc

last_more : (e f : Element) (rest : List Element) → last_element (e ∷ f ∷ rest) ≡ last_element (f ∷ rest)
last_more e f rest =
    let first : length (e ∷ f ∷ rest) - 1 ≡ suc (length rest) = omega arith in
    let second : length (f ∷ rest) - 1 ≡ length rest = omega arith in
    ap (slice_get (e ∷ f ∷ rest)) first ∙ ap (slice_get (f ∷ rest)) (sym second)

second_of : (a b : Bool) → a && b ≡ true → b ≡ true
second_of true b h = h
second_of false b h = absurd cc

never : (b : Bool) → b && false ≡ true → ⊥
never true h = absurd cc
never false h = absurd cc

-- nothing follows a property, so only the last element can be one
no_property : (named : Bool) (path : List Element) → is_ordered named path ≡ true → ends_in_property (last_element path) ≡ false → is_property path ≡ false
no_property named [] ordered last = refl
no_property named (Prim n ∷ []) ordered last = refl
no_property named (Selection s v ∷ []) ordered last = refl
no_property named (Named n ∷ []) ordered last = absurd cc
no_property named (Prim n ∷ f ∷ rest) ordered last = no_property true (f ∷ rest) ordered (sym (ap ends_in_property (last_more (Prim n) f rest)) ∙ last)
no_property named (Selection s v ∷ f ∷ rest) ordered last =
    no_property true (f ∷ rest) (second_of named (is_ordered true (f ∷ rest)) ordered) (sym (ap ends_in_property (last_more (Selection s v) f rest)) ∙ last)
no_property named (Named n ∷ f ∷ rest) ordered last = absurd (never named ordered)

prim_is_no_property : (o : Option Element) → ends_in_prim o ≡ true → ends_in_property o ≡ false
prim_is_no_property None h = absurd cc
prim_is_no_property (Some (Prim n)) h = refl
prim_is_no_property (Some (Named n)) h = absurd cc
prim_is_no_property (Some (Selection s v)) h = absurd cc

variant_is_no_property : (o : Option Element) → ends_in_variant o ≡ true → ends_in_property o ≡ false
variant_is_no_property None h = absurd cc
variant_is_no_property (Some (Prim n)) h = absurd cc
variant_is_no_property (Some (Named n)) h = absurd cc
variant_is_no_property (Some (Selection s v)) h = refl

pub prim_path : (path : List Element) → IsPath path → is_prim_path path ≡ true → is_property path ≡ false
prim_path path is h = no_property false path is.well_formed.ordered (prim_is_no_property (last_element path) h)

pub variant_path : (path : List Element) → IsPath path → is_variant_path path ≡ true → is_property path ≡ false
variant_path path is h = no_property false path is.well_formed.ordered (variant_is_no_property (last_element path) h)

pub prim_below : (path : List Element) → is_prim_path path ≡ true → path ≡ [] → ⊥
prim_below [] h e = absurd cc
prim_below (f ∷ rest) h e = absurd cc

pub variant_below : (path : List Element) → is_variant_path path ≡ true → path ≡ [] → ⊥
variant_below [] h e = absurd cc
variant_below (f ∷ rest) h e = absurd cc
