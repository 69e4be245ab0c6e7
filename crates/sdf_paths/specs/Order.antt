-- The order of paths: element by element, a path before those that go on from it.
-- A prim's name comes before a property's, and that before a selection; names compare as bytes.
use Rattle.std.specs.Prelude.{ℕ, List}
use Rattle.std.specs.Ordering.{nat_cmp, ordering_then}
use Rattle.std.specs.Cmp.Lexicographic.{slice_cmp}
use Rattle.std.specs.declared.cmp.Ordering.{Ordering}
use Rattle.std.specs.declared.cmp.Ordering.TheVariants.{Less, Greater}
use Rattle.sdf_paths.specs.declared.element.Element.{Element}
use Rattle.sdf_paths.specs.declared.element.Element.TheVariants.{Prim, Property, Selection}

-- names compare as bytes
abbrev pub text_cmp : List ℕ → List ℕ → Ordering
text_cmp = slice_cmp nat_cmp

-- a prim's name before a property's, and that before a selection; selections by their sets, and then by their variants
abbrev pub element_cmp : Element → Element → Ordering
element_cmp (Prim a) (Prim b) = text_cmp a b
element_cmp (Prim a) (Property b) = Less
element_cmp (Prim a) (Selection t w) = Less
element_cmp (Property a) (Prim b) = Greater
element_cmp (Property a) (Property b) = text_cmp a b
element_cmp (Property a) (Selection t w) = Less
element_cmp (Selection s v) (Prim b) = Greater
element_cmp (Selection s v) (Property b) = Greater
element_cmp (Selection s v) (Selection t w) = ordering_then (text_cmp s t) (text_cmp v w)

-- element by element from the root down, a path before those that go on from it
abbrev pub path_cmp : List Element → List Element → Ordering
path_cmp = slice_cmp element_cmp
