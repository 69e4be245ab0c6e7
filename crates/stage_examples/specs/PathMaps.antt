-- What a path behind an arc is called on the side of the prim that has the arc.
use Rattle.std.specs.Prelude.{◌≡◌, List, [], ◌∷◌, codes, Some, None}
use Rattle.path_maps.specs.Maps.{ArcPaths, translated, lifted}
use Rattle.path_maps.specs.declared.kind.ArcKind.TheVariants.{Inherits, Variant, Reference, Payload, Specializes}
use Rattle.sdf_paths.specs.declared.element.Element.{Element}
use Rattle.sdf_paths.specs.declared.element.Element.TheVariants.{Prim, Property, Selection}

-- through the arc the first path becomes the second
abbrev pub Moves : ArcPaths → List Element → List Element → Type 0
Moves arc path there = translated arc.kind arc.target arc.author path ≡ Some there

-- the path stays as it is
abbrev pub Stays : ArcPaths → List Element → Type 0
Stays arc path = Moves arc path path

-- the path has no translation: as a target it is left out, with a fault
abbrev pub IsOutside : ArcPaths → List Element → Type 0
IsOutside arc path = translated arc.kind arc.target arc.author path ≡ None

-- a class behind the arc is looked up again at this path
abbrev pub IsLifted : ArcPaths → List Element → List Element → Type 0
IsLifted arc class there = lifted arc.target arc.author class ≡ there

-- /A
abbrev pub a : List Element
a = Prim (codes "A") ∷ []

-- /Model
abbrev pub model : List Element
model = Prim (codes "Model") ∷ []

-- /World/char
abbrev pub world_char : List Element
world_char = Prim (codes "World") ∷ Prim (codes "char") ∷ []

-- /_c
abbrev pub class_c : List Element
class_c = Prim (codes "_c") ∷ []

-- def "World" { def "char" (references = @m.usda@</Model>) {} }
abbrev pub by_reference : ArcPaths
by_reference = record { kind = Reference; target = model; author = world_char }

pub record ReferencesAreTold : Type 0 where
  -- the author stands for the target
  pub target : Moves by_reference model world_char
  -- and what lies below the target lies below the author: /Model/geo.x is /World/char/geo.x
  pub below :
      Moves by_reference
      (Prim (codes "Model") ∷ Prim (codes "geo") ∷ Property (codes "x") ∷ [])
      (Prim (codes "World") ∷ Prim (codes "char") ∷ Prim (codes "geo") ∷ Property (codes "x") ∷ [])
  pub property :
      Moves by_reference
      (Prim (codes "Model") ∷ Property (codes "x") ∷ [])
      (Prim (codes "World") ∷ Prim (codes "char") ∷ Property (codes "x") ∷ [])
  -- a variant of the target is one of the author: /Model{s=x}geo is /World/char{s=x}geo
  pub selection :
      Moves by_reference
      (Prim (codes "Model") ∷ Selection (codes "s") (codes "x") ∷ Prim (codes "geo") ∷ [])
      (Prim (codes "World") ∷ Prim (codes "char") ∷ Selection (codes "s") (codes "x") ∷ Prim (codes "geo") ∷ [])
  -- a reference brings in its target and nothing else of the other layer
  pub outside : IsOutside by_reference (Prim (codes "Other") ∷ [])
  pub root : IsOutside by_reference []
  -- /Model2 is another prim than /Model
  pub longer_name : IsOutside by_reference (Prim (codes "Model2") ∷ [])
  -- the other layer does not see the prim that refers to it
  pub author : IsOutside by_reference world_char

-- a payload to a variant: def "B" (payload = @m.usda@</M{s=x}>) {} in the variant `y` of the set `t` of `A`
abbrev pub by_payload : ArcPaths
by_payload = record {
  kind = Payload;
  target = Prim (codes "M") ∷ Selection (codes "s") (codes "x") ∷ [];
  author = Prim (codes "A") ∷ Selection (codes "t") (codes "y") ∷ Prim (codes "B") ∷ [];
}

pub record PayloadsAreTold : Type 0 where
  -- /M{s=x}geo.p is /A{t=y}B/geo.p
  pub below :
      Moves by_payload
      (Prim (codes "M") ∷ Selection (codes "s") (codes "x") ∷ Prim (codes "geo") ∷ Property (codes "p") ∷ [])
      (Prim (codes "A") ∷ Selection (codes "t") (codes "y") ∷ Prim (codes "B") ∷ Prim (codes "geo") ∷ Property (codes "p") ∷ [])
  -- a variant inside the variant: /M{s=x}{u=z} is /A{t=y}B{u=z}
  pub inner_variant :
      Moves by_payload
      (Prim (codes "M") ∷ Selection (codes "s") (codes "x") ∷ Selection (codes "u") (codes "z") ∷ [])
      (Prim (codes "A") ∷ Selection (codes "t") (codes "y") ∷ Prim (codes "B") ∷ Selection (codes "u") (codes "z") ∷ [])
  -- what the prim has outside the variant, and what another variant has, is not brought in
  pub outside : IsOutside by_payload (Prim (codes "M") ∷ Prim (codes "geo") ∷ [])
  pub other_variant : IsOutside by_payload (Prim (codes "M") ∷ Selection (codes "s") (codes "w") ∷ Prim (codes "geo") ∷ [])
  pub author : IsOutside by_payload (Prim (codes "A") ∷ Selection (codes "t") (codes "y") ∷ Prim (codes "B") ∷ [])

-- def "A" (inherits = </_c>) {}
abbrev pub by_inherits : ArcPaths
by_inherits = record { kind = Inherits; target = class_c; author = a }

-- class arcs stay in one layer stack, so what lies outside the class keeps its name
pub record InheritsAreTold : Type 0 where
  pub class : Moves by_inherits class_c a
  -- /_c/k.p is /A/k.p
  pub below :
      Moves by_inherits
      (Prim (codes "_c") ∷ Prim (codes "k") ∷ Property (codes "p") ∷ [])
      (Prim (codes "A") ∷ Prim (codes "k") ∷ Property (codes "p") ∷ [])
  pub outside : Stays by_inherits (Prim (codes "Other") ∷ [])
  pub root : Stays by_inherits []
  -- /_cd is no part of the class, and /AB none of the prim that inherits
  pub longer_class : Stays by_inherits (Prim (codes "_cd") ∷ [])
  pub longer_author : Stays by_inherits (Prim (codes "AB") ∷ [])
  -- a class cannot mean one of the prims that inherit it, nor what they have, in a variant or not
  pub author : IsOutside by_inherits a
  pub below_author : IsOutside by_inherits (Prim (codes "A") ∷ Prim (codes "k") ∷ [])
  pub author_property : IsOutside by_inherits (Prim (codes "A") ∷ Property (codes "p") ∷ [])
  pub author_variant : IsOutside by_inherits (Prim (codes "A") ∷ Selection (codes "s") (codes "x") ∷ Prim (codes "k") ∷ [])

-- variantSet "s" = { "x" { def "B" (specializes = </_c>) {} } }, at `A`
abbrev pub by_specializes : ArcPaths
by_specializes = record { kind = Specializes; target = class_c; author = Prim (codes "A") ∷ Selection (codes "s") (codes "x") ∷ Prim (codes "B") ∷ [] }

pub record SpecializesAreTold : Type 0 where
  -- /_c/k is /A{s=x}B/k
  pub below :
      Moves by_specializes
      (Prim (codes "_c") ∷ Prim (codes "k") ∷ [])
      (Prim (codes "A") ∷ Selection (codes "s") (codes "x") ∷ Prim (codes "B") ∷ Prim (codes "k") ∷ [])
  -- /A/B is the author on the stage, whichever variant is selected
  pub author : IsOutside by_specializes (Prim (codes "A") ∷ Prim (codes "B") ∷ Prim (codes "k") ∷ [])
  pub author_elsewhere : IsOutside by_specializes (Prim (codes "A") ∷ Selection (codes "s") (codes "y") ∷ Prim (codes "B") ∷ [])
  -- what stands above the author or beside it stays, with its selections
  pub above : Stays by_specializes a
  pub beside : Stays by_specializes (Prim (codes "A") ∷ Selection (codes "s") (codes "x") ∷ Prim (codes "C") ∷ [])

-- the variant `x` of the set `s` of `A`
abbrev pub by_variant : ArcPaths
by_variant = record { kind = Variant; target = Prim (codes "A") ∷ Selection (codes "s") (codes "x") ∷ []; author = a }

-- on the stage no path selects a variant
pub record VariantsAreTold : Type 0 where
  pub target : Moves by_variant (Prim (codes "A") ∷ Selection (codes "s") (codes "x") ∷ []) a
  -- /A{s=x}k.p is /A/k.p
  pub below :
      Moves by_variant
      (Prim (codes "A") ∷ Selection (codes "s") (codes "x") ∷ Prim (codes "k") ∷ Property (codes "p") ∷ [])
      (Prim (codes "A") ∷ Prim (codes "k") ∷ Property (codes "p") ∷ [])
  -- selections of another prim are dropped too: /B{t=y}{u=z}C is /B/C
  pub elsewhere :
      Moves by_variant
      (Prim (codes "B") ∷ Selection (codes "t") (codes "y") ∷ Selection (codes "u") (codes "z") ∷ Prim (codes "C") ∷ [])
      (Prim (codes "B") ∷ Prim (codes "C") ∷ [])
  pub plain : Stays by_variant (Prim (codes "A") ∷ Prim (codes "k") ∷ [])
  pub root : Stays by_variant []

-- def "M" { def "N" (references = @n.usda@</P>) {} }, and def "A" (references = @m.usda@</M>) {} in a layer above
abbrev pub inner : ArcPaths
inner = record { kind = Reference; target = Prim (codes "P") ∷ []; author = Prim (codes "M") ∷ Prim (codes "N") ∷ [] }

abbrev pub outer : ArcPaths
outer = record { kind = Reference; target = Prim (codes "M") ∷ []; author = a }

-- a target that `P` authors goes through the inner reference first, and then through the outer one
pub record ChainsAreTold : Type 0 where
  -- /P/q is /M/N/q in the middle layer, and /A/N/q on the stage
  pub first : Moves inner (Prim (codes "P") ∷ Prim (codes "q") ∷ []) (Prim (codes "M") ∷ Prim (codes "N") ∷ Prim (codes "q") ∷ [])
  pub second : Moves outer (Prim (codes "M") ∷ Prim (codes "N") ∷ Prim (codes "q") ∷ []) (Prim (codes "A") ∷ Prim (codes "N") ∷ Prim (codes "q") ∷ [])
  -- what the middle layer authors goes through the outer one alone
  pub of_the_middle : Moves outer (Prim (codes "M") ∷ Prim (codes "end") ∷ []) (Prim (codes "A") ∷ Prim (codes "end") ∷ [])
  pub lost_at_once : IsOutside inner (Prim (codes "Z") ∷ [])
  pub lost_in_the_middle : IsOutside outer (Prim (codes "Q") ∷ [])

-- through the reference of `char`: the class that its own layer stack may have in place of one of the model's
pub record LiftsAreTold : Type 0 where
  -- a class below the model is looked up below `char`
  pub below :
      IsLifted by_reference
      (Prim (codes "Model") ∷ Prim (codes "_c") ∷ [])
      (Prim (codes "World") ∷ Prim (codes "char") ∷ Prim (codes "_c") ∷ [])
  pub target : IsLifted by_reference model world_char
  pub selection :
      IsLifted by_reference
      (Prim (codes "Model") ∷ Selection (codes "s") (codes "x") ∷ Prim (codes "_c") ∷ [])
      (Prim (codes "World") ∷ Prim (codes "char") ∷ Selection (codes "s") (codes "x") ∷ Prim (codes "_c") ∷ [])
  -- a global class has the same path on both sides
  pub global : IsLifted by_reference (Prim (codes "_g") ∷ []) (Prim (codes "_g") ∷ [])
  -- and so has one that this side has already
  pub own :
      IsLifted by_reference
      (Prim (codes "World") ∷ Prim (codes "char") ∷ Prim (codes "_c") ∷ [])
      (Prim (codes "World") ∷ Prim (codes "char") ∷ Prim (codes "_c") ∷ [])

pub record AreTold : Type 0 where
  pub references : ReferencesAreTold
  pub payloads : PayloadsAreTold
  pub inherits : InheritsAreTold
  pub specializes : SpecializesAreTold
  pub variants : VariantsAreTold
  pub chains : ChainsAreTold
  pub lifts : LiftsAreTold
