-- The names of prims, of variant sets and of variants, by what stands directly below their owner.
use Rattle.std.specs.Prelude.{◌≡◌, ℕ, Bool, true, false, List, [], ◌∷◌, ◌++◌, map, Option, Some, None}
use Rattle.std.specs.List.{IsDistinct, list_any}
use Rattle.sdf_paths.specs.Paths.{IsPath, is_empty, is_property}
use Rattle.sdf_paths.specs.declared.element.Element.{Element}
use Rattle.sdf_paths.specs.declared.element.Element.TheVariants.{Prim, Selection}
use Rattle.spec_parts.specs.declared.items.Specifier.{Specifier}
use Rattle.spec_parts.specs.declared.items.Specifier.TheVariants.{Over}
use Rattle.spec_parts.specs.declared.items.VariantSet.{VariantSet}
use Rattle.spec_properties.specs.Properties.{same_name}
use Rattle.usd_names.specs.Names.{is_identifier}
use Rattle.value_texts.specs.Each.{AreAll}

-- the path of a prim or of a variant, within the limits of paths
pub record IsPlace (path : List Element) : Type 0 where
  pub within : IsPath path
  pub below_root : is_empty path ≡ false
  pub unlike_property : is_property path ≡ false

-- the name is one of these
abbrev pub is_among : List ℕ → List (List ℕ) → Bool
is_among name names = list_any (same_name name) names

-- the names of the variant sets, in their order
abbrev pub set_names : List VariantSet → List (List ℕ)
set_names sets = map (λ s. s.set) sets

-- at which paths something stands
module _ (stands : List Element → Bool) where
  -- the names are those of the prims, or of the variants of a set, that stand directly below a path, each once
  pub record AreNamesBelow (path : List Element) (named : List ℕ → Element) (names : List (List ℕ)) : Type 0 where
    pub once : IsDistinct same_name names
    pub each : AreAll (λ name. stands (path ++ named name ∷ []) ≡ true) names
    pub all : (name : List ℕ) → stands (path ++ named name ∷ []) ≡ true → is_among name names ≡ true

  -- the sets are those of the variants that stand directly below a path, each once; a set may also have no variants
  pub record AreSetsBelow (path : List Element) (sets : List VariantSet) : Type 0 where
    pub once : IsDistinct same_name (set_names sets)
    pub named : AreAll (λ s. is_identifier s.set ≡ true) sets
    pub each : AreAll (λ s. AreNamesBelow path (Selection s.set) s.variants) sets
    pub all : (set variant : List ℕ) → stands (path ++ Selection set variant ∷ []) ≡ true → is_among set (set_names sets) ≡ true

  -- an owner at a path with these children and variant sets names all that stands directly below it
  pub record AreBelow (path : List Element) (child_names : List (List ℕ)) (variant_sets : List VariantSet) : Type 0 where
    pub children : AreNamesBelow path Prim child_names
    pub sets : AreSetsBelow path variant_sets

-- a variant is `over` and has no type; the first argument is the last element of its path
abbrev pub IsVariantOf : Option Element → Specifier → Option (List ℕ) → Type 0
IsVariantOf (Some (Selection set variant)) specifier type_name = (specifier ≡ Over) × (type_name ≡ None)
IsVariantOf last specifier type_name = Unit {0}
