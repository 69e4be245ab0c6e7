-- The tree of prims and variants while a layer is read: what is closed has its spec, and what is open is known by its frame.
use Rattle.std.specs.Prelude.{◌≡◌, ℕ, Bool, true, false, ◌||◌, List, [], ◌∷◌, ◌++◌, Option, Some, None, is_some}
use Rattle.std.specs.List.{list_any}
use Rattle.std.specs.Ordering.{is_eq}
use Rattle.plain_data.specs.Ends.{last}
use Rattle.sdf_paths.specs.Order.{path_cmp, text_cmp}
use Rattle.sdf_paths.specs.declared.element.Element.{Element}
use Rattle.sdf_paths.specs.declared.element.Element.TheVariants.{Prim}
use Rattle.sdf_specs.specs.Layers.{LayerTable, SpecEntries, AreSpecs, spec_at, has_parent}
use Rattle.spec_parts.specs.declared.items.Specifier.{Specifier}
use Rattle.spec_parts.specs.declared.items.VariantSet.{VariantSet}
use Rattle.spec_parts.specs.declared.spec.Spec.{Spec}
use Rattle.spec_properties.specs.Properties.{AreProperties}
use Rattle.spec_properties.specs.declared.property.Property.{Property}
use Rattle.spec_tables.specs.Tables.{at_key}
use Rattle.value_texts.specs.Each.{AreAll}
use Rattle.trees_read.specs.Names.{IsPlace, is_among, set_names, AreNamesBelow, AreSetsBelow, AreBelow, IsVariantOf}

-- ---- layers

-- a spec stands at the path
abbrev pub has_spec : SpecEntries → List Element → Bool
has_spec specs path = is_some (spec_at path specs)

-- a spec at its path, which has an owner, which names all that stands directly below it, and of whose properties each stands once
pub record IsPlaced (specs : SpecEntries) (path : List Element) (spec : Spec) : Type 0 where
  pub place : IsPlace path
  pub owned : has_parent path specs ≡ true
  pub variant : IsVariantOf (last path) spec.body.specifier spec.body.type_name
  pub children : AreNamesBelow (has_spec specs) path Prim spec.body.children
  pub sets : AreSetsBelow (has_spec specs) path spec.body.variant_names
  pub once : AreProperties spec.body.properties

-- the specs are in the order of paths, each at the path of a prim or a variant that has an owner, and the names of root prims, children
-- and variants are exactly those of the specs; the properties of each stand once
pub record IsProperTree (layer : LayerTable) : Type 0 where
  pub ordered : AreSpecs layer.specs
  pub roots : AreNamesBelow (has_spec layer.specs) [] Prim layer.head.root_names
  pub entries : AreAll (λ e. IsPlaced layer.specs e.0 e.1) layer.specs

-- ---- while a layer is read

-- what is known of a prim or a variant that is open, or of the layer itself
pub record Frame : Type 0 where
  pub path : List Element
  pub specifier : Specifier
  pub type_name : Option (List ℕ)
  pub children : List (List ℕ)
  pub properties : List Property
  pub sets : List VariantSet
  pub set_names : List (List ℕ × Bool)
  pub set : List ℕ

-- the specs of what is closed, and the frames of what is open, the innermost first
pub record Tree : Type 0 where
  pub specs : SpecEntries
  pub owners : List Frame

-- both paths are one
abbrev pub is_one : List Element → List Element → Bool
is_one p q = is_eq (path_cmp p q)

-- an owner at the path is open
abbrev pub is_open_at : List Frame → List Element → Bool
is_open_at owners path = list_any (λ o. is_one path o.path) owners

-- something stands at the path, closed or open
abbrev pub stands : Tree → List Element → Bool
stands t path = has_spec t.specs path || is_open_at t.owners path

-- the second path is one element longer than the first, which it begins with
abbrev pub IsDirectlyBelow : List Element → List Element → Type 0
IsDirectlyBelow owner path = (e : Element) × (path ≡ owner ++ e ∷ [])

-- each owner stands directly below the one outside it, up to the layer itself
abbrev pub AreChained : List Frame → Type 0
AreChained [] = ⊥
AreChained (o ∷ []) = o.path ≡ []
AreChained (o ∷ p ∷ owners) = IsDirectlyBelow p.path o.path × IsPlace o.path × AreChained (p ∷ owners)

-- the set whose variants are read is the last one
abbrev pub IsLastSet : List ℕ → Option VariantSet → Type 0
IsLastSet set None = set ≡ []
IsLastSet set (Some s) = s.set ≡ set

-- what an owner keeps of itself: the table of the names of its sets, the set whose variants are read, the form of a variant, and that
-- each property stands once
pub record IsFrame (o : Frame) : Type 0 where
  pub indexed : (name : List ℕ) → is_some (at_key text_cmp name o.set_names) ≡ is_among name (set_names o.sets)
  pub last_set : IsLastSet o.set (last o.sets)
  pub variant : IsVariantOf (last o.path) o.specifier o.type_name
  pub once : AreProperties o.properties

-- the specs alone
pub record AreClosed (specs : SpecEntries) : Type 0 where
  pub ordered : AreSpecs specs
  pub places : AreAll (λ e. IsPlace e.0) specs
  pub variants : AreAll (λ e. IsVariantOf (last e.0) e.1.body.specifier e.1.body.type_name) specs
  pub once : AreAll (λ e. AreProperties e.1.body.properties) specs

-- the owners that are open, none of which has a spec
pub record AreOpen (specs : SpecEntries) (owners : List Frame) : Type 0 where
  pub chained : AreChained owners
  pub new : AreAll (λ o. has_spec specs o.path ≡ false) owners
  pub frames : AreAll IsFrame owners

-- what stands has an owner, and each owner names what stands below it
pub record AreOwned (stands : List Element → Bool) (specs : SpecEntries) (owners : List Frame) : Type 0 where
  pub owned : (path : List Element) (e : Element) → stands (path ++ e ∷ []) ≡ true → stands path ≡ true
  pub closed : AreAll (λ e. AreBelow stands e.0 e.1.body.children e.1.body.variant_names) specs
  pub opened : AreAll (λ o. AreBelow stands o.path o.children o.sets) owners

-- the tree is proper as far as it is read
pub record IsSound (t : Tree) : Type 0 where
  pub closed : AreClosed t.specs
  pub opened : AreOpen t.specs t.owners
  pub owned : AreOwned (stands t) t.specs t.owners
