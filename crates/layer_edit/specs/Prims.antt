-- Adding and removing prims, variants and properties.
use Rattle.std.specs.Prelude.{ℕ, Bool, not, if◌then◌else◌, List, [], ◌∷◌, ◌++◌, map, filter, Option, Some, Ok}
use Rattle.std.specs.List.{list_any, flat_map}
use Rattle.sdf_paths.specs.Paths.{is_empty}
use Rattle.sdf_paths.specs.declared.element.Element.{Element}
use Rattle.sdf_paths.specs.declared.element.Element.TheVariants.{Prim, Property as Named, Selection}
use Rattle.sdf_specs.specs.Layers.{LayerTable, with_spec, without_tree, has_parent}
use Rattle.spec_parts.specs.Blank.{blank_spec, blank_body}
use Rattle.spec_parts.specs.declared.items.Specifier.{Specifier}
use Rattle.spec_parts.specs.declared.items.Specifier.TheVariants.{Over}
use Rattle.spec_parts.specs.declared.items.VariantSet.{VariantSet}
use Rattle.spec_parts.specs.declared.spec.Spec.{Spec}
use Rattle.spec_properties.specs.Properties.{same_name, without_property}
use Rattle.layer_edit.specs.Outcomes.{Made, passing}
use Rattle.layer_edit.specs.Places.{last_element, above, is_prim_path, is_variant_path, has_spec, changed_spec, with_properties}
use Rattle.edit_batches.specs.declared.fault.EditFault.TheVariants.{WrongPath, NoParent, NoSpec, SpecThere}

-- ---- names in the owner

-- a name becomes the last
abbrev pub with_name : List ℕ → List (List ℕ) → List (List ℕ)
with_name name names = names ++ name ∷ []

-- the names but this one, in their order
abbrev pub without_name : List ℕ → List (List ℕ) → List (List ℕ)
without_name name names = filter (λ n. not (same_name name n)) names

-- the variant set has this name
abbrev pub is_of : List ℕ → VariantSet → Bool
is_of set v = same_name set v.set

-- a variant set of this name with the variant as its last; another set as it is
abbrev pub grown : List ℕ → List ℕ → VariantSet → VariantSet
grown set variant v = if is_of set v then record v { variants = with_name variant v.variants } else v

-- a new variant set has one variant
abbrev pub new_set : List ℕ → List ℕ → VariantSet
new_set set variant = record { set = set; variants = variant ∷ [] }

-- a variant becomes the last of its set, and a set that is not there the last of all
abbrev pub with_variant : List ℕ → List ℕ → List VariantSet → List VariantSet
with_variant set variant sets = if list_any (is_of set) sets then map (grown set variant) sets else sets ++ new_set set variant ∷ []

-- the last variant takes its set along
abbrev pub if_any : VariantSet → List (List ℕ) → List VariantSet
if_any v [] = []
if_any v (n ∷ ns) = record v { variants = n ∷ ns } ∷ []

-- of the set of this name the variant is taken away, any other set stays
abbrev pub shrunk : List ℕ → List ℕ → VariantSet → List VariantSet
shrunk set variant v = if is_of set v then if_any v (without_name variant v.variants) else v ∷ []

-- the variant sets without a variant
abbrev pub without_variant : List ℕ → List ℕ → List VariantSet → List VariantSet
without_variant set variant sets = flat_map (shrunk set variant) sets

-- a spec with the names of its children changed
abbrev pub with_children : (List (List ℕ) → List (List ℕ)) → Spec → Spec
with_children change s = record s { body = record s.body { children = change s.body.children } }

-- a spec with its variant sets changed
abbrev pub with_sets : (List VariantSet → List VariantSet) → Spec → Spec
with_sets change s = record s { body = record s.body { variant_names = change s.body.variant_names } }

-- the layer with the names of an owner's children changed; those of `/` stand in the head
abbrev pub renamed : List Element → (List (List ℕ) → List (List ℕ)) → LayerTable → LayerTable
renamed [] change layer = record layer { head = record layer.head { root_names = change layer.head.root_names } }
renamed (e ∷ owner) change layer = changed_spec (e ∷ owner) (with_children change) layer

-- the layer with the variant sets of an owner changed
abbrev pub with_variants : List Element → (List VariantSet → List VariantSet) → LayerTable → LayerTable
with_variants owner change layer = changed_spec owner (with_sets change) layer

-- the owner names what is added below it, behind its other names; a property is not named
abbrev pub listed : Option Element → List Element → LayerTable → LayerTable
listed (Some (Prim name)) owner layer = renamed owner (with_name name) layer
listed (Some (Selection set variant)) owner layer = with_variants owner (with_variant set variant) layer
listed last owner layer = layer

-- the owner no longer names what is removed below it
abbrev pub unlisted : Option Element → List Element → LayerTable → LayerTable
unlisted (Some (Prim name)) owner layer = renamed owner (without_name name) layer
unlisted (Some (Selection set variant)) owner layer = with_variants owner (without_variant set variant) layer
unlisted last owner layer = layer

-- ---- the edits

-- with a spec at a path, which its owner names
unfoldable pub with_new_spec : List Element → Spec → LayerTable → LayerTable
with_new_spec path spec layer = listed (last_element path) (above path) (record layer { specs = with_spec path spec layer.specs })

-- the spec of a new prim: a specifier, a type or none, and nothing more
abbrev pub prim_spec : Specifier → Option (List ℕ) → Spec
prim_spec specifier type_name = record (blank_spec specifier) { body = record (blank_body specifier) { type_name = type_name } }

-- a prim is added at a path that ends in a name and has no spec, below `/` or a spec
unfoldable pub prim_added : List Element → Specifier → Option (List ℕ) → LayerTable → Made LayerTable
prim_added path specifier type_name layer =
    passing ((not (is_prim_path path), WrongPath) ∷ (not (has_parent path layer.specs), NoParent) ∷ (has_spec path layer, SpecThere) ∷ [])
    (Ok (with_new_spec path (prim_spec specifier type_name) layer))

-- a variant is added at a path that ends in a selection and has no spec, below a spec; it says nothing, as an `over`
unfoldable pub variant_added : List Element → LayerTable → Made LayerTable
variant_added path layer =
    passing ((not (is_variant_path path), WrongPath) ∷ (not (has_parent path layer.specs), NoParent) ∷ (has_spec path layer, SpecThere) ∷ [])
    (Ok (with_new_spec path (blank_spec Over) layer))

-- a property goes from the spec of its owner; with a prim or a variant goes its name in the owner
abbrev pub without_part : Option Element → List Element → LayerTable → LayerTable
without_part (Some (Named name)) path layer = changed_spec (above path) (λ s. with_properties (without_property name s.body.properties) s) layer
without_part last path layer = unlisted last (above path) (record layer { specs = without_tree path layer.specs })

-- a prim or a variant goes with all below it
unfoldable pub removed : List Element → LayerTable → Made LayerTable
removed path layer =
    passing ((is_empty path, WrongPath) ∷ (not (has_spec path layer), NoSpec) ∷ [])
    (Ok (without_part (last_element path) path layer))
