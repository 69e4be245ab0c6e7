-- Worlds of one layer in few words, and what an operation makes of them.
use Rattle.std.specs.Prelude.{◌≡◌, ◌*◌, ◌^◌, ℕ, ℤ, pos, false, List, [], ◌∷◌, codes, Option, Some, None, Ok, Err}
use Rattle.edit_batches.specs.declared.fault.EditFault.{EditFault}
use Rattle.edit_batches.specs.declared.op.Op.{Op}
use Rattle.layer_apply.specs.Edits.{edited}
use Rattle.layer_set.specs.Worlds.{WorldData}
use Rattle.layer_set.specs.declared.held.Held.TheVariants.{Present}
use Rattle.sdf_paths.specs.declared.element.Element.{Element}
use Rattle.sdf_paths.specs.declared.element.Element.TheVariants.{Prim, Property as Named, Selection}
use Rattle.sdf_specs.specs.Layers.{LayerTable, SpecEntries}
use Rattle.sdf_values.specs.declared.type_name.ElementType.TheVariants as element
use Rattle.sdf_values.specs.declared.type_name.TypeName.{TypeName}
use Rattle.sdf_values.specs.declared.value.Value.{Value}
use Rattle.sdf_values.specs.declared.value.Value.TheVariants as value
use Rattle.sdf_values.specs.Conforms.{one}
use Rattle.spec_parts.specs.Blank.{blank_head, blank_body, blank_spec, no_edits}
use Rattle.spec_parts.specs.declared.items.Specifier.TheVariants.{Def}
use Rattle.spec_parts.specs.declared.spec.Spec.{Spec}
use Rattle.spec_properties.specs.Entries.{SampleEntries}
use Rattle.spec_properties.specs.declared.property.Property.{Property}
use Rattle.spec_properties.specs.declared.property.Property.TheVariants.{Attr, Rel}

-- ---- paths, types and values

-- /A, /A/k, /A/m and /A{s=v}
abbrev pub a : List Element
a = Prim (codes "A") ∷ []

abbrev pub a_k : List Element
a_k = Prim (codes "A") ∷ Prim (codes "k") ∷ []

abbrev pub a_m : List Element
a_m = Prim (codes "A") ∷ Prim (codes "m") ∷ []

abbrev pub a_chosen : List Element
a_chosen = Prim (codes "A") ∷ Selection (codes "s") (codes "v") ∷ []

-- /B
abbrev pub b : List Element
b = Prim (codes "B") ∷ []

-- a property of /A
abbrev pub of_a : List ℕ → List Element
of_a name = Prim (codes "A") ∷ Named name ∷ []

abbrev pub int : TypeName
int = one element.Int

abbrev pub whole : ℕ → Value
whole n = value.Whole (pos n)

-- a time of the stage: times count units of 10^-18
abbrev pub time : ℕ → ℤ
time n = pos (n * 10 ^ 18)

-- ---- layers

-- int x, with its default and its samples
abbrev pub int_x : Option Value → SampleEntries → Property
int_x default samples = Attr (codes "x") int false false default samples no_edits []

-- rel r
abbrev pub rel_r : Property
rel_r = Rel (codes "r") false no_edits []

-- def "A", with its properties and the names of its children
abbrev pub def_a : List Property → List (List ℕ) → Spec
def_a properties children = record (blank_spec Def) { body = record (blank_body Def) { properties = properties; children = children } }

-- a layer with the root prim A and these specs
abbrev pub layer_of : SpecEntries → LayerTable
layer_of specs = record { head = record blank_head { root_names = codes "A" ∷ [] }; specs = specs }

-- the layer
--   def "A"
--   {
--       int x = 1
--       rel r
--
--       def "k"
--       {
--       }
--   }
abbrev pub start : LayerTable
start = layer_of ((a, def_a (int_x (Some (whole 1)) [] ∷ rel_r ∷ []) (codes "k" ∷ [])) ∷ (a_k, blank_spec Def) ∷ [])

-- ---- operations on a world of one layer

-- the name of the layer in each of the operations
abbrev pub root : List ℕ
root = codes "root.usda"

-- the world whose only layer is the root layer
abbrev pub world : LayerTable → WorldData
world layer = record { root = root; session = None; layers = (root, Present layer) ∷ []; rules = [] }

-- the operation makes the second layer of the first
abbrev pub Makes : Op → LayerTable → LayerTable → Type 0
Makes o before after = edited o (world before) ≡ Ok (world after)

-- the operation is refused on this layer
abbrev pub Fails : Op → LayerTable → EditFault → Type 0
Fails o before fault = edited o (world before) ≡ Err fault
