-- Stages with the layers that they are flattened to.
use Rattle.std.specs.Prelude.{◌≡◌, ℕ, ◌*◌, ◌^◌, ℤ, pos, true, false, List, [], ◌∷◌, codes, Option, Some, None}
use Rattle.flatten.specs.Flattened.{Stage, flat_property, flat_spec, flat_head, flat_layer}
use Rattle.prim_view.specs.declared.fault.PrimFault.TheVariants.{ChildTooLong}
use Rattle.prim_view.specs.declared.view.PrimView.{PrimView}
use Rattle.prim_view.specs.declared.view.PropertyView.{PropertyView}
use Rattle.prim_view.specs.declared.view.PropertyView.TheVariants.{Attr as attribute, Rel as relationship}
use Rattle.sdf_paths.specs.declared.element.Element.{Element}
use Rattle.sdf_paths.specs.declared.element.Element.TheVariants.{Prim, Property}
use Rattle.sdf_specs.specs.Layers.{LayerTable}
use Rattle.sdf_values.specs.declared.type_name.ElementType.TheVariants as element
use Rattle.sdf_values.specs.declared.type_name.TypeName.{TypeName}
use Rattle.sdf_values.specs.declared.value.Value.{Value}
use Rattle.sdf_values.specs.declared.value.Value.TheVariants as value
use Rattle.spec_parts.specs.Blank.{blank_head, blank_body, blank_spec, no_edits}
use Rattle.spec_parts.specs.declared.items.Specifier.{Specifier}
use Rattle.spec_parts.specs.declared.items.Specifier.TheVariants.{Def, Over, Class}
use Rattle.spec_properties.specs.Entries.{SampleEntries}
use Rattle.spec_properties.specs.declared.property.Property.TheVariants.{Attr, Rel}

-- ---- prims in few words

-- a prim of the stage of which nothing but its specifier is known
abbrev pub blank_view : Specifier → PrimView
blank_view specifier = record {
  specifier = specifier;
  type_name = None;
  meta = [];
  api_schemas = None;
  clip_sets = None;
  properties = [];
  children = [];
  choices = [];
  sites = [];
  faults = [];
  since = 0;
}

abbrev pub int : TypeName
int = record { element = element.Int; array = false }

abbrev pub whole : ℕ → Value
whole n = value.Whole (pos n)

-- a time of the stage: times count units of 10^-18
abbrev pub time : ℕ → ℤ
time n = pos (n * 10 ^ 18)

-- an attribute of the type `int`, with what it has as its default, its samples and its connections
abbrev pub int_attribute : List ℕ → Option Value → SampleEntries → Option (List (List Element)) → PropertyView
int_attribute name default samples connections = attribute name int false false default samples connections []

-- a relationship with its targets
abbrev pub targeting : List ℕ → Option (List (List Element)) → PropertyView
targeting name targets = relationship name false targets []

-- /A, /A/k and /B
abbrev pub a : List Element
a = Prim (codes "A") ∷ []

abbrev pub a_k : List Element
a_k = Prim (codes "A") ∷ Prim (codes "k") ∷ []

abbrev pub b : List Element
b = Prim (codes "B") ∷ []

-- ---- properties

pub record PropertiesAreTold : Type 0 where
  -- int x = 5
  pub default : flat_property (int_attribute (codes "x") (Some (whole 5)) [] None) ≡ Attr (codes "x") int false false (Some (whole 5)) [] no_edits []
  -- a blocked default stays blocked: int x = None
  pub blocked : flat_property (int_attribute (codes "x") (Some value.Block) [] None) ≡ Attr (codes "x") int false false (Some value.Block) [] no_edits []
  -- an attribute that is declared and has no value stays one: int x
  pub declared : flat_property (int_attribute (codes "x") None [] None) ≡ Attr (codes "x") int false false None [] no_edits []
  -- samples stand at the times of the stage: int x.timeSamples = {12: 7, 20: 8}
  pub sampled :
      flat_property (int_attribute (codes "x") None ((time 12, whole 7) ∷ (time 20, whole 8) ∷ []) None)
      ≡ Attr (codes "x") int false false None ((time 12, whole 7) ∷ (time 20, whole 8) ∷ []) no_edits []
  -- custom uniform int x = 5, with a comment
  pub marked :
      flat_property (attribute (codes "x") int true true (Some (whole 5)) [] None ((codes "comment", value.Text (codes "c")) ∷ []))
      ≡ Attr (codes "x") int true true (Some (whole 5)) [] no_edits ((codes "comment", value.Text (codes "c")) ∷ [])
  -- connections become an explicit list, whatever edits they came from: int x.connect = [</A.y>]
  pub connected :
      flat_property (int_attribute (codes "x") None [] (Some ((Prim (codes "A") ∷ Property (codes "y") ∷ []) ∷ [])))
      ≡ Attr (codes "x") int false false None [] (record no_edits { explicit = Some ((Prim (codes "A") ∷ Property (codes "y") ∷ []) ∷ []) }) []
  -- and so do targets: rel r = [</A/k>, </B>]
  pub targets : flat_property (targeting (codes "r") (Some (a_k ∷ b ∷ []))) ≡ Rel (codes "r") false (record no_edits { explicit = Some (a_k ∷ b ∷ []) }) []
  -- an empty list of targets is an explicit empty list: rel r = None
  pub no_targets : flat_property (targeting (codes "r") (Some [])) ≡ Rel (codes "r") false (record no_edits { explicit = Some [] }) []
  -- and without an opinion on them there is no list: rel r
  pub no_opinion : flat_property (targeting (codes "r") None) ≡ Rel (codes "r") false no_edits []

-- ---- prims

-- a prim of the stage, with what no spec tells: a variant that is chosen, a fault, and since when it is so
abbrev pub composed : PrimView
composed = record (blank_view Def) {
  type_name = Some (codes "Xform");
  meta = (codes "kind", value.Text (codes "component")) ∷ [];
  api_schemas = Some (codes "P" ∷ []);
  clip_sets = Some [];
  properties = targeting (codes "r") (Some []) ∷ int_attribute (codes "x") (Some value.Block) [] None ∷ [];
  children = codes "m" ∷ codes "k" ∷ [];
  choices = (codes "look", codes "red") ∷ [];
  faults = ChildTooLong (codes "n") ∷ [];
  since = 3;
}

pub record PrimsAreTold : Type 0 where
  -- what is left when the arcs, the variant sets and the orders are gone: schemas and clips as explicit lists, children and
  -- properties in the order of the stage
  pub spec :
      flat_spec composed
      ≡ record (blank_spec Def) {
        body = record (blank_body Def) {
          type_name = Some (codes "Xform");
          meta = (codes "kind", value.Text (codes "component")) ∷ [];
          api_schemas = record no_edits { explicit = Some (codes "P" ∷ []) };
          clip_sets = record no_edits { explicit = Some [] };
          children = codes "m" ∷ codes "k" ∷ [];
          properties = Rel (codes "r") false (record no_edits { explicit = Some [] }) [] ∷ Attr (codes "x") int false false (Some value.Block) [] no_edits [] ∷ [];
        };
      }
  -- a class stays a class, and an `over` an `over`
  pub class : flat_spec (blank_view Class) ≡ blank_spec Class
  pub over : flat_spec (blank_view Over) ≡ blank_spec Over

-- ---- the head

pub record HeadsAreTold : Type 0 where
  pub blank : flat_head (blank_view Over) ≡ blank_head
  -- the default prim is a field of its own, and the other metadata stays: (defaultPrim = "A" upAxis = "Y")
  pub default_prim :
      flat_head (record (blank_view Over) { meta = (codes "defaultPrim", value.Text (codes "A")) ∷ (codes "upAxis", value.Text (codes "Y")) ∷ [] })
      ≡ record blank_head { default_prim = Some (codes "A"); meta = (codes "upAxis", value.Text (codes "Y")) ∷ [] }
  -- what is no string names no prim, and stays with the metadata: (defaultPrim = 5)
  pub no_prim :
      flat_head (record (blank_view Over) { meta = (codes "defaultPrim", whole 5) ∷ [] })
      ≡ record blank_head { meta = (codes "defaultPrim", whole 5) ∷ [] }
  pub no_default_prim :
      flat_head (record (blank_view Over) { meta = (codes "metersPerUnit", whole 1) ∷ (codes "upAxis", value.Text (codes "Y")) ∷ [] })
      ≡ record blank_head { meta = (codes "metersPerUnit", whole 1) ∷ (codes "upAxis", value.Text (codes "Y")) ∷ [] }
  -- the children of `/` are the root prims, in their order
  pub root_prims : flat_head (record (blank_view Over) { children = codes "B" ∷ codes "A" ∷ [] }) ≡ record blank_head { root_names = codes "B" ∷ codes "A" ∷ [] }

-- ---- layers

abbrev pub empty_layer : LayerTable
empty_layer = record { head = blank_head; specs = [] }

-- the stage that is printed so, and the layer that says it
--   #usda 1.0
--   (
--       defaultPrim = "A"
--       upAxis = "Y"
--   )
--
--   def Xform "A" (
--       kind = "component"
--   )
--   {
--       int x = None
--       rel r = [</A/k>, </B>]
--       rel s = None
--
--       def "k"
--       {
--       }
--   }
abbrev pub small_stage : Stage
small_stage = (
  [],
  record (blank_view Over) {
    meta = (codes "defaultPrim", value.Text (codes "A")) ∷ (codes "upAxis", value.Text (codes "Y")) ∷ [];
    children = codes "A" ∷ [];
  },
)
    ∷ (
      a,
      record (blank_view Def) {
        type_name = Some (codes "Xform");
        meta = (codes "kind", value.Text (codes "component")) ∷ [];
        properties = int_attribute (codes "x") (Some value.Block) [] None ∷ targeting (codes "r") (Some (a_k ∷ b ∷ [])) ∷ targeting (codes "s") (Some []) ∷ [];
        children = codes "k" ∷ [];
      },
    )
    ∷ (a_k, blank_view Def) ∷ []

abbrev pub small_layer : LayerTable
small_layer = record {
  head = record blank_head { default_prim = Some (codes "A"); meta = (codes "upAxis", value.Text (codes "Y")) ∷ []; root_names = codes "A" ∷ [] };
  specs = (
    a,
    record (blank_spec Def) {
      body = record (blank_body Def) {
        type_name = Some (codes "Xform");
        meta = (codes "kind", value.Text (codes "component")) ∷ [];
        children = codes "k" ∷ [];
        properties =
            Attr (codes "x") int false false (Some value.Block) [] no_edits []
            ∷ Rel (codes "r") false (record no_edits { explicit = Some (a_k ∷ b ∷ []) }) []
            ∷ Rel (codes "s") false (record no_edits { explicit = Some [] }) []
            ∷ [];
      };
    },
  )
      ∷ (a_k, blank_spec Def) ∷ [];
}

pub record LayersAreTold : Type 0 where
  -- a stage without prims is a layer that says nothing
  pub nothing : flat_layer [] ≡ empty_layer
  pub root_alone : flat_layer (([], blank_view Over) ∷ []) ≡ empty_layer
  -- a head, the specs of all prims but `/`, and no arcs
  pub small : flat_layer small_stage ≡ small_layer
  -- specs stand in the order of paths, while the root prims keep the order of the stage
  pub ordered :
      flat_layer (
      ([], record (blank_view Over) { children = codes "B" ∷ codes "A" ∷ [] })
      ∷ (b, blank_view Def)
      ∷ (a, record (blank_view Class) { children = codes "k" ∷ [] })
      ∷ (a_k, blank_view Over)
      ∷ [])
      ≡ record {
        head = record blank_head { root_names = codes "B" ∷ codes "A" ∷ [] };
        specs =
            (a, record (blank_spec Class) { body = record (blank_body Class) { children = codes "k" ∷ [] } })
            ∷ (a_k, blank_spec Over)
            ∷ (b, blank_spec Def)
            ∷ [];
      }

pub record AreTold : Type 0 where
  pub properties : PropertiesAreTold
  pub prims : PrimsAreTold
  pub heads : HeadsAreTold
  pub layers : LayersAreTold
