-- Layer stacks.
-- docs/COMPOSITION.md, 'Layer stacks'.
pub use Rattle.prim_view.specs.declared.fault.SublayerReason.{SublayerReason}
pub use Rattle.prim_view.specs.declared.fault.SublayerReason.TheVariants.{Cycle as sublayer_cycle, Missing as sublayer_missing, Broken as sublayer_broken, Offset as sublayer_offset}
pub use Rattle.prim_view.specs.declared.fault.SublayerFault.{SublayerFault}
use Rattle.std.specs.Prelude.{ℕ, zero, suc, Bool, true, false, List, [], ◌∷◌, ◌++◌, fold, Option, Some, None}
use Rattle.std.specs.List.{list_any}
use Rattle.composition.specs.Texts.{Text, same_text}
use Rattle.composition.specs.Paths.{Limits}
use Rattle.composition.specs.Assets.{anchor}
use Rattle.spec_parts.specs.declared.items.SubLayer.{SubLayer}
use Rattle.sdf_values.specs.Scales.{Offset, composed}
use Rattle.composition.specs.World.{World, Heading, headed, no_layer, refused, identity, in_range, StackName, Root, Asset}

-- the strongest layer first, each with its offset towards the stack; `asked` are the names whose presence and heads were looked at
pub record LayerStack : Type 0 where
  pub layers : List (Text × Offset)
  pub faults : List SublayerFault
  pub asked : List Text

-- a stack in which nothing is listed yet
abbrev pub nothing_listed : LayerStack
nothing_listed = record { layers = []; faults = []; asked = [] }

-- with one more layer, weaker than those that are listed
abbrev pub with_layer : LayerStack → Text → Offset → LayerStack
with_layer s name o = record s { layers = s.layers ++ (name, o) ∷ [] }

-- with a fault of an asset that a layer of the stack has as a sublayer
abbrev pub with_fault : LayerStack → SublayerReason → Text → Text → LayerStack
with_fault s reason layer asset = record s { faults = s.faults ++ (record { reason = reason; layer = layer; asset = asset }) ∷ [] }

-- with one more name that was asked
abbrev pub with_asked : LayerStack → Text → LayerStack
with_asked s name = record s { asked = s.asked ++ name ∷ [] }

-- the layer is listed in the stack already
abbrev pub is_listed : LayerStack → Text → Bool
is_listed s name = list_any (λ e. same_text name e.0) s.layers

-- the sublayers that a layer has, in order; none where no layer stands at the name
abbrev pub sublayers_of : Heading → List SubLayer
sublayers_of (headed h) = h.sublayers
sublayers_of no_layer = []
sublayers_of (refused r) = []

-- why no layer stands at a name: it is absent, or it was refused
abbrev pub not_held : Heading → Option SublayerReason
not_held (headed h) = None
not_held no_layer = Some sublayer_missing
not_held (refused r) = Some sublayer_broken

-- why a sublayer is not followed, given the names above it, its name and its offset towards the stack
abbrev pub not_followed : World → List Text → Text → Offset → Option SublayerReason
not_followed w chain name o =
    elim (list_any (same_text name) chain) [
      | true ↦ Some sublayer_cycle
      | false ↦ elim (not_held (w.heading name)) [
        | Some r ↦ Some r
        | None ↦ elim (in_range o) [ true ↦ None | false ↦ Some sublayer_offset ]
      ]
    ]

-- a stack so far, after a layer and what stands below it: the names above it, the layer and its offset
abbrev pub Listing : Type 0
Listing = List Text → Text → Offset → LayerStack → LayerStack

module _ (w : World) where
  -- after one sublayer of a layer; `chain` has the layer and the names above it
  abbrev pub with_sublayer : Listing → List Text → Text → Offset → LayerStack → SubLayer → LayerStack
  with_sublayer listed chain layer o s sub =
      elim (anchor layer sub.asset) [
        | None ↦ with_fault s sublayer_missing layer sub.asset
        | Some name ↦ elim (not_followed w chain name (composed sub.offset o)) [
          | Some r ↦ with_fault (with_asked s name) r layer name
          | None ↦ listed (name ∷ chain) name (composed sub.offset o) (with_asked s name)
        ]
      ]

  -- a layer listed before is passed over; no chain is longer than a world may have layers
  abbrev pub listed : ℕ → Listing
  listed zero chain layer o s = s
  listed (suc deep) chain layer o s =
      elim (is_listed s layer) [
        | true ↦ s
        | false ↦ fold (with_sublayer (listed deep) chain layer o) (with_layer s layer o) (sublayers_of (w.heading layer))
      ]

module _ (l : Limits) (w : World) where
  -- a stack so far, and then a layer's own stack with a chain that begins anew; of a layer that is not there the name is asked alone
  abbrev pub from_layer : Text → LayerStack → LayerStack
  from_layer name s =
      elim (not_held (w.heading name)) [
        | Some r ↦ with_asked s name
        | None ↦ listed w l.layers (name ∷ []) name identity (with_asked s name)
      ]

  -- the session's stack, if any, and then the root's
  abbrev pub stack : StackName → LayerStack
  stack Root = elim w.session [ Some session ↦ from_layer w.root (from_layer session nothing_listed) | None ↦ from_layer w.root nothing_listed ]
  stack (Asset name) = from_layer name nothing_listed
