-- What one sublayer adds to a stack, and what follows.
use Rattle.std.specs.Prelude.{Bool, true, false, Option, Some, None}
use Rattle.spec_parts.specs.declared.items.SubLayer.{SubLayer}
use Rattle.sdf_values.specs.Scales.{Offset, composed}
use Rattle.composition.specs.Texts.{Text}
use Rattle.composition.specs.Assets.{anchor}
use Rattle.composition.specs.World.{World, Heading, in_range}
use Rattle.composition.specs.Stacks.{LayerStack, SublayerReason, sublayer_cycle, sublayer_missing, sublayer_offset, with_fault, with_asked, not_held}

-- why a sublayer is not followed: whether its name stands above it, what its name holds, its offset towards the stack
abbrev pub kept_out : Bool → Heading → Offset → Option SublayerReason
kept_out above heading o =
    elim above [
      | true ↦ Some sublayer_cycle
      | false ↦ elim (not_held heading) [
        | Some r ↦ Some r
        | None ↦ elim (in_range o) [ true ↦ None | false ↦ Some sublayer_offset ]
      ]
    ]

module _ (w : World) (above : Text → Bool) (layer : Text) (o : Offset) where
  -- why a sublayer of this name is not followed, if it is not
  abbrev pub reason_for : Text → SubLayer → Option SublayerReason
  reason_for name sub = kept_out (above name) (w.heading name) (composed sub.offset o)

  -- a name that may be listed next
  abbrev pub named_next : Option Text → SubLayer → Option (Text × Offset)
  named_next None sub = None
  named_next (Some name) sub = elim (reason_for name sub) [ Some r ↦ None | None ↦ Some (name, composed sub.offset o) ]

  -- the layer that a sublayer leads to, with its offset towards the stack, where it may be listed next
  abbrev pub next_of : SubLayer → Option (Text × Offset)
  next_of sub = named_next (anchor layer sub.asset) sub

  -- the stack with what is asked and the fault, before the next layer is listed
  abbrev pub with_reason : LayerStack → Text → Option SublayerReason → LayerStack
  with_reason s name None = s
  with_reason s name (Some r) = with_fault s r layer name

  -- an asset that names no layer is a missing sublayer; any other name is asked, with the fault if it is not followed
  abbrev pub with_look : LayerStack → Option Text → SubLayer → LayerStack
  with_look s None sub = with_fault s sublayer_missing layer sub.asset
  with_look s (Some name) sub = with_reason (with_asked s name) name (reason_for name sub)

  -- the stack after a look at a sublayer, before its layer is listed
  abbrev pub looked : LayerStack → SubLayer → LayerStack
  looked s sub = with_look s (anchor layer sub.asset) sub
