-- The arcs of a kind, the faults of items that are none, and the keys that were read.
use Rattle.std.specs.Prelude.{List, [], ◌∷◌, ◌++◌, map, flat_map, Option, Some, None}
use Rattle.sdf_values.specs.Scales.{Offset}
use Rattle.path_maps.specs.declared.kind.ArcKind.{ArcKind}
use Rattle.path_maps.specs.declared.kind.ArcKind.TheVariants.{Inherits, Variant, Reference, Payload, Specializes}
use Rattle.prim_view.specs.declared.fault.PrimFault.{PrimFault}
use Rattle.prim_view.specs.declared.fault.PrimFault.TheVariants.{Arc}
use Rattle.composition.specs.Texts.{Text}
use Rattle.composition.specs.Paths.{Path, limits}
use Rattle.composition.specs.World.{World, Heading, headed, no_layer, refused, StackName, stack_of}
use Rattle.composition.specs.Arcs.{Source, own, named, unanchored, Outcome, leads, gives_no_arc, Authored}
use Rattle.composition.specs.Keys.{asked_by_source}
use Rattle.layer_set.specs.declared.key.Key.{Key}
use Rattle.layer_set.specs.declared.key.Key.TheVariants.{Head, Arcs}
use Rattle.layer_stack.specs.Meant.{defined_stack, each_once}
use Rattle.arc_expand.specs.declared.arcs.ArcItem.{ArcItem}

-- an item is an arc where it leads to a target
abbrev pub arc_by : Authored → Outcome → Option ArcItem
arc_by a (leads l) = Some (record { stack = l.stack; target = l.target; offset = l.offset; author = a.author; item = a.item })
arc_by a (gives_no_arc r) = None

-- the arc of an item, if it is one
abbrev pub arc_of : Authored → Option ArcItem
arc_of a = arc_by a a.outcome

-- an item that gives no arc is a fault: at the path where it is authored, of the strongest layer that gave it
abbrev pub fault_by : Path → ArcKind → Authored → Outcome → Option PrimFault
fault_by q k a (leads l) = None
fault_by q k a (gives_no_arc r) = Some (Arc (record { reason = r; layer = a.author; site = q; kind = k; item = a.item }))

-- the fault of an item that is no arc
abbrev pub fault_of : Path → ArcKind → Authored → Option PrimFault
fault_of q k a = fault_by q k a a.outcome

-- ---- what is read

-- the names that a layer's stack asks, where it is present
abbrev pub asked_below : World → StackName → Heading → List Text
asked_below w s (headed h) = each_once (defined_stack w s).asked
asked_below w s no_layer = []
asked_below w s (refused r) = []

-- what an item asks: the layer that it names, and what the stack of that layer asks
abbrev pub asked_by : World → Source → List Text
asked_by w own = []
asked_by w (named name) = name ∷ asked_below w (stack_of w name) (w.heading name)
asked_by w (unanchored asset) = []

-- those of the items of references or payloads, one item after the other
abbrev pub asked_in_turn : World → ArcKind → List Authored → List Text
asked_in_turn w Reference all = flat_map (λ a. asked_by w a.item.source) all
asked_in_turn w Payload all = flat_map (λ a. asked_by w a.item.source) all
asked_in_turn w Inherits all = []
asked_in_turn w Variant all = []
asked_in_turn w Specializes all = []

-- the same by the definitions of composition
abbrev pub asked_for : World → ArcKind → List Authored → List Text
asked_for w Reference all = flat_map (λ a. asked_by_source limits w a.item.source) all
asked_for w Payload all = flat_map (λ a. asked_by_source limits w a.item.source) all
asked_for w Inherits all = []
asked_for w Variant all = []
asked_for w Specializes all = []

-- the arcs of each layer at the path, and the heads of the names that are asked, each once
unfoldable pub reads : World → List (Text × Offset) → Path → ArcKind → List Authored → List Key
reads w layers q k all = map (λ e. Arcs e.0 q) layers ++ map Head (each_once (asked_for w k all))
