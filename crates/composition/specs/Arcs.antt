-- The arcs that the layers of a stack author at a path.
-- docs/COMPOSITION.md, 'Arcs of a site'.
pub use Rattle.prim_view.specs.declared.fault.ItemSource.{ItemSource as Source}
pub use Rattle.prim_view.specs.declared.fault.ItemSource.TheVariants.{Own as own, Named as named, Unanchored as unanchored}
pub use Rattle.prim_view.specs.declared.fault.FaultItem.{FaultItem as Item}
pub use Rattle.prim_view.specs.declared.fault.ArcReason.{ArcReason as Reason}
pub use Rattle.prim_view.specs.declared.fault.ArcReason.TheVariants.{MissingLayer as missing_layer, BrokenLayer as broken_layer, NoDefaultPrim as no_default_prim, BadTarget as bad_target, OffsetRange as offset_range, ArcCycle as arc_cycle, TooDeep as too_deep, PathTooLong as path_too_long, UnresolvedPrim as unresolved_prim}
pub use Rattle.prim_nodes.specs.declared.arcs.Lead.{Lead}
pub use Rattle.prim_nodes.specs.declared.arcs.Outcome.{Outcome}
pub use Rattle.prim_nodes.specs.declared.arcs.Outcome.TheVariants.{Leads as leads, GivesNoArc as gives_no_arc}
pub use Rattle.prim_nodes.specs.declared.arcs.Authored.{Authored}
use Rattle.std.specs.Prelude.{ℕ, Bool, true, false, ◌==◌, not, List, [], ◌∷◌, ◌++◌, map, flat_map, reverse, Option, Some, None, option_map}
use Rattle.std.specs.List.{list_any, filter_map}
use Rattle.composition.specs.Texts.{Text, same_text, same_option, both}
use Rattle.composition.specs.Paths.{Limits, Path, same_path, has_selections}
use Rattle.composition.specs.Assets.{anchor}
use Rattle.list_ops.specs.ListEdits.{contains, folded}
use Rattle.list_ops.specs.declared.op.ListOp.{ListOp}
use Rattle.path_maps.specs.declared.kind.ArcKind.{ArcKind}
use Rattle.path_maps.specs.declared.kind.ArcKind.TheVariants.{Inherits, Variant, Reference, Payload, Specializes}
use Rattle.sdf_paths.specs.Paths.{is_property}
use Rattle.spec_parts.specs.declared.items.RefItem.{RefItem}
use Rattle.spec_parts.specs.declared.spec.Spec.{Spec}
use Rattle.sdf_values.specs.Scales.{Offset, composed}
use Rattle.composition.specs.World.{World, Heading, headed, no_layer, refused, LayerHead, identity, in_range, same_offset, StackName, first_layer, stack_of, default_target}
use Rattle.composition.specs.Stacks.{LayerStack, stack}

-- the place of a kind of arc in the order of strength, the strongest first
abbrev pub place : ArcKind → ℕ
place Inherits = 1
place Variant = 2
place Reference = 3
place Payload = 4
place Specializes = 5

-- the arcs are of one kind
abbrev pub same_kind : ArcKind → ArcKind → Bool
same_kind a b = place a == place b

-- the items lead to one anchored name, or both to the site's own stack; what cannot be anchored is compared as it is written
abbrev pub same_source : Source → Source → Bool
same_source own own = true
same_source (named a) (named b) = same_text a b
same_source (unanchored a) (unanchored b) = same_text a b
same_source _ _ = false

-- two items are one where they lead to the same name, or none, and have the same path, or none, and the same composed offset
abbrev pub same_item : Item → Item → Bool
same_item a b = both (same_source a.source b.source) (both (same_option same_path a.path b.path) (same_offset a.offset b.offset))

-- where an item leads: without an asset to the site's own stack, else to the name that the asset has in the layer that wrote it
abbrev pub source_of : Text → Option Text → Source
source_of layer None = own
source_of layer (Some asset) = elim (anchor layer asset) [ Some name ↦ named name | None ↦ unanchored asset ]

-- an item of inherits or specializes: a path of the site's own stack, with the offset that changes no time
abbrev pub class_item : Path → Item
class_item target = record { source = own; path = Some target; offset = identity }

-- an item of references or payloads as a layer of a stack has it: anchored in that layer, its offset composed with the layer's
abbrev pub reference_item : Text → Offset → RefItem → Item
reference_item layer o r = record { source = source_of layer r.asset; path = r.path; offset = composed r.offset o }

-- the edits of a list, item by item
abbrev pub map_op : {T U : Type 0} → (T → U) → ListOp T → ListOp U
map_op f op = record {
  explicit = option_map (map f) op.explicit;
  deleted = map f op.deleted;
  added = map f op.added;
  prepended = map f op.prepended;
  appended = map f op.appended;
  ordered = map f op.ordered;
}

-- what opinions make of the empty list, the strongest given first
abbrev pub strongest_folded : {T : Type 0} → (T → T → Bool) → List (ListOp T) → List T
strongest_folded same ops = folded same (reverse ops)

-- an opinion of which an item comes
abbrev pub gives : {T : Type 0} → (T → T → Bool) → ListOp T → T → Bool
gives same op x = elim op.explicit [ Some ys ↦ contains same ys x | None ↦ contains same (op.added ++ op.prepended ++ op.appended) x ]

-- what one layer of a stack says at a path
pub record Opinion : Type 0 where
  pub layer : Text
  pub offset : Offset
  pub spec : Spec

-- its list edits of a kind; variants are no items
abbrev pub items_of : ArcKind → Opinion → Option (ListOp Item)
items_of Inherits o = Some (map_op class_item o.spec.arcs.inherits)
items_of Variant o = None
items_of Reference o = Some (map_op (reference_item o.layer o.offset) o.spec.arcs.references)
items_of Payload o = Some (map_op (reference_item o.layer o.offset) o.spec.arcs.payloads)
items_of Specializes o = Some (map_op class_item o.spec.arcs.specializes)

-- no arc leads to `/`, to a property or to a path with variant selections
abbrev pub is_no_target : Path → Bool
is_no_target [] = true
is_no_target (e ∷ p) = elim (has_selections (e ∷ p)) [ true ↦ true | false ↦ is_property (e ∷ p) ]

-- the path of an item; without one the default prim of the layer to which it leads, if that names a path
abbrev pub or_default : Option Path → LayerHead → Option Path
or_default (Some p) h = Some p
or_default None h = elim h.default_prim [ Some text ↦ default_target text | None ↦ None ]

module _ (l : Limits) (w : World) where
  -- an offset, alone or with one of the target stack's layers
  abbrev pub leaves_range : Offset → StackName → Bool
  leaves_range o s = elim (in_range o) [ false ↦ true | true ↦ list_any (λ e. not (in_range (composed e.1 o))) (stack l w s).layers ]

  -- what becomes of an item whose layer is there: a fault where it has no path, its path is no target or an offset leaves the range,
  -- in this order, and else an arc
  abbrev pub outcome_at : StackName → Offset → Option Path → Outcome
  outcome_at s o None = gives_no_arc no_default_prim
  outcome_at s o (Some t) =
      elim (is_no_target t) [
        | true ↦ gives_no_arc bad_target
        | false ↦ elim (leaves_range o s) [ true ↦ gives_no_arc offset_range | false ↦ leads (record { stack = s; target = t; offset = o }) ]
      ]

  -- what becomes of an item that leads to a stack, by what stands at the name of that stack's layer
  abbrev pub outcome_in : StackName → Item → Heading → Outcome
  outcome_in s i no_layer = gives_no_arc missing_layer
  outcome_in s i (refused r) = gives_no_arc (broken_layer r)
  outcome_in s i (headed h) = outcome_at s i.offset (or_default i.path h)

  -- what becomes of an item at a site of a stack
  abbrev pub outcome_from : StackName → Item → Source → Outcome
  outcome_from s i own = outcome_in s i (w.heading (first_layer w s))
  outcome_from s i (named name) = outcome_in (stack_of w name) i (w.heading name)
  outcome_from s i (unanchored t) = gives_no_arc bad_target

  -- what the layers of a stack say at a path, the strongest first
  abbrev pub opinions_at : LayerStack → Path → List Opinion
  opinions_at s q = filter_map (λ e. option_map (λ spec. record { layer = e.0; offset = e.1; spec = spec }) (w.spec e.0 q)) s.layers

  -- the strongest layer that gives an item
  abbrev pub author_of : List (Text × ListOp Item) → Item → Text
  author_of [] i = []
  author_of (o ∷ os) i = elim (gives same_item o.1 i) [ true ↦ o.0 | false ↦ author_of os i ]

  -- the list edits of one kind, each with the layer that has it, the strongest first
  abbrev pub edits_of : ArcKind → List Opinion → List (Text × ListOp Item)
  edits_of k os = filter_map (λ o. option_map (λ op. (o.layer, op)) (items_of k o)) os

  -- the folded list of one kind, for a stack
  abbrev pub arcs_of : StackName → List Opinion → ArcKind → List Authored
  arcs_of s os k =
      let edits = edits_of k os in
      map (λ i. record { item = i; author = author_of edits i; outcome = outcome_from s i i.source }) (strongest_folded same_item (map (λ e. e.1) edits))

-- the variant sets of a site, folded from the weakest opinion to the strongest
abbrev pub variant_sets_of : List Opinion → List Text
variant_sets_of os = strongest_folded same_text (map (λ o. o.spec.arcs.variant_sets) os)

-- the variants that are selected, the strongest opinions first
abbrev pub selections_of : List Opinion → List (Text × Text)
selections_of os = flat_map (λ o. o.spec.arcs.selections) os

-- there are no items
abbrev pub is_empty : {T : Type 0} → List T → Bool
is_empty [] = true
is_empty (x ∷ xs) = false
