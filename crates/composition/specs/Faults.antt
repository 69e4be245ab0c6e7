-- The faults of a prim that come of its arcs, and its index.
-- docs/COMPOSITION.md, 'Faults'.
pub use Rattle.prim_view.specs.declared.fault.ArcFault.{ArcFault}
pub use Rattle.prim_view.specs.declared.fault.PrimFault.{PrimFault as Fault}
pub use Rattle.prim_view.specs.declared.fault.PrimFault.TheVariants.{Sublayer as sublayer, Arc as arc, TimeOutside as time_outside, TargetOutside as target_outside, ChildTooLong as child_too_long, Overgrown as overgrown}
use Rattle.prim_view.specs.Printing.{fault_text}
use Rattle.std.specs.Prelude.{◌==◌, Bool, true, false, not, ◌||◌, List, [], ◌∷◌, ◌++◌, map, flat_map, filter, zip, Option, Some, None}
use Rattle.list_ops.specs.ListEdits.{firsts}
use Rattle.path_maps.specs.declared.kind.ArcKind.{ArcKind}
use Rattle.path_maps.specs.declared.kind.ArcKind.TheVariants.{Inherits, Reference, Payload, Specializes}
use Rattle.composition.specs.Texts.{same_text, both}
use Rattle.composition.specs.Paths.{Path, Limits}
use Rattle.composition.specs.World.{World, is_loaded}
use Rattle.composition.specs.Arcs.{same_kind, Outcome, leads, gives_no_arc, is_empty, Reason, path_too_long, unresolved_prim}
use Rattle.composition.specs.Nodes.{Node, here, Choices, frame_at, Tried, author}
use Rattle.composition.specs.Trees.{Tree, node, Trees, none, cut, child, has_spec_in, node_of}
use Rattle.composition.specs.Strength.{listing, sites}
use Rattle.composition.specs.Opinions.{Site, is_by_class}
use Rattle.composition.specs.Compose.{stage_tree, is_overgrown_on_the_way}

-- faults of one text are one
abbrev pub same_fault : Fault → Fault → Bool
same_fault a b = same_text (fault_text a) (fault_text b)

-- the arc is authored at the node's own path, and not above it
abbrev pub is_level_0 : Tried → Bool
is_level_0 a = a.level == 0

-- the item leads to a target
abbrev pub gives_arc : Outcome → Bool
gives_arc (leads a) = true
gives_arc (gives_no_arc r) = false

-- the reason is that the child's path passes a limit of paths
abbrev pub is_path_too_long : Reason → Bool
is_path_too_long path_too_long = true
is_path_too_long _ = false

-- there is no reason against following the arc
abbrev pub is_followed : Option Reason → Bool
is_followed None = true
is_followed (Some r) = false

-- the children by own arcs of one kind, in the order of the tree
abbrev pub own_children : ArcKind → Trees → List Tree
own_children k none = []
own_children k cut = []
own_children k (child b t ts) = elim (same_kind k b.kind) [ true ↦ t ∷ own_children k ts | false ↦ own_children k ts ]

-- a class arc leads to prims that need not be there
abbrev pub wants_prim : ArcKind → Bool
wants_prim Reference = true
wants_prim Payload = true
wants_prim _ = false

-- the fault of an arc: at its author's path, in the strongest layer that gave the item
abbrev pub arc_fault : Node → Tried → Reason → Fault
arc_fault n a r = arc (record { reason = r; layer = a.authored.author; site = author n a.level; kind = a.kind; item = a.authored.item })

-- the fault of an arc, if it has a reason and that passes a test
abbrev pub fault_if : (Reason → Bool) → Node → Tried → Option Reason → List Fault
fault_if test n a None = []
fault_if test n a (Some r) = elim (test r) [ true ↦ arc_fault n a r ∷ [] | false ↦ [] ]

-- of the items that pass a test, the faults whose reasons pass another
abbrev pub faults_of : (Tried → Bool) → (Reason → Bool) → Node → List Tried → List Fault
faults_of among test n arcs = flat_map (λ a. fault_if test n a a.fault) (filter among arcs)

-- every reason passes
abbrev pub any_reason : Reason → Bool
any_reason r = true

-- a followed arc of level 0 below whose child no node has a spec
abbrev pub unresolved : Node → Tried × Tree → List Fault
unresolved n e =
    elim (both (is_level_0 e.0) (not (has_spec_in e.1))) [ true ↦ arc_fault n e.0 unresolved_prim ∷ [] | false ↦ [] ]

-- the references or payloads of level 0 below whose child there is no spec; a class need not exist
abbrev pub unresolved_of : ArcKind → Node → List Tried → Trees → List Fault
unresolved_of k n arcs ts =
    elim (wants_prim k) [
      | true ↦ flat_map (unresolved n) (zip (filter (λ a. is_followed a.fault) arcs) (own_children k ts))
      | false ↦ []
    ]

-- those that give no arc, those that are not followed, too long paths of higher levels, sublayers of the stacks to which
-- arcs lead, followed or not, and prims without a spec
abbrev pub kind_faults : Node → Trees → ArcKind → List Tried → List Fault
kind_faults n ts k arcs =
    faults_of (λ a. both (is_level_0 a) (not (gives_arc a.authored.outcome))) any_reason n arcs
    ++ faults_of (λ a. both (is_level_0 a) (gives_arc a.authored.outcome)) any_reason n arcs
    ++ faults_of (λ a. not (is_level_0 a)) is_path_too_long n arcs
    ++ flat_map (λ a. map sublayer a.sublayers) (filter is_level_0 arcs)
    ++ unresolved_of k n arcs ts

-- the faults of a node's arcs, kind by kind; variants and lifted classes give none
abbrev pub node_faults : Tree → List Fault
node_faults (node n h own lifted) =
    flat_map (λ k. kind_faults n own k (filter (λ a. same_kind k a.kind) h.arcs)) (Inherits ∷ Reference ∷ Payload ∷ Specializes ∷ [])

-- a site of a prim, by its node
abbrev pub site_of : Tree → Site
site_of (node n h own lifted) = record {
  stack = n.stack;
  path = n.path;
  maps = n.maps;
  offset = n.offset;
  by_class = is_by_class n.maps;
  has_spec = is_empty n.path || h.has_spec;
}

-- what composition makes of a prim before it looks at values: the choices of level 0, the sites from strong to weak, and the faults of
-- its arcs, each once; nothing where a listing was overgrown
pub record Index : Type 0 where
  pub choices : Choices
  pub sites : List Site
  pub faults : List Fault

module _ (l : Limits) where
  -- the index by a prim's tree; none where a listing was overgrown
  abbrev pub index_of : Tree → Option Index
  index_of t =
      elim (is_overgrown_on_the_way t) [
        | true ↦ None
        | false ↦ Some (record {
          choices = (frame_at (node_of t) 0).choices;
          sites = map site_of (sites l t);
          faults = firsts same_fault (flat_map node_faults (listing l t));
        })
      ]

  -- the index of a path of the stage
  abbrev pub index : World → Path → Option Index
  index w p = index_of (stage_tree l (here l w) (is_loaded w) p)
