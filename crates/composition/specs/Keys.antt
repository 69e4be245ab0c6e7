-- The keys of a world that composition reads at a prim.
-- docs/COMPOSITION.md, 'What a prim reads'.
use Rattle.std.specs.Prelude.{◌≡◌, ◌≢◌, Bool, true, false, List, [], ◌∷◌, ◌++◌, map, flat_map, filter, Option, Some, None, option_map}
use Rattle.std.specs.List.{list_any, list_all, All}
use Rattle.sdf_paths.specs.Paths.{is_prim_name}
use Rattle.spec_parts.specs.declared.spec.ArcPart.{ArcPart}
use Rattle.spec_parts.specs.declared.spec.BodyPart.{BodyPart}
use Rattle.composition.specs.Texts.{Text, same_text, both}
use Rattle.composition.specs.Paths.{Path, Limits, same_path, up, levels_of}
use Rattle.composition.specs.World.{World, Heading, headed, no_layer, refused, RootNames, StackName, Root, stack_of, is_loaded}
use Rattle.composition.specs.Stacks.{stack}
use Rattle.composition.specs.Arcs.{Source, own, named, unanchored}
use Rattle.composition.specs.Nodes.{Node, here}
use Rattle.composition.specs.Trees.{nodes_of}
use Rattle.composition.specs.Compose.{stage_tree}
use Rattle.composition.specs.Faults.{wants_prim, Index, index}
use Rattle.composition.specs.Visits.{stage_visits}

-- a load rule; a layer's presence, refusal and head, with the names of the root and session layer;
-- the arcs part and the body part of the spec at a path of a layer
pub data Key : Type 0 where
  load : Path → Key
  head : Text → Key
  arcs : Text → Path → Key
  body : Text → Path → Key

-- the keys are of one kind, with the same layer and path, as far as their kind has them
abbrev pub same_key : Key → Key → Bool
same_key (load p) (load q) = same_path p q
same_key (head a) (head b) = same_text a b
same_key (arcs a p) (arcs b q) = both (same_text a b) (same_path p q)
same_key (body a p) (body b q) = both (same_text a b) (same_path p q)
same_key _ _ = false

module _ (l : Limits) (w : World) where
  -- the names that a stack asks, where its layer is there
  abbrev pub asked_if_present : StackName → Heading → List Text
  asked_if_present s (headed h) = (stack l w s).asked
  asked_if_present s no_layer = []
  asked_if_present s (refused r) = []

  -- the layer that an item names and, where it is present, what its stack asks
  abbrev pub asked_by_source : Source → List Text
  asked_by_source own = []
  asked_by_source (named name) = name ∷ asked_if_present (stack_of w name) (w.heading name)
  asked_by_source (unanchored t) = []

  -- the names that are asked at a node: by its stack, and by each item of its references and of its payloads at loaded levels
  abbrev pub asked_at : Node → List Text
  asked_at n =
      (stack l w n.stack).asked
      ++ flat_map (λ a. asked_by_source a.authored.item.source) (filter (λ a. wants_prim a.kind) (here l w n).arcs)

  -- what is read at a node: its stack's layers at each level, and the heads that are asked
  abbrev pub keys_at : Node → List Key
  keys_at n =
      flat_map (λ j. map (λ e. arcs e.0 (up n.path j)) (stack l w n.stack).layers) (levels_of n.path)
      ++ map head (asked_at n)

  -- the bodies at a site, one for each layer of its stack, whether or not a spec stands there
  abbrev pub bodies_at : StackName → Path → List Key
  bodies_at s p = map (λ e. body e.0 p) (stack l w s).layers

  -- the bodies at a prim's sites; an overgrown prim has no index, and its sites are the first nodes of its listing
  abbrev pub site_bodies : Path → Option Index → List Key
  site_bodies p None = flat_map (λ n. bodies_at n.stack n.path) (nodes_of (stage_tree l (here l w) (is_loaded w) p))
  site_bodies p (Some i) = flat_map (λ s. bodies_at s.stack s.path) i.sites

  -- each node that is visited for the last listing of a prim, and in the rounds of choices of the prim and those above it
  abbrev pub visits_for : Path → List Node
  visits_for p = stage_visits l (here l w) (is_loaded w) p

  -- for each listing of a prim and its ancestors, with the rules on them and the bodies at the prim's sites
  abbrev pub prim_reads : Path → List Key
  prim_reads q =
      map (λ j. load (up q j)) (levels_of q)
      ++ flat_map (λ j. flat_map keys_at (visits_for (up q j))) (levels_of q)
      ++ site_bodies q (index l w q)

  -- the keys that the view of a path reads; the path of a property, or one with variant selections, reads none
  abbrev pub reads : Path → List Key
  reads [] = map head (stack l w Root).asked ++ bodies_at Root []
  reads (e ∷ p) = elim (list_all is_prim_name (e ∷ p)) [ true ↦ prim_reads (e ∷ p) | false ↦ [] ]

-- the first list has all keys of the second
abbrev pub has_all : List Key → List Key → Bool
has_all ks = list_all (λ k. list_any (same_key k) ks)

-- two lists have the same keys
abbrev pub same_keys : List Key → List Key → Bool
same_keys ks js = both (has_all ks js) (has_all js ks)

-- ---- what stands at a key

-- the parts of a world that composition can tell apart, one kind for each kind of key
pub data KeyValue : Type 0 where
  load_value : Option Bool → KeyValue
  head_value : Heading → Text → Option Text → KeyValue
  arcs_value : Option ArcPart → KeyValue
  body_value : Option BodyPart → KeyValue
  roots_value : Option RootNames → KeyValue

-- At `/` the body of a layer is the names of its root prims, and there are no arcs.
abbrev pub value_of : World → Key → KeyValue
value_of w (load p) = load_value (w.rule p)
value_of w (head name) = head_value (w.heading name) w.root w.session
value_of w (arcs name []) = arcs_value None
value_of w (arcs name (e ∷ p)) = arcs_value (option_map (λ s. s.arcs) (w.spec name (e ∷ p)))
value_of w (body name []) = roots_value (w.roots name)
value_of w (body name (e ∷ p)) = body_value (option_map (λ s. s.body) (w.spec name (e ∷ p)))

-- the worlds have the same at these keys
abbrev pub Agree : World → World → List Key → Type 0
Agree w v keys = All (λ k. value_of w k ≡ value_of v k) keys

-- the key is one of those that an edit from one world to another changes
abbrev pub IsChanged : World → World → Key → Type 0
IsChanged w v k = value_of w k ≢ value_of v k
