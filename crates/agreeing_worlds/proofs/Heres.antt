-- Worlds that agree on what is read at a node say the same there.
use Rattle.std.proofs.Common.{◌≡◌, refl, sym, ap, ◌∙◌, ℕ, ◌<◌, Bool, true, false, true≢false, not, List, [], ◌∷◌, ◌++◌, map, flat_map, filter, filter_map, length, reverse, Option, Some, None}
use mathlib.Core.List.{reverse_aux}
use Rattle.std.specs.List.{list_any, cons_option}
use Rattle.std.specs.Option.{option_map}
use Rattle.list_ops.specs.declared.op.ListOp.{ListOp}
use Rattle.path_maps.specs.declared.kind.ArcKind.{ArcKind}
use Rattle.path_maps.specs.declared.kind.ArcKind.TheVariants.{Inherits, Variant, Reference, Payload, Specializes}
use Rattle.sdf_paths.specs.declared.element.Element.{Element}
use Rattle.sdf_paths.specs.declared.element.Element.TheVariants.{Selection}
use Rattle.sdf_values.specs.Scales.{Offset, composed}
use Rattle.composition.specs.Names.{is_name, is_variant_name}
use Rattle.composition.specs.Texts.{Text, same_text, find_at, both}
use Rattle.composition.specs.Paths.{Path, Limits, fits, up, levels_of}
use Rattle.composition.specs.World.{World, Heading, headed, no_layer, refused, in_range, StackName, Root, Asset, first_layer, stack_of}
use Rattle.composition.specs.Stacks.{LayerStack, stack}
use Rattle.composition.specs.Arcs.{Source, own, named, unanchored, Item, Reason, bad_target, offset_range, Outcome, leads, gives_no_arc, Authored, same_item, class_item, map_op, strongest_folded, is_no_target, or_default, leaves_range, outcome_at, outcome_in, outcome_from, Opinion, items_of, opinions_at, author_of, edits_of, variant_sets_of, selections_of, is_empty}
use Rattle.composition.specs.Nodes.{Node, Here, Tried, Chosen, author, child_path, frame_at, refusal, fault_of, sublayers_of, is_looked_at, tried_item, tried_at, variant_target, chosen_at, said_at_levels, here}
use Rattle.composition.specs.Faults.{wants_prim}
use Rattle.composition.specs.Keys.{value_of, Key, arcs, head, asked_if_present, asked_by_source, asked_at, keys_at}
use Rattle.agreeing_worlds.proofs.Values.{arcs_in}
use Rattle.agreeing_worlds.proofs.Each.{Each, front_of, back_of, of_map, in_map, of_parts, in_parts, of_kept, weaker, always, same_parts}
use Rattle.agreeing_worlds.proofs.Folded.{Given, folded_each}
use Rattle.agreeing_worlds.proofs.Good.{Below, GoodHere, GoodTried, GoodArc, GoodChosen, level_below, not_deepest}
use Rattle.agreeing_worlds.proofs.Levels.{each_level, level_zero, at_zero}
use Rattle.agreeing_worlds.proofs.Said.{part_of, SameParts, same_opinions, same_edits, same_sets, same_selections, same_presence}
use Rattle.agreeing_worlds.proofs.Stacks.{SameAt, first_asked, same_stack, same_heads}

-- ---- items

-- the stack of a name, by the names of the session and the root layer
abbrev stack_by : Text → Option Text → Text → StackName
stack_by name session root = elim session as (λ _. StackName) [
  | Some s ↦ Asset name
  | None ↦ elim (same_text name root) as (λ _. StackName) [ true ↦ Root | false ↦ Asset name ]
]

module _ (l : Limits) (w v : World) where
  same_stack_of : (name at : Text) → SameAt w v at → stack_of v name ≡ stack_of w name
  same_stack_of name at here = ap (λ (s : Option Text). stack_by name s v.root) (sym here.2) ∙ ap (λ (r : Text). stack_by name w.session r) (sym here.1)

  same_first : (s : StackName) → SameAt w v (first_layer w s) → v.heading (first_layer v s) ≡ w.heading (first_layer w s)
  same_first Root here = ap v.heading (sym here.1) ∙ sym here.0
  same_first (Asset name) here = sym here.0

  same_outcome_at : (t : StackName) → stack l v t ≡ stack l w t → (o : Offset) (p : Option Path) → outcome_at l v t o p ≡ outcome_at l w t o p
  same_outcome_at t same o None = refl
  same_outcome_at t same o (Some q) =
      ap (λ (st : LayerStack). elim (is_no_target q) as (λ _. Outcome) [
        | true ↦ gives_no_arc bad_target
        | false ↦ elim (elim (in_range o) as (λ _. Bool) [ false ↦ true | true ↦ list_any (λ e. not (in_range (composed e.1 o))) st.layers ]) as (λ _. Outcome) [
          | true ↦ gives_no_arc offset_range
          | false ↦ leads (record { stack = t; target = q; offset = o })
        ]
      ]) same

  same_outcome_in : (t : StackName) (i : Item) (h : Heading) → Each (SameAt w v) (asked_if_present l w t h) → outcome_in l v t i h ≡ outcome_in l w t i h
  same_outcome_in t i (headed h) asked = same_outcome_at t (same_stack l w v t asked) i.offset (or_default i.path h)
  same_outcome_in t i no_layer asked = refl
  same_outcome_in t i (refused r) asked = refl

  if_present : (s : StackName) (h : Heading) → Each (SameAt w v) (stack l w s).asked → Each (SameAt w v) (asked_if_present l w s h)
  if_present s (headed h) asked = asked
  if_present s no_layer asked = tt
  if_present s (refused r) asked = tt

  same_outcome : (s : StackName) → Each (SameAt w v) (stack l w s).asked → (i : Item) (from : Source) → Each (SameAt w v) (asked_by_source l w from)
      → outcome_from l v s i from ≡ outcome_from l w s i from
  same_outcome s asks i own asked =
      ap (λ (h : Heading). outcome_in l v s i h) (same_first s (first_asked l w v s asks))
      ∙ same_outcome_in s i (w.heading (first_layer w s)) (if_present s (w.heading (first_layer w s)) asks)
  same_outcome s asks i (named name) asked =
      ap (λ (t : StackName). outcome_in l v t i (v.heading name)) (same_stack_of name name asked.0)
      ∙ ap (λ (h : Heading). outcome_in l v (stack_of w name) i h) (sym asked.0.0)
      ∙ same_outcome_in (stack_of w name) i (w.heading name) asked.1
  same_outcome s asks i (unanchored t) asked = refl

  -- the sublayer faults of the stack to which an item leads
  same_faults_at : (t : StackName) → stack l v t ≡ stack l w t → (o : Offset) (p : Option Path) → sublayers_of l v (outcome_at l w t o p) ≡ sublayers_of l w (outcome_at l w t o p)
  same_faults_at t same o None = refl
  same_faults_at t same o (Some q) = by (is_no_target q) (leaves_range l w o t)
    where
      outcome : Bool → Bool → Outcome
      outcome a b = elim a as (λ _. Outcome) [
        | true ↦ gives_no_arc bad_target
        | false ↦ elim b as (λ _. Outcome) [ true ↦ gives_no_arc offset_range | false ↦ leads (record { stack = t; target = q; offset = o }) ]
      ]

      by : (a b : Bool) → sublayers_of l v (outcome a b) ≡ sublayers_of l w (outcome a b)
      by true b = refl
      by false true = refl
      by false false = ap (λ (st : LayerStack). st.faults) same

  same_faults_in : (t : StackName) (i : Item) (h : Heading) → Each (SameAt w v) (asked_if_present l w t h) → sublayers_of l v (outcome_in l w t i h) ≡ sublayers_of l w (outcome_in l w t i h)
  same_faults_in t i (headed h) asked = same_faults_at t (same_stack l w v t asked) i.offset (or_default i.path h)
  same_faults_in t i no_layer asked = refl
  same_faults_in t i (refused r) asked = refl

  same_faults : (s : StackName) → Each (SameAt w v) (stack l w s).asked → (i : Item) (from : Source) → Each (SameAt w v) (asked_by_source l w from)
      → sublayers_of l v (outcome_from l w s i from) ≡ sublayers_of l w (outcome_from l w s i from)
  same_faults s asks i own asked = same_faults_in s i (w.heading (first_layer w s)) (if_present s (w.heading (first_layer w s)) asks)
  same_faults s asks i (named name) asked = same_faults_in (stack_of w name) i (w.heading name) asked.1
  same_faults s asks i (unanchored t) asked = refl

  -- ---- names that sources ask

  same_if_present : (t : StackName) (h : Heading) → Each (SameAt w v) (asked_if_present l w t h) → asked_if_present l v t h ≡ asked_if_present l w t h
  same_if_present t (headed h) asked = ap (λ (st : LayerStack). st.asked) (same_stack l w v t asked)
  same_if_present t no_layer asked = refl
  same_if_present t (refused r) asked = refl

  same_by_source : (from : Source) → Each (SameAt w v) (asked_by_source l w from) → asked_by_source l v from ≡ asked_by_source l w from
  same_by_source own asked = refl
  same_by_source (named name) asked =
      ap (λ (t : StackName). name ∷ asked_if_present l v t (v.heading name)) (same_stack_of name name asked.0)
      ∙ ap (λ (h : Heading). name ∷ asked_if_present l v (stack_of w name) h) (sym asked.0.0)
      ∙ ap (λ (names : List Text). name ∷ names) (same_if_present (stack_of w name) (w.heading name) asked.1)
  same_by_source (unanchored t) asked = refl

-- ---- the items of classes lead to their own stack

abbrev IsOwn : Item → Type 0
IsOwn i = i.source ≡ own

turned : {X : Type 0} (P : X → Type 0) (xs so_far : List X) → Each P xs → Each P so_far → Each P (reverse_aux xs so_far)
turned P [] so_far h k = k
turned P (x ∷ xs) so_far h k = turned P xs (x ∷ so_far) h.1 (h.0, k)

own_items : (ps : List Path) → Each IsOwn (map class_item ps)
own_items ps = in_map IsOwn class_item ps (always (λ p. IsOwn (class_item p)) (λ p. refl) ps)

own_edits : (op : ListOp Path) → Given IsOwn (map_op class_item op)
own_edits op = by op.explicit
  where
    by : (explicit : Option (List Path)) → Given IsOwn (record (map_op class_item op) { explicit = option_map (map class_item) explicit })
    by (Some ps) = own_items ps
    by None = (own_items op.added, (own_items op.prepended, own_items op.appended))

module _ (k : ArcKind) (wants : wants_prim k ≡ false) where
  one_own : (kind : ArcKind) → wants_prim kind ≡ false → (o : Opinion) (rest : List (Text × ListOp Item)) → Each (Given IsOwn) (map (λ (e : Text × ListOp Item). e.1) rest)
      → Each (Given IsOwn) (map (λ (e : Text × ListOp Item). e.1) (cons_option (option_map (λ op. (o.layer, op)) (items_of kind o)) rest))
  one_own Inherits h o rest others = (own_edits o.spec.arcs.inherits, others)
  one_own Variant h o rest others = others
  one_own Reference h o rest others = absurd (true≢false h)
  one_own Payload h o rest others = absurd (true≢false h)
  one_own Specializes h o rest others = (own_edits o.spec.arcs.specializes, others)

  all_own : (os : List Opinion) → Each (Given IsOwn) (map (λ (e : Text × ListOp Item). e.1) (filter_map (λ o. option_map (λ op. (o.layer, op)) (items_of k o)) os))
  all_own [] = tt
  all_own (o ∷ os) = one_own k wants o (filter_map (λ o. option_map (λ op. (o.layer, op)) (items_of k o)) os) (all_own os)

  folded_own : (os : List Opinion) → Each IsOwn (strongest_folded same_item (map (λ (e : Text × ListOp Item). e.1) (filter_map (λ o. option_map (λ op. (o.layer, op)) (items_of k o)) os)))
  folded_own os =
      let ops : List (ListOp Item) = map (λ (e : Text × ListOp Item). e.1) (filter_map (λ o. option_map (λ op. (o.layer, op)) (items_of k o)) os) in
      folded_each same_item IsOwn (reverse ops) (turned (Given IsOwn) ops [] (all_own os) tt)

-- ---- what is tried at a level

module _ (l : Limits) (w v : World) (n : Node) (asks : Each (SameAt w v) (stack l w n.stack).asked) where
  -- an item of references or payloads names layers at which the worlds have the same
  abbrev Wanted : Tried → Type 0
  Wanted a = wants_prim a.kind ≡ true → Each (SameAt w v) (asked_by_source l w a.authored.item.source)

  abbrev Asked : Item → Type 0
  Asked i = Each (SameAt w v) (asked_by_source l w i.source)

  abbrev authored_by : World → List (Text × ListOp Item) → Item → Authored
  authored_by x edits i = record { item = i; author = author_of l x edits i; outcome = outcome_from l x n.stack i i.source }

  module _ (k : ArcKind) (j : ℕ) where
    same_item_tried : (edits : List (Text × ListOp Item)) (i : Item) → Asked i → tried_item l v k n j (authored_by v edits i) ≡ tried_item l w k n j (authored_by w edits i)
    same_item_tried edits i asked =
        let faults : sublayers_of l v (outcome_from l w n.stack i i.source) ≡ sublayers_of l w (outcome_from l w n.stack i i.source) = same_faults l w v n.stack asks i i.source asked in
        ap (λ (o : Outcome). tried_item l v k n j (record { item = i; author = author_of l w edits i; outcome = o })) (same_outcome l w v n.stack asks i i.source asked)
        ∙ (λ i'. record (tried_item l w k n j (authored_by w edits i)) { sublayers = faults i' })

    same_items_tried : (edits : List (Text × ListOp Item)) (is : List Item) → Each Asked is
        → map (tried_item l v k n j) (map (authored_by v edits) is) ≡ map (tried_item l w k n j) (map (authored_by w edits) is)
    same_items_tried edits [] asked = refl
    same_items_tried edits (i ∷ is) asked =
        let one : tried_item l v k n j (authored_by v edits i) ≡ tried_item l w k n j (authored_by w edits i) = same_item_tried edits i asked.0 in
        let rest : map (tried_item l v k n j) (map (authored_by v edits) is) ≡ map (tried_item l w k n j) (map (authored_by w edits) is) = same_items_tried edits is asked.1 in
        λ i'. one i' ∷ rest i'

    abbrev items_by : List (Text × ListOp Item) → List Item
    items_by edits = strongest_folded same_item (map (λ (e : Text × ListOp Item). e.1) edits)

    abbrev tried_by : World → Bool → List (Text × ListOp Item) → List Tried
    tried_by x looked edits = elim looked as (λ _. List Tried) [
      | true ↦ map (tried_item l x k n j) (map (authored_by x edits) (items_by edits))
      | false ↦ []
    ]

    items_asked : (os : List Opinion) → Each (λ i. wants_prim k ≡ true → Asked i) (items_by (edits_of l w k os)) → Each Asked (items_by (edits_of l w k os))
    items_asked os h = by (wants_prim k) refl
      where
        by : (b : Bool) → wants_prim k ≡ b → Each Asked (items_by (edits_of l w k os))
        by true is = weaker (λ i. wants_prim k ≡ true → Asked i) Asked (λ i asked. asked is) (items_by (edits_of l w k os)) h
        by false is = weaker IsOwn Asked (λ i mine. at_source i.source mine) (items_by (edits_of l w k os)) (folded_own k is os)
          where
            at_source : (from : Source) → from ≡ own → Each (SameAt w v) (asked_by_source l w from)
            at_source own mine = tt
            at_source (named name) mine = absurd cc
            at_source (unanchored t) mine = tt

    same_tried : (os ps : List Opinion) → SameParts os ps → Each Wanted (tried_at l w n k (j, ps)) → tried_at l v n k (j, os) ≡ tried_at l w n k (j, ps)
    same_tried os ps same wanted =
        ap (λ (edits : List (Text × ListOp Item)). tried_by v (is_looked_at l w k (frame_at n j)) edits) (same_edits l w v k os ps same) ∙ by (is_looked_at l w k (frame_at n j)) wanted
      where
        edits : List (Text × ListOp Item)
        edits = edits_of l w k ps

        by : (looked : Bool) → Each Wanted (tried_by w looked (edits_of l w k ps)) → tried_by v looked (edits_of l w k ps) ≡ tried_by w looked (edits_of l w k ps)
        by true h =
            same_items_tried (edits_of l w k ps) (items_by (edits_of l w k ps)) (items_asked ps
            (of_map (λ a. wants_prim k ≡ true → Each (SameAt w v) (asked_by_source l w a.item.source)) (authored_by w (edits_of l w k ps)) (items_by (edits_of l w k ps))
            (of_map Wanted (tried_item l w k n j) (map (authored_by w (edits_of l w k ps)) (items_by (edits_of l w k ps))) h)))
        by false h = refl

-- ---- a node

abbrev pub SameKey : World → World → Key → Type 0
SameKey w v key = value_of w key ≡ value_of v key

arcs_at : (w v : World) (q : Path) → Below q → (name : Text) → SameKey w v (arcs name q) → option_map (λ s. s.arcs) (w.spec name q) ≡ option_map (λ s. s.arcs) (v.spec name q)
arcs_at w v [] h name same = absurd h
arcs_at w v (e ∷ p) h name same = ap (arcs_in None) same

abbrev kinds : List ArcKind
kinds = Inherits ∷ Reference ∷ Payload ∷ Specializes ∷ []

module _ (l : Limits) (w v : World) (n : Node) (read : Each (SameKey w v) (keys_at l w n)) where
  abbrev layers : LayerStack
  layers = stack l w n.stack

  abbrev said : World → ℕ → List Opinion
  said x j = opinions_at l x (stack l w n.stack) (author n j)

  abbrev arc_keys : ℕ → List Key
  arc_keys j = map (λ e. arcs e.0 (up n.path j)) (stack l w n.stack).layers

  all_asked : Each (SameAt w v) (asked_at l w n)
  all_asked = same_heads w v (asked_at l w n) (back_of (SameKey w v) (flat_map arc_keys (levels_of n.path)) (map head (asked_at l w n)) read)

  abbrev by_items : List Text
  by_items = flat_map (λ a. asked_by_source l w a.authored.item.source) (filter (λ a. wants_prim a.kind) (here l w n).arcs)

  stack_asked : Each (SameAt w v) (stack l w n.stack).asked
  stack_asked = front_of (SameAt w v) (stack l w n.stack).asked by_items all_asked

  items_named : Each (SameAt w v) by_items
  items_named = back_of (SameAt w v) (stack l w n.stack).asked by_items all_asked

  pub stack_here : stack l v n.stack ≡ stack l w n.stack
  stack_here = same_stack l w v n.stack stack_asked

  arcs_read : Each (λ j. Each (SameKey w v) (arc_keys j)) (levels_of n.path)
  arcs_read = of_parts (SameKey w v) arc_keys (levels_of n.path) (front_of (SameKey w v) (flat_map arc_keys (levels_of n.path)) (map head (asked_at l w n)) read)

  said_by : (j : ℕ) → Below (up n.path j) → Each (SameKey w v) (arc_keys j) → SameParts (said v j) (said w j)
  said_by j at keys =
      same_opinions l w v (stack l w n.stack) (up n.path j)
      (weaker (λ e. SameKey w v (arcs e.0 (up n.path j))) (λ e. option_map (λ s. s.arcs) (w.spec e.0 (up n.path j)) ≡ option_map (λ s. s.arcs) (v.spec e.0 (up n.path j)))
      (λ e same. arcs_at w v (up n.path j) at e.0 same) (stack l w n.stack).layers
      (of_map (SameKey w v) (λ e. arcs e.0 (up n.path j)) (stack l w n.stack).layers keys))

  each_said : (js : List ℕ) → Each (λ j. Below (up n.path j)) js → Each (λ j. Each (SameKey w v) (arc_keys j)) js → Each (λ j. SameParts (said v j) (said w j)) js
  each_said [] at keys = tt
  each_said (j ∷ js) at keys = (said_by j at.0 keys.0, each_said js at.1 keys.1)

  same_said : Each (λ j. SameParts (said v j) (said w j)) (levels_of n.path)
  same_said = each_said (levels_of n.path) (each_level (λ j. Below (up n.path j)) n.path (level_below n.path)) arcs_read

  -- what is tried, kind by kind and level by level
  abbrev levels_by : World → List ℕ → List (ℕ × List Opinion)
  levels_by x js = map (λ j. (j, said x j)) js

  wanted : Each (λ k. Each (Wanted l w v n stack_asked) (flat_map (tried_at l w n k) (levels_by w (levels_of n.path)))) kinds
  wanted =
      of_parts (Wanted l w v n stack_asked) (λ k. flat_map (tried_at l w n k) (levels_by w (levels_of n.path))) kinds
      (of_kept (SameAt w v) (λ a. wants_prim a.kind) (λ a. asked_by_source l w a.authored.item.source) (here l w n).arcs items_named)

  same_kind_tried : (k : ArcKind) (js : List ℕ) → Each (λ j. SameParts (said v j) (said w j)) js → Each (Wanted l w v n stack_asked) (flat_map (tried_at l w n k) (levels_by w js))
      → flat_map (tried_at l v n k) (levels_by v js) ≡ flat_map (tried_at l w n k) (levels_by w js)
  same_kind_tried k [] same h = refl
  same_kind_tried k (j ∷ js) same h =
      let mine : List Tried = tried_at l w n k (j, said w j) in
      let others : List Tried = flat_map (tried_at l w n k) (levels_by w js) in
      let one : tried_at l v n k (j, said v j) ≡ mine = same_tried l w v n stack_asked k j (said v j) (said w j) same.0 (front_of (Wanted l w v n stack_asked) mine others h) in
      let rest : flat_map (tried_at l v n k) (levels_by v js) ≡ others = same_kind_tried k js same.1 (back_of (Wanted l w v n stack_asked) mine others h) in
      λ i. one i ++ rest i

  same_tried_by_kind : (ks : List ArcKind) → Each (λ k. Each (Wanted l w v n stack_asked) (flat_map (tried_at l w n k) (levels_by w (levels_of n.path)))) ks
      → flat_map (λ k. flat_map (tried_at l v n k) (levels_by v (levels_of n.path))) ks ≡ flat_map (λ k. flat_map (tried_at l w n k) (levels_by w (levels_of n.path))) ks
  same_tried_by_kind [] h = refl
  same_tried_by_kind (k ∷ ks) h =
      let one : flat_map (tried_at l v n k) (levels_by v (levels_of n.path)) ≡ flat_map (tried_at l w n k) (levels_by w (levels_of n.path)) = same_kind_tried k (levels_of n.path) same_said h.0 in
      let rest : flat_map (λ k. flat_map (tried_at l v n k) (levels_by v (levels_of n.path))) ks ≡ flat_map (λ k. flat_map (tried_at l w n k) (levels_by w (levels_of n.path))) ks = same_tried_by_kind ks h.1 in
      λ i. one i ++ rest i

  -- by whatever stack the second world has
  abbrev arcs_by : LayerStack → List Tried
  arcs_by st = flat_map (λ k. flat_map (tried_at l v n k) (said_at_levels l v st n)) kinds

  pub same_arcs : (here l v n).arcs ≡ (here l w n).arcs
  same_arcs = ap (λ (st : LayerStack). arcs_by st) stack_here ∙ same_tried_by_kind kinds wanted

  one_chosen : (j : ℕ) (os ps : List Opinion) → SameParts os ps → chosen_at l v n (j, os) ≡ chosen_at l w n (j, ps)
  one_chosen j os ps same =
      ap (λ (sets : List Text). filter_map (λ set. variant_target l w n j set (find_at same_text set (frame_at n j).choices)) sets) (same_sets os ps same)

  same_chosen : (js : List ℕ) → Each (λ j. SameParts (said v j) (said w j)) js → flat_map (chosen_at l v n) (levels_by v js) ≡ flat_map (chosen_at l w n) (levels_by w js)
  same_chosen [] same = refl
  same_chosen (j ∷ js) same =
      let one : chosen_at l v n (j, said v j) ≡ chosen_at l w n (j, said w j) = one_chosen j (said v j) (said w j) same.0 in
      let rest : flat_map (chosen_at l v n) (levels_by v js) ≡ flat_map (chosen_at l w n) (levels_by w js) = same_chosen js same.1 in
      λ i. one i ++ rest i

  same_own : Below n.path → SameParts (opinions_at l v (stack l w n.stack) n.path) (opinions_at l w (stack l w n.stack) n.path)
  same_own at =
      let first : SameParts (said v 0) (said w 0) = level_zero (λ j. SameParts (said v j) (said w j)) n.path at same_said in
      ap (λ (q : Path). map part_of (opinions_at l v (stack l w n.stack) q)) (sym (at_zero n.path))
      ∙ first
      ∙ ap (λ (q : Path). map part_of (opinions_at l w (stack l w n.stack) q)) (at_zero n.path)

  abbrev here_by : LayerStack → Here
  here_by st = record {
    arcs = flat_map (λ k. flat_map (tried_at l v n k) (said_at_levels l v st n)) kinds;
    variants = flat_map (chosen_at l v n) (said_at_levels l v st n);
    sets = variant_sets_of (opinions_at l v st n.path);
    selections = selections_of (opinions_at l v st n.path);
    has_spec = not (is_empty (opinions_at l v st n.path));
  }

  pub same_here : Below n.path → here l v n ≡ here l w n
  same_here at =
      let os : List Opinion = opinions_at l v (stack l w n.stack) n.path in
      let ps : List Opinion = opinions_at l w (stack l w n.stack) n.path in
      let tried : flat_map (λ k. flat_map (tried_at l v n k) (levels_by v (levels_of n.path))) kinds ≡ (here l w n).arcs = same_tried_by_kind kinds wanted in
      let chosen : flat_map (chosen_at l v n) (levels_by v (levels_of n.path)) ≡ (here l w n).variants = same_chosen (levels_of n.path) same_said in
      let sets : variant_sets_of os ≡ variant_sets_of ps = same_sets os ps (same_own at) in
      let selections : selections_of os ≡ selections_of ps = same_selections os ps (same_own at) in
      let empty : is_empty os ≡ is_empty ps = same_presence os ps (same_own at) in
      ap (λ (st : LayerStack). here_by st) stack_here
      ∙ (λ i. record { arcs = tried i; variants = chosen i; sets = sets i; selections = selections i; has_spec = not (empty i) })

  -- ---- what is read at the node

  abbrev wanted_arcs : List Tried
  wanted_arcs = filter (λ a. wants_prim a.kind) (here l w n).arcs

  same_asked : asked_at l v n ≡ asked_at l w n
  same_asked =
      let first : (stack l v n.stack).asked ≡ (stack l w n.stack).asked = ap (λ (st : LayerStack). st.asked) stack_here in
      let each : Each (λ a. asked_by_source l v a.authored.item.source ≡ asked_by_source l w a.authored.item.source) wanted_arcs =
      weaker (λ a. Each (SameAt w v) (asked_by_source l w a.authored.item.source)) (λ a. asked_by_source l v a.authored.item.source ≡ asked_by_source l w a.authored.item.source)
      (λ a asked. same_by_source l w v a.authored.item.source asked) wanted_arcs
      (of_parts (SameAt w v) (λ a. asked_by_source l w a.authored.item.source) wanted_arcs items_named) in
      let rest : flat_map (λ a. asked_by_source l v a.authored.item.source) (filter (λ a. wants_prim a.kind) (here l v n).arcs) ≡ by_items =
      ap (λ (tried : List Tried). flat_map (λ a. asked_by_source l v a.authored.item.source) (filter (λ a. wants_prim a.kind) tried)) same_arcs
      ∙ same_parts (λ a. asked_by_source l v a.authored.item.source) (λ a. asked_by_source l w a.authored.item.source) wanted_arcs each in
      λ i. first i ++ rest i

  pub same_keys_here : keys_at l v n ≡ keys_at l w n
  same_keys_here =
      ap (λ (st : LayerStack). flat_map (λ j. map (λ e. arcs e.0 (up n.path j)) st.layers) (levels_of n.path) ++ map head (asked_at l v n)) stack_here
      ∙ ap (λ (names : List Text). flat_map arc_keys (levels_of n.path) ++ map head names) same_asked

-- ---- no arc leads to `/`

ends_below : (p : Path) (e : Element) → Below (p ++ e ∷ [])
ends_below [] e = tt
ends_below (x ∷ p) e = tt

abbrev BelowOutcome : Outcome → Type 0
BelowOutcome (leads a) = Below a.target
BelowOutcome (gives_no_arc r) = Unit {0}

module _ (l : Limits) (w : World) where
  below_at : (t : StackName) (o : Offset) (p : Option Path) → BelowOutcome (outcome_at l w t o p)
  below_at t o None = tt
  below_at t o (Some []) = tt
  below_at t o (Some (e ∷ p)) = by (is_no_target (e ∷ p)) (leaves_range l w o t)
    where
      by : (a b : Bool) → BelowOutcome (elim a as (λ _. Outcome) [
        | true ↦ gives_no_arc bad_target
        | false ↦ elim b as (λ _. Outcome) [ true ↦ gives_no_arc offset_range | false ↦ leads (record { stack = t; target = e ∷ p; offset = o }) ]
      ])
      by true b = tt
      by false true = tt
      by false false = tt

  below_in : (t : StackName) (i : Item) (h : Heading) → BelowOutcome (outcome_in l w t i h)
  below_in t i no_layer = tt
  below_in t i (refused r) = tt
  below_in t i (headed h) = below_at t i.offset (or_default i.path h)

  below_from : (s : StackName) (i : Item) (from : Source) → BelowOutcome (outcome_from l w s i from)
  below_from s i own = below_in s i (w.heading (first_layer w s))
  below_from s i (named name) = below_in (stack_of w name) i (w.heading name)
  below_from s i (unanchored t) = tt

module _ (l : Limits) (w : World) (n : Node) (j : ℕ) (inside : j < length n.path) where
  good_arc : (o : Outcome) → BelowOutcome o → GoodArc n j o (fault_of l n j o)
  good_arc (leads a) h = by (refusal l n j a) refl
    where
      by : (r : Option Reason) → refusal l n j a ≡ r → GoodArc n j (leads a) r
      by None is = (h, inside, not_deepest l n j a is)
      by (Some r) is = tt
  good_arc (gives_no_arc r) h = tt

  abbrev authored_from : List (Text × ListOp Item) → Item → Authored
  authored_from edits i = record { item = i; author = author_of l w edits i; outcome = outcome_from l w n.stack i i.source }

  good_tried : (k : ArcKind) (os : List Opinion) → Each (GoodTried n) (tried_at l w n k (j, os))
  good_tried k os = by (is_looked_at l w k (frame_at n j))
    where
      by : (looked : Bool) → Each (GoodTried n) (elim looked as (λ _. List Tried) [
        | true ↦ map (tried_item l w k n j) (map (authored_from (edits_of l w k os)) (strongest_folded same_item (map (λ (e : Text × ListOp Item). e.1) (edits_of l w k os))))
        | false ↦ []
      ])
      by true =
          let edits : List (Text × ListOp Item) = edits_of l w k os in
          let items : List Item = strongest_folded same_item (map (λ (e : Text × ListOp Item). e.1) edits) in
          in_map (GoodTried n) (tried_item l w k n j) (map (authored_from edits) items)
          (in_map (λ a. GoodArc n j a.outcome (fault_of l n j a.outcome)) (authored_from edits) items
          (always (λ i. GoodArc n j (outcome_from l w n.stack i i.source) (fault_of l n j (outcome_from l w n.stack i i.source)))
          (λ i. good_arc (outcome_from l w n.stack i i.source) (below_from l w n.stack i i.source)) items))
      by false = tt

  good_target : (set : Text) (variant : Option Text) (rest : List Chosen) → Each (GoodChosen n) rest → Each (GoodChosen n) (cons_option (variant_target l w n j set variant) rest)
  good_target set None rest h = h
  good_target set (Some v) rest h = by (both (is_name set) (both (is_variant_name v) (fits l (child_path n j (author n j ++ Selection set v ∷ [])))))
    where
      by : (b : Bool) → Each (GoodChosen n) (cons_option (elim b as (λ _. Option Chosen) [ true ↦ Some (record { level = j; target = author n j ++ Selection set v ∷ [] }) | false ↦ None ]) rest)
      by true = ((ends_below (author n j) (Selection set v), inside), h)
      by false = h

  good_chosen_of : (sets : List Text) → Each (GoodChosen n) (filter_map (λ set. variant_target l w n j set (find_at same_text set (frame_at n j).choices)) sets)
  good_chosen_of [] = tt
  good_chosen_of (set ∷ sets) =
      good_target set (find_at same_text set (frame_at n j).choices) (filter_map (λ set. variant_target l w n j set (find_at same_text set (frame_at n j).choices)) sets) (good_chosen_of sets)

pub good_here : (l : Limits) (w : World) (n : Node) → GoodHere n (here l w n)
good_here l w n = (
  in_parts (GoodTried n) (λ k. flat_map (tried_at l w n k) said) kinds
      (always (λ k. Each (GoodTried n) (flat_map (tried_at l w n k) said)) (λ k. in_parts (GoodTried n) (tried_at l w n k) said
      (in_map (λ s. Each (GoodTried n) (tried_at l w n k s)) (λ j. (j, opinions_at l w (stack l w n.stack) (author n j))) (levels_of n.path)
      (each_level (λ j. Each (GoodTried n) (tried_at l w n k (j, opinions_at l w (stack l w n.stack) (author n j)))) n.path
      (λ j inside. good_tried l w n j inside k (opinions_at l w (stack l w n.stack) (author n j)))))) kinds),
  in_parts (GoodChosen n) (chosen_at l w n) said
      (in_map (λ s. Each (GoodChosen n) (chosen_at l w n s)) (λ j. (j, opinions_at l w (stack l w n.stack) (author n j))) (levels_of n.path)
      (each_level (λ j. Each (GoodChosen n) (chosen_at l w n (j, opinions_at l w (stack l w n.stack) (author n j)))) n.path
      (λ j inside. good_chosen_of l w n j inside (variant_sets_of (opinions_at l w (stack l w n.stack) (author n j)))))),
)
  where
    said : List (ℕ × List Opinion)
    said = said_at_levels l w (stack l w n.stack) n
