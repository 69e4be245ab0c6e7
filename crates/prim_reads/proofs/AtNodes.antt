-- What is gathered at a node is what is read there, and so it is with bodies.
use Rattle.std.proofs.Common.{◌≡◌, ◌⊎◌, inl, inr, refl, sym, ap, subst, ◌∙◌, Bool, true, false, true≢false, not, ◌||◌, cond, List, [], ◌∷◌, ◌++◌, map, flat_map, filter, Option, Some, None}
use Rattle.std.specs.List.{Contains, list_any}
use Rattle.std.proofs.lemmas.List.{map-append}
use Rattle.list_ops.specs.ListEdits.{firsts, contains}
use Rattle.prim_nodes.specs.declared.here.Tried.{Tried}
use Rattle.sdf_values.specs.Scales.{Offset}
use Rattle.composition.specs.Texts.{Text, same_text}
use Rattle.composition.specs.Paths.{Path, limits, up, levels_of}
use Rattle.composition.specs.World.{World, Heading, headed, no_layer, refused, StackName, stack_of, is_loaded}
use Rattle.composition.specs.Stacks.{stack}
use Rattle.composition.specs.Arcs.{Source, own, named, unanchored}
use Rattle.composition.specs.Nodes.{Node, here, frame_at}
use Rattle.composition.specs.Trees.{Tree, node_of, nodes_of}
use Rattle.composition.specs.Opinions.{Site}
use Rattle.composition.specs.Strength.{listing, sites}
use Rattle.composition.specs.Faults.{wants_prim, site_of, same_fault, node_faults, Index, index_of}
use Rattle.composition.specs.Compose.{is_overgrown_on_the_way}
use Rattle.composition.specs.Keys as keys
use Rattle.composition.specs.Keys.{head, arcs, body, asked_if_present, asked_by_source, asked_at, keys_at}
use Rattle.composition.proofs.Members.{none_in, head_in, tail_in, cases_in}
use Rattle.composition.proofs.Same.{same_text_same}
use Rattle.composition.proofs.Tests.{by_test}
use Rattle.layer_set.specs.declared.key.Key.{Key}
use Rattle.layer_set.specs.declared.key.Key.TheVariants.{Head, Arcs, Body}
use Rattle.layer_stack.specs.Meant.{defined_stack, each_once}
use Rattle.prim_index.specs.Reading.{said}
use Rattle.prim_reads.specs.Gathered.{arcs_of, bodies_of, level_arcs, asked_heads, heads_if_there, source_heads, item_heads, items_heads, stack_keys, node_keys, bodies_at, sites_bodies, nodes_bodies, own_bodies}
use Rattle.prim_reads.specs.Reads.{key_in}
use Rattle.prim_reads.proofs.Same.{Same, itself, joined, through, turned, same_list, map_parts}

-- ---- items that pass a test, and items each once

module _ {X : Type 0} (p : X → Bool) where
  pub in_kept : (xs : List X) (x : X) → Contains xs x → p x ≡ true → Contains (filter p xs) x
  in_kept [] x has on = absurd (none_in x has)
  in_kept (y ∷ ys) x has on = by (p y) refl (in_kept ys x) (cases_in y ys x has)
    where
      by : (b : Bool) → p y ≡ b → (Contains ys x → p x ≡ true → Contains (filter p ys) x) → (y ≡ x) ⊎ Contains ys x → Contains (cond b (y ∷ filter p ys) (filter p ys)) x
      by true is rest (inl e) = subst (λ (z : X). Contains (y ∷ filter p ys) z) e (head_in y (filter p ys))
      by true is rest (inr more) = tail_in y (filter p ys) x (rest more on)
      by false is rest (inl e) = absurd (true≢false (sym on ∙ (sym (ap p e) ∙ is)))
      by false is rest (inr more) = rest more on

  pub of_kept : (xs : List X) (x : X) → Contains (filter p xs) x → Contains xs x × (p x ≡ true)
  of_kept [] x has = absurd (none_in x has)
  of_kept (y ∷ ys) x has = by (p y) refl (of_kept ys x) has
    where
      further : Contains ys x × (p x ≡ true) → Contains (y ∷ ys) x × (p x ≡ true)
      further rest = (tail_in y ys x rest.0, rest.1)

      first : p y ≡ true → (Contains (filter p ys) x → Contains ys x × (p x ≡ true)) → (y ≡ x) ⊎ Contains (filter p ys) x → Contains (y ∷ ys) x × (p x ≡ true)
      first on rest (inl e) = (subst (λ (z : X). Contains (y ∷ ys) z) e (head_in y ys), sym (ap p e) ∙ on)
      first on rest (inr more) = further (rest more)

      by : (b : Bool) → p y ≡ b → (Contains (filter p ys) x → Contains ys x × (p x ≡ true)) → Contains (cond b (y ∷ filter p ys) (filter p ys)) x → Contains (y ∷ ys) x × (p x ≡ true)
      by true is rest h = first is rest (cases_in y (filter p ys) x h)
      by false is rest h = further (rest h)

once_has : (xs : List Text) (x : Text) → Contains xs x → Contains (firsts same_text xs) x
once_has [] x has = absurd (none_in x has)
once_has (y ∷ ys) x has = elim (cases_in y ys x has) [
  | inl e ↦ subst (λ (z : Text). Contains (firsts same_text (y ∷ ys)) z) e (head_in y (filter (λ z. not (contains same_text (y ∷ []) z)) (firsts same_text ys)))
  | inr more ↦ by_test (same_text y x)
      (λ on. subst (λ (z : Text). Contains (firsts same_text (y ∷ ys)) z) (same_text_same y x on) (head_in y (filter (λ z. not (contains same_text (y ∷ []) z)) (firsts same_text ys))))
      (λ off. tail_in y (filter (λ z. not (contains same_text (y ∷ []) z)) (firsts same_text ys)) x
      (in_kept (λ z. not (contains same_text (y ∷ []) z)) (firsts same_text ys) x (once_has ys x more) (ap (λ (b : Bool). not (b || false)) off)))
]

once_only : (xs : List Text) (x : Text) → Contains (firsts same_text xs) x → Contains xs x
once_only [] x has = has
once_only (y ∷ ys) x has = elim (cases_in y (filter (λ z. not (contains same_text (y ∷ []) z)) (firsts same_text ys)) x has) [
  | inl e ↦ subst (λ (z : Text). Contains (y ∷ ys) z) e (head_in y ys)
  | inr more ↦ tail_in y ys x (once_only ys x (of_kept (λ z. not (contains same_text (y ∷ []) z)) (firsts same_text ys) x more).0)
]

module _ {A B : Type 0} (f : A → B) where
  in_map : (xs : List A) (x : A) → Contains xs x → Contains (map f xs) (f x)
  in_map [] x has = absurd (none_in x has)
  in_map (y ∷ ys) x has = elim (cases_in y ys x has) [
    | inl e ↦ subst (λ (z : A). Contains (f y ∷ map f ys) (f z)) e (head_in (f y) (map f ys))
    | inr more ↦ tail_in (f y) (map f ys) (f x) (in_map ys x more)
  ]

  mapped_has : (xs ys : List A) → ((x : A) → Contains xs x → Contains ys x) → (b : B) → Contains (map f xs) b → Contains (map f ys) b
  mapped_has [] ys has b h = absurd (none_in b h)
  mapped_has (x ∷ xs) ys has b h = elim (cases_in (f x) (map f xs) b h) [
    | inl e ↦ subst (λ (c : B). Contains (map f ys) c) e (in_map ys x (has x (head_in x xs)))
    | inr more ↦ mapped_has xs ys (λ z there. has z (tail_in x xs z there)) b more
  ]

once_same : (names : List Text) → Same (map Head (firsts same_text names)) (map Head names)
once_same names = (mapped_has Head (firsts same_text names) names (once_only names), mapped_has Head names (firsts same_text names) (once_has names))

-- ---- keys of one kind

pub heads_are : (names : List Text) → map key_in (map head names) ≡ map Head names
heads_are [] = refl
heads_are (name ∷ names) = ap (λ (ks : List Key). Head name ∷ ks) (heads_are names)

arcs_are : (layers : List (Text × Offset)) (p : Path) → map key_in (map (λ e. arcs e.0 p) layers) ≡ arcs_of layers p
arcs_are [] p = refl
arcs_are (e ∷ es) p = ap (λ (ks : List Key). Arcs e.0 p ∷ ks) (arcs_are es p)

bodies_are : (layers : List (Text × Offset)) (p : Path) → map key_in (map (λ e. body e.0 p) layers) ≡ bodies_of layers p
bodies_are [] p = refl
bodies_are (e ∷ es) p = ap (λ (ks : List Key). Body e.0 p ∷ ks) (bodies_are es p)

parts_are : {A B : Type 0} (f g : A → List B) (xs : List A) → ((x : A) → f x ≡ g x) → flat_map f xs ≡ flat_map g xs
parts_are f g [] h = refl
parts_are f g (x ∷ xs) h = let rest = parts_are f g xs h in λ i. h x i ++ rest i

module _ (w : World) where
  levels_are : (layers : List (Text × Offset)) (p : Path) → level_arcs layers p ≡ map key_in (flat_map (λ j. map (λ e. arcs e.0 (up p j)) layers) (levels_of p))
  unfolding level_arcs
  levels_are layers p =
      sym (map_parts key_in (λ j. map (λ e. arcs e.0 (up p j)) layers) (levels_of p)
      ∙ parts_are (λ j. map key_in (map (λ e. arcs e.0 (up p j)) layers)) (λ j. arcs_of layers (up p j)) (levels_of p) (λ j. arcs_are layers (up p j)))

  pub asked_same : (s : StackName) → Same (asked_heads w s) (map Head (stack limits w s).asked)
  unfolding asked_heads defined_stack
  asked_same s = once_same (stack limits w s).asked

  there_same : (name : Text) (x : Heading) → Same (heads_if_there w name x) (map Head (asked_if_present limits w (stack_of w name) x))
  there_same name (headed x) = asked_same (stack_of w name)
  there_same name no_layer = itself []
  there_same name (refused r) = itself []

  source_same : (s : Source) → Same (source_heads w s) (map Head (asked_by_source limits w s))
  source_same own = itself []
  source_same (named name) =
      joined (Head name ∷ []) (heads_if_there w name (w.heading name)) (Head name ∷ []) (map Head (asked_if_present limits w (stack_of w name) (w.heading name)))
      (itself (Head name ∷ [])) (there_same name (w.heading name))
  source_same (unanchored t) = itself []

  items_same : (items : List Tried) → Same (items_heads w items) (map Head (flat_map (λ a. asked_by_source limits w a.authored.item.source) (filter (λ a. wants_prim a.kind) items)))
  unfolding items_heads item_heads
  items_same [] = itself []
  items_same (a ∷ items) = by (wants_prim a.kind) (items_same items)
    where
      by : (b : Bool) → Same (items_heads w items) (map Head (flat_map (λ a. asked_by_source limits w a.authored.item.source) (filter (λ a. wants_prim a.kind) items)))
          → Same (elim b as (λ _. List Key) [ true ↦ source_heads w a.authored.item.source | false ↦ [] ] ++ items_heads w items)
          (map Head (flat_map (λ a. asked_by_source limits w a.authored.item.source) (cond b (a ∷ filter (λ a. wants_prim a.kind) items) (filter (λ a. wants_prim a.kind) items))))
      by true rest =
          let others : List Text = flat_map (λ a. asked_by_source limits w a.authored.item.source) (filter (λ a. wants_prim a.kind) items) in
          through (source_heads w a.authored.item.source ++ items_heads w items) (map Head (asked_by_source limits w a.authored.item.source) ++ map Head others)
          (map Head (asked_by_source limits w a.authored.item.source ++ others))
          (joined (source_heads w a.authored.item.source) (items_heads w items) (map Head (asked_by_source limits w a.authored.item.source)) (map Head others) (source_same a.authored.item.source) rest)
          (same_list (map Head (asked_by_source limits w a.authored.item.source) ++ map Head others) (map Head (asked_by_source limits w a.authored.item.source ++ others))
          (sym (map-append Head (asked_by_source limits w a.authored.item.source) others)))
      by false rest = rest

  module _ (n : Node) where
    abbrev layers : List (Text × Offset)
    layers = (stack limits w n.stack).layers

    abbrev by_items : List Text
    by_items = flat_map (λ a. asked_by_source limits w a.authored.item.source) (filter (λ a. wants_prim a.kind) (here limits w n).arcs)

    abbrev read_levels : List keys.Key
    read_levels = flat_map (λ j. map (λ e. arcs e.0 (up n.path j)) layers) (levels_of n.path)

    read_is : map key_in (keys_at limits w n) ≡ map key_in read_levels ++ (map Head (stack limits w n.stack).asked ++ map Head by_items)
    read_is =
        map-append key_in read_levels (map head ((stack limits w n.stack).asked ++ by_items))
        ∙ ap (λ (ks : List Key). map key_in read_levels ++ ks) (heads_are ((stack limits w n.stack).asked ++ by_items) ∙ map-append Head (stack limits w n.stack).asked by_items)

    assoc : (a b c : List Key) → (a ++ b) ++ c ≡ a ++ (b ++ c)
    assoc [] b c = refl
    assoc (x ∷ a) b c = ap (λ (ks : List Key). x ∷ ks) (assoc a b c)

    pub node_same : Same (node_keys w n (said limits w n)) (map key_in (keys_at limits w n))
    unfolding node_keys stack_keys said defined_stack
    node_same =
        let levels : Same (level_arcs layers n.path) (map key_in read_levels) = same_list (level_arcs layers n.path) (map key_in read_levels) (levels_are layers n.path) in
        let heads : Same (asked_heads w n.stack ++ items_heads w (here limits w n).arcs) (map Head (stack limits w n.stack).asked ++ map Head by_items) =
        joined (asked_heads w n.stack) (items_heads w (here limits w n).arcs) (map Head (stack limits w n.stack).asked) (map Head by_items) (asked_same n.stack) (items_same (here limits w n).arcs) in
        let first : List Key = level_arcs layers n.path in
        let second : List Key = asked_heads w n.stack in
        let third : List Key = items_heads w (here limits w n).arcs in
        through ((first ++ second) ++ third) (first ++ (second ++ third)) (map key_in (keys_at limits w n))
        (same_list ((first ++ second) ++ third) (first ++ (second ++ third)) (assoc first second third))
        (through (first ++ (second ++ third)) (map key_in read_levels ++ (map Head (stack limits w n.stack).asked ++ map Head by_items)) (map key_in (keys_at limits w n))
        (joined first (second ++ third) (map key_in read_levels) (map Head (stack limits w n.stack).asked ++ map Head by_items) levels heads)
        (same_list (map key_in read_levels ++ (map Head (stack limits w n.stack).asked ++ map Head by_items)) (map key_in (keys_at limits w n)) (sym read_is)))

  -- ---- bodies

  pub bodies_same : (s : StackName) (p : Path) → bodies_at w s p ≡ map key_in (keys.bodies_at limits w s p)
  unfolding bodies_at defined_stack
  bodies_same s p = sym (bodies_are (stack limits w s).layers p)

  abbrev pub bodies_by : Tree → Option Index → List keys.Key
  bodies_by t None = flat_map (λ n. keys.bodies_at limits w n.stack n.path) (nodes_of t)
  bodies_by t (Some i) = flat_map (λ s. keys.bodies_at limits w s.stack s.path) i.sites

  pub own_bodies_are : (t : Tree) → own_bodies w t ≡ map key_in (bodies_by t (index_of limits t))
  unfolding own_bodies nodes_bodies sites_bodies
  own_bodies_are t = by (is_overgrown_on_the_way t)
    where
      on_nodes : flat_map (λ n. bodies_at w n.stack n.path) (nodes_of t) ≡ map key_in (flat_map (λ n. keys.bodies_at limits w n.stack n.path) (nodes_of t))
      on_nodes =
          parts_are (λ n. bodies_at w n.stack n.path) (λ n. map key_in (keys.bodies_at limits w n.stack n.path)) (nodes_of t) (λ n. bodies_same n.stack n.path)
          ∙ sym (map_parts key_in (λ n. keys.bodies_at limits w n.stack n.path) (nodes_of t))

      at_sites : (ss : List Site) → flat_map (λ s. bodies_at w s.stack s.path) ss ≡ map key_in (flat_map (λ s. keys.bodies_at limits w s.stack s.path) ss)
      at_sites ss =
          parts_are (λ s. bodies_at w s.stack s.path) (λ s. map key_in (keys.bodies_at limits w s.stack s.path)) ss (λ s. bodies_same s.stack s.path)
          ∙ sym (map_parts key_in (λ s. keys.bodies_at limits w s.stack s.path) ss)

      by : (b : Bool) → elim b as (λ _. List Key) [ true ↦ nodes_bodies w t | false ↦ sites_bodies w (map site_of (sites limits t)) ]
          ≡ map key_in (bodies_by t (elim b as (λ _. Option Index) [
            | true ↦ None
            | false ↦ Some (record {
              choices = (frame_at (node_of t) 0).choices;
              sites = map site_of (sites limits t);
              faults = firsts same_fault (flat_map node_faults (listing limits t));
            })
          ]))
      by true = on_nodes
      by false = at_sites (map site_of (sites limits t))
