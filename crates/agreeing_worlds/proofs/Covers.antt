-- Worlds that agree on what the view of a path reads have the same view of it, and it reads the same in both.
use Rattle.std.proofs.Common.{◌≡◌, ◌⊎◌, inl, inr, refl, sym, ap, ◌∙◌, subst, ℕ, zero, suc, ◌-◌, ◌<◌, ◌≤◌, Bool, true, false, true≢false, List, [], ◌∷◌, ◌++◌, map, flat_map, filter_map, length, take, take_all, Option, Some, None, arith}
use Rattle.std.specs.List.{list_all, cons_option}
use Rattle.std.specs.Option.{option_map}
use Rattle.std.proofs.lemmas.Bool.{cases_lt}
use Rattle.std.proofs.lemmas.List.{map-append}
use Rattle.std.proofs.lemmas.List.Elements.{recursion_from_All}
use Rattle.list_ops.specs.ListEdits.{firsts}
use Rattle.sdf_paths.specs.declared.element.Element.{Element}
use Rattle.sdf_paths.specs.declared.element.Element.TheVariants.{Prim, Property, Selection}
use Rattle.sdf_paths.specs.Paths.{is_prim_name}
use Rattle.sdf_values.specs.Scales.{Offset, composed}
use Rattle.spec_parts.specs.Blank.{blank_arcs}
use Rattle.spec_parts.specs.declared.spec.BodyPart.{BodyPart}
use Rattle.spec_parts.specs.declared.spec.Spec.{Spec}
use Rattle.spec_properties.specs.Entries.{MetaEntries}
use Rattle.composition.specs.Texts.{Text, first_of}
use Rattle.composition.specs.Paths.{Path, Limits, up, levels, levels_of, has_selections}
use Rattle.composition.specs.World.{World, Root, rule_or_loaded, is_loaded}
use Rattle.composition.specs.Stacks.{LayerStack, stack}
use Rattle.composition.specs.Arcs.{Opinion, opinions_at}
use Rattle.composition.specs.Nodes.{Node, here, frame_at}
use Rattle.composition.specs.Trees.{Tree, node, Trees, none, cut, child, node_of, nodes_of, nodes_among}
use Rattle.composition.specs.Strength.{listing, sites}
use Rattle.composition.specs.Compose.{stage_tree, is_overgrown_on_the_way}
use Rattle.composition.specs.Opinions.{Site, Said, said_at, said_at_all}
use Rattle.composition.specs.Merging.{merged_all}
use Rattle.composition.specs.Fields.{Naming, names_of, listed_children, unlisted_children, children_naming}
use Rattle.composition.specs.Faults.{sublayer, child_too_long, same_fault, Index, index, index_of, site_of, node_faults}
use Rattle.composition.specs.Views.{PrimView, empty_view, head_meta, root_site, view_from, view_by_index, root_meta, root_naming, root_children, root_view, view}
use Rattle.composition.specs.Keys.{Key, load, head, body, keys_at, bodies_at, site_bodies, visits_for, prim_reads, reads, Agree}
use Rattle.agreeing_worlds.specs.Laws.{ReadsCover}
use Rattle.agreeing_worlds.proofs.Values.{rule_in, body_in, roots_in}
use Rattle.agreeing_worlds.proofs.Each.{Each, front_of, back_of, joined, of_map, in_map, of_parts, weaker, same_parts}
use Rattle.agreeing_worlds.proofs.Good.{Below}
use Rattle.agreeing_worlds.proofs.Levels.{each_level, at_level, at_zero}
use Rattle.agreeing_worlds.proofs.Stacks.{SameAt, same_stack, same_heads, first_asked, session_alike}
use Rattle.agreeing_worlds.proofs.Heres.{SameKey, good_here, same_here, same_keys_here, stack_here}
use Rattle.agreeing_worlds.proofs.Growing.{InTree, InAmong, AndBelow, same_stage_tree, same_stage_visits, covers_stage}
use Rattle.agreeing_worlds.proofs.Sites.{in_sites}
use Rattle.agreeing_worlds.proofs.Bodies.{bare, bare_view}

-- ---- fronts of a path

few : (k : ℕ) (p : Path) → length (take k p) ≤ k
few zero p = omega arith
few (suc k) [] = omega arith
few (suc k) (e ∷ p) = let fewer : length (take k p) ≤ k = few k p in omega (arith, fewer)

shorter : (a k : ℕ) (p : Path) → a ≤ k → take a (take k p) ≡ take a p
shorter zero k p less = refl
shorter (suc a) zero p less = absurd (omega (arith, less))
shorter (suc a) (suc k) [] less = refl
shorter (suc a) (suc k) (e ∷ p) less = ap (λ (q : Path). e ∷ q) (shorter a k p (omega (arith, less)))

no_selections : (p : Path) → list_all is_prim_name p ≡ true → has_selections p ≡ false
no_selections [] h = refl
no_selections (Prim name ∷ p) h = no_selections p h
no_selections (Property name ∷ p) h = absurd (true≢false (sym h))
no_selections (Selection set variant ∷ p) h = absurd (true≢false (sym h))

pub plain_levels : (e : Element) (p : Path) → list_all is_prim_name (e ∷ p) ≡ true → levels (e ∷ p) ≡ length (e ∷ p)
plain_levels (Prim name) p h = ap (λ (b : Bool). elim b as (λ _. ℕ) [ true ↦ levels p | false ↦ length (Prim name ∷ p) ]) (no_selections p h)
plain_levels (Property name) p h = absurd (true≢false (sym h))
plain_levels (Selection set variant) p h = absurd (true≢false (sym h))

same_firsts : {X Y : Type 0} (f g : X → Option Y) (xs : List X) → Each (λ x. f x ≡ g x) xs → first_of f xs ≡ first_of g xs
same_firsts f g [] h = refl
same_firsts {X} {Y} f g (x ∷ xs) h =
    let rest : first_of f xs ≡ first_of g xs = same_firsts f g xs h.1 in
    λ i. elim (h.0 i) as (λ _. Option Y) [ Some y ↦ Some y | None ↦ rest i ]

-- ---- the nodes of a tree

module _ (P : Node → Type 0) where
  mutual
    in_nodes : (t : Tree) → InTree P t → Each P (nodes_of t)
    in_nodes (node n h own lifted) is = (is.0, joined P (nodes_among own) (nodes_among lifted) (in_nodes_among own is.1) (in_nodes_among lifted is.2))

    in_nodes_among : (ts : Trees) → InAmong P ts → Each P (nodes_among ts)
    in_nodes_among none is = tt
    in_nodes_among cut is = tt
    in_nodes_among (child b t ts) is = joined P (nodes_of t) (nodes_among ts) (in_nodes t is.0) (in_nodes_among ts is.1)

-- ---- what stands at keys

body_at : (w v : World) (q : Path) → Below q → (name : Text) → SameKey w v (body name q) → option_map (λ s. s.body) (w.spec name q) ≡ option_map (λ s. s.body) (v.spec name q)
body_at w v [] h name same = absurd h
body_at w v (e ∷ p) h name same = ap (body_in None) same

-- ---- load rules

module _ (w v : World) (q : Path) (rules : (j : ℕ) → j < length q → w.rule (up q j) ≡ v.rule (up q j)) (some : 0 < length q) where
  same_rule : (k : ℕ) → 0 < k → v.rule (take k q) ≡ w.rule (take k q)
  same_rule k more = by (cases_lt k (length q))
    where
      by : (k < length q) ⊎ (length q ≤ k) → v.rule (take k q) ≡ w.rule (take k q)
      by (inl less) =
          let back : length q - (length q - k) ≡ k = omega (arith, less) in
          subst (λ (n : ℕ). v.rule (take n q) ≡ w.rule (take n q)) back (sym (rules (length q - k) (omega (arith, less, more))))
      by (inr all) =
          let whole : up q 0 ≡ take k q = at_zero q ∙ sym (take_all k q all) in
          subst (λ (r : Path). v.rule r ≡ w.rule r) whole (sym (rules 0 some))

  same_loaded : (k : ℕ) → 0 < k → is_loaded v (take k q) ≡ is_loaded w (take k q)
  same_loaded k more =
      ap rule_or_loaded
      (same_firsts (λ j. v.rule (up (take k q) j)) (λ j. w.rule (up (take k q) j)) (levels_of (take k q))
      (each_level (λ j. v.rule (up (take k q) j) ≡ w.rule (up (take k q) j)) (take k q) at))
    where
      at : (j : ℕ) → j < length (take k q) → v.rule (up (take k q) j) ≡ w.rule (up (take k q) j)
      at j less =
          let n : ℕ = length (take k q) - j in
          let within : n ≤ k = omega (arith, few k q) in
          subst (λ (r : Path). v.rule r ≡ w.rule r) (sym (shorter n k q within)) (same_rule n (omega (arith, less)))

  same_loads : (k : ℕ) (j : ℕ) → j < length (take k q) → is_loaded v (take (suc j) (take k q)) ≡ is_loaded w (take (suc j) (take k q))
  same_loads k j less =
      let within : suc j ≤ k = omega (arith, less, few k q) in
      subst (λ (r : Path). is_loaded v r ≡ is_loaded w r) (sym (shorter (suc j) k q within)) (same_loaded (suc j) (omega arith))

-- ---- opinions on bodies

module _ (l : Limits) (w v : World) where
  -- the worlds have the same stack at a site, and it does not stand at `/`
  abbrev GoodSite : Site → Type 0
  GoodSite s = (stack l v s.stack ≡ stack l w s.stack) × Below s.path

  abbrev opinion_by : Text × Offset → Option Spec → Option Opinion
  opinion_by e spec = option_map (λ x. record { layer = e.0; offset = e.1; spec = x }) spec

  abbrev said_by : Site → Opinion → Said
  said_by s o = record { site = s; layer = o.layer; offset = composed o.offset s.offset; spec = o.spec }

  abbrev bare_by : Site → Text × Offset → Option BodyPart → Option Said
  bare_by s e b = option_map (λ x. record { site = s; layer = e.0; offset = composed e.1 s.offset; spec = record { arcs = blank_arcs; body = x } }) b

  one_more : (s : Site) (e : Text × Offset) (spec : Option Spec) (os : List Opinion)
      → map bare (map (said_by s) (cons_option (opinion_by e spec) os)) ≡ cons_option (bare_by s e (option_map (λ x. x.body) spec)) (map bare (map (said_by s) os))
  one_more s e None os = refl
  one_more s e (Some x) os = refl

  same_at_layers : (s : Site) → Below s.path → (es : List (Text × Offset)) → Each (λ e. SameKey w v (body e.0 s.path)) es
      → map bare (map (said_by s) (filter_map (λ e. opinion_by e (v.spec e.0 s.path)) es)) ≡ map bare (map (said_by s) (filter_map (λ e. opinion_by e (w.spec e.0 s.path)) es))
  same_at_layers s under [] h = refl
  same_at_layers s under (e ∷ es) h =
      let rest : map bare (map (said_by s) (filter_map (λ x. opinion_by x (v.spec x.0 s.path)) es)) ≡ map bare (map (said_by s) (filter_map (λ x. opinion_by x (w.spec x.0 s.path)) es)) =
      same_at_layers s under es h.1 in
      let bodies : option_map (λ x. x.body) (v.spec e.0 s.path) ≡ option_map (λ x. x.body) (w.spec e.0 s.path) = sym (body_at w v s.path under e.0 h.0) in
      one_more s e (v.spec e.0 s.path) (filter_map (λ x. opinion_by x (v.spec x.0 s.path)) es)
      ∙ (λ i. cons_option (bare_by s e (bodies i)) (rest i))
      ∙ sym (one_more s e (w.spec e.0 s.path) (filter_map (λ x. opinion_by x (w.spec x.0 s.path)) es))

  same_said_at : (s : Site) → GoodSite s → Each (SameKey w v) (bodies_at l w s.stack s.path) → map bare (said_at l v s) ≡ map bare (said_at l w s)
  same_said_at s good h =
      ap (λ (st : LayerStack). map bare (map (said_by s) (opinions_at l v st s.path))) good.0
      ∙ same_at_layers s good.1 (stack l w s.stack).layers (of_map (SameKey w v) (λ e. body e.0 s.path) (stack l w s.stack).layers h)

  same_said : (ss : List Site) → Each GoodSite ss → Each (SameKey w v) (flat_map (λ s. bodies_at l w s.stack s.path) ss) → map bare (said_at_all l v ss) ≡ map bare (said_at_all l w ss)
  same_said [] good h = refl
  same_said (s ∷ ss) good h =
      let mine : List Key = bodies_at l w s.stack s.path in
      let others : List Key = flat_map (λ x. bodies_at l w x.stack x.path) ss in
      let one : map bare (said_at l v s) ≡ map bare (said_at l w s) = same_said_at s good.0 (front_of (SameKey w v) mine others h) in
      let rest : map bare (said_at_all l v ss) ≡ map bare (said_at_all l w ss) = same_said ss good.1 (back_of (SameKey w v) mine others h) in
      map-append bare (said_at l v s) (said_at_all l v ss) ∙ (λ i. one i ++ rest i) ∙ sym (map-append bare (said_at l w s) (said_at_all l w ss))

  abbrev GoodIndex : Option Index → Type 0
  GoodIndex None = Unit {0}
  GoodIndex (Some i) = Each GoodSite i.sites

  -- the worlds have the same stack at a node
  abbrev GoodNode : Node → Type 0
  GoodNode n = stack l v n.stack ≡ stack l w n.stack

  same_node_bodies : (ns : List Node) → Each GoodNode ns → flat_map (λ n. bodies_at l v n.stack n.path) ns ≡ flat_map (λ n. bodies_at l w n.stack n.path) ns
  same_node_bodies ns good =
      same_parts (λ n. bodies_at l v n.stack n.path) (λ n. bodies_at l w n.stack n.path) ns
      (weaker GoodNode (λ n. bodies_at l v n.stack n.path ≡ bodies_at l w n.stack n.path) (λ n is. ap (λ (st : LayerStack). map (λ e. body e.0 n.path) st.layers) is) ns good)

  same_site_bodies : (p : Path) (i : Option Index) → GoodIndex i → stage_tree l (here l v) (is_loaded v) p ≡ stage_tree l (here l w) (is_loaded w) p
      → Each GoodNode (nodes_of (stage_tree l (here l w) (is_loaded w) p)) → site_bodies l v p i ≡ site_bodies l w p i
  same_site_bodies p None good tree nodes =
      ap (λ (t : Tree). flat_map (λ n. bodies_at l v n.stack n.path) (nodes_of t)) tree ∙ same_node_bodies (nodes_of (stage_tree l (here l w) (is_loaded w) p)) nodes
  same_site_bodies p (Some i) good tree nodes =
      same_parts (λ s. bodies_at l v s.stack s.path) (λ s. bodies_at l w s.stack s.path) i.sites
      (weaker GoodSite (λ s. bodies_at l v s.stack s.path ≡ bodies_at l w s.stack s.path) (λ s is. ap (λ (st : LayerStack). map (λ e. body e.0 s.path) st.layers) is.0) i.sites good)

  same_by_index : (p : Path) (i : Option Index) → GoodIndex i → Each (SameKey w v) (site_bodies l w p i) → view_by_index l v p i ≡ view_by_index l w p i
  same_by_index p None good h = refl
  same_by_index p (Some i) good h =
      sym (bare_view l v p i (said_at_all l v i.sites))
      ∙ ap (λ (said : List Said). view_from l v p i said) (same_said i.sites good h)
      ∙ bare_view l w p i (said_at_all l w i.sites)

-- ---- a prim

module _ (l : Limits) (w v : World) (e : Element) (p : Path) (plain : list_all is_prim_name (e ∷ p) ≡ true) (read : Each (SameKey w v) (prim_reads l w (e ∷ p))) where
  abbrev P : Node → Type 0
  P n = Each (SameKey w v) (keys_at l w n)

  abbrev rule_keys : List Key
  rule_keys = map (λ j. load (up (e ∷ p) j)) (levels_of (e ∷ p))

  abbrev node_keys : World → List Key
  node_keys x = flat_map (λ j. flat_map (keys_at l x) (visits_for l x (up (e ∷ p) j))) (levels_of (e ∷ p))

  abbrev body_keys : List Key
  body_keys = site_bodies l w (e ∷ p) (index l w (e ∷ p))

  rules_read : (j : ℕ) → j < length (e ∷ p) → w.rule (up (e ∷ p) j) ≡ v.rule (up (e ∷ p) j)
  rules_read j less =
      let each : Each (λ i. SameKey w v (load (up (e ∷ p) i))) (levels_of (e ∷ p)) =
      of_map (SameKey w v) (λ i. load (up (e ∷ p) i)) (levels_of (e ∷ p)) (front_of (SameKey w v) rule_keys (node_keys w) (front_of (SameKey w v) (rule_keys ++ node_keys w) body_keys read)) in
      ap (rule_in None) (at_level (λ i. SameKey w v (load (up (e ∷ p) i))) (levels (e ∷ p)) each j (subst (λ (n : ℕ). j < n) (sym (plain_levels e p plain)) less))

  bodies_read : Each (SameKey w v) body_keys
  bodies_read = back_of (SameKey w v) (rule_keys ++ node_keys w) body_keys read

  visits_read : Each (λ j. Each (SameKey w v) (flat_map (keys_at l w) (visits_for l w (up (e ∷ p) j)))) (levels_of (e ∷ p))
  visits_read =
      of_parts (SameKey w v) (λ j. flat_map (keys_at l w) (visits_for l w (up (e ∷ p) j))) (levels_of (e ∷ p))
      (back_of (SameKey w v) rule_keys (node_keys w) (front_of (SameKey w v) (rule_keys ++ node_keys w) body_keys read))

  nodes_read : (j : ℕ) → j < length (e ∷ p) → Each P (visits_for l w (up (e ∷ p) j))
  nodes_read j less =
      of_parts (SameKey w v) (keys_at l w) (visits_for l w (up (e ∷ p) j))
      (at_level (λ i. Each (SameKey w v) (flat_map (keys_at l w) (visits_for l w (up (e ∷ p) i)))) (levels (e ∷ p)) visits_read j (subst (λ (n : ℕ). j < n) (sym (plain_levels e p plain)) less))

  tells : (n : Node) → P n → Below n.path → here l v n ≡ here l w n
  tells n keys under = same_here l w v n keys under

  front_loads : (k j : ℕ) → j < length (e ∷ take k p) → is_loaded v (take (suc j) (e ∷ take k p)) ≡ is_loaded w (take (suc j) (e ∷ take k p))
  front_loads k j less = same_loads w v (e ∷ p) rules_read (omega arith) (suc k) j less

  same_front_visits : (k : ℕ) → Each P (visits_for l w (e ∷ take k p)) → visits_for l v (e ∷ take k p) ≡ visits_for l w (e ∷ take k p)
  same_front_visits k seen = same_stage_visits P l (here l w) (here l v) (good_here l w) tells (is_loaded w) (is_loaded v) e (take k p) (front_loads k) seen

  same_visits : (j : ℕ) → j < length (e ∷ p) → visits_for l v (up (e ∷ p) j) ≡ visits_for l w (up (e ∷ p) j)
  same_visits j less =
      let k : ℕ = length p - j in
      let long : suc k ≡ length (e ∷ p) - j = omega (arith, less) in
      let front : e ∷ take k p ≡ up (e ∷ p) j = ap (λ (n : ℕ). take n (e ∷ p)) long in
      subst (λ (q : Path). Each P (visits_for l w q) → visits_for l v q ≡ visits_for l w q) front (same_front_visits k) (nodes_read j less)

  whole_read : Each P (visits_for l w (e ∷ p))
  whole_read = subst (λ (q : Path). Each P (visits_for l w q)) (at_zero (e ∷ p)) (nodes_read 0 (omega arith))

  whole_loads : (j : ℕ) → j < length (e ∷ p) → is_loaded v (take (suc j) (e ∷ p)) ≡ is_loaded w (take (suc j) (e ∷ p))
  whole_loads j less = same_loaded w v (e ∷ p) rules_read (omega arith) (suc j) (omega arith)

  same_tree : stage_tree l (here l v) (is_loaded v) (e ∷ p) ≡ stage_tree l (here l w) (is_loaded w) (e ∷ p)
  same_tree = same_stage_tree P l (here l w) (here l v) (good_here l w) tells (is_loaded w) (is_loaded v) e p whole_loads whole_read

  pub same_index : index l v (e ∷ p) ≡ index l w (e ∷ p)
  same_index = ap (index_of l) same_tree

  its_site : (t : Tree) → AndBelow P (node_of t) → GoodSite l w v (site_of t)
  its_site (node n h own lifted) is = (stack_here l w v n is.0, is.1)

  covered_tree : InTree (AndBelow P) (stage_tree l (here l w) (is_loaded w) (e ∷ p))
  covered_tree = covers_stage P l (here l w) (here l v) (good_here l w) tells (is_loaded w) (is_loaded v) e p whole_loads whole_read

  good_sites : Each (GoodSite l w v) (map site_of (sites l (stage_tree l (here l w) (is_loaded w) (e ∷ p))))
  good_sites =
      let t : Tree = stage_tree l (here l w) (is_loaded w) (e ∷ p) in
      in_map (GoodSite l w v) site_of (sites l t)
      (weaker (λ s. AndBelow P (node_of s)) (λ s. GoodSite l w v (site_of s)) its_site (sites l t) (in_sites (AndBelow P) l t covered_tree))

  good_nodes : Each (GoodNode l w v) (nodes_of (stage_tree l (here l w) (is_loaded w) (e ∷ p)))
  good_nodes =
      let t : Tree = stage_tree l (here l w) (is_loaded w) (e ∷ p) in
      weaker (AndBelow P) (GoodNode l w v) (λ n is. stack_here l w v n is.0) (nodes_of t) (in_nodes (AndBelow P) t covered_tree)

  good_index : GoodIndex l w v (index l w (e ∷ p))
  good_index = by (is_overgrown_on_the_way (stage_tree l (here l w) (is_loaded w) (e ∷ p)))
    where
      by : (b : Bool) → GoodIndex l w v (elim b as (λ _. Option Index) [
        | true ↦ None
        | false ↦ Some (record {
          choices = (frame_at (node_of (stage_tree l (here l w) (is_loaded w) (e ∷ p))) 0).choices;
          sites = map site_of (sites l (stage_tree l (here l w) (is_loaded w) (e ∷ p)));
          faults = firsts same_fault (flat_map node_faults (listing l (stage_tree l (here l w) (is_loaded w) (e ∷ p))));
        })
      ])
      by true = tt
      by false = good_sites

  pub same_prim : view_by_index l v (e ∷ p) (index l v (e ∷ p)) ≡ view_by_index l w (e ∷ p) (index l w (e ∷ p))
  same_prim = ap (λ (i : Option Index). view_by_index l v (e ∷ p) i) same_index ∙ same_by_index l w v (e ∷ p) (index l w (e ∷ p)) good_index bodies_read

  keys_of_level : (j : ℕ) → j < length (e ∷ p) → flat_map (keys_at l v) (visits_for l v (up (e ∷ p) j)) ≡ flat_map (keys_at l w) (visits_for l w (up (e ∷ p) j))
  keys_of_level j less =
      let nodes : List Node = visits_for l w (up (e ∷ p) j) in
      ap (λ (ns : List Node). flat_map (keys_at l v) ns) (same_visits j less)
      ∙ same_parts (keys_at l v) (keys_at l w) nodes (weaker P (λ n. keys_at l v n ≡ keys_at l w n) (λ n keys. same_keys_here l w v n keys) nodes (nodes_read j less))

  pub same_prim_reads : prim_reads l v (e ∷ p) ≡ prim_reads l w (e ∷ p)
  same_prim_reads =
      let nodes : node_keys v ≡ node_keys w =
      same_parts (λ j. flat_map (keys_at l v) (visits_for l v (up (e ∷ p) j))) (λ j. flat_map (keys_at l w) (visits_for l w (up (e ∷ p) j))) (levels_of (e ∷ p))
      (each_level (λ j. flat_map (keys_at l v) (visits_for l v (up (e ∷ p) j)) ≡ flat_map (keys_at l w) (visits_for l w (up (e ∷ p) j))) (e ∷ p) keys_of_level) in
      let bodies : site_bodies l v (e ∷ p) (index l v (e ∷ p)) ≡ body_keys =
      ap (λ (i : Option Index). site_bodies l v (e ∷ p) i) same_index ∙ same_site_bodies l w v (e ∷ p) (index l w (e ∷ p)) good_index same_tree good_nodes in
      λ i. rule_keys ++ nodes i ++ bodies i

-- ---- `/`

module _ (l : Limits) (w v : World) (read : Each (SameKey w v) (reads l w [])) where
  root_asked : Each (SameAt w v) (stack l w Root).asked
  root_asked = same_heads w v (stack l w Root).asked (front_of (SameKey w v) (map head (stack l w Root).asked) (bodies_at l w Root []) read)

  root_stack : stack l v Root ≡ stack l w Root
  root_stack = same_stack l w v Root root_asked

  roots_read : Each (λ e. v.roots e.0 ≡ w.roots e.0) (stack l w Root).layers
  roots_read =
      weaker (λ e. SameKey w v (body e.0 [])) (λ e. v.roots e.0 ≡ w.roots e.0) (λ e same. sym (ap (roots_in None) same)) (stack l w Root).layers
      (of_map (SameKey w v) (λ e. body e.0 []) (stack l w Root).layers (back_of (SameKey w v) (map head (stack l w Root).asked) (bodies_at l w Root []) read))

  same_root_meta : root_meta l v ≡ root_meta l w
  same_root_meta =
      let first : SameAt w v w.root = first_asked l w v Root root_asked in
      let root : head_meta (v.heading v.root) ≡ head_meta (w.heading w.root) = ap (λ (name : Text). head_meta (v.heading name)) (sym first.1) ∙ ap head_meta (sym first.0) in
      let session : elim v.session as (λ _. List MetaEntries) [ None ↦ [] | Some s ↦ head_meta (v.heading s) ] ≡ elim w.session as (λ _. List MetaEntries) [ None ↦ [] | Some s ↦ head_meta (w.heading s) ] =
      ap (λ (session : Option Text). elim session as (λ _. List MetaEntries) [ None ↦ [] | Some s ↦ head_meta (v.heading s) ]) (sym first.2)
      ∙ session_alike l w v head_meta [] w.session root_asked in
      λ i. merged_all (session i ++ root i)

  same_namings : (es : List (Text × Offset)) → Each (λ e. v.roots e.0 ≡ w.roots e.0) es → filter_map (λ e. root_naming l v e.0) es ≡ filter_map (λ e. root_naming l w e.0) es
  same_namings [] h = refl
  same_namings (e ∷ es) h =
      let rest : filter_map (λ x. root_naming l v x.0) es ≡ filter_map (λ x. root_naming l w x.0) es = same_namings es h.1 in
      λ i. cons_option (elim (h.0 i) as (λ _. Option Naming) [ None ↦ None | Some r ↦ Some (children_naming r.names r.order) ]) (rest i)

  same_root_children : root_children l v ≡ root_children l w
  same_root_children =
      ap names_of
      (ap (λ (st : LayerStack). filter_map (λ e. root_naming l v e.0) st.layers) root_stack ∙ same_namings (stack l w Root).layers roots_read)

  pub same_root_view : root_view l v ≡ root_view l w
  same_root_view =
      let children : root_children l v ≡ root_children l w = same_root_children in
      let meta : root_meta l v ≡ root_meta l w = same_root_meta in
      λ i. record empty_view {
        meta = meta i;
        children = listed_children l [] (children i);
        sites = root_site ∷ [];
        faults = firsts same_fault (map sublayer (root_stack i).faults ++ map child_too_long (unlisted_children l [] (children i)));
      }

  pub same_root_reads : reads l v [] ≡ reads l w []
  same_root_reads = ap (λ (st : LayerStack). map head st.asked ++ map (λ e. body e.0 []) st.layers) root_stack

-- ---- every path

not_root : (p : Path) → ¬ (p ≡ []) → Below p
not_root [] h = absurd (h refl)
not_root (e ∷ p) h = tt

agreed : (w v : World) (keys : List Key) → Agree w v keys → Each (SameKey w v) keys
agreed w v keys h = recursion_from_All (SameKey w v) keys h

pub view_covered : (l : Limits) (w v : World) (p : Path) → Agree w v (reads l w p) → view l v p ≡ view l w p
view_covered l w v [] h = same_root_view l w v (agreed w v (reads l w []) h)
view_covered l w v (e ∷ p) h = by (list_all is_prim_name (e ∷ p)) refl (agreed w v (reads l w (e ∷ p)) h)
  where
    by : (b : Bool) → list_all is_prim_name (e ∷ p) ≡ b → Each (SameKey w v) (elim b as (λ _. List Key) [ true ↦ prim_reads l w (e ∷ p) | false ↦ [] ])
        → elim b as (λ _. PrimView) [ true ↦ view_by_index l v (e ∷ p) (index l v (e ∷ p)) | false ↦ empty_view ]
        ≡ elim b as (λ _. PrimView) [ true ↦ view_by_index l w (e ∷ p) (index l w (e ∷ p)) | false ↦ empty_view ]
    by true plain read = same_prim l w v e p plain read
    by false plain read = refl

pub reads_covered : (l : Limits) (w v : World) (p : Path) → Agree w v (reads l w p) → reads l v p ≡ reads l w p
reads_covered l w v [] h = same_root_reads l w v (agreed w v (reads l w []) h)
reads_covered l w v (e ∷ p) h = by (list_all is_prim_name (e ∷ p)) refl (agreed w v (reads l w (e ∷ p)) h)
  where
    by : (b : Bool) → list_all is_prim_name (e ∷ p) ≡ b → Each (SameKey w v) (elim b as (λ _. List Key) [ true ↦ prim_reads l w (e ∷ p) | false ↦ [] ])
        → elim b as (λ _. List Key) [ true ↦ prim_reads l v (e ∷ p) | false ↦ [] ] ≡ elim b as (λ _. List Key) [ true ↦ prim_reads l w (e ∷ p) | false ↦ [] ]
    by true plain read = same_prim_reads l w v e p plain read
    by false plain read = refl

index_covered : (l : Limits) (w v : World) (e : Element) (p : Path) → list_all is_prim_name (e ∷ p) ≡ true → Agree w v (reads l w (e ∷ p)) → index l v (e ∷ p) ≡ index l w (e ∷ p)
index_covered l w v e p plain h = by (list_all is_prim_name (e ∷ p)) plain (agreed w v (reads l w (e ∷ p)) h)
  where
    by : (b : Bool) → b ≡ true → Each (SameKey w v) (elim b as (λ _. List Key) [ true ↦ prim_reads l w (e ∷ p) | false ↦ [] ]) → index l v (e ∷ p) ≡ index l w (e ∷ p)
    by true is read = same_index l w v e p plain read
    by false is read = absurd (true≢false (sym is))

pub reads_cover : ReadsCover
reads_cover = record {
  same_stack = λ l w v s h. same_stack l w v s (same_heads w v (stack l w s).asked (agreed w v (map head (stack l w s).asked) h));
  same_here = λ l w v n below h. same_here l w v n (agreed w v (keys_at l w n) h) (not_root n.path below);
  same_keys = λ l w v n h. same_keys_here l w v n (agreed w v (keys_at l w n) h);
  same_index = index_covered;
  same_view = view_covered;
  same_reads = reads_covered;
}
