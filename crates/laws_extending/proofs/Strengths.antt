-- The order of strength, the choices of a round and the sites do not look at what is said of higher levels.
use Rattle.std.proofs.Common.{◌≡◌, refl, sym, ap, ◌∙◌, ℕ, ◌+◌, nat_le, nat_lt, Bool, true, false, not, cond, ◌||◌, List, [], ◌∷◌, ◌++◌, map, flat_map, filter, filter_map, Option, Some, None}
use Rattle.std.specs.List.{list_any, cons_option}
use Rattle.std.specs.Option.{option_map}
use Rattle.std.proofs.lemmas.List.{map-append}
use Rattle.path_maps.specs.declared.kind.ArcKind.{ArcKind}
use Rattle.path_maps.specs.declared.kind.ArcKind.TheVariants.{Inherits, Variant, Reference, Payload, Specializes}
use Rattle.list_ops.specs.ListEdits.{firsts, without}
use Rattle.composition.specs.Texts.{Text, same_text, find_at, first_of, both}
use Rattle.composition.specs.Paths.{Limits}
use Rattle.composition.specs.Arcs.{same_kind}
use Rattle.composition.specs.Nodes.{Node, Choices}
use Rattle.composition.specs.Trees.{Tree, node, Trees, none, cut, child, Branch, Class, is_class_of, classes, any_child, node_of, here_of, is_overgrown, nodes_of, nodes_among}
use Rattle.composition.specs.Strength.{same_site, same_place, is_lifted_inherits, leads_on, is_class_child, has_class_child, is_shared, one_if, Ranked, above_child, rank_of, Parts, part_of, by_classes, by_kind, by_strength, strong, strong_parts, specialized, weak, weak_parts, strong_of, weak_of, listing, best_places, not_among, sites}
use Rattle.composition.specs.Faults.{site_of}
use Rattle.composition.specs.Compose.{is_overgrown_on_the_way, sets_met, first_selection, decided}
use Rattle.laws_extending.specs.Thin.{thin, thin_among}
use Rattle.laws_extending.proofs.Thinned.{thin_overgrown, thin_classes}

pub same_node : (t : Tree) → node_of (thin t) ≡ node_of t
same_node (node n h own lifted) = refl

thin_any_child : (test : Branch → Tree → Bool) → ((b : Branch) (t : Tree) → test b (thin t) ≡ test b t) → (ts : Trees) → any_child test (thin_among ts) ≡ any_child test ts
thin_any_child test same none = refl
thin_any_child test same cut = refl
thin_any_child test same (child b t ts) =
    let one : test b (thin t) ≡ test b t = same b t in
    let rest : any_child test (thin_among ts) ≡ any_child test ts = thin_any_child test same ts in
    λ i. elim (one i) as (λ _. Bool) [ true ↦ true | false ↦ rest i ]

same_class_child : (n : Node) (b : Branch) (t : Tree) → is_class_child n b (thin t) ≡ is_class_child n b t
same_class_child n b t = ap (λ (x : Node). both (same_kind Inherits b.kind) (same_site x n)) (same_node t)

same_has : (n : Node) (t : Tree) → has_class_child n (thin t) ≡ has_class_child n t
same_has n (node m h own lifted) =
    let one = thin_any_child (is_class_child n) (same_class_child n) own in
    let two = thin_any_child (is_class_child n) (same_class_child n) lifted in
    λ i. elim (one i) as (λ _. Bool) [ true ↦ true | false ↦ two i ]

same_shared : (n : Node) (siblings : Trees) → is_shared n (thin_among siblings) ≡ is_shared n siblings
same_shared n siblings = thin_any_child (λ b t. both (leads_on b) (has_class_child n t)) (λ b t. ap (λ (c : Bool). both (leads_on b) c) (same_has n t)) siblings

same_rank : (above : ℕ) (siblings : Trees) (b : Branch) (t : Tree) → rank_of above (thin_among siblings) b (node_of (thin t)) ≡ rank_of above siblings b (node_of t)
same_rank above siblings b t =
    ap (λ (x : Node). above + one_if (both (is_lifted_inherits b) (is_shared x (thin_among siblings)))) (same_node t)
    ∙ ap (λ (c : Bool). above + one_if (both (is_lifted_inherits b) c)) (same_shared (node_of t) siblings)

-- ---- places

abbrev pub ranked : Ranked → Ranked
ranked e = (thin e.0, e.1)

abbrev standing : Branch × List Ranked → Branch × List Ranked
standing e = (e.0, map ranked e.1)

same_part : (k : ArcKind) (c : Class) (ps : Parts) → part_of k c (map standing ps) ≡ map ranked (part_of k c ps)
same_part k c [] = refl
same_part k c (e ∷ es) = by (is_class_of k c e.0) (same_part k c es)
  where
    by : (b : Bool) → part_of k c (map standing es) ≡ map ranked (part_of k c es)
        → (elim b as (λ _. List Ranked) [ true ↦ map ranked e.1 | false ↦ part_of k c (map standing es) ]) ≡ map ranked (elim b as (λ _. List Ranked) [ true ↦ e.1 | false ↦ part_of k c es ])
    by true h = refl
    by false h = h

same_by_classes : (k : ArcKind) (cs : List Class) (ps : Parts) → by_classes k cs (map standing ps) ≡ map ranked (by_classes k cs ps)
same_by_classes k [] ps = refl
same_by_classes k (c ∷ cs) ps =
    let one = same_part k c ps in
    let rest = same_by_classes k cs ps in
    (λ i. one i ++ rest i) ∙ sym (map-append ranked (part_of k c ps) (by_classes k cs ps))

same_by_kind : (k : ArcKind) (ps : Parts) → by_kind k (map standing ps) ≡ map ranked (by_kind k ps)
same_by_kind k [] = refl
same_by_kind k (e ∷ es) = by (same_kind k e.0.kind) (same_by_kind k es)
  where
    kept : Parts → Parts
    kept ps = filter (λ x. same_kind k x.0.kind) ps

    by : (b : Bool) → flat_map (λ x. x.1) (filter (λ x. same_kind k x.0.kind) (map standing es)) ≡ map ranked (flat_map (λ x. x.1) (filter (λ x. same_kind k x.0.kind) es))
        → flat_map (λ x. x.1) (cond b (standing e ∷ filter (λ x. same_kind k x.0.kind) (map standing es)) (filter (λ x. same_kind k x.0.kind) (map standing es)))
        ≡ map ranked (flat_map (λ x. x.1) (cond b (e ∷ filter (λ x. same_kind k x.0.kind) es) (filter (λ x. same_kind k x.0.kind) es)))
    by true h = ap (λ (xs : List Ranked). map ranked e.1 ++ xs) h ∙ sym (map-append ranked e.1 (flat_map (λ x. x.1) (filter (λ x. same_kind k x.0.kind) es)))
    by false h = h

same_by_strength : (cs : List Class) (ps : Parts) → by_strength cs (map standing ps) ≡ map ranked (by_strength cs ps)
same_by_strength cs ps =
    let a = same_by_classes Inherits cs ps in
    let b = same_by_kind Variant ps in
    let c = same_by_kind Reference ps in
    let d = same_by_kind Payload ps in
    (λ i. a i ++ b i ++ c i ++ d i)
    ∙ ap (λ (xs : List Ranked). xs ++ map ranked (by_kind Reference ps) ++ map ranked (by_kind Payload ps)) (sym (map-append ranked (by_classes Inherits cs ps) (by_kind Variant ps)))
    ∙ ap (λ (xs : List Ranked). xs ++ map ranked (by_kind Payload ps)) (sym (map-append ranked (by_classes Inherits cs ps ++ by_kind Variant ps) (by_kind Reference ps)))
    ∙ sym (map-append ranked (by_classes Inherits cs ps ++ by_kind Variant ps ++ by_kind Reference ps) (by_kind Payload ps))

module _ (l : Limits) where
  mutual
    thin_strong : (above rank : ℕ) (t : Tree) → strong l above rank (thin t) ≡ map ranked (strong l above rank t)
    thin_strong above rank (node n h own lifted) =
        let classes_same : classes l Inherits (thin (node n h own lifted)) ≡ classes l Inherits (node n h own lifted) = thin_classes l Inherits (node n h own lifted) in
        let one = thin_strong_parts above own own in
        let two = thin_strong_parts above own lifted in
        ap (λ (ps : Parts). (thin (node n h own lifted), rank) ∷ by_strength (classes l Inherits (thin (node n h own lifted))) ps)
        ((λ i. one i ++ two i) ∙ sym (map-append standing (strong_parts l above own own) (strong_parts l above own lifted)))
        ∙ ap (λ (cs : List Class). (thin (node n h own lifted), rank) ∷ by_strength cs (map standing (strong_parts l above own own ++ strong_parts l above own lifted))) classes_same
        ∙ ap (λ (xs : List Ranked). (thin (node n h own lifted), rank) ∷ xs) (same_by_strength (classes l Inherits (node n h own lifted)) (strong_parts l above own own ++ strong_parts l above own lifted))

    thin_strong_parts : (above : ℕ) (siblings ts : Trees) → strong_parts l above (thin_among siblings) (thin_among ts) ≡ map standing (strong_parts l above siblings ts)
    thin_strong_parts above siblings none = refl
    thin_strong_parts above siblings cut = refl
    thin_strong_parts above siblings (child b t ts) =
        let rest : strong_parts l above (thin_among siblings) (thin_among ts) ≡ map standing (strong_parts l above siblings ts) = thin_strong_parts above siblings ts in
        let one : strong l (above_child above b) (rank_of above (thin_among siblings) b (node_of (thin t))) (thin t) ≡ map ranked (strong l (above_child above b) (rank_of above siblings b (node_of t)) t) =
        ap (λ (r : ℕ). strong l (above_child above b) r (thin t)) (same_rank above siblings b t) ∙ thin_strong (above_child above b) (rank_of above siblings b (node_of t)) t in
        λ i. (b, one i) ∷ rest i

  by_special : (c : Bool) (up rank : ℕ) (t : Tree) → strong l up rank (thin t) ≡ map ranked (strong l up rank t) → weak l up rank (thin t) ≡ map ranked (weak l up rank t)
      → (elim c as (λ _. List Ranked) [ true ↦ strong l up rank (thin t) ++ weak l up rank (thin t) | false ↦ weak l up rank (thin t) ])
      ≡ map ranked (elim c as (λ _. List Ranked) [ true ↦ strong l up rank t ++ weak l up rank t | false ↦ weak l up rank t ])
  by_special true up rank t s v = (λ i. s i ++ v i) ∙ sym (map-append ranked (strong l up rank t) (weak l up rank t))
  by_special false up rank t s v = v

  mutual
    thin_weak : (above rank : ℕ) (t : Tree) → weak l above rank (thin t) ≡ map ranked (weak l above rank t)
    thin_weak above rank (node n h own lifted) =
        let t : Tree = node n h own lifted in
        let inherited : classes l Inherits (thin t) ≡ classes l Inherits t = thin_classes l Inherits t in
        let special : classes l Specializes (thin t) ≡ classes l Specializes t = thin_classes l Specializes t in
        let one = thin_weak_parts above own own in
        let two = thin_weak_parts above own lifted in
        let ps : Parts = weak_parts l above own own ++ weak_parts l above own lifted in
        ap (λ (qs : Parts). by_classes Specializes (classes l Specializes (thin t)) qs ++ by_strength (classes l Inherits (thin t)) qs)
        ((λ i. one i ++ two i) ∙ sym (map-append standing (weak_parts l above own own) (weak_parts l above own lifted)))
        ∙ (λ i. by_classes Specializes (special i) (map standing ps) ++ by_strength (inherited i) (map standing ps))
        ∙ (λ i. same_by_classes Specializes (classes l Specializes t) ps i ++ same_by_strength (classes l Inherits t) ps i)
        ∙ sym (map-append ranked (by_classes Specializes (classes l Specializes t) ps) (by_strength (classes l Inherits t) ps))

    thin_weak_parts : (above : ℕ) (siblings ts : Trees) → weak_parts l above (thin_among siblings) (thin_among ts) ≡ map standing (weak_parts l above siblings ts)
    thin_weak_parts above siblings none = refl
    thin_weak_parts above siblings cut = refl
    thin_weak_parts above siblings (child b t ts) =
        let rest : weak_parts l above (thin_among siblings) (thin_among ts) ≡ map standing (weak_parts l above siblings ts) = thin_weak_parts above siblings ts in
        let rank : ℕ = rank_of above siblings b (node_of t) in
        let up : ℕ = above_child above b in
        let of : ℕ → Tree → List Ranked = λ r x. elim (specialized l b.kind) as (λ _. List Ranked) [ true ↦ strong l up r x ++ weak l up r x | false ↦ weak l up r x ] in
        let one : of (rank_of above (thin_among siblings) b (node_of (thin t))) (thin t) ≡ map ranked (of rank t) =
        ap (λ (r : ℕ). of r (thin t)) (same_rank above siblings b t) ∙ by_special (specialized l b.kind) up rank t (thin_strong up rank t) (thin_weak up rank t) in
        λ i. (b, one i) ∷ rest i

  -- ---- the listing and the sites

  same_firsts : (xs : List Ranked) → map (λ (e : Ranked). e.0) (map ranked xs) ≡ map thin (map (λ (e : Ranked). e.0) xs)
  same_firsts [] = refl
  same_firsts (x ∷ xs) = ap (λ (ts : List Tree). thin x.0 ∷ ts) (same_firsts xs)

  pub thin_listing : (t : Tree) → listing l (thin t) ≡ map thin (listing l t)
  thin_listing t =
      let one = thin_strong 0 0 t in
      let two = thin_weak 0 0 t in
      ap (λ (xs : List Ranked). map (λ (e : Ranked). e.0) xs) ((λ i. one i ++ two i) ∙ sym (map-append ranked (strong_of l t) (weak_of l t)))
      ∙ same_firsts (strong_of l t ++ weak_of l t)

  same_places : (s t : Tree) → same_place (thin s) (thin t) ≡ same_place s t
  same_places s t = let one = same_node s in let two = same_node t in λ i. same_site (one i) (two i)

  any_ranked : (test other : Ranked → Bool) → ((x : Ranked) → other (ranked x) ≡ test x) → (xs : List Ranked) → list_any other (map ranked xs) ≡ list_any test xs
  any_ranked test other same [] = refl
  any_ranked test other same (x ∷ xs) = let one = same x in let rest = any_ranked test other same xs in λ i. one i || rest i

  thin_best : (before after : List Ranked) → best_places l (map ranked before) (map ranked after) ≡ map ranked (best_places l before after)
  thin_best before [] = refl
  thin_best before (e ∷ after) =
      let stronger : list_any (λ x. both (nat_le x.1 e.1) (same_place x.0 (thin e.0))) (map ranked before) ≡ list_any (λ x. both (nat_le x.1 e.1) (same_place x.0 e.0)) before =
      any_ranked (λ x. both (nat_le x.1 e.1) (same_place x.0 e.0)) (λ x. both (nat_le x.1 e.1) (same_place x.0 (thin e.0))) (λ x. ap (λ (b : Bool). both (nat_le x.1 e.1) b) (same_places x.0 e.0)) before in
      let better : list_any (λ x. both (nat_lt x.1 e.1) (same_place x.0 (thin e.0))) (map ranked after) ≡ list_any (λ x. both (nat_lt x.1 e.1) (same_place x.0 e.0)) after =
      any_ranked (λ x. both (nat_lt x.1 e.1) (same_place x.0 e.0)) (λ x. both (nat_lt x.1 e.1) (same_place x.0 (thin e.0))) (λ x. ap (λ (b : Bool). both (nat_lt x.1 e.1) b) (same_places x.0 e.0)) after in
      let rest : best_places l (ranked e ∷ map ranked before) (map ranked after) ≡ map ranked (best_places l (e ∷ before) after) = thin_best (e ∷ before) after in
      (λ i. elim (stronger i) as (λ _. List Ranked) [
        | true ↦ rest i
        | false ↦ elim (better i) as (λ _. List Ranked) [ true ↦ rest i | false ↦ ranked e ∷ rest i ]
      ])
      ∙ by (list_any (λ x. both (nat_le x.1 e.1) (same_place x.0 e.0)) before) (list_any (λ x. both (nat_lt x.1 e.1) (same_place x.0 e.0)) after) (best_places l (e ∷ before) after)
    where
      by : (a b : Bool) (xs : List Ranked) → (elim a as (λ _. List Ranked) [ true ↦ map ranked xs | false ↦ elim b as (λ _. List Ranked) [ true ↦ map ranked xs | false ↦ ranked e ∷ map ranked xs ] ])
          ≡ map ranked (elim a as (λ _. List Ranked) [ true ↦ xs | false ↦ elim b as (λ _. List Ranked) [ true ↦ xs | false ↦ e ∷ xs ] ])
      by true b xs = refl
      by false true xs = refl
      by false false xs = refl

  thin_not_among : (es : List Ranked) (x : Ranked) → not_among l (map ranked es) (ranked x) ≡ not_among l es x
  thin_not_among es x = ap not (any_ranked (λ e. same_place e.0 x.0) (λ e. same_place e.0 (thin x.0)) (λ e. same_places e.0 x.0) es)

  thin_filter : (test other : Ranked → Bool) → ((x : Ranked) → other (ranked x) ≡ test x) → (xs : List Ranked) → filter other (map ranked xs) ≡ map ranked (filter test xs)
  thin_filter test other same [] = refl
  thin_filter test other same (x ∷ xs) =
      ap (λ (b : Bool). cond b (ranked x ∷ filter other (map ranked xs)) (filter other (map ranked xs))) (same x) ∙ by (test x) (thin_filter test other same xs)
    where
      by : (b : Bool) → filter other (map ranked xs) ≡ map ranked (filter test xs)
          → cond b (ranked x ∷ filter other (map ranked xs)) (filter other (map ranked xs)) ≡ map ranked (cond b (x ∷ filter test xs) (filter test xs))
      by true h = ap (λ (ys : List Ranked). ranked x ∷ ys) h
      by false h = h

  pub thin_sites : (t : Tree) → sites l (thin t) ≡ map thin (sites l t)
  thin_sites t =
      let s : List Ranked = strong_of l t in
      let v : List Ranked = weak_of l t in
      let strongs : strong_of l (thin t) ≡ map ranked s = thin_strong 0 0 t in
      let weaks : weak_of l (thin t) ≡ map ranked v = thin_weak 0 0 t in
      let first : best_places l [] (map ranked s) ≡ map ranked (best_places l [] s) = thin_best [] s in
      let others : best_places l [] (filter (not_among l (map ranked s)) (map ranked v)) ≡ map ranked (best_places l [] (filter (not_among l s) v)) =
      ap (λ (xs : List Ranked). best_places l [] xs) (thin_filter (not_among l s) (not_among l (map ranked s)) (thin_not_among s) v) ∙ thin_best [] (filter (not_among l s) v) in
      ap (λ (xs : List Ranked). map (λ (e : Ranked). e.0) xs)
      ((λ i. best_places l [] (strongs i) ++ best_places l [] (filter (not_among l (strongs i)) (weaks i)))
      ∙ (λ i. first i ++ others i)
      ∙ sym (map-append ranked (best_places l [] s) (best_places l [] (filter (not_among l s) v))))
      ∙ same_firsts (best_places l [] s ++ best_places l [] (filter (not_among l s) v))

  -- ---- choices

  same_sets : (t : Tree) → (here_of (thin t)).sets ≡ (here_of t).sets
  same_sets (node n h own lifted) = refl

  same_selections : (t : Tree) → (here_of (thin t)).selections ≡ (here_of t).selections
  same_selections (node n h own lifted) = refl

  all_sets : (ts : List Tree) → flat_map (λ s. (here_of s).sets) (map thin ts) ≡ flat_map (λ s. (here_of s).sets) ts
  all_sets [] = refl
  all_sets (t ∷ ts) = let one = same_sets t in let rest = all_sets ts in λ i. one i ++ rest i

  first_selected : (set : Text) (ts : List Tree) → first_of (λ s. find_at same_text set (here_of s).selections) (map thin ts) ≡ first_of (λ s. find_at same_text set (here_of s).selections) ts
  first_selected set [] = refl
  first_selected set (t ∷ ts) =
      let one : find_at same_text set (here_of (thin t)).selections ≡ find_at same_text set (here_of t).selections = ap (λ (cs : Choices). find_at same_text set cs) (same_selections t) in
      let rest = first_selected set ts in
      λ i. elim (one i) as (λ _. Option Text) [ Some y ↦ Some y | None ↦ rest i ]

  same_met : (t : Tree) → sets_met l (thin t) ≡ sets_met l t
  same_met t = ap (λ (ts : List Tree). firsts same_text (flat_map (λ s. (here_of s).sets) ts)) (thin_listing t) ∙ ap (λ (sets : List Text). firsts same_text sets) (all_sets (listing l t))

  selected_in : (ts : List Tree) (sets : List Text) → filter_map (first_selection l (map thin ts)) sets ≡ filter_map (first_selection l ts) sets
  selected_in ts [] = refl
  selected_in ts (set ∷ sets) =
      let one = first_selected set ts in
      let rest = selected_in ts sets in
      λ i. cons_option (option_map (λ v. (set, v)) (one i)) (rest i)

  pub thin_decided : (t : Tree) (cs : Choices) → decided l (thin t) cs ≡ decided l t cs
  thin_decided t cs =
      let over : is_overgrown (thin t) ≡ is_overgrown t = thin_overgrown t in
      let met : sets_met l (thin t) ≡ sets_met l t = same_met t in
      let places : sites l (thin t) ≡ map thin (sites l t) = thin_sites t in
      (λ i. elim (over i) as (λ _. Choices) [
        | true ↦ []
        | false ↦ filter_map (first_selection l (places i)) (without same_text (met i) (map (λ c. c.0) cs))
      ])
      ∙ ap (λ (xs : Choices). elim (is_overgrown t) as (λ _. Choices) [ true ↦ [] | false ↦ xs ]) (selected_in (sites l t) (without same_text (sets_met l t) (map (λ c. c.0) cs)))

-- ---- what is overgrown

mutual
  thin_nodes : (t : Tree) → nodes_of (thin t) ≡ nodes_of t
  thin_nodes (node n h own lifted) = let one = thin_nodes_among own in let two = thin_nodes_among lifted in λ i. n ∷ one i ++ two i

  thin_nodes_among : (ts : Trees) → nodes_among (thin_among ts) ≡ nodes_among ts
  thin_nodes_among none = refl
  thin_nodes_among cut = refl
  thin_nodes_among (child b t ts) = let one = thin_nodes t in let two = thin_nodes_among ts in λ i. one i ++ two i

pub thin_on_the_way : (t : Tree) → is_overgrown_on_the_way (thin t) ≡ is_overgrown_on_the_way t
thin_on_the_way t =
    let over = thin_overgrown t in
    let nodes = thin_nodes t in
    λ i. elim (over i) as (λ _. Bool) [ true ↦ true | false ↦ list_any (λ n. list_any (λ f. f.overgrown) n.frames) (nodes i) ]

-- ---- sites as they are shown

one_site : (t : Tree) → site_of (thin t) ≡ site_of t
one_site (node n h own lifted) = refl

pub thin_shown : (ts : List Tree) → map site_of (map thin ts) ≡ map site_of ts
thin_shown [] = refl
thin_shown (t ∷ ts) = let one = one_site t in let rest = thin_shown ts in λ i. one i ∷ rest i
