-- Trees with the same nodes and arcs whose nodes have the same faults have the same faults in the same order.
use Rattle.std.proofs.Common.{◌≡◌, refl, ap, ◌∙◌, ℕ, zero, suc, Bool, true, false, cond, not, List, [], ◌∷◌, ◌++◌, map, flat_map, filter, zip, Some, None, ◌+◌, ◌-◌}
use Rattle.path_maps.specs.declared.kind.ArcKind.{ArcKind}
use Rattle.path_maps.specs.declared.kind.ArcKind.TheVariants.{Inherits, Variant, Reference, Payload, Specializes}
use Rattle.composition.specs.Texts.{both}
use Rattle.composition.specs.Paths.{Limits, has_selections}
use Rattle.composition.specs.Arcs.{same_kind, unresolved_prim}
use Rattle.composition.specs.Nodes.{Node, Tried, refusal}
use Rattle.agreeing_worlds.proofs.Each.{same_parts, always}
use Rattle.composition.specs.Trees.{Tree, node, Trees, none, cut, child, Branch, Class, same_class, hands_up, lifted_through, classes, own_classes, handed_up, classes_from, is_class_of, any_child, size, size_among, grown, in_own_stack, lifted_branch, lifted_branches, has_spec_in, has_spec_among, node_of}
use Rattle.list_ops.specs.ListEdits.{firsts}
use Rattle.composition.specs.Strength.{Ranked, above_child, rank_of, Parts, part_of, by_classes, by_kind, by_strength, strong, strong_parts, specialized, weak, weak_parts, strong_of, weak_of, listing}
use Rattle.laws_extending.specs.Thin.{level_0, thin, thin_among}
use Rattle.composition.specs.Faults.{Fault, own_children, node_faults, unresolved, is_level_0, arc_fault}

abbrev mutual
  -- the second tree has the nodes, arcs and faults of the first
  pub Alike : Tree → Tree → Type 0
  Alike (node n h own lifted) (node m g ours theirs) =
      (n ≡ m) × (h.has_spec ≡ g.has_spec) × (node_faults (node n h own lifted) ≡ node_faults (node m g ours theirs)) × AreAlike own ours × AreAlike lifted theirs × (level_0 h ≡ level_0 g)

  pub AreAlike : Trees → Trees → Type 0
  AreAlike none none = Unit {0}
  AreAlike none cut = ⊥
  AreAlike none (child c s ss) = ⊥
  AreAlike cut none = ⊥
  AreAlike cut cut = Unit {0}
  AreAlike cut (child c s ss) = ⊥
  AreAlike (child b t ts) none = ⊥
  AreAlike (child b t ts) cut = ⊥
  AreAlike (child b t ts) (child c s ss) = (b ≡ c) × Alike t s × AreAlike ts ss

abbrev pub Lists : {X : Type 0} → (X → X → Type 0) → List X → List X → Type 0
Lists R [] [] = Unit {0}
Lists R [] (y ∷ ys) = ⊥
Lists R (x ∷ xs) [] = ⊥
Lists R (x ∷ xs) (y ∷ ys) = R x y × Lists R xs ys

pub lists_joined : {X : Type 0} (R : X → X → Type 0) (xs ys us vs : List X) → Lists R xs us → Lists R ys vs → Lists R (xs ++ ys) (us ++ vs)
lists_joined R [] ys [] vs h k = k
lists_joined R [] ys (u ∷ us) vs h k = absurd h
lists_joined R (x ∷ xs) ys [] vs h k = absurd h
lists_joined R (x ∷ xs) ys (u ∷ us) vs h k = (h.0, lists_joined R xs ys us vs h.1 k)

mutual
  pub alike_spec : (t s : Tree) → Alike t s → has_spec_in t ≡ has_spec_in s
  alike_spec (node n h own lifted) (node m g ours theirs) a =
      let one = alike_specs own ours a.3 in
      let two = alike_specs lifted theirs a.4 in
      λ i. elim (a.1 i) as (λ _. Bool) [ true ↦ true | false ↦ elim (one i) as (λ _. Bool) [ true ↦ true | false ↦ two i ] ]

  alike_specs : (ts ss : Trees) → AreAlike ts ss → has_spec_among ts ≡ has_spec_among ss
  alike_specs none none a = refl
  alike_specs none cut a = absurd a
  alike_specs none (child c s ss) a = absurd a
  alike_specs cut none a = absurd a
  alike_specs cut cut a = refl
  alike_specs cut (child c s ss) a = absurd a
  alike_specs (child b t ts) none a = absurd a
  alike_specs (child b t ts) cut a = absurd a
  alike_specs (child b t ts) (child c s ss) a =
      let one = alike_spec t s a.1 in
      let two = alike_specs ts ss a.2 in
      λ i. elim (one i) as (λ _. Bool) [ true ↦ true | false ↦ two i ]

pub alike_node : (t s : Tree) → Alike t s → node_of t ≡ node_of s
alike_node (node n h own lifted) (node m g ours theirs) a = a.0

pub alike_faults : (t s : Tree) → Alike t s → node_faults t ≡ node_faults s
alike_faults (node n h own lifted) (node m g ours theirs) a = a.2

module _ (l : Limits) where
  mutual
    pub alike_classes : (k : ArcKind) (t s : Tree) → Alike t s → classes l k t ≡ classes l k s
    alike_classes k (node n h own lifted) (node m g ours theirs) a =
        let one = alike_own k n m a.0 own ours a.3 in
        let two = alike_handed k n m a.0 own ours a.3 in
        λ i. firsts same_class (one i ++ two i)

    alike_own : (k : ArcKind) (n m : Node) → n ≡ m → (ts ss : Trees) → AreAlike ts ss → own_classes l k n ts ≡ own_classes l k m ss
    alike_own k n m e none none a = refl
    alike_own k n m e none cut a = absurd a
    alike_own k n m e none (child c s ss) a = absurd a
    alike_own k n m e cut none a = absurd a
    alike_own k n m e cut cut a = refl
    alike_own k n m e cut (child c s ss) a = absurd a
    alike_own k n m e (child b t ts) none a = absurd a
    alike_own k n m e (child b t ts) cut a = absurd a
    alike_own k n m e (child b t ts) (child c s ss) a =
        let arc : b ≡ c = a.0 in
        let one = alike_classes k t s a.1 in
        let two = alike_own k n m e ts ss a.2 in
        λ i. elim (same_kind k (arc i).kind) as (λ _. List Class) [ true ↦ ((arc i).level, (arc i).lead.target) ∷ lifted_through l (e i) (arc i) (one i) ++ two i | false ↦ two i ]

    alike_handed : (k : ArcKind) (n m : Node) → n ≡ m → (ts ss : Trees) → AreAlike ts ss → handed_up l k n ts ≡ handed_up l k m ss
    alike_handed k n m e none none a = refl
    alike_handed k n m e none cut a = absurd a
    alike_handed k n m e none (child c s ss) a = absurd a
    alike_handed k n m e cut none a = absurd a
    alike_handed k n m e cut cut a = refl
    alike_handed k n m e cut (child c s ss) a = absurd a
    alike_handed k n m e (child b t ts) none a = absurd a
    alike_handed k n m e (child b t ts) cut a = absurd a
    alike_handed k n m e (child b t ts) (child c s ss) a =
        let arc : b ≡ c = a.0 in
        let one = alike_classes k t s a.1 in
        let two = alike_handed k n m e ts ss a.2 in
        λ i. elim (hands_up k (arc i).kind) as (λ _. List Class) [ true ↦ lifted_through l (e i) (arc i) (one i) ++ two i | false ↦ two i ]

-- ---- the order of strength

abbrev InPlace : Ranked → Ranked → Type 0
InPlace x y = Alike x.0 y.0

abbrev Under : Branch × List Ranked → Branch × List Ranked → Type 0
Under x y = (x.0 ≡ y.0) × Lists InPlace x.1 y.1

alike_part : (k : ArcKind) (c : Class) (ps qs : Parts) → Lists Under ps qs → Lists InPlace (part_of k c ps) (part_of k c qs)
alike_part k c [] [] h = tt
alike_part k c [] (q ∷ qs) h = absurd h
alike_part k c (p ∷ ps) [] h = absurd h
alike_part k c (p ∷ ps) (q ∷ qs) h = by (is_class_of k c p.0) (is_class_of k c q.0) (ap (λ (b : Branch). is_class_of k c b) h.0.0) (alike_part k c ps qs h.1)
  where
    by : (a b : Bool) → a ≡ b → Lists InPlace (part_of k c ps) (part_of k c qs)
        → Lists InPlace (elim a as (λ _. List Ranked) [ true ↦ p.1 | false ↦ part_of k c ps ]) (elim b as (λ _. List Ranked) [ true ↦ q.1 | false ↦ part_of k c qs ])
    by true true e rest = h.0.1
    by true false e rest = absurd cc
    by false true e rest = absurd cc
    by false false e rest = rest

alike_by_classes : (k : ArcKind) (cs : List Class) (ps qs : Parts) → Lists Under ps qs → Lists InPlace (by_classes k cs ps) (by_classes k cs qs)
alike_by_classes k [] ps qs h = tt
alike_by_classes k (c ∷ cs) ps qs h = lists_joined InPlace (part_of k c ps) (by_classes k cs ps) (part_of k c qs) (by_classes k cs qs) (alike_part k c ps qs h) (alike_by_classes k cs ps qs h)

alike_by_kind : (k : ArcKind) (ps qs : Parts) → Lists Under ps qs → Lists InPlace (by_kind k ps) (by_kind k qs)
alike_by_kind k [] [] h = tt
alike_by_kind k [] (q ∷ qs) h = absurd h
alike_by_kind k (p ∷ ps) [] h = absurd h
alike_by_kind k (p ∷ ps) (q ∷ qs) h = by (same_kind k p.0.kind) (same_kind k q.0.kind) (ap (λ (b : Branch). same_kind k b.kind) h.0.0) (alike_by_kind k ps qs h.1)
  where
    by : (a b : Bool) → a ≡ b → Lists InPlace (by_kind k ps) (by_kind k qs)
        → Lists InPlace (flat_map (λ x. x.1) (cond a (p ∷ filter (λ x. same_kind k x.0.kind) ps) (filter (λ x. same_kind k x.0.kind) ps)))
        (flat_map (λ x. x.1) (cond b (q ∷ filter (λ x. same_kind k x.0.kind) qs) (filter (λ x. same_kind k x.0.kind) qs)))
    by true true e rest = lists_joined InPlace p.1 (by_kind k ps) q.1 (by_kind k qs) h.0.1 rest
    by true false e rest = absurd cc
    by false true e rest = absurd cc
    by false false e rest = rest

alike_by_strength : (cs : List Class) (ps qs : Parts) → Lists Under ps qs → Lists InPlace (by_strength cs ps) (by_strength cs qs)
alike_by_strength cs ps qs h =
    lists_joined InPlace (by_classes Inherits cs ps ++ by_kind Variant ps ++ by_kind Reference ps) (by_kind Payload ps) (by_classes Inherits cs qs ++ by_kind Variant qs ++ by_kind Reference qs) (by_kind Payload qs)
    (lists_joined InPlace (by_classes Inherits cs ps ++ by_kind Variant ps) (by_kind Reference ps) (by_classes Inherits cs qs ++ by_kind Variant qs) (by_kind Reference qs)
    (lists_joined InPlace (by_classes Inherits cs ps) (by_kind Variant ps) (by_classes Inherits cs qs) (by_kind Variant qs) (alike_by_classes Inherits cs ps qs h) (alike_by_kind Variant ps qs h))
    (alike_by_kind Reference ps qs h))
    (alike_by_kind Payload ps qs h)

moved : (k : List Class → List Ranked) (cs ds : List Class) → cs ≡ ds → (there : List Ranked) → Lists InPlace (k ds) there → Lists InPlace (k cs) there
moved k cs ds e there h = rw e h

module _ (l : Limits) where
  -- ranks do not bear on the order of the listing
  mutual
    alike_strong : (above rank up place : ℕ) (t s : Tree) → Alike t s → Lists InPlace (strong l above rank t) (strong l up place s)
    alike_strong above rank up place (node n h own lifted) (node m g ours theirs) a =
        let t : Tree = node n h own lifted in
        let s : Tree = node m g ours theirs in
        let ps : Parts = strong_parts l above own own ++ strong_parts l above own lifted in
        let qs : Parts = strong_parts l up ours ours ++ strong_parts l up ours theirs in
        let parts : Lists Under ps qs = lists_joined Under (strong_parts l above own own) (strong_parts l above own lifted) (strong_parts l up ours ours) (strong_parts l up ours theirs)
        (alike_strong_parts above up own ours own ours a.3) (alike_strong_parts above up own ours lifted theirs a.4) in
        let both : Lists InPlace (by_strength (classes l Inherits s) ps) (by_strength (classes l Inherits s) qs) = alike_by_strength (classes l Inherits s) ps qs parts in
        (a, moved (λ cs. by_strength cs ps) (classes l Inherits t) (classes l Inherits s) (alike_classes l Inherits t s a) (by_strength (classes l Inherits s) qs) both)

    alike_strong_parts : (above up : ℕ) (xs ys ts ss : Trees) → AreAlike ts ss → Lists Under (strong_parts l above xs ts) (strong_parts l up ys ss)
    alike_strong_parts above up xs ys none none a = tt
    alike_strong_parts above up xs ys none cut a = absurd a
    alike_strong_parts above up xs ys none (child c s ss) a = absurd a
    alike_strong_parts above up xs ys cut none a = absurd a
    alike_strong_parts above up xs ys cut cut a = tt
    alike_strong_parts above up xs ys cut (child c s ss) a = absurd a
    alike_strong_parts above up xs ys (child b t ts) none a = absurd a
    alike_strong_parts above up xs ys (child b t ts) cut a = absurd a
    alike_strong_parts above up xs ys (child b t ts) (child c s ss) a =
        ((a.0, alike_strong (above_child above b) (rank_of above xs b (node_of t)) (above_child up c) (rank_of up ys c (node_of s)) t s a.1), alike_strong_parts above up xs ys ts ss a.2)

  by_special : (above rank up place : ℕ) (t s : Tree) → Lists InPlace (strong l above rank t) (strong l up place s) → Lists InPlace (weak l above rank t) (weak l up place s) → (b c : Bool) → b ≡ c
      → Lists InPlace (elim b as (λ _. List Ranked) [ true ↦ strong l above rank t ++ weak l above rank t | false ↦ weak l above rank t ])
      (elim c as (λ _. List Ranked) [ true ↦ strong l up place s ++ weak l up place s | false ↦ weak l up place s ])
  by_special above rank up place t s x y true true e = lists_joined InPlace (strong l above rank t) (weak l above rank t) (strong l up place s) (weak l up place s) x y
  by_special above rank up place t s x y true false e = absurd cc
  by_special above rank up place t s x y false true e = absurd cc
  by_special above rank up place t s x y false false e = y

  mutual
    alike_weak : (above rank up place : ℕ) (t s : Tree) → Alike t s → Lists InPlace (weak l above rank t) (weak l up place s)
    alike_weak above rank up place (node n h own lifted) (node m g ours theirs) a =
        let t : Tree = node n h own lifted in
        let s : Tree = node m g ours theirs in
        let ps : Parts = weak_parts l above own own ++ weak_parts l above own lifted in
        let qs : Parts = weak_parts l up ours ours ++ weak_parts l up ours theirs in
        let parts : Lists Under ps qs = lists_joined Under (weak_parts l above own own) (weak_parts l above own lifted) (weak_parts l up ours ours) (weak_parts l up ours theirs)
        (alike_weak_parts above up own ours own ours a.3) (alike_weak_parts above up own ours lifted theirs a.4) in
        lists_joined InPlace (by_classes Specializes (classes l Specializes t) ps) (by_strength (classes l Inherits t) ps)
        (by_classes Specializes (classes l Specializes s) qs) (by_strength (classes l Inherits s) qs)
        (moved (λ cs. by_classes Specializes cs ps) (classes l Specializes t) (classes l Specializes s) (alike_classes l Specializes t s a) (by_classes Specializes (classes l Specializes s) qs)
        (alike_by_classes Specializes (classes l Specializes s) ps qs parts))
        (moved (λ cs. by_strength cs ps) (classes l Inherits t) (classes l Inherits s) (alike_classes l Inherits t s a) (by_strength (classes l Inherits s) qs)
        (alike_by_strength (classes l Inherits s) ps qs parts))

    alike_weak_parts : (above up : ℕ) (xs ys ts ss : Trees) → AreAlike ts ss → Lists Under (weak_parts l above xs ts) (weak_parts l up ys ss)
    alike_weak_parts above up xs ys none none a = tt
    alike_weak_parts above up xs ys none cut a = absurd a
    alike_weak_parts above up xs ys none (child c s ss) a = absurd a
    alike_weak_parts above up xs ys cut none a = absurd a
    alike_weak_parts above up xs ys cut cut a = tt
    alike_weak_parts above up xs ys cut (child c s ss) a = absurd a
    alike_weak_parts above up xs ys (child b t ts) none a = absurd a
    alike_weak_parts above up xs ys (child b t ts) cut a = absurd a
    alike_weak_parts above up xs ys (child b t ts) (child c s ss) a = (
      (
        a.0,
        by_special (above_child above b) (rank_of above xs b (node_of t)) (above_child up c) (rank_of up ys c (node_of s)) t s
            (alike_strong (above_child above b) (rank_of above xs b (node_of t)) (above_child up c) (rank_of up ys c (node_of s)) t s a.1)
            (alike_weak (above_child above b) (rank_of above xs b (node_of t)) (above_child up c) (rank_of up ys c (node_of s)) t s a.1)
            (specialized l b.kind) (specialized l c.kind) (ap (λ (x : Branch). specialized l x.kind) a.0),
      ),
      alike_weak_parts above up xs ys ts ss a.2,
    )

  faults_in : (xs ys : List Ranked) → Lists InPlace xs ys → flat_map node_faults (map (λ (e : Ranked). e.0) xs) ≡ flat_map node_faults (map (λ (e : Ranked). e.0) ys)
  faults_in [] [] h = refl
  faults_in [] (y ∷ ys) h = absurd h
  faults_in (x ∷ xs) [] h = absurd h
  faults_in (x ∷ xs) (y ∷ ys) h = let one = alike_faults x.0 y.0 h.0 in let rest = faults_in xs ys h.1 in λ i. one i ++ rest i

  -- the faults of the nodes, in the order of strength
  pub same_faults : (t s : Tree) → Alike t s → flat_map node_faults (listing l t) ≡ flat_map node_faults (listing l s)
  same_faults t s a = faults_in (strong_of l t ++ weak_of l t) (strong_of l s ++ weak_of l s)
      (lists_joined InPlace (strong_of l t) (weak_of l t) (strong_of l s) (weak_of l s) (alike_strong 0 0 0 0 t s a) (alike_weak 0 0 0 0 t s a))

-- ---- prims that are not there

pub alike_unresolved : (n : Node) (k : ArcKind) (as_tried : List Tried) (ts ss : Trees) → AreAlike ts ss
    → flat_map (unresolved n) (zip as_tried (own_children k ts)) ≡ flat_map (unresolved n) (zip as_tried (own_children k ss))
alike_unresolved n k as_tried ts ss a = by as_tried (own_children k ts) (own_children k ss) (children ts ss a)
  where
    children : (us vs : Trees) → AreAlike us vs → Lists Alike (own_children k us) (own_children k vs)
    children none none e = tt
    children none cut e = absurd e
    children none (child c s rest) e = absurd e
    children cut none e = absurd e
    children cut cut e = tt
    children cut (child c s rest) e = absurd e
    children (child b t us) none e = absurd e
    children (child b t us) cut e = absurd e
    children (child b t us) (child c s vs) e = pick (same_kind k b.kind) (same_kind k c.kind) (ap (λ (x : Branch). same_kind k x.kind) e.0) (children us vs e.2)
      where
        pick : (x y : Bool) → x ≡ y → Lists Alike (own_children k us) (own_children k vs)
            → Lists Alike (elim x as (λ _. List Tree) [ true ↦ t ∷ own_children k us | false ↦ own_children k us ]) (elim y as (λ _. List Tree) [ true ↦ s ∷ own_children k vs | false ↦ own_children k vs ])
        pick true true same rest = (e.1, rest)
        pick true false same rest = absurd cc
        pick false true same rest = absurd cc
        pick false false same rest = rest

    by : (xs : List Tried) (us vs : List Tree) → Lists Alike us vs → flat_map (unresolved n) (zip xs us) ≡ flat_map (unresolved n) (zip xs vs)
    by [] us vs e = refl
    by (x ∷ xs) [] [] e = refl
    by (x ∷ xs) [] (v ∷ vs) e = absurd e
    by (x ∷ xs) (u ∷ us) [] e = absurd e
    by (x ∷ xs) (u ∷ us) (v ∷ vs) e =
        let one : has_spec_in u ≡ has_spec_in v = alike_spec u v e.0 in
        let rest = by xs us vs e.1 in
        (λ i. by_spec (one i) ++ flat_map (unresolved n) (zip xs us)) ∙ ap (λ (fs : List Fault). unresolved n (x, v) ++ fs) rest
      where
        by_spec : Bool → List Fault
        by_spec b = elim (both (is_level_0 x) (not b)) [ true ↦ arc_fault n x unresolved_prim ∷ [] | false ↦ [] ]

-- ---- alike is what is the same, and what grows alike

mutual
  pub alike_itself : (t : Tree) → Alike t t
  alike_itself (node n h own lifted) = (refl, refl, refl, alike_themselves own, alike_themselves lifted, refl)

  alike_themselves : (ts : Trees) → AreAlike ts ts
  alike_themselves none = tt
  alike_themselves cut = tt
  alike_themselves (child b t ts) = (refl, alike_itself t, alike_themselves ts)

mutual
  pub alike_thin : (t s : Tree) → Alike t s → thin t ≡ thin s
  alike_thin (node n h own lifted) (node m g ours theirs) a =
      let one = alike_thins own ours a.3 in
      let two = alike_thins lifted theirs a.4 in
      λ i. node (a.0 i) (a.5 i) (one i) (two i)

  alike_thins : (ts ss : Trees) → AreAlike ts ss → thin_among ts ≡ thin_among ss
  alike_thins none none a = refl
  alike_thins none cut a = absurd a
  alike_thins none (child c s ss) a = absurd a
  alike_thins cut none a = absurd a
  alike_thins cut cut a = refl
  alike_thins cut (child c s ss) a = absurd a
  alike_thins (child b t ts) none a = absurd a
  alike_thins (child b t ts) cut a = absurd a
  alike_thins (child b t ts) (child c s ss) a =
      let one = alike_thin t s a.1 in
      let two = alike_thins ts ss a.2 in
      λ i. child (a.0 i) (one i) (two i)

mutual
  pub alike_size : (t s : Tree) → Alike t s → size t ≡ size s
  alike_size (node n h own lifted) (node m g ours theirs) a = let one = alike_sizes own ours a.3 in let two = alike_sizes lifted theirs a.4 in λ i. suc (one i + two i)

  pub alike_sizes : (ts ss : Trees) → AreAlike ts ss → size_among ts ≡ size_among ss
  alike_sizes none none a = refl
  alike_sizes none cut a = absurd a
  alike_sizes none (child c s ss) a = absurd a
  alike_sizes cut none a = absurd a
  alike_sizes cut cut a = refl
  alike_sizes cut (child c s ss) a = absurd a
  alike_sizes (child b t ts) none a = absurd a
  alike_sizes (child b t ts) cut a = absurd a
  alike_sizes (child b t ts) (child c s ss) a = let one = alike_size t s a.1 in let two = alike_sizes ts ss a.2 in λ i. one i + two i

pub alike_grown : (t u : Branch → ℕ → Tree) → ((b : Branch) (r : ℕ) → Alike (t b r) (u b r)) → (bs : List Branch) (room : ℕ) → AreAlike (grown t room bs) (grown u room bs)
alike_grown t u each [] room = tt
alike_grown t u each (b ∷ bs) zero = tt
alike_grown t u each (b ∷ bs) (suc room) =
    let left : suc room - size (t b (suc room)) ≡ suc room - size (u b (suc room)) = ap (λ (k : ℕ). suc room - k) (alike_size (t b (suc room)) (u b (suc room)) (each b (suc room))) in
    (refl, each b (suc room), with_room (suc room - size (t b (suc room))) (suc room - size (u b (suc room))) left (alike_grown t u each bs (suc room - size (t b (suc room)))))
  where
    with_room : (x y : ℕ) → x ≡ y → AreAlike (grown t x bs) (grown u x bs) → AreAlike (grown t x bs) (grown u y bs)
    with_room x y e h = rw (← e) h

alike_any : (test : Branch → Bool) (ts ss : Trees) → AreAlike ts ss → any_child (λ b t. test b) ts ≡ any_child (λ b t. test b) ss
alike_any test none none a = refl
alike_any test none cut a = absurd a
alike_any test none (child c s ss) a = absurd a
alike_any test cut none a = absurd a
alike_any test cut cut a = refl
alike_any test cut (child c s ss) a = absurd a
alike_any test (child b t ts) none a = absurd a
alike_any test (child b t ts) cut a = absurd a
alike_any test (child b t ts) (child c s ss) a = let rest = alike_any test ts ss a.2 in λ i. elim (test (a.0 i)) as (λ _. Bool) [ true ↦ true | false ↦ rest i ]

module _ (l : Limits) (n : Node) (own ours : Trees) (a : AreAlike own ours) where
  alike_one_lifted : (k : ArcKind) (c : Class) → lifted_branch l k n own c ≡ lifted_branch l k n ours c
  alike_one_lifted k c = ap (λ (b : Bool). elim b as (λ _. List Branch) [
    | true ↦ []
    | false ↦ elim (has_selections c.1) as (λ _. List Branch) [
      | true ↦ []
      | false ↦ elim (refusal l n c.0 (in_own_stack n c.1)) as (λ _. List Branch) [
        | Some r ↦ []
        | None ↦ (record { kind = k; level = c.0; lead = in_own_stack n c.1; lifted = true }) ∷ []
      ]
    ]
  ]) (alike_any (λ b. is_class_of k c b) own ours a)

  alike_from : (k : ArcKind) → classes_from l k n own ≡ classes_from l k n ours
  alike_from k = let one = alike_own l k n n refl own ours a in let two = alike_handed l k n n refl own ours a in λ i. firsts same_class (one i ++ two i)

  pub alike_lifted : lifted_branches l n own ≡ lifted_branches l n ours
  alike_lifted =
      same_parts (λ k. flat_map (lifted_branch l k n own) (classes_from l k n own)) (λ k. flat_map (lifted_branch l k n ours) (classes_from l k n ours)) (Inherits ∷ Specializes ∷ [])
      (always (λ k. flat_map (lifted_branch l k n own) (classes_from l k n own) ≡ flat_map (lifted_branch l k n ours) (classes_from l k n ours))
      (λ k. ap (λ (cs : List Class). flat_map (lifted_branch l k n own) cs) (alike_from k)
      ∙ same_parts (lifted_branch l k n own) (lifted_branch l k n ours) (classes_from l k n ours)
      (always (λ c. lifted_branch l k n own c ≡ lifted_branch l k n ours c) (alike_one_lifted k) (classes_from l k n ours)))
      (Inherits ∷ Specializes ∷ []))
