-- No node that is visited stands at `/`: the targets of arcs and of classes do not, and the level of each is one of its node. And no arc
-- leads from a node from which none is left.
use Rattle.std.proofs.Common.{◌≡◌, refl, ℕ, zero, suc, ◌-◌, ◌<◌, ◌≤◌, nat_le, Bool, true, false, true≢false, not, ◌==◌, List, [], ◌∷◌, ◌++◌, map, flat_map, filter, length, take, drop, Option, Some, None, arith}
use Rattle.std.specs.List.{cons_option}
use Rattle.std.proofs.lemmas.Bool.{leb-true}
use Rattle.path_maps.specs.declared.kind.ArcKind.{ArcKind}
use Rattle.path_maps.specs.declared.kind.ArcKind.TheVariants.{Inherits, Variant, Reference, Payload, Specializes}
use Rattle.list_ops.specs.ListEdits.{firsts, contains}
use Rattle.composition.specs.Paths.{Path, Limits, fits, up, is_prefix, has_selections}
use Rattle.sdf_values.specs.Scales.{composed}
use Rattle.composition.specs.World.{in_range}
use Rattle.composition.specs.Arcs.{same_kind, Outcome, leads, gives_no_arc, Lead, Reason, arc_cycle, too_deep, offset_range, path_too_long}
use Rattle.composition.specs.Nodes.{Node, Here, Tried, Chosen, author, child_path, is_cyclic, first_reason, refusal}
use Rattle.composition.specs.Trees.{Tree, node, Trees, none, cut, child, size, any_child, Class, same_class, hands_up, lifted_target, lifted_class, lifted_through, classes, own_classes, handed_up, classes_from, Branch, if_followed, followed, in_own_stack, variant_branch, own_branches, is_class_of, lifted_branch, lifted_branches, Meaning, grown, child_tree, variant_child, arc_child, tree_with}
use Rattle.agreeing_worlds.proofs.Each.{Each, joined, kept, weaker, in_parts, always}

-- the path is not `/`
abbrev pub Below : Path → Type 0
Below [] = ⊥
Below (e ∷ p) = Unit {0}

pub first_below : (p q : Path) → Below p → Below (p ++ q)
first_below [] q h = absurd h
first_below (e ∷ p) q h = tt

pub front_below : (k : ℕ) (p : Path) → Below p → Below (take (suc k) p)
front_below k [] h = absurd h
front_below k (e ∷ p) h = tt

some_below : (k : ℕ) (p : Path) → 0 < k → 0 < length p → Below (take k p)
some_below zero p more has = absurd (omega (arith, more))
some_below (suc k) [] more has = absurd (omega (arith, has))
some_below (suc k) (e ∷ p) more has = tt

pub level_below : (p : Path) (j : ℕ) → j < length p → Below (up p j)
level_below p j h = some_below (length p - j) p (omega (arith, h)) (omega (arith, h))

-- ---- what is said at a node

-- an arc does not lead to `/`, its level is one of the node's, and only a variant has one at a node from which no arc is left
abbrev pub GoodBranch : Node → Branch → Type 0
GoodBranch n b = Below b.lead.target × (b.level < length n.path) × (same_kind Variant b.kind ≡ false → (n.depth == 0) ≡ false)

abbrev pub GoodArc : Node → ℕ → Outcome → Option Reason → Type 0
GoodArc n j (leads a) None = Below a.target × (j < length n.path) × ((n.depth == 0) ≡ false)
GoodArc n j (leads a) (Some r) = Unit {0}
GoodArc n j (gives_no_arc r) fault = Unit {0}

abbrev pub GoodTried : Node → Tried → Type 0
GoodTried n a = GoodArc n a.level a.authored.outcome a.fault

abbrev pub GoodChosen : Node → Chosen → Type 0
GoodChosen n c = Below c.target × (c.level < length n.path)

abbrev pub GoodHere : Node → Here → Type 0
GoodHere n h = Each (GoodTried n) h.arcs × Each (GoodChosen n) h.variants

branch_followed : (n : Node) (a : Tried) (outcome : Outcome) (fault : Option Reason) → GoodArc n a.level outcome fault → Each (GoodBranch n) (if_followed a outcome fault)
branch_followed n a (leads lead) None h = ((h.0, h.1, λ other. h.2), tt)
branch_followed n a (leads lead) (Some r) h = tt
branch_followed n a (gives_no_arc r) fault h = tt

variants_followed : (n : Node) (cs : List Chosen) → Each (GoodChosen n) cs → Each (GoodBranch n) (map (variant_branch n) cs)
variants_followed n [] h = tt
variants_followed n (c ∷ cs) h = ((h.0.0, h.0.1, λ other. absurd (true≢false other)), variants_followed n cs h.1)

-- an arc that is followed leaves its node one arc at least
pub not_deepest : (l : Limits) (n : Node) (j : ℕ) (a : Lead) → refusal l n j a ≡ None → (n.depth == 0) ≡ false
not_deepest l n j a is = by (is_cyclic n j a) (n.depth == 0) is
  where
    by : (cyclic deepest : Bool) → first_reason ((cyclic, arc_cycle) ∷ (deepest, too_deep) ∷ (not (in_range (composed a.offset n.offset)), offset_range) ∷ (not (fits l (child_path n j a.target)), path_too_long) ∷ []) ≡ None → deepest ≡ false
    by true deepest h = absurd cc
    by false true h = absurd cc
    by false false h = refl

good_followed : (n : Node) (arcs : List Tried) (k : ArcKind) → Each (GoodTried n) arcs → Each (GoodBranch n) (followed arcs k)
good_followed n arcs k h =
    let some : List Tried = filter (λ a. same_kind k a.kind) arcs in
    in_parts (GoodBranch n) (λ a. if_followed a a.authored.outcome a.fault) some
    (weaker (GoodTried n) (λ a. Each (GoodBranch n) (if_followed a a.authored.outcome a.fault)) (λ a good. branch_followed n a a.authored.outcome a.fault good) some
    (kept (GoodTried n) (λ a. same_kind k a.kind) arcs h))

pub good_own : (n : Node) (h : Here) → GoodHere n h → Each (GoodBranch n) (own_branches n h)
good_own n h good =
    let first : List Branch = followed h.arcs Inherits in
    let variants : List Branch = map (variant_branch n) h.variants in
    let others : List Branch = flat_map (followed h.arcs) (Reference ∷ Payload ∷ Specializes ∷ []) in
    joined (GoodBranch n) (first ++ variants) others
    (joined (GoodBranch n) first variants (good_followed n h.arcs Inherits good.0) (variants_followed n h.variants good.1))
    (in_parts (GoodBranch n) (followed h.arcs) (Reference ∷ Payload ∷ Specializes ∷ []) (always (λ k. Each (GoodBranch n) (followed h.arcs k)) (λ k. good_followed n h.arcs k good.0) (Reference ∷ Payload ∷ Specializes ∷ [])))

-- ---- trees

abbrev mutual
  -- so it is in a tree, with what its arcs hand up
  pub GoodTree : Tree → Type 0
  GoodTree (node n h own lifted) = GoodAmong n own

  pub GoodAmong : Node → Trees → Type 0
  GoodAmong n none = Unit {0}
  GoodAmong n cut = Unit {0}
  GoodAmong n (child b t ts) = GoodBranch n b × GoodTree t × GoodAmong n ts

abbrev pub GoodClass : Node → Class → Type 0
GoodClass n c = Below c.1 × (c.0 < length n.path)

module _ (l : Limits) where
  lifted_below : (target by p : Path) → Below by → Below p → Below (lifted_target l target by p)
  lifted_below target by p h k = cases (is_prefix target p)
    where
      cases : (b : Bool) → Below (elim b as (λ _. Path) [ true ↦ by ++ drop (length target) p | false ↦ p ])
      cases true = first_below by (drop (length target) p) h
      cases false = k

  one_lifted : (n : Node) (b : Branch) (c : Class) (cs : List Class) → GoodBranch n b → Below c.1 → Each (GoodClass n) cs → Each (GoodClass n) (cons_option (lifted_class l b (author n b.level) c) cs)
  one_lifted n b c cs good below rest = at_level (nat_le c.0 b.level) refl
    where
      to : Path
      to = lifted_target l b.lead.target (author n b.level) c.1

      fitting : (fit : Bool) → c.0 < length n.path → Each (GoodClass n) (cons_option (elim fit as (λ _. Option Class) [ true ↦ Some (c.0, to) | false ↦ None ]) cs)
      fitting true inside = ((lifted_below b.lead.target (author n b.level) c.1 (level_below n.path b.level good.1) below, inside), rest)
      fitting false inside = rest

      at_level : (t : Bool) → nat_le c.0 b.level ≡ t
          → Each (GoodClass n) (cons_option (elim t as (λ _. Option Class) [ false ↦ None | true ↦ elim (fits l to) as (λ _. Option Class) [ true ↦ Some (c.0, to) | false ↦ None ] ]) cs)
      at_level true is = let under : c.0 ≤ b.level = leb-true c.0 b.level is in fitting (fits l to) (omega (arith, under, good.1))
      at_level false is = rest

  good_lifted : (n : Node) (b : Branch) (cs : List Class) → GoodBranch n b → Each (λ c. Below c.1) cs → Each (GoodClass n) (lifted_through l n b cs)
  good_lifted n b [] good h = tt
  good_lifted n b (c ∷ cs) good h = one_lifted n b c (lifted_through l n b cs) good h.0 (good_lifted n b cs good h.1)

  good_firsts : (P : Class → Type 0) (cs : List Class) → Each P cs → Each P (firsts same_class cs)
  good_firsts P [] h = tt
  good_firsts P (c ∷ cs) h = (h.0, kept P (λ x. not_among c x) (firsts same_class cs) (good_firsts P cs h.1))
    where
      not_among : Class → Class → Bool
      not_among x y = not (contains same_class (x ∷ []) y)

  -- the classes of a child of some kind, beside those of its siblings
  own_by_kind : (k : ArcKind) (c : Bool) (n : Node) (b : Branch) (t : Tree) (others : List Class) → GoodBranch n b → Each (λ c. Below c.1) (classes l k t) → Each (GoodClass n) others
      → Each (GoodClass n) (elim c as (λ _. List Class) [ true ↦ (b.level, b.lead.target) ∷ lifted_through l n b (classes l k t) ++ others | false ↦ others ])
  own_by_kind k true n b t others good below rest =
      ((good.0, good.1), joined (GoodClass n) (lifted_through l n b (classes l k t)) others (good_lifted n b (classes l k t) good below) rest)
  own_by_kind k false n b t others good below rest = rest

  handed_by_kind : (k : ArcKind) (c : Bool) (n : Node) (b : Branch) (t : Tree) (others : List Class) → GoodBranch n b → Each (λ c. Below c.1) (classes l k t) → Each (GoodClass n) others
      → Each (GoodClass n) (elim c as (λ _. List Class) [ true ↦ lifted_through l n b (classes l k t) ++ others | false ↦ others ])
  handed_by_kind k true n b t others good below rest = joined (GoodClass n) (lifted_through l n b (classes l k t)) others (good_lifted n b (classes l k t) good below) rest
  handed_by_kind k false n b t others good below rest = rest

  mutual
    classes_below : (k : ArcKind) (t : Tree) → GoodTree t → Each (λ c. Below c.1) (classes l k t)
    classes_below k (node n h own lifted) good =
        weaker (GoodClass n) (λ c. Below c.1) (λ c is. is.0) (firsts same_class (own_classes l k n own ++ handed_up l k n own))
        (good_firsts (GoodClass n) (own_classes l k n own ++ handed_up l k n own)
        (joined (GoodClass n) (own_classes l k n own) (handed_up l k n own) (good_owned k n own good) (good_handed k n own good)))

    good_owned : (k : ArcKind) (n : Node) (ts : Trees) → GoodAmong n ts → Each (GoodClass n) (own_classes l k n ts)
    good_owned k n none good = tt
    good_owned k n cut good = tt
    good_owned k n (child b t ts) good = own_by_kind k (same_kind k b.kind) n b t (own_classes l k n ts) good.0 (classes_below k t good.1) (good_owned k n ts good.2)

    good_handed : (k : ArcKind) (n : Node) (ts : Trees) → GoodAmong n ts → Each (GoodClass n) (handed_up l k n ts)
    good_handed k n none good = tt
    good_handed k n cut good = tt
    good_handed k n (child b t ts) good = handed_by_kind k (hands_up k b.kind) n b t (handed_up l k n ts) good.0 (classes_below k t good.1) (good_handed k n ts good.2)

  classes_good : (k : ArcKind) (n : Node) (own : Trees) → GoodAmong n own → Each (GoodClass n) (classes_from l k n own)
  classes_good k n own good =
      good_firsts (GoodClass n) (own_classes l k n own ++ handed_up l k n own)
      (joined (GoodClass n) (own_classes l k n own) (handed_up l k n own) (good_owned k n own good) (good_handed k n own good))

  branch_lifted : (k : ArcKind) (n : Node) (own : Trees) (c : Class) → GoodClass n c → Each (GoodBranch n) (lifted_branch l k n own c)
  branch_lifted k n own c good = by_own (any_child (λ b t. is_class_of k c b) own)
    where
      by_refusal : (r : Option Reason) → refusal l n c.0 (in_own_stack n c.1) ≡ r → Each (GoodBranch n) (elim r as (λ _. List Branch) [
        | Some x ↦ []
        | None ↦ (record { kind = k; level = c.0; lead = in_own_stack n c.1; lifted = true }) ∷ []
      ])
      by_refusal (Some x) is = tt
      by_refusal None is = ((good.0, good.1, λ other. not_deepest l n c.0 (in_own_stack n c.1) is), tt)

      by_selections : (b : Bool) → Each (GoodBranch n) (elim b as (λ _. List Branch) [
        | true ↦ []
        | false ↦ elim (refusal l n c.0 (in_own_stack n c.1)) as (λ _. List Branch) [
          | Some r ↦ []
          | None ↦ (record { kind = k; level = c.0; lead = in_own_stack n c.1; lifted = true }) ∷ []
        ]
      ])
      by_selections true = tt
      by_selections false = by_refusal (refusal l n c.0 (in_own_stack n c.1)) refl

      by_own : (b : Bool) → Each (GoodBranch n) (elim b as (λ _. List Branch) [
        | true ↦ []
        | false ↦ elim (has_selections c.1) as (λ _. List Branch) [
          | true ↦ []
          | false ↦ elim (refusal l n c.0 (in_own_stack n c.1)) as (λ _. List Branch) [
            | Some r ↦ []
            | None ↦ (record { kind = k; level = c.0; lead = in_own_stack n c.1; lifted = true }) ∷ []
          ]
        ]
      ])
      by_own true = tt
      by_own false = by_selections (has_selections c.1)

  kind_lifted : (n : Node) (own : Trees) → GoodAmong n own → (k : ArcKind) → Each (GoodBranch n) (flat_map (lifted_branch l k n own) (classes_from l k n own))
  kind_lifted n own good k =
      in_parts (GoodBranch n) (lifted_branch l k n own) (classes_from l k n own)
      (weaker (GoodClass n) (λ c. Each (GoodBranch n) (lifted_branch l k n own c)) (branch_lifted k n own) (classes_from l k n own) (classes_good k n own good))

  pub good_lifted_branches : (n : Node) (own : Trees) → GoodAmong n own → Each (GoodBranch n) (lifted_branches l n own)
  good_lifted_branches n own good =
      in_parts (GoodBranch n) (λ k. flat_map (lifted_branch l k n own) (classes_from l k n own)) (Inherits ∷ Specializes ∷ [])
      (always (λ k. Each (GoodBranch n) (flat_map (lifted_branch l k n own) (classes_from l k n own))) (kind_lifted n own good) (Inherits ∷ Specializes ∷ []))

-- ---- trees that grow

good_grown : (tree : Branch → ℕ → Tree) → ((b : Branch) (room : ℕ) → GoodTree (tree b room)) → (n : Node) (bs : List Branch) (room : ℕ) → Each (GoodBranch n) bs → GoodAmong n (grown tree room bs)
good_grown tree trees n [] room h = tt
good_grown tree trees n (b ∷ bs) zero h = tt
good_grown tree trees n (b ∷ bs) (suc room) h = (h.0, trees b (suc room), good_grown tree trees n bs (suc room - size (tree b (suc room))) h.1)

module _ (l : Limits) (here : Node → Here) (deeper : Meaning) (says : (n : Node) → GoodHere n (here n)) (below : (room : ℕ) (n : Node) → GoodTree (deeper.tree room n)) where
  good_child : (tree : ℕ → Node → Tree) → ((room : ℕ) (n : Node) → GoodTree (tree room n)) → (n : Node) (b : Branch) (room : ℕ) → GoodTree (child_tree deeper tree n b room)
  good_child tree trees n b room = by (same_kind Variant b.kind)
    where
      by : (c : Bool) → GoodTree (elim c as (λ _. Tree) [ true ↦ tree room (variant_child deeper n b) | false ↦ deeper.tree room (arc_child deeper n b) ])
      by true = trees room (variant_child deeper n b)
      by false = below room (arc_child deeper n b)

  pub good_tree : (steps room : ℕ) (n : Node) → GoodTree (tree_with l here deeper steps room n)
  good_tree zero room n = tt
  good_tree (suc steps) room n =
      good_grown (child_tree deeper (tree_with l here deeper steps) n) (good_child (tree_with l here deeper steps) (good_tree steps) n) n (own_branches n (here n)) (room - 1) (good_own n (here n) (says n))
