-- The own arcs of a node one level down are those of the new level, and those of the node's own children.
use Rattle.std.proofs.Common.{◌≡◌, refl, sym, ap, ◌∙◌, suc, Bool, true, false, cond, List, [], ◌∷◌, ◌++◌, map, flat_map, filter, filter_map, Option, Some, None}
use Rattle.std.specs.List.{cons_option}
use Rattle.std.proofs.lemmas.List.{append-nil, append_assoc, map-append}
use Rattle.std.proofs.lemmas.Grind.{flat_map-append}
use Rattle.std.proofs.lemmas.List.Elements.{filter-append}
use Rattle.path_maps.specs.declared.kind.ArcKind.{ArcKind}
use Rattle.path_maps.specs.declared.kind.ArcKind.TheVariants.{Inherits, Variant, Reference, Payload, Specializes}
use Rattle.composition.specs.Texts.{Text}
use Rattle.composition.specs.Paths.{Limits, fits}
use Rattle.composition.specs.Arcs.{same_kind, Outcome, leads, gives_no_arc, Reason, path_too_long}
use Rattle.composition.specs.Nodes.{Node, Frame, Tried, Chosen, Here, child_path}
use Rattle.composition.specs.Trees.{Branch, if_followed, followed, variant_branch, own_branches}
use Rattle.agreeing_worlds.proofs.Each.{Each, same_parts, always, in_map, in_parts, joined, weaker}
use Rattle.laws_extending.specs.Extending.{lowered, lowered_branch, kinds, refused_below, tried_below, chosen_below, here_below}
use Rattle.laws_extending.specs.Thin.{all_kinds, branch_below, branches_below}
use Rattle.laws_extending.proofs.Trees.{kind_same}

-- ---- parts by kind

pub filter_parts : {X K : Type 0} (test : X → Bool) (part : K → List X) (ks : List K) → filter test (flat_map part ks) ≡ flat_map (λ k. filter test (part k)) ks
filter_parts test part [] = refl
filter_parts {X} test part (k ∷ ks) = filter-append test (part k) (flat_map part ks) ∙ ap (λ (zs : List X). filter test (part k) ++ zs) (filter_parts test part ks)

module _ {X : Type 0} (kind : X → ArcKind) where
  abbrev OfKind : ArcKind → List X → Type 0
  OfKind k xs = Each (λ x. kind x ≡ k) xs

  abbrev of_kind : ArcKind → List X → List X
  of_kind k xs = filter (λ x. same_kind k (kind x)) xs

  one_kind : (k g : ArcKind) (xs : List X) → OfKind g xs → of_kind k xs ≡ elim (same_kind k g) as (λ _. List X) [ true ↦ xs | false ↦ [] ]
  one_kind k g [] h = by (same_kind k g)
    where
      by : (b : Bool) → [] ≡ elim b as (λ _. List X) [ true ↦ [] | false ↦ [] ]
      by true = refl
      by false = refl
  one_kind k g (x ∷ xs) h =
      ap (λ (c : ArcKind). cond (same_kind k c) (x ∷ of_kind k xs) (of_kind k xs)) h.0
      ∙ by (same_kind k g) (one_kind k g xs h.1)
    where
      by : (b : Bool) → of_kind k xs ≡ elim b as (λ _. List X) [ true ↦ xs | false ↦ [] ]
          → cond b (x ∷ of_kind k xs) (of_kind k xs) ≡ elim b as (λ _. List X) [ true ↦ x ∷ xs | false ↦ [] ]
      by true e = ap (λ (zs : List X). x ∷ zs) e
      by false e = e

  passing : (k : ArcKind) (xs : List X) → Each (λ x. same_kind k (kind x) ≡ true) (of_kind k xs)
  passing k [] = tt
  passing k (x ∷ xs) = by (same_kind k (kind x)) refl (passing k xs)
    where
      by : (b : Bool) → same_kind k (kind x) ≡ b → Each (λ y. same_kind k (kind y) ≡ true) (of_kind k xs) → Each (λ y. same_kind k (kind y) ≡ true) (cond b (x ∷ of_kind k xs) (of_kind k xs))
      by true is rest = (is, rest)
      by false is rest = rest

  pub is_kind : (k : ArcKind) (xs : List X) → OfKind k (of_kind k xs)
  is_kind k xs = weaker (λ x. same_kind k (kind x) ≡ true) (λ x. kind x ≡ k) (λ x h. sym (kind_same k (kind x) h)) (of_kind k xs) (passing k xs)

  module _ (part : ArcKind → List X) (each : (k : ArcKind) → OfKind k (part k)) where
    abbrev only : ArcKind → ArcKind → List X
    only k g = elim (same_kind k g) [ true ↦ part g | false ↦ [] ]

    of_one : (ks : List ArcKind) (k : ArcKind) → of_kind k (flat_map part ks) ≡ flat_map (only k) ks
    of_one ks k =
        filter_parts (λ x. same_kind k (kind x)) part ks
        ∙ same_parts (λ g. of_kind k (part g)) (only k) ks (always (λ g. of_kind k (part g) ≡ only k g) (λ g. one_kind k g (part g) (each g)) ks)

    pub among_authored : Each (λ k. of_kind k (flat_map part kinds) ≡ part k) kinds
    among_authored = (
      of_one kinds Inherits ∙ append-nil (part Inherits),
      (
        of_one kinds Reference ∙ append-nil (part Reference),
        (
          of_one kinds Payload ∙ append-nil (part Payload),
          (of_one kinds Specializes ∙ append-nil (part Specializes), tt),
        ),
      ),
    )

    pub among_all : Each (λ k. of_kind k (flat_map part all_kinds) ≡ part k) all_kinds
    among_all = (
      of_one all_kinds Inherits ∙ append-nil (part Inherits),
      (
        of_one all_kinds Variant ∙ append-nil (part Variant),
        (
          of_one all_kinds Reference ∙ append-nil (part Reference),
          (
            of_one all_kinds Payload ∙ append-nil (part Payload),
            (of_one all_kinds Specializes ∙ append-nil (part Specializes), tt),
          ),
        ),
      ),
    )

-- ---- the arcs of a node by kind

module _ (n : Node) (h : Here) where
  abbrev made : ArcKind → List Branch
  made k = elim (same_kind Variant k) [ true ↦ map (variant_branch n) h.variants | false ↦ followed h.arcs k ]

  pub by_made : own_branches n h ≡ flat_map made all_kinds
  by_made = append_assoc (made Inherits) (made Variant) (flat_map made (Reference ∷ Payload ∷ Specializes ∷ []))

  one_followed : (k : ArcKind) (a : Tried) → a.kind ≡ k → (o : Outcome) (r : Option Reason) → Each (λ b. b.kind ≡ k) (if_followed a o r)
  one_followed k a is (leads lead) None = (is, tt)
  one_followed k a is (leads lead) (Some r) = tt
  one_followed k a is (gives_no_arc x) r = tt

  of_made : (k : ArcKind) → Each (λ b. b.kind ≡ k) (made k)
  of_made k = by (same_kind Variant k) refl
    where
      by : (c : Bool) → same_kind Variant k ≡ c → Each (λ b. b.kind ≡ k) (elim c as (λ _. List Branch) [ true ↦ map (variant_branch n) h.variants | false ↦ followed h.arcs k ])
      by true is = in_map (λ (b : Branch). b.kind ≡ k) (variant_branch n) h.variants (always (λ (c : Chosen). Variant ≡ k) (λ c. kind_same Variant k is) h.variants)
      by false is =
          let some : List Tried = filter (λ a. same_kind k a.kind) h.arcs in
          in_parts (λ (b : Branch). b.kind ≡ k) (λ (a : Tried). if_followed a a.authored.outcome a.fault) some
          (weaker (λ (a : Tried). a.kind ≡ k) (λ a. Each (λ b. b.kind ≡ k) (if_followed a a.authored.outcome a.fault)) (λ a e. one_followed k a e a.authored.outcome a.fault) some
          (is_kind (λ (a : Tried). a.kind) k h.arcs))

  -- those of one kind among all
  pub kind_of_own : Each (λ k. filter (λ b. same_kind k b.kind) (own_branches n h) ≡ made k) all_kinds
  kind_of_own =
      let each : Each (λ k. filter (λ b. same_kind k b.kind) (flat_map made all_kinds) ≡ made k) all_kinds = among_all (λ (b : Branch). b.kind) made of_made in
      weaker (λ k. filter (λ b. same_kind k b.kind) (flat_map made all_kinds) ≡ made k) (λ k. filter (λ b. same_kind k b.kind) (own_branches n h) ≡ made k)
      (λ k e. ap (λ (bs : List Branch). filter (λ b. same_kind k b.kind) bs) by_made ∙ e) all_kinds each

-- ---- one level down

module _ (l : Limits) (f : Frame) (name : Text) (n : Node) (h new : Here) where
  abbrev m : Node
  m = lowered f name n

  abbrev said : Here
  said = here_below l m h new

  abbrev bb : Branch → Option Branch
  bb = branch_below l m

  abbrev pub tried_part : ArcKind → List Tried
  tried_part k = filter (λ a. same_kind k a.kind) new.arcs ++ map (tried_below l m) (filter (λ a. same_kind k a.kind) h.arcs)

  pub kinds_of_part : (k : ArcKind) → Each (λ (a : Tried). a.kind ≡ k) (tried_part k)
  kinds_of_part k =
      joined (λ (a : Tried). a.kind ≡ k) (filter (λ a. same_kind k a.kind) new.arcs) (map (tried_below l m) (filter (λ a. same_kind k a.kind) h.arcs))
      (is_kind (λ (a : Tried). a.kind) k new.arcs)
      (in_map (λ (a : Tried). a.kind ≡ k) (tried_below l m) (filter (λ a. same_kind k a.kind) h.arcs) (is_kind (λ (a : Tried). a.kind) k h.arcs))

  abbrev ifs : Tried → List Branch
  ifs a = if_followed a a.authored.outcome a.fault

  one_below : (a : Tried) (o : Outcome) (r : Option Reason) (rest : List Branch)
      → if_followed (record a { level = suc a.level }) o (refused_below l m a.level o r) ++ filter_map bb rest ≡ filter_map bb (if_followed a o r ++ rest)
  one_below a (gives_no_arc x) r rest = refl
  one_below a (leads lead) (Some x) rest = refl
  one_below a (leads lead) None rest = by (fits l (child_path m (suc a.level) lead.target))
    where
      by : (c : Bool) → if_followed (record a { level = suc a.level }) (leads lead) (elim c as (λ _. Option Reason) [ true ↦ None | false ↦ Some path_too_long ]) ++ filter_map bb rest
          ≡ cons_option (elim c as (λ _. Option Branch) [ true ↦ Some (record { kind = a.kind; level = suc a.level; lead = lead; lifted = false }) | false ↦ None ]) (filter_map bb rest)
      by true = refl
      by false = refl

  those_below : (as_old : List Tried) → flat_map ifs (map (tried_below l m) as_old) ≡ filter_map bb (flat_map ifs as_old)
  those_below [] = refl
  those_below (a ∷ as_old) =
      ap (λ (bs : List Branch). ifs (tried_below l m a) ++ bs) (those_below as_old)
      ∙ one_below a a.authored.outcome a.fault (flat_map ifs as_old)

  followed_below : (k : ArcKind) → filter (λ a. same_kind k a.kind) said.arcs ≡ tried_part k → followed said.arcs k ≡ followed new.arcs k ++ filter_map bb (followed h.arcs k)
  followed_below k is =
      ap (λ (xs : List Tried). flat_map ifs xs) is
      ∙ flat_map-append ifs (filter (λ a. same_kind k a.kind) new.arcs) (map (tried_below l m) (filter (λ a. same_kind k a.kind) h.arcs))
      ∙ ap (λ (bs : List Branch). followed new.arcs k ++ bs) (those_below (filter (λ a. same_kind k a.kind) h.arcs))

  old_variants : (cs : List Chosen) → map (variant_branch m) (filter_map (chosen_below l m) cs) ≡ filter_map bb (map (variant_branch n) cs)
  old_variants [] = refl
  old_variants (c ∷ cs) = by (fits l (child_path m (suc c.level) c.target)) (old_variants cs)
    where
      by : (b : Bool) → map (variant_branch m) (filter_map (chosen_below l m) cs) ≡ filter_map bb (map (variant_branch n) cs)
          → map (variant_branch m) (cons_option (elim b as (λ _. Option Chosen) [ true ↦ Some (record { level = suc c.level; target = c.target }) | false ↦ None ]) (filter_map (chosen_below l m) cs))
          ≡ cons_option (elim b as (λ _. Option Branch) [ true ↦ Some (lowered_branch (variant_branch n c)) | false ↦ None ]) (filter_map bb (map (variant_branch n) cs))
      by true e = ap (λ (bs : List Branch). lowered_branch (variant_branch n c) ∷ bs) e
      by false e = e

  variants_below : map (variant_branch m) said.variants ≡ map (variant_branch m) new.variants ++ filter_map bb (map (variant_branch n) h.variants)
  variants_below =
      map-append (variant_branch m) new.variants (filter_map (chosen_below l m) h.variants)
      ∙ ap (λ (bs : List Branch). map (variant_branch m) new.variants ++ bs) (old_variants h.variants)

  abbrev both_made : ArcKind → List Branch
  both_made k = made m new k ++ filter_map bb (made n h k)

  each_made : Each (λ k. made m said k ≡ both_made k) all_kinds
  each_made =
      let each : Each (λ k. filter (λ a. same_kind k a.kind) said.arcs ≡ tried_part k) kinds = among_authored (λ (a : Tried). a.kind) tried_part kinds_of_part in (
        followed_below Inherits each.0,
        (
          variants_below,
          (
            followed_below Reference each.1.0,
            (
              followed_below Payload each.1.1.0,
              (followed_below Specializes each.1.1.1.0, tt),
            ),
          ),
        ),
      )

  one_split : (k : ArcKind) → filter (λ b. same_kind k b.kind) (own_branches m new) ≡ made m new k → filter (λ b. same_kind k b.kind) (own_branches n h) ≡ made n h k
      → both_made k ≡ filter (λ b. same_kind k b.kind) (own_branches m new) ++ filter_map bb (filter (λ b. same_kind k b.kind) (own_branches n h))
  one_split k x y = sym (λ i. x i ++ filter_map bb (y i))

  each_split : Each (λ k. both_made k ≡ filter (λ b. same_kind k b.kind) (own_branches m new) ++ filter_map bb (filter (λ b. same_kind k b.kind) (own_branches n h))) all_kinds
  each_split =
      let x = kind_of_own m new in
      let y = kind_of_own n h in (
        one_split Inherits x.0 y.0,
        (
          one_split Variant x.1.0 y.1.0,
          (
            one_split Reference x.1.1.0 y.1.1.0,
            (
              one_split Payload x.1.1.1.0 y.1.1.1.0,
              (one_split Specializes x.1.1.1.1.0 y.1.1.1.1.0, tt),
            ),
          ),
        ),
      )

  -- the own arcs one level down
  pub own_below : own_branches m said ≡ branches_below l m (own_branches m new) (own_branches n h)
  own_below =
      by_made m said
      ∙ same_parts (made m said) both_made all_kinds each_made
      ∙ same_parts both_made (λ k. filter (λ b. same_kind k b.kind) (own_branches m new) ++ filter_map bb (filter (λ b. same_kind k b.kind) (own_branches n h))) all_kinds each_split
