-- What is said at a node one level down has at level 0 what is said at the new level.
use Rattle.std.proofs.Common.{◌≡◌, refl, ap, ◌∙◌, ℕ, suc, ◌==◌, Bool, true, false, cond, not, List, [], ◌∷◌, ◌++◌, map, flat_map, filter, filter_map, Option, Some, None, arith}
use Rattle.std.specs.List.{cons_option}
use Rattle.std.proofs.lemmas.Bool.{eqb-true}
use Rattle.std.proofs.lemmas.List.{append-nil}
use Rattle.std.proofs.lemmas.List.Elements.{filter-append}
use Rattle.path_maps.specs.declared.kind.ArcKind.{ArcKind}
use Rattle.composition.specs.Names.{is_name, is_variant_name}
use Rattle.sdf_paths.specs.declared.element.Element.TheVariants.{Selection}
use Rattle.composition.specs.Texts.{Text, same_text, find_at, both}
use Rattle.composition.specs.Paths.{Limits, fits}
use Rattle.composition.specs.World.{World}
use Rattle.composition.specs.Stacks.{stack}
use Rattle.composition.specs.Arcs.{same_kind, Authored, Opinion, opinions_at, arcs_of, variant_sets_of, selections_of, is_empty}
use Rattle.composition.specs.Nodes.{Node, Frame, Tried, Chosen, Here, author, child_path, frame_at, is_looked_at, tried_item, tried_at, variant_target, chosen_at}
use Rattle.agreeing_worlds.proofs.Each.{Each, same_parts, always, in_map, in_parts, weaker}
use Rattle.laws_extending.specs.Extending.{lowered, kinds, tried_below, chosen_below, here_below, here_at_0}
use Rattle.laws_extending.specs.Thin.{level_0}
use Rattle.laws_extending.proofs.Owned.{filter_parts, among_authored}

module _ {X : Type 0} (test : X → Bool) where
  pub all_pass : (xs : List X) → Each (λ x. test x ≡ true) xs → filter test xs ≡ xs
  all_pass [] h = refl
  all_pass (x ∷ xs) h = ap (λ (b : Bool). cond b (x ∷ filter test xs) (filter test xs)) h.0 ∙ ap (λ (ys : List X). x ∷ ys) (all_pass xs h.1)

  pub none_passes : (xs : List X) → Each (λ x. test x ≡ false) xs → filter test xs ≡ []
  none_passes [] h = refl
  none_passes (x ∷ xs) h = ap (λ (b : Bool). cond b (x ∷ filter test xs) (filter test xs)) h.0 ∙ none_passes xs h.1

pub not_0 : (j : ℕ) → (suc j == 0) ≡ false
not_0 j = by (suc j == 0) refl
  where
    by : (b : Bool) → (suc j == 0) ≡ b → b ≡ false
    by true is = let same : suc j ≡ 0 = eqb-true (suc j) 0 is in absurd (omega (arith, same))
    by false is = refl

module _ (l : Limits) (w : World) (f : Frame) (name : Text) (n : Node) (h : Here) where
  abbrev m : Node
  m = lowered f name n

  abbrev own : List Opinion
  own = opinions_at l w (stack l w n.stack) m.path

  abbrev at_0 : Tried → Bool
  at_0 a = a.level == 0

  abbrev pub new_part : ArcKind → List Tried
  new_part k = tried_at l w m k (0, own)

  pub new_at_0 : (k : ArcKind) → Each (λ a. at_0 a ≡ true) (new_part k)
  new_at_0 k = by (is_looked_at l w k (frame_at m 0))
    where
      by : (b : Bool) → Each (λ a. at_0 a ≡ true) (elim b as (λ _. List Tried) [ true ↦ map (tried_item l w k m 0) (arcs_of l w n.stack own k) | false ↦ [] ])
      by true = in_map (λ a. at_0 a ≡ true) (tried_item l w k m 0) (arcs_of l w n.stack own k) (always (λ (a : Authored). true ≡ true) (λ a. refl) (arcs_of l w n.stack own k))
      by false = tt

  new_kinds : (k : ArcKind) → Each (λ (a : Tried). a.kind ≡ k) (new_part k)
  new_kinds k = by (is_looked_at l w k (frame_at m 0))
    where
      by : (b : Bool) → Each (λ (a : Tried). a.kind ≡ k) (elim b as (λ _. List Tried) [ true ↦ map (tried_item l w k m 0) (arcs_of l w n.stack own k) | false ↦ [] ])
      by true = in_map (λ (a : Tried). a.kind ≡ k) (tried_item l w k m 0) (arcs_of l w n.stack own k) (always (λ (a : Authored). k ≡ k) (λ a. refl) (arcs_of l w n.stack own k))
      by false = tt

  old_higher : (xs : List Tried) → Each (λ a. at_0 a ≡ false) (map (tried_below l m) xs)
  old_higher xs = in_map (λ a. at_0 a ≡ false) (tried_below l m) xs (always (λ (a : Tried). (suc a.level == 0) ≡ false) (λ a. not_0 a.level) xs)

  abbrev part : ArcKind → List Tried
  part k = filter (λ a. same_kind k a.kind) (flat_map new_part kinds) ++ map (tried_below l m) (filter (λ a. same_kind k a.kind) h.arcs)

  one_part : (k : ArcKind) → filter (λ a. same_kind k a.kind) (flat_map new_part kinds) ≡ new_part k → filter at_0 (part k) ≡ new_part k
  one_part k is =
      filter-append at_0 (filter (λ a. same_kind k a.kind) (flat_map new_part kinds)) (map (tried_below l m) (filter (λ a. same_kind k a.kind) h.arcs))
      ∙ ap (λ (xs : List Tried). filter at_0 (filter (λ a. same_kind k a.kind) (flat_map new_part kinds)) ++ xs)
      (none_passes at_0 (map (tried_below l m) (filter (λ a. same_kind k a.kind) h.arcs)) (old_higher (filter (λ a. same_kind k a.kind) h.arcs)))
      ∙ append-nil (filter at_0 (filter (λ a. same_kind k a.kind) (flat_map new_part kinds)))
      ∙ ap (λ (xs : List Tried). filter at_0 xs) is
      ∙ all_pass at_0 (new_part k) (new_at_0 k)

  pub arcs_at_0 : filter at_0 (flat_map part kinds) ≡ flat_map new_part kinds
  arcs_at_0 =
      filter_parts at_0 part kinds
      ∙ same_parts (λ k. filter at_0 (part k)) new_part kinds
      (weaker (λ k. filter (λ a. same_kind k a.kind) (flat_map new_part kinds) ≡ new_part k) (λ k. filter at_0 (part k) ≡ new_part k) one_part kinds
      (among_authored (λ (a : Tried). a.kind) new_part new_kinds))

  abbrev chosen_0 : Chosen → Bool
  chosen_0 c = c.level == 0

  pub new_chosen_at_0 : (sets : List Text) → Each (λ c. chosen_0 c ≡ true) (filter_map (λ set. variant_target l w m 0 set (find_at same_text set f.choices)) sets)
  new_chosen_at_0 [] = tt
  new_chosen_at_0 (set ∷ sets) = by_variant (find_at same_text set f.choices) (new_chosen_at_0 sets)
    where
      others : List Chosen
      others = filter_map (λ s. variant_target l w m 0 s (find_at same_text s f.choices)) sets

      by_variant : (v : Option Text) → Each (λ c. chosen_0 c ≡ true) others → Each (λ c. chosen_0 c ≡ true) (cons_option (variant_target l w m 0 set v) others)
      by_variant None rest = rest
      by_variant (Some v) rest = by (both (is_name set) (both (is_variant_name v) (fits l (child_path m 0 (author m 0 ++ Selection set v ∷ [])))))
        where
          by : (b : Bool) → Each (λ c. chosen_0 c ≡ true) (cons_option (elim b as (λ _. Option Chosen) [ true ↦ Some (record { level = 0; target = author m 0 ++ Selection set v ∷ [] }) | false ↦ None ]) others)
          by true = (refl, rest)
          by false = rest

  old_chosen_higher : (cs : List Chosen) → Each (λ c. chosen_0 c ≡ false) (filter_map (chosen_below l m) cs)
  old_chosen_higher [] = tt
  old_chosen_higher (c ∷ cs) = by (fits l (child_path m (suc c.level) c.target)) (old_chosen_higher cs)
    where
      by : (b : Bool) → Each (λ c. chosen_0 c ≡ false) (filter_map (chosen_below l m) cs)
          → Each (λ c. chosen_0 c ≡ false) (cons_option (elim b as (λ _. Option Chosen) [ true ↦ Some (record { level = suc c.level; target = c.target }) | false ↦ None ]) (filter_map (chosen_below l m) cs))
      by true rest = (not_0 c.level, rest)
      by false rest = rest

  variants_at_0 : filter chosen_0 (chosen_at l w m (0, own) ++ filter_map (chosen_below l m) h.variants) ≡ chosen_at l w m (0, own)
  variants_at_0 =
      filter-append chosen_0 (chosen_at l w m (0, own)) (filter_map (chosen_below l m) h.variants)
      ∙ ap (λ (cs : List Chosen). filter chosen_0 (chosen_at l w m (0, own)) ++ cs) (none_passes chosen_0 (filter_map (chosen_below l m) h.variants) (old_chosen_higher h.variants))
      ∙ append-nil (filter chosen_0 (chosen_at l w m (0, own)))
      ∙ all_pass chosen_0 (chosen_at l w m (0, own)) (new_chosen_at_0 (variant_sets_of own))

  pub new_is_level_0 : level_0 (here_below l m h (here_at_0 l w m)) ≡ here_at_0 l w m
  new_is_level_0 = λ i. record {
    arcs = arcs_at_0 i;
    variants = variants_at_0 i;
    sets = variant_sets_of own;
    selections = selections_of own;
    has_spec = not (is_empty own);
  }

  -- nothing else is said there
  pub all_at_0 : level_0 (here_at_0 l w m) ≡ here_at_0 l w m
  all_at_0 =
      let arcs : filter at_0 (flat_map new_part kinds) ≡ flat_map new_part kinds =
      all_pass at_0 (flat_map new_part kinds) (in_parts (λ a. at_0 a ≡ true) new_part kinds (always (λ k. Each (λ a. at_0 a ≡ true) (new_part k)) new_at_0 kinds)) in
      let variants : filter chosen_0 (chosen_at l w m (0, own)) ≡ chosen_at l w m (0, own) = all_pass chosen_0 (chosen_at l w m (0, own)) (new_chosen_at_0 (variant_sets_of own)) in
      λ i. record {
        arcs = arcs i;
        variants = variants i;
        sets = variant_sets_of own;
        selections = selections_of own;
        has_spec = not (is_empty own);
      }
