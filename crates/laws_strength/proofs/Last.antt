-- The strong part of a tree is reached without a specializes arc, the weak part through one.
use Rattle.std.proofs.Common.{◌≡◌, ◌∙◌, ap, sym, refl, subst, ℕ, Bool, true, false, ◌||◌, List, [], ◌∷◌, ◌++◌, map, flat_map, filter, inl, inr, ◌⊎◌}
use Rattle.std.specs.Prelude.{◌==◌}
use Rattle.std.proofs.lemmas.Bool.{cases_Bool, eqb-true}
use Rattle.path_maps.specs.declared.kind.ArcKind.{ArcKind}
use Rattle.path_maps.specs.declared.kind.ArcKind.TheVariants.{Inherits, Variant, Reference, Payload, Specializes}
use Rattle.composition.specs.Arcs.{same_kind, place}
use Rattle.composition.specs.Nodes.{Node, Here}
use Rattle.composition.specs.Paths.{Limits}
use Rattle.composition.specs.Strength.{Ranked, Parts, part_of, by_classes, by_kind, by_strength, strong, strong_parts, weak, weak_parts, strong_of, weak_of}
use Rattle.composition.specs.Trees.{Tree, node, Trees, none, cut, child, Branch, Class, classes, is_class_of}
use Rattle.composition.proofs.Tests.{both_parts}
use Rattle.laws_strength.specs.Laws.{SpecializesComeLast}
use Rattle.laws_strength.proofs.Lists.{each, together}
use Rattle.laws_strength.specs.Ways.{Each, Among, first, later, Reached, itself, by_own, by_lifted}

-- all entries are reached from a tree in one way
abbrev AllReached : Tree → Bool → List Ranked → Type 0
AllReached t on_the_way es = Each (λ e. Reached t on_the_way e.0) es

-- ---- what is taken of the parts of children

module _ (top : Tree) (on_the_way : Bool) (Q : ArcKind → Type 0) where
  -- what stands under each child of a kind that meets Q is reached
  abbrev AllParts : Parts → Type 0
  AllParts parts = Each (λ e. Q e.0.kind → AllReached top on_the_way e.1) parts

  under_class : (k : ArcKind) (c : Class) (parts : Parts) → ((j : ArcKind) → same_kind k j ≡ true → Q j) → AllParts parts → AllReached top on_the_way (part_of k c parts)
  under_class k c [] kinds all = tt
  under_class k c (e ∷ es) kinds all = by (under_class k c es kinds all.1) (is_class_of k c e.0) refl
    where
      by : AllReached top on_the_way (part_of k c es) → (b : Bool) → is_class_of k c e.0 ≡ b
          → AllReached top on_the_way (elim b as (λ _. List Ranked) [ true ↦ e.1 | false ↦ part_of k c es ])
      by rest true is = all.0 (kinds e.0.kind (both_parts (same_kind k e.0.kind) _ is).0)
      by rest false is = rest

  under_classes : (k : ArcKind) (cs : List Class) (parts : Parts) → ((j : ArcKind) → same_kind k j ≡ true → Q j) → AllParts parts → AllReached top on_the_way (by_classes k cs parts)
  under_classes k [] parts kinds all = tt
  under_classes k (c ∷ cs) parts kinds all =
      together (λ e. Reached top on_the_way e.0) (part_of k c parts) (by_classes k cs parts) (under_class k c parts kinds all) (under_classes k cs parts kinds all)

  under_kind : (k : ArcKind) (parts : Parts) → ((j : ArcKind) → same_kind k j ≡ true → Q j) → AllParts parts → AllReached top on_the_way (by_kind k parts)
  under_kind k [] kinds all = tt
  under_kind k (e ∷ es) kinds all = elim (cases_Bool (same_kind k e.0.kind)) [
    | inl here ↦ rw here (together (λ x. Reached top on_the_way x.0) e.1 (by_kind k es) (all.0 (kinds e.0.kind here)) (under_kind k es kinds all.1))
    | inr other ↦ rw other (under_kind k es kinds all.1)
  ]

  under_all : (cs : List Class) (parts : Parts)
      → ((j : ArcKind) → same_kind Inherits j ≡ true → Q j) → ((j : ArcKind) → same_kind Variant j ≡ true → Q j)
      → ((j : ArcKind) → same_kind Reference j ≡ true → Q j) → ((j : ArcKind) → same_kind Payload j ≡ true → Q j)
      → AllParts parts → AllReached top on_the_way (by_strength cs parts)
  under_all cs parts inherits variant reference payload all =
      let P : Ranked → Type 0 = λ e. Reached top on_the_way e.0 in
      together P (by_classes Inherits cs parts ++ by_kind Variant parts ++ by_kind Reference parts) (by_kind Payload parts)
      (together P (by_classes Inherits cs parts ++ by_kind Variant parts) (by_kind Reference parts)
      (together P (by_classes Inherits cs parts) (by_kind Variant parts) (under_classes Inherits cs parts inherits all) (under_kind Variant parts variant all))
      (under_kind Reference parts reference all))
      (under_kind Payload parts payload all)

-- ---- kinds

-- the arc is no specializes arc
abbrev IsPlain : ArcKind → Type 0
IsPlain j = same_kind Specializes j ≡ false

-- a kind that is one with another is no more a specializes arc than that
plain_too : (k j : ArcKind) → same_kind Specializes k ≡ false → same_kind k j ≡ true → IsPlain j
plain_too k j plain same = ap (λ n. place Specializes == n) (sym (eqb-true (place k) (place j) same)) ∙ plain

-- ---- the two parts

-- from a child on, as the ways of its parent go on
abbrev Up : Trees → Tree → Type 0
Up ts top = (b : Branch) (c s : Tree) (on_the_way : Bool) → Among b c ts → Reached c on_the_way s → Reached top (same_kind Specializes b.kind || on_the_way) s

without_first : (b : Branch) (t : Tree) (ts : Trees) (top : Tree) → Up (child b t ts) top → Up ts top
without_first b t ts top up c u s on_the_way among = up c u s on_the_way (later c b u t ts among)

-- of a specializes child the strong and the weak part, of others the weak one
weak_entry : (top t : Tree) (k : Bool) (strongs weaks : List Ranked) → ((e : Ranked) → Reached t false e.0 → Reached top (k || false) e.0) → ((e : Ranked) → Reached t true e.0 → Reached top (k || true) e.0)
    → AllReached t false strongs → AllReached t true weaks → AllReached top true (elim k as (λ _. List Ranked) [ true ↦ strongs ++ weaks | false ↦ weaks ])
weak_entry top t true strongs weaks plain special without through =
    together (λ e. Reached top true e.0) strongs weaks (each (λ e. Reached t false e.0) (λ e. Reached top true e.0) plain strongs without) (each (λ e. Reached t true e.0) (λ e. Reached top true e.0) special weaks through)
weak_entry top t false strongs weaks plain special without through = each (λ e. Reached t true e.0) (λ e. Reached top true e.0) special weaks through

module _ (l : Limits) where
  mutual
    strong_reached : (above rank : ℕ) (t : Tree) → AllReached t false (strong l above rank t)
    strong_reached above rank (node n h own lifted) =
        let top : Tree = node n h own lifted in
        let parts : Parts = strong_parts l above own own ++ strong_parts l above own lifted in (
          itself top,
          under_all top false IsPlain (classes l Inherits top) parts (λ j. plain_too Inherits j refl) (λ j. plain_too Variant j refl) (λ j. plain_too Reference j refl) (λ j. plain_too Payload j refl)
              (together (λ e. IsPlain e.0.kind → AllReached top false e.1) (strong_parts l above own own) (strong_parts l above own lifted)
              (strong_below above own own top (λ b c s way. by_own n h own lifted b c s way)) (strong_below above own lifted top (λ b c s way. by_lifted n h own lifted b c s way))),
        )

    strong_below : (above : ℕ) (siblings ts : Trees) (top : Tree) → Up ts top → AllParts top false IsPlain (strong_parts l above siblings ts)
    strong_below above siblings none top up = tt
    strong_below above siblings cut top up = tt
    strong_below above siblings (child b t ts) top up = (
      λ plain. each (λ e. Reached t false e.0) (λ e. Reached top false e.0) (λ e r. subst (λ k. Reached top (k || false) e.0) plain (up b t e.0 false (first b t ts) r)) _ (strong_reached _ _ t),
      strong_below above siblings ts top (without_first b t ts top up),
    )

  mutual
    weak_reached : (above rank : ℕ) (t : Tree) → AllReached t true (weak l above rank t)
    weak_reached above rank (node n h own lifted) =
        let top : Tree = node n h own lifted in
        let parts : Parts = weak_parts l above own own ++ weak_parts l above own lifted in
        let all : AllParts top true (λ _. Unit {0}) parts =
        together (λ e. Unit {0} → AllReached top true e.1) (weak_parts l above own own) (weak_parts l above own lifted)
        (weak_below above own own top (λ b c s way. by_own n h own lifted b c s way)) (weak_below above own lifted top (λ b c s way. by_lifted n h own lifted b c s way)) in
        together (λ e. Reached top true e.0) (by_classes Specializes (classes l Specializes top) parts) (by_strength (classes l Inherits top) parts)
        (under_classes top true (λ _. Unit {0}) Specializes (classes l Specializes top) parts (λ j same. tt) all)
        (under_all top true (λ _. Unit {0}) (classes l Inherits top) parts (λ j same. tt) (λ j same. tt) (λ j same. tt) (λ j same. tt) all)

    weak_below : (above : ℕ) (siblings ts : Trees) (top : Tree) → Up ts top → AllParts top true (λ _. Unit {0}) (weak_parts l above siblings ts)
    weak_below above siblings none top up = tt
    weak_below above siblings cut top up = tt
    weak_below above siblings (child b t ts) top up = (
      λ _. weak_entry top t (same_kind Specializes b.kind) _ _ (λ e r. up b t e.0 false (first b t ts) r) (λ e r. up b t e.0 true (first b t ts) r) (strong_reached _ _ t) (weak_reached _ _ t),
      weak_below above siblings ts top (without_first b t ts top up),
    )

-- ---- the law

as_trees : (t : Tree) (on_the_way : Bool) (es : List Ranked) → AllReached t on_the_way es → Each (λ s. Reached t on_the_way s) (map (λ e. e.0) es)
as_trees t on_the_way [] all = tt
as_trees t on_the_way (e ∷ es) all = (all.0, as_trees t on_the_way es all.1)

pub come_last : SpecializesComeLast
come_last = record {
  parts = λ l t. map_append (strong_of l t) (weak_of l t);
  strong = λ l t. as_trees t false (strong_of l t) (strong_reached l 0 0 t);
  weak = λ l t. as_trees t true (weak_of l t) (weak_reached l 0 0 t);
}
  where
    map_append : (xs ys : List Ranked) → map (λ (e : Ranked). e.0) (xs ++ ys) ≡ map (λ (e : Ranked). e.0) xs ++ map (λ (e : Ranked). e.0) ys
    map_append [] ys = refl
    map_append (x ∷ xs) ys = ap (λ zs. x.0 ∷ zs) (map_append xs ys)
