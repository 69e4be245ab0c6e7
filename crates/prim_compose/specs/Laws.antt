-- What a composer owes: the paths that a composed prim lists are different, and right below it.
use Rattle.std.specs.Prelude.{◌≡◌, ◌≢◌, ℕ, zero, suc, ◌+◌, ◌<◌, ◌≤◌, Bool, true, false, List, [], ◌∷◌, ◌++◌, length, map, take, filter, Option, Some, None, Contains, AllPairs}
use Rattle.std.specs.List.{list_any, list_all}
use Rattle.std.proofs.Common.{refl, ap, sym, ◌∙◌, arith, length-append, get_or, inl, inr}
use Rattle.std.proofs.Math.Seq.{take-append_seam}
use Rattle.std.proofs.lemmas.List.Sums.{fold-append}
use Rattle.std.proofs.lemmas.Bool.{leb-true, cases_Bool, or_parts}
use Rattle.plain_data.specs.Ends.{last, last-push}
use Rattle.list_ops.specs.ListEdits.{firsts, without}
use Rattle.sdf_paths.specs.Paths.{parent, depth, is_prim_name}
use Rattle.sdf_paths.specs.declared.element.Element.{Element}
use Rattle.sdf_paths.specs.declared.element.Element.TheVariants.{Prim}
use Rattle.composition.specs.Texts.{Text, same_text}
use Rattle.composition.specs.Paths.{Path, limits, fits}
use Rattle.composition.specs.Faults.{Index, index}
use Rattle.composition.specs.Fields.{child_path, listed_children, is_inactive, all_children, meta_of}
use Rattle.composition.specs.Opinions.{Said, said_at_all}
use Rattle.composition.specs.Views.{view, view_by_index, root_children}
use Rattle.composition.specs.World.{World}
use Rattle.layer_set.specs.LookUps.{look_ups}
use Rattle.layer_set.specs.Worlds.{WorldData}
use Rattle.prim_compose.specs.Composed.{view_at}
use Rattle.prim_compose.specs.Listing.{entry_at, listed_below}
use Rattle.composition.proofs.Same.{same_itself}
use Rattle.composition.proofs.Tests.{both_parts}

-- names of which no two are the same
abbrev pub AllDifferent : List Text → Type 0
AllDifferent [] = Unit {0}
AllDifferent (n ∷ names) = (list_any (same_text n) names ≡ false) × AllDifferent names

-- names that are different, and of which each gives a path within the limits
pub record AreListed (p : Path) (names : List Text) : Type 0 where
  pub different : AllDifferent names
  pub fit : list_all (λ name. fits limits (child_path p name)) names ≡ true

-- ---- lists without some of their names

absent_filter : (n : Text) (p : Text → Bool) (names : List Text) → list_any (same_text n) names ≡ false → list_any (same_text n) (filter p names) ≡ false
absent_filter n p [] e = refl
absent_filter n p (m ∷ names) e =
    let two = or_parts (same_text n m) (list_any (same_text n) names) e in
    elim (cases_Bool (p m)) [
      | inl kept ↦ rw (kept, two.0) (absent_filter n p names two.1)
      | inr gone ↦ rw gone (absent_filter n p names two.1)
    ]

different_filter : (p : Text → Bool) (names : List Text) → AllDifferent names → AllDifferent (filter p names)
different_filter p [] d = tt
different_filter p (m ∷ names) d = elim (cases_Bool (p m)) [
  | inl kept ↦ rw kept (absent_filter m p names d.0, different_filter p names d.1)
  | inr gone ↦ rw gone (different_filter p names d.1)
]

absent_without : (n : Text) (names : List Text) → list_any (same_text n) (without same_text names (n ∷ [])) ≡ false
absent_without n [] = refl
absent_without n (m ∷ names) = elim (cases_Bool (same_text n m)) [
  | inl same ↦ rw same (absent_without n names)
  | inr other ↦ rw (other, other) (absent_without n names)
]

firsts_different : (names : List Text) → AllDifferent (firsts same_text names)
firsts_different [] = tt
firsts_different (n ∷ names) = (absent_without n (firsts same_text names), different_filter _ (firsts same_text names) (firsts_different names))

all_filtered : (p : Text → Bool) (names : List Text) → list_all p (filter p names) ≡ true
all_filtered p [] = refl
all_filtered p (m ∷ names) = elim (cases_Bool (p m)) [
  | inl kept ↦ rw (kept, kept) (all_filtered p names)
  | inr gone ↦ rw gone (all_filtered p names)
]

fitting : (p : Path) (names : List Text) → AllDifferent names → AreListed p (listed_children limits p names)
fitting p names d = record { different = different_filter _ names d; fit = all_filtered _ names }

nothing : (p : Path) → AreListed p []
nothing p = record { different = tt; fit = refl }

-- ---- what a composed prim lists

by_activity : (p : Path) (b : Bool) (said : List Said) → AreListed p (listed_children limits p (elim b [ true ↦ [] | false ↦ all_children said ]))
by_activity p true said = nothing p
by_activity p false said = fitting p (all_children said) (firsts_different _)

by_index : (w : World) (p : Path) (i : Option Index) → AreListed p (view_by_index limits w p i).children
by_index w p None = nothing p
by_index w p (Some i) = by_activity p (is_inactive (meta_of (said_at_all limits w i.sites))) (said_at_all limits w i.sites)

by_plain : (w : World) (e : Element) (p : Path) (b : Bool) → list_all is_prim_name (e ∷ p) ≡ b → AreListed (e ∷ p) (view limits w (e ∷ p)).children
by_plain w e p true h = rw (view, h) (by_index w (e ∷ p) (index limits w (e ∷ p)))
by_plain w e p false h = rw (view, h) (nothing (e ∷ p))

in_view : (w : World) (p : Path) → AreListed p (view limits w p).children
in_view w [] = fitting [] (root_children limits w) (firsts_different _)
in_view w (e ∷ p) = by_plain w e p (list_all is_prim_name (e ∷ p)) refl

-- the children of each composed prim are different, and their paths within the limits
pub are_listed : (w : WorldData) (p : Path) → AreListed p (entry_at w p).children
unfolding entry_at view_at
are_listed w p = in_view (look_ups w) p

-- ---- paths right below

apart : (n m : Text) → same_text n m ≡ false → n ≡ m → ⊥
apart n m e is =
    let t : same_text n m ≡ true = ap (λ (x : Text). same_text n x) (sym is) ∙ same_itself n in
    absurd cc

last_same : (p : Path) (n m : Text) → p ++ Prim n ∷ [] ≡ p ++ Prim m ∷ [] → n ≡ m
last_same p n m e =
    let a : Some (Prim n) ≡ Some (Prim m) = sym (last-push p (Prim n)) ∙ ap last e ∙ last-push p (Prim m) in
    cc

none_like : (p : Path) (names : List Text) (n : Text) (j : ℕ) (d : Path) → list_any (same_text n) names ≡ false → j < length (map (λ m. p ++ Prim m ∷ []) names)
    → p ++ Prim n ∷ [] ≡ get_or (map (λ m. p ++ Prim m ∷ []) names) j d → ⊥
none_like p [] n j d e within same = absurd (omega arith)
none_like p (m ∷ names) n zero d e within same = apart n m (or_parts (same_text n m) (list_any (same_text n) names) e).0 (last_same p n m same)
none_like p (m ∷ names) n (suc j) d e within same = none_like p names n j d (or_parts (same_text n m) (list_any (same_text n) names) e).1 (omega arith) same

below_different : (p : Path) (names : List Text) → AllDifferent names → AllPairs (λ x y. x ≢ y) (map (λ n. p ++ Prim n ∷ []) names)
below_different p [] different i j d before within = absurd (omega arith)
below_different p (n ∷ names) different zero zero d before within = absurd (omega arith)
below_different p (n ∷ names) different zero (suc j) d before within = none_like p names n j d different.0 (omega arith)
below_different p (n ∷ names) different (suc i) zero d before within = absurd (omega arith)
below_different p (n ∷ names) different (suc i) (suc j) d before within = below_different p names different.1 i j d (omega arith) (omega arith)

-- the paths of the children of a composed prim are different
pub are_different : (w : WorldData) (p : Path) → AllPairs (λ x y. x ≢ y) (listed_below p (entry_at w p))
are_different w p = below_different p (entry_at w p).children (are_listed w p).different

one_below : (p : Path) (names : List Text) (q : Path) (k : ℕ) → list_all (λ name. fits limits (child_path p name)) names ≡ true
    → k < length (map (λ m. p ++ Prim m ∷ []) names) → get_or (map (λ m. p ++ Prim m ∷ []) names) k q ≡ q
    → (n : Text) × (q ≡ p ++ Prim n ∷ []) × (fits limits (child_path p n) ≡ true)
one_below p [] q k fit within is = absurd (omega arith)
one_below p (n ∷ names) q zero fit within is =
    (n, sym is, elim (cases_Bool (fits limits (child_path p n))) [ inl fits_it ↦ fits_it | inr other ↦ absurd (let t : false ≡ true = sym (rw other refl) ∙ fit in cc) ])
one_below p (n ∷ names) q (suc k) fit within is = one_below p names q k (elim (cases_Bool (fits limits (child_path p n))) [ inl fits_it ↦ rw fits_it at fit | inr other ↦ absurd cc ]) (omega arith) is

parent_below : (p : Path) (x : Element) → parent (p ++ x ∷ []) ≡ Some p
parent_below [] x = refl
parent_below (e ∷ p) x =
    let len : length (p ++ x ∷ []) ≡ suc (length p) = length-append p (x ∷ []) ∙ omega arith in
    ap (λ (k : ℕ). Some (take k (e ∷ p ++ x ∷ []))) len ∙ ap Some (take-append_seam (e ∷ p) (x ∷ []))

-- a child has one name more than its prim
pub depth_below : (p : Path) (n : Text) → depth (p ++ Prim n ∷ []) ≡ depth p + 1
depth_below p n = fold-append _ 0 p (Prim n ∷ [])

few : (p : Path) (n : Text) → fits limits (child_path p n) ≡ true → depth (p ++ Prim n ∷ []) ≤ 64
few p n h = leb-true _ _ (both_parts _ _ h).0

-- a path that a composed prim lists has that prim as its parent, one name more, and no more than 64 names
pub are_below : (w : WorldData) (p q : Path) → Contains (listed_below p (entry_at w p)) q → (parent q ≡ Some p) × (depth q ≡ depth p + 1) × (depth q ≤ 64)
are_below w p q has =
    let one = one_below p (entry_at w p).children q has.0 (are_listed w p).fit has.1 has.2 in
    rw one.1 (parent_below p (Prim one.0), depth_below p one.0, few p one.0 one.2)
