-- The order of paths, and paths that begin with another.
use Rattle.std.proofs.Common.{◌≡◌, ◌&&◌, ◌∙◌, sym, ap, refl, subst, ℕ, Bool, true, false, List, [], ◌∷◌, Option, None}
use Rattle.std.specs.Cmp.{IsTotalOrder, then_total, on_total, Equal-is}
use Rattle.std.specs.Cmp.Lexicographic.{nat_list_cmp_total, bytes_decides}
use Rattle.std.specs.Ordering.{ordering_then, ordering_reverse, is_le, is_eq}
use Rattle.std.specs.Option.{is_some}
use Rattle.std.specs.Str.{bytes_eq}
use Rattle.std.specs.declared.cmp.Ordering.{Ordering}
use Rattle.std.specs.declared.cmp.Ordering.TheVariants.{Less, Equal, Greater}
use Rattle.plain_data.specs.Exact.{both_true, text_same}
use Rattle.sdf_paths.specs.Order.{text_cmp, element_cmp, path_cmp}
use Rattle.sdf_paths.specs.DerivedOrder.{element_cmp_same, path_cmp_same}
use Rattle.sdf_paths.specs.Paths.{same_element, rest_after, has_prefix}
use Rattle.sdf_paths.specs.declared.element.Element.{Element}
use Rattle.sdf_paths.specs.declared.element.Element.TheVariants.{Prim, Property, Selection}
use Rattle.spec_properties.proofs.NamedLists.{by_test}

pub not_both : {b : Bool} {A : Type 0} → b ≡ true → b ≡ false → A
not_both {b} {A} is isnt = absurd cc

element_antisymm : (x y : Element) → element_cmp x y ≡ ordering_reverse (element_cmp y x)
element_antisymm (Prim a) (Prim b) = nat_list_cmp_total.antisymm a b
element_antisymm (Prim a) (Property b) = refl
element_antisymm (Prim a) (Selection t w) = refl
element_antisymm (Property a) (Prim b) = refl
element_antisymm (Property a) (Property b) = nat_list_cmp_total.antisymm a b
element_antisymm (Property a) (Selection t w) = refl
element_antisymm (Selection s v) (Prim b) = refl
element_antisymm (Selection s v) (Property b) = refl
element_antisymm (Selection s v) (Selection t w) =
    let both : IsTotalOrder (λ (p q : List ℕ × List ℕ). ordering_then (text_cmp p.0 q.0) (text_cmp p.1 q.1)) =
    then_total (on_total (λ (p : List ℕ × List ℕ). p.0) nat_list_cmp_total) (on_total (λ (p : List ℕ × List ℕ). p.1) nat_list_cmp_total) in
    both.antisymm (s, v) (t, w)

own_reverse : (o : Ordering) → o ≡ ordering_reverse o → o ≡ Equal
own_reverse Less h = absurd cc
own_reverse Equal h = refl
own_reverse Greater h = absurd cc

pub element_cmp_itself : (x : Element) → element_cmp x x ≡ Equal
element_cmp_itself x = own_reverse (element_cmp x x) (element_antisymm x x)

pub path_cmp_itself : (path : List Element) → path_cmp path path ≡ Equal
path_cmp_itself [] = refl
path_cmp_itself (e ∷ es) = ap (λ (o : Ordering). ordering_then o (path_cmp es es)) (element_cmp_itself e) ∙ path_cmp_itself es

pub same_path : (p q : List Element) → is_eq (path_cmp p q) ≡ true → p ≡ q
same_path p q h = path_cmp_same p q ((Equal-is (path_cmp p q)).0 h)

pub finds_itself : (p : List Element) → is_eq (path_cmp p p) ≡ true
finds_itself p = ap is_eq (path_cmp_itself p)

-- elements that are one
same_element_same : (x y : Element) → same_element x y ≡ true → x ≡ y
same_element_same (Prim a) (Prim b) h = ap Prim (text_same a b h)
same_element_same (Prim a) (Property b) h = absurd cc
same_element_same (Prim a) (Selection t w) h = absurd cc
same_element_same (Property a) (Prim b) h = absurd cc
same_element_same (Property a) (Property b) h = ap Property (text_same a b h)
same_element_same (Property a) (Selection t w) h = absurd cc
same_element_same (Selection s v) (Prim b) h = absurd cc
same_element_same (Selection s v) (Property b) h = absurd cc
same_element_same (Selection s v) (Selection t w) h =
    let both = both_true (bytes_eq s t) (bytes_eq v w) h in
    let set = text_same s t both.0 in
    let variant = text_same v w both.1 in
    cc

bytes_itself : (a : List ℕ) → bytes_eq a a ≡ true
bytes_itself a = (bytes_decides a a).1 refl

same_element_itself : (x : Element) → same_element x x ≡ true
same_element_itself (Prim a) = bytes_itself a
same_element_itself (Property a) = bytes_itself a
same_element_itself (Selection s v) = ap (λ (b : Bool). b && bytes_eq v v) (bytes_itself s) ∙ bytes_itself v

-- a path is at most those that begin with it
pub prefix_le : (front path : List Element) → has_prefix front path ≡ true → is_le (path_cmp front path) ≡ true
prefix_le [] [] h = refl
prefix_le [] (x ∷ xs) h = refl
prefix_le (f ∷ fs) [] h = absurd cc
prefix_le (f ∷ fs) (x ∷ xs) h =
    let F : Bool → Type 0 = λ b. is_some (elim b as (λ _. Option (List Element)) [ true ↦ rest_after fs xs | false ↦ None ]) ≡ true → is_le (ordering_then (element_cmp f x) (path_cmp fs xs)) ≡ true in
    by_test F (same_element f x)
    (λ t more.
    let one : element_cmp f x ≡ Equal = ap (λ (y : Element). element_cmp f y) (sym (same_element_same f x t)) ∙ element_cmp_itself f in
    ap (λ (o : Ordering). is_le (ordering_then o (path_cmp fs xs))) one ∙ prefix_le fs xs more)
    (λ t none. absurd cc) h

between : (o p r s : Ordering) → p ≡ ordering_reverse o → is_le (ordering_then o r) ≡ true → ordering_then p s ≡ Less → (o ≡ Equal) × (is_le r ≡ true) × (s ≡ Less)
between Less p r s e le lt = let greater : ordering_then Greater s ≡ Less = ap (λ (q : Ordering). ordering_then q s) (sym e) ∙ lt in absurd cc
between Equal p r s e le lt = (refl, le, ap (λ (q : Ordering). ordering_then q s) (sym e) ∙ lt)
between Greater p r s e le lt = absurd cc

-- what comes after a path that is past those that begin with `front` does not begin with it either
pub past_prefix : (front path after : List Element) → is_le (path_cmp front path) ≡ true → has_prefix front path ≡ false → path_cmp path after ≡ Less → has_prefix front after ≡ false
past_prefix [] path after le out lt = absurd cc
past_prefix (f ∷ fs) [] after le out lt = absurd cc
past_prefix (f ∷ fs) (x ∷ xs) [] le out lt = absurd cc
past_prefix (f ∷ fs) (x ∷ xs) (z ∷ zs) le out lt =
    let F : Bool → Type 0 = λ b. is_some (elim b as (λ _. Option (List Element)) [ true ↦ rest_after fs zs | false ↦ None ]) ≡ false in
    let G : Bool → Type 0 = λ b. is_some (elim b as (λ _. Option (List Element)) [ true ↦ rest_after fs xs | false ↦ None ]) ≡ false in
    by_test F (same_element f z)
    (λ t.
    let one : f ≡ z = same_element_same f z t in
    let turned : element_cmp x z ≡ ordering_reverse (element_cmp f x) = ap (λ (y : Element). element_cmp x y) (sym one) ∙ element_antisymm x f in
    let parts = between (element_cmp f x) (element_cmp x z) (path_cmp fs xs) (path_cmp xs zs) turned le lt in
    let first : f ≡ x = element_cmp_same f x parts.0 in
    let same : same_element f x ≡ true = ap (λ (y : Element). same_element f y) (sym first) ∙ same_element_itself f in
    past_prefix fs xs zs parts.1 (subst G same out) parts.2)
    (λ t. refl)
