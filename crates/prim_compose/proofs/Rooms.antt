-- The room that a path leaves says which names of children fit.
use Rattle.std.specs.Prelude.{nat_le, nat_lt, not}
use Rattle.std.proofs.Common.{◌≡◌, ◌∙◌, sym, ap, refl, ℕ, suc, ◌+◌, ◌-◌, ◌≤◌, Bool, true, false, List, [], ◌∷◌, ◌++◌, length, map, arith, length-append, append_assoc, append-nil}
use Rattle.std.specs.List.{list_all}
use Rattle.std.proofs.lemmas.Bool.Decides.{nat_tests}
use Rattle.std.proofs.lemmas.List.Elements.{filter_agree}
use Rattle.sdf_paths.specs.declared.element.Element.{Element}
use Rattle.sdf_paths.specs.declared.element.Element.TheVariants.{Prim, Property, Selection}
use Rattle.sdf_paths.specs.Paths.{is_prim_name, depth, printed, written_all, IsPath}
use Rattle.composition.specs.Texts.{Text}
use Rattle.composition.specs.Paths.{Path, limits, fits}
use Rattle.composition.specs.Faults.{Fault, child_too_long}
use Rattle.composition.specs.Fields.{child_path, listed_children, unlisted_children}
use Rattle.prim_compose.specs.Room.{bytes_left, room_of, has_room, listed_in, too_long_in}
use Rattle.prim_compose.specs.Laws.{depth_below}

-- a name stands after a `/` behind names of prims
written_below : (p : Path) (n : Text) → list_all is_prim_name p ≡ true → written_all false (p ++ Prim n ∷ []) ≡ written_all false p ++ 47 ∷ n
written_below [] n h = append-nil (47 ∷ n)
written_below (Prim m ∷ p) n h = ap (λ (l : Text). (47 ∷ m) ++ l) (written_below p n h) ∙ sym (append_assoc (47 ∷ m) (written_all false p) (47 ∷ n))
written_below (Property m ∷ p) n h = absurd cc
written_below (Selection s v ∷ p) n h = absurd cc

-- the bytes of a child's path
bytes_below : (e : Element) (p : Path) (n : Text) → list_all is_prim_name (e ∷ p) ≡ true → length (printed (child_path (e ∷ p) n)) ≡ length (printed (e ∷ p)) + suc (length n)
bytes_below e p n h = ap length (written_below (e ∷ p) n h) ∙ length-append (written_all false (e ∷ p)) (47 ∷ n)

bytes_at_root : (n : Text) → length (printed (child_path [] n)) ≡ suc (length n)
bytes_at_root n = ap length (append-nil (47 ∷ n))

room_tells : (used size most : ℕ) → used ≤ most → nat_lt size (most - used) ≡ nat_le (used + suc size) most
room_tells used size most h = grind (arith, nat_tests)

short_enough : (p : Path) (n : Text) → list_all is_prim_name p ≡ true → length (printed p) ≤ 4096 → has_room (bytes_left p) n ≡ nat_le (length (printed (child_path p n))) 4096
short_enough [] n h short = grind (arith, nat_tests, bytes_at_root n)
short_enough (e ∷ p) n h short = room_tells (length (printed (e ∷ p))) (length n) 4096 short ∙ ap (λ (k : ℕ). nat_le k 4096) (sym (bytes_below e p n h))

by_depth : (p : Path) (n : Text) (b : Bool) → nat_le 64 (depth p) ≡ b → list_all is_prim_name p ≡ true → length (printed p) ≤ 4096
    → nat_lt (length n) (elim b as (λ _. ℕ) [ true ↦ 0 | false ↦ bytes_left p ]) ≡ fits limits (child_path p n)
by_depth p n true deep h short =
    let many : nat_le (depth (child_path p n)) 64 ≡ false = ap (λ (k : ℕ). nat_le k 64) (depth_below p n) ∙ grind (arith, nat_tests) in
    rw many (grind (arith, nat_tests))
by_depth p n false deep h short =
    let few : nat_le (depth (child_path p n)) 64 ≡ true = ap (λ (k : ℕ). nat_le k 64) (depth_below p n) ∙ grind (arith, nat_tests) in
    rw few (short_enough p n h short)

room_fits : (p : Path) (n : Text) → list_all is_prim_name p ≡ true → IsPath p → has_room (room_of p) n ≡ fits limits (child_path p n)
room_fits p n h path = by_depth p n (nat_le 64 (depth p)) refl h path.short

pub listed_are : (p : Path) (room : ℕ) (names : List Text) → room ≡ room_of p → list_all is_prim_name p ≡ true → IsPath p → listed_in room names ≡ listed_children limits p names
listed_are p room names is h path =
    ap (λ (r : ℕ). listed_in r names) is
    ∙ filter_agree (λ (n : Text). has_room (room_of p) n) (λ (n : Text). fits limits (child_path p n)) (λ n. room_fits p n h path) names

pub too_long_are : (p : Path) (room : ℕ) (names : List Text) → room ≡ room_of p → list_all is_prim_name p ≡ true → IsPath p
    → too_long_in room names ≡ map child_too_long (unlisted_children limits p names)
too_long_are p room names is h path =
    ap (λ (r : ℕ). too_long_in r names) is
    ∙ ap (λ (l : List Text). let fs : List Fault = map child_too_long l in fs)
    (filter_agree (λ (n : Text). not (has_room (room_of p) n)) (λ (n : Text). not (fits limits (child_path p n))) (λ n. ap not (room_fits p n h path)) names)
