-- Names that are noted each once.
use Rattle.std.proofs.Common.{◌≡◌, ◌∙◌, sym, ap, refl, Bool, true, false, cond, ◌||◌, List, [], ◌∷◌, ◌++◌, append-nil, ◌⊎◌, inl, inr}
use Rattle.std.specs.Prelude.{fold}
use Rattle.std.specs.List.{list_any}
use Rattle.std.proofs.lemmas.Bool.{or_cases, or_left, or_right}
use Rattle.std.proofs.lemmas.List.Folds.{list_any-append}
use Rattle.std.proofs.Math.Bool.{or-false}
use Rattle.composition.specs.Texts.{Text, same_text}
use Rattle.list_ops.specs.ListEdits.{contains, without, firsts}
use Rattle.list_ops.proofs.EditLemmas.{without_none, first_step}
use Rattle.layer_stack.specs.Meant.{noted, each_once}
use Rattle.composition.proofs.Same.{same_text_same, same_itself}
use Rattle.composition.proofs.Tests.{by_test}

pub noted_new : (once : List Text) (name : Text) → list_any (same_text name) once ≡ false → noted once name ≡ once ++ name ∷ []
noted_new once name h = ap (λ (b : Bool). elim b as (λ _. List Text) [ true ↦ once | false ↦ once ++ name ∷ [] ]) h

pub noted_old : (once : List Text) (name : Text) → list_any (same_text name) once ≡ true → noted once name ≡ once
noted_old once name h = ap (λ (b : Bool). elim b as (λ _. List Text) [ true ↦ once | false ↦ once ++ name ∷ [] ]) h

-- the name stands in the list
abbrev pub has : Text → List Text → Bool
has q names = list_any (same_text q) names

-- names behind others are still there
pub has_front : (q : Text) (a b : List Text) → has q a ≡ true → has q (a ++ b) ≡ true
has_front q a b h = list_any-append (same_text q) a b ∙ or_left (has q a) (has q b) h

pub has_last : (q : Text) (a : List Text) (n : Text) → has q (a ++ n ∷ []) ≡ true → (has q a ≡ true) ⊎ (q ≡ n)
has_last q a n h = elim (or_cases (has q a) (same_text q n || false) (sym (list_any-append (same_text q) a (n ∷ [])) ∙ h)) [
  | inl front ↦ inl front
  | inr last ↦ inr (same_text_same q n (sym (or-false (same_text q n)) ∙ last))
]

pub has_this : (a : List Text) (n : Text) → has n (a ++ n ∷ []) ≡ true
has_this a n = list_any-append (same_text n) a (n ∷ []) ∙ or_right (has n a) (same_text n n || false) (or_left (same_text n n) false (same_itself n))

-- one name more
pub noted_more : (names : List Text) (n : Text) → (extra : List Text) × (noted names n ≡ names ++ extra)
noted_more names n = by_test (has n names) (λ on. ([], noted_old names n on ∙ sym (append-nil names))) (λ off. (n ∷ [], noted_new names n off))

pub noted_there : (names : List Text) (n : Text) → has n (noted names n) ≡ true
noted_there names n = by_test (has n names) (λ on. ap (has n) (noted_old names n on) ∙ on) (λ off. ap (has n) (noted_new names n off) ∙ has_this names n)

pub noted_back : (names : List Text) (n q : Text) → has q (noted names n) ≡ true → (has q names ≡ true) ⊎ (q ≡ n)
noted_back names n q h = by_test (has n names) (λ on. inl (sym (ap (has q) (noted_old names n on)) ∙ h)) (λ off. has_last q names n (sym (ap (has q) (noted_new names n off)) ∙ h))

pub noted_kept : (names : List Text) (n q : Text) → has q names ≡ true → has q (noted names n) ≡ true
noted_kept names n q h = let m = noted_more names n in ap (has q) m.1 ∙ has_front q names m.0 h

-- ---- names that are noted one by one are the first of each

same_either_way : (a b : Text) → same_text a b ≡ same_text b a
same_either_way a b = by_test (same_text a b)
    (λ yes. yes ∙ sym (ap (λ (t : Text). same_text b t) (same_text_same a b yes) ∙ same_itself b))
    (λ no. by_test (same_text b a)
    (λ back. absurd (cc (no, ap (λ (t : Text). same_text a t) (same_text_same b a back) ∙ same_itself a)))
    (λ apart. no ∙ sym apart))

-- the two lists have the same names
abbrev Covers : List Text → List Text → Type 0
Covers once seen = (q : Text) → contains same_text seen q ≡ has q once

inside : (once : List Text) (n q : Text) → has n once ≡ true → (has q once || (same_text n q || false)) ≡ has q once
inside once n q on = by_test (same_text n q)
    (λ is.
    let there : has q once ≡ true = sym (ap (λ (t : Text). has t once) (same_text_same n q is)) ∙ on in
    or_left (has q once) (same_text n q || false) there ∙ sym there)
    (λ other. ap (λ (b : Bool). has q once || (b || false)) other ∙ or-false (has q once))

covers_more : (once seen : List Text) (n : Text) → Covers once seen → Covers (noted once n) (seen ++ n ∷ [])
covers_more once seen n covers q =
    list_any-append (λ (y : Text). same_text y q) seen (n ∷ [])
    ∙ (ap (λ (b : Bool). b || (same_text n q || false)) (covers q)
    ∙ by_test (has n once)
    (λ on. inside once n q on ∙ sym (ap (has q) (noted_old once n on)))
    (λ off.
    ap (λ (b : Bool). has q once || (b || false)) (same_either_way n q)
    ∙ (sym (list_any-append (same_text q) once (n ∷ [])) ∙ sym (ap (has q) (noted_new once n off)))))

noted_if_new : (once seen : List Text) (n : Text) → Covers once seen → noted once n ≡ cond (contains same_text seen n) once (once ++ n ∷ [])
noted_if_new once seen n covers = by_test (has n once)
    (λ on. noted_old once n on ∙ sym (ap (λ (b : Bool). cond b once (once ++ n ∷ [])) (covers n ∙ on)))
    (λ off. noted_new once n off ∙ sym (ap (λ (b : Bool). cond b once (once ++ n ∷ [])) (covers n ∙ off)))

noted_behind : (once seen names : List Text) → Covers once seen → fold noted once names ≡ once ++ without same_text (firsts same_text names) seen
noted_behind once seen [] covers = sym (append-nil once)
noted_behind once seen (n ∷ ns) covers =
    noted_behind (noted once n) (seen ++ n ∷ []) ns (covers_more once seen n covers)
    ∙ (ap (λ (l : List Text). l ++ without same_text (firsts same_text ns) (seen ++ n ∷ [])) (noted_if_new once seen n covers)
    ∙ sym (first_step same_text once ns seen n (contains same_text seen n) refl))

pub each_once_noted : (names : List Text) → each_once names ≡ fold noted [] names
each_once_noted names = sym (noted_behind [] [] names (λ q. refl) ∙ without_none same_text (firsts same_text names))
