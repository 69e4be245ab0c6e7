-- The machine takes exactly the texts of the grammar.
use Rattle.std.proofs.Common.{◌≡◌, Bool, true, false, ◌&&◌, List, [], ◌∷◌, ◌++◌, Option, Some, None, refl, ap, sym, subst, ◌∙◌, append_assoc}
use Rattle.std.proofs.lemmas.List.{append-nil}
use Rattle.usda_grammar.specs.declared.kinds.WordKind.{WordKind}
use Rattle.usda_grammar.specs.declared.symbols.Symbol.{Symbol}
use Rattle.usda_grammar.specs.Table.{starts, may_be_absent, layer}
use Rattle.usda_grammar.specs.Derivations.{Derivation, ends, skips, takes, Derives, AreText}
use Rattle.usda_grammar.specs.Machine.{choose, step, left_behind, steps, is_done}
use Rattle.usda_grammar.specs.Laws.{IsAccepted}
use Rattle.usda_grammar.proofs.Follow.{may_follow}
use Rattle.usda_grammar.proofs.Clear.{IsClear, is_good-at, clear-after, clear-layer}
use Rattle.usda_grammar.proofs.Shortest.{shortest, with_shortest}

pub step_sound : (stack : List Symbol) (k : WordKind) (ks : List WordKind) (next : Symbol × List Symbol) → step stack k ≡ Some next → AreText next.1 ks → AreText stack (k ∷ ks)
step_sound [] k ks next e text = absurd cc
step_sound (s ∷ stack) k ks next e text = chosen (λ same. step_sound stack k ks next same text) (starts s k) (may_be_absent s) refl refl e
  where
    chosen : (step stack k ≡ Some next → AreText stack (k ∷ ks)) → (o : Option (List Symbol)) (b : Bool) → starts s k ≡ o → may_be_absent s ≡ b → choose s stack o b (step stack k) ≡ Some next → AreText (s ∷ stack) (k ∷ ks)
    chosen deeper (Some after) b at absent same =
        let f : (s, after ++ stack) ≡ next = cc in
        let g : next.1 ≡ after ++ stack = ap (λ (x : Symbol × List Symbol). x.1) (sym f) in
        (takes text.0, (after, at, subst (λ (x : List Symbol). Derives text.0 x ks) g text.1))
    chosen deeper None true at absent same = let below = deeper same in (skips below.0, (absent, below.1))
    chosen deeper None false at absent same = absurd cc

-- the machine takes the token, and the rest is a text of what is left
pub record Went (stack : List Symbol) (k : WordKind) (ks : List WordKind) : Type 0 where
  pub next : Symbol × List Symbol
  pub took : step stack k ≡ Some next
  pub clear : IsClear next.1
  pub text : AreText next.1 ks

step_only : (d : Derivation) (stack : List Symbol) (k : WordKind) (ks : List WordKind) → IsClear stack → Derives d stack (k ∷ ks) → Went stack k ks
step_only ends [] k ks clear h = absurd h
step_only ends (s ∷ stack) k ks clear h = absurd h
step_only (skips d) [] k ks clear h = absurd h
step_only (skips d) (s ∷ stack) k ks clear h = below (step_only d stack k ks clear.1 h.1) (starts s k) (may_follow s k) refl refl
  where
    below : Went stack k ks → (o : Option (List Symbol)) (b : Bool) → starts s k ≡ o → may_follow s k ≡ b → Went (s ∷ stack) k ks
    below w o false at follow = let none = clear.0 k follow in absurd (let f : None ≡ Some w.next = sym none ∙ w.took in cc)
    below w None true at follow = record { next = w.next; took = rw (at, h.0) w.took; clear = w.clear; text = w.text }
    below w (Some after) true at follow = let g : (may_be_absent s && may_follow s k) ≡ false = (is_good-at s k after at).unlike in absurd (let f : (true && true) ≡ false = rw (h.0, follow) at g in cc)
step_only (takes d) [] k ks clear h = absurd h
step_only (takes d) (s ∷ stack) k ks clear (after, at, rest) = record { next = (s, after ++ stack); took = rw at refl; clear = clear-after s stack k after clear at; text = (d, rest) }

pub steps_sound : (stack : List Symbol) (front rest : List WordKind) (left : List Symbol) → steps stack front ≡ Some left → AreText left rest → AreText stack (front ++ rest)
steps_sound stack [] rest left e text = let f : left ≡ stack = cc in subst (λ (x : List Symbol). AreText x rest) f text
steps_sound stack (k ∷ ks) rest left e text = went (λ next same. steps_sound next ks rest left same text) (step stack k) refl e
  where
    went : ((next : List Symbol) → steps next ks ≡ Some left → AreText next (ks ++ rest)) → (o : Option (Symbol × List Symbol)) → step stack k ≡ o → left_behind o (λ next. steps next ks) ≡ Some left → AreText stack (k ∷ ks ++ rest)
    went deeper None at same = absurd cc
    went deeper (Some next) at same = step_sound stack k (ks ++ rest) next at (deeper next.1 same)

-- what is left behind the front is clear, and the rest is a text of it
pub record Left (stack : List Symbol) (front rest : List WordKind) : Type 0 where
  pub left : List Symbol
  pub took : steps stack front ≡ Some left
  pub text : AreText left rest

steps_only : (stack : List Symbol) (front rest : List WordKind) → IsClear stack → AreText stack (front ++ rest) → Left stack front rest
steps_only stack [] rest clear text = record { left = stack; took = refl; text = text }
steps_only stack (k ∷ ks) rest clear (d, h) =
    let w = step_only d stack k (ks ++ rest) clear h in
    let l = steps_only w.next.1 ks rest w.clear w.text in
    record { left = l.left; took = rw w.took l.took; text = l.text }

pub done_text : (stack : List Symbol) → is_done stack ≡ true → AreText stack []
done_text [] e = (ends, tt)
done_text (s ∷ stack) e = both (done_text stack) (may_be_absent s) refl e
  where
    both : (is_done stack ≡ true → AreText stack []) → (b : Bool) → may_be_absent s ≡ b → (b && is_done stack) ≡ true → AreText (s ∷ stack) []
    both deeper true absent same = let rest = deeper same in (skips rest.0, (absent, rest.1))
    both deeper false absent same = absurd cc

pub text_done : (d : Derivation) (stack : List Symbol) → Derives d stack [] → is_done stack ≡ true
text_done ends [] h = refl
text_done ends (s ∷ stack) h = absurd h
text_done (skips d) [] h = absurd h
text_done (skips d) (s ∷ stack) h = rw h.0 (text_done d stack h.1)
text_done (takes d) [] h = absurd h
text_done (takes d) (s ∷ stack) h = absurd h

pub accepted : (ks : List WordKind) → IsAccepted layer ks → AreText layer ks
accepted ks (left, took, done) = subst (AreText layer) (append-nil ks) (steps_sound layer ks [] left took (done_text left done))

pub text : (ks : List WordKind) → AreText layer ks → IsAccepted layer ks
text ks h =
    let l = steps_only layer ks [] clear-layer (subst (AreText layer) (sym (append-nil ks)) h) in
    (l.left, l.took, text_done l.text.0 l.left l.text.1)

steps-more : (stack : List Symbol) (front : List WordKind) (k : WordKind) (left : List Symbol) → steps stack front ≡ Some left → step left k ≡ None → steps stack (front ++ k ∷ []) ≡ None
steps-more stack [] k left e none = let f : stack ≡ left = cc in rw (f, none) refl
steps-more stack (j ∷ front) k left e none = went (λ next same. steps-more next front k left same none) (step stack j) e
  where
    went : ((next : List Symbol) → steps next front ≡ Some left → steps next (front ++ k ∷ []) ≡ None) → (o : Option (Symbol × List Symbol)) → left_behind o (λ next. steps next front) ≡ Some left → left_behind o (λ next. steps next (front ++ k ∷ [])) ≡ None
    went deeper None same = refl
    went deeper (Some next) same = deeper next.1 same

pub refused : (front : List WordKind) (stack : List Symbol) (k : WordKind) (rest : List WordKind) → steps layer front ≡ Some stack → step stack k ≡ None → AreText layer (front ++ k ∷ rest) → ⊥
refused front stack k rest took none h =
    let l = steps_only layer (front ++ k ∷ []) rest clear-layer (subst (AreText layer) (sym (append_assoc front (k ∷ []) rest)) h) in
    let f : steps layer (front ++ k ∷ []) ≡ None = steps-more layer front k stack took none in
    absurd (let g : None ≡ Some l.left = sym f ∙ l.took in cc)

-- ---- what the machine has taken goes on

-- some text of the symbols
abbrev pub shortest_of : List Symbol → List WordKind
shortest_of [] = []
shortest_of (s ∷ stack) = shortest s ++ shortest_of stack

pub completed : (stack : List Symbol) → AreText stack (shortest_of stack)
completed [] = (ends, tt)
completed (s ∷ stack) = with_shortest s stack (shortest_of stack) (completed stack)

pub taken : (front : List WordKind) (stack : List Symbol) → steps layer front ≡ Some stack → (rest : List WordKind) × AreText layer (front ++ rest)
taken front stack took = (shortest_of stack, steps_sound layer front (shortest_of stack) stack took (completed stack))

-- what takes a token is not absent before it
no_skip : (d : Derivation) (s : Symbol) (stack : List Symbol) (k : WordKind) (ks : List WordKind) (after : List Symbol) → IsClear (s ∷ stack) → starts s k ≡ Some after → may_be_absent s ≡ true → Derives d stack (k ∷ ks) → ⊥
no_skip d s stack k ks after clear at absent h =
    let w = step_only d stack k ks clear.1 h in
    let follow : may_follow s k ≡ false = ap (λ (b : Bool). b && may_follow s k) (sym absent) ∙ (is_good-at s k after at).unlike in
    absurd (let f : None ≡ Some w.next = sym (clear.0 k follow) ∙ w.took in cc)

same_after : (a b : List Symbol) → Some a ≡ Some b → a ≡ b
same_after a b e = cc

-- a text comes from its symbols in one way
pub one_way : (d e : Derivation) (stack : List Symbol) (ks : List WordKind) → IsClear stack → Derives d stack ks → Derives e stack ks → d ≡ e
one_way ends ends stack ks clear h g = refl
one_way ends (skips e) [] ks clear h g = absurd g
one_way ends (skips e) (s ∷ stack) ks clear h g = absurd h
one_way ends (takes e) [] ks clear h g = absurd g
one_way ends (takes e) (s ∷ stack) ks clear h g = absurd h
one_way (skips d) ends [] ks clear h g = absurd h
one_way (skips d) ends (s ∷ stack) ks clear h g = absurd g
one_way (takes d) ends [] ks clear h g = absurd h
one_way (takes d) ends (s ∷ stack) ks clear h g = absurd g
one_way (skips d) (skips e) [] ks clear h g = absurd h
one_way (skips d) (skips e) (s ∷ stack) ks clear h g = ap skips (one_way d e stack ks clear.1 h.1 g.1)
one_way (skips d) (takes e) [] ks clear h g = absurd h
one_way (skips d) (takes e) (s ∷ stack) [] clear h g = absurd g
one_way (skips d) (takes e) (s ∷ stack) (k ∷ ks) clear h g = absurd (no_skip d s stack k ks g.0 clear g.1 h.0 h.1)
one_way (takes d) (skips e) [] ks clear h g = absurd h
one_way (takes d) (skips e) (s ∷ stack) [] clear h g = absurd h
one_way (takes d) (skips e) (s ∷ stack) (k ∷ ks) clear h g = absurd (no_skip e s stack k ks h.0 clear h.1 g.0 g.1)
one_way (takes d) (takes e) [] ks clear h g = absurd h
one_way (takes d) (takes e) (s ∷ stack) [] clear h g = absurd h
one_way (takes d) (takes e) (s ∷ stack) (k ∷ ks) clear h g =
    let same : g.0 ≡ h.0 = same_after g.0 h.0 (sym g.1 ∙ h.1) in
    ap takes (one_way d e (h.0 ++ stack) ks (clear-after s stack k h.0 clear h.1) h.2 (subst (λ (x : List Symbol). Derives e (x ++ stack) ks) same g.2))

pub one_derivation : (ks : List WordKind) (d e : Derivation) → Derives d layer ks → Derives e layer ks → d ≡ e
one_derivation ks d e h g = one_way d e layer ks clear-layer h g
