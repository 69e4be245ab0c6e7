-- An absent symbol takes no token of what stands below it, whatever has been taken.
use Rattle.std.proofs.Common.{◌≡◌, Bool, true, false, not, ◌||◌, ◌&&◌, List, [], ◌∷◌, ◌++◌, Option, Some, None, refl, ap, sym, ◌∙◌}
use Rattle.usda_grammar.specs.declared.kinds.WordKind.{WordKind}
use Rattle.usda_grammar.specs.declared.symbols.Symbol.{Symbol}
use Rattle.usda_grammar.specs.declared.kinds.WordKind.TheVariants as token
use Rattle.usda_grammar.specs.declared.kinds.Keyword.TheVariants as word
use Rattle.usda_grammar.specs.declared.symbols.Symbol.TheVariants as symbol
use Rattle.usda_grammar.specs.Table.{starts, may_be_absent, layer}
use Rattle.usda_grammar.specs.Machine.{choose, step}
use Rattle.usda_grammar.proofs.AllKinds.{all, kinds, front, back, all_kinds-at}
use Rattle.usda_grammar.proofs.Follow.{may_follow}
use Rattle.usda_grammar.proofs.Good.{takes_it, comes, are_followed, is_good_after, is_good}
use Rattle.usda_grammar.proofs.Rows.{rows}

-- of an absent symbol nothing that stands below takes a token that may not follow the symbol
abbrev pub IsClear : List Symbol → Type 0
IsClear [] = Unit {0}
IsClear (s ∷ stack) = ((k : WordKind) → may_follow s k ≡ false → step stack k ≡ None) × IsClear stack

none-taken : (s : Symbol) (stack : List Symbol) (o : Option (List Symbol)) (b c : Bool) (below : Option (Symbol × List Symbol)) → (takes_it o || (b && c)) ≡ false → (c ≡ false → below ≡ None) → choose s stack o b below ≡ None
none-taken s stack None true c below e h = h e
none-taken s stack None false c below e h = refl
none-taken s stack (Some after) b c below e h = absurd cc

comes-none : (more : List Symbol) (a : Symbol) (stack : List Symbol) → IsClear (a ∷ stack) → (k : WordKind) → comes more a k ≡ false → step (more ++ stack) k ≡ None
comes-none [] a stack clear k e = clear.0 k e
comes-none (s ∷ more) a stack clear k e = none-taken s (more ++ stack) (starts s k) (may_be_absent s) (comes more a k) (step (more ++ stack) k) e (comes-none more a stack clear k)

not_so : (a b : Bool) → (a || not b) ≡ true → a ≡ false → b ≡ false
not_so true b e f = absurd cc
not_so false true e f = absurd cc
not_so false false e f = refl

pushed : (more : List Symbol) (a : Symbol) (stack : List Symbol) → IsClear (a ∷ stack) → are_followed more a ≡ true → IsClear (more ++ stack)
pushed [] a stack clear e = clear.1
pushed (s ∷ more) a stack clear e = (
  λ k f. comes-none more a stack clear k (not_so (may_follow s k) (comes more a k) (all_kinds-at (λ j. may_follow s j || not (comes more a j)) (front _ (are_followed more a) e) k) f),
  pushed more a stack clear (back (all (λ j. may_follow s j || not (comes more a j)) kinds) _ e),
)

-- a symbol that takes a token leaves a clear stack, and is not absent before that token
pub record IsGood (s : Symbol) (k : WordKind) (after : List Symbol) : Type 0 where
  pub followed : are_followed after s ≡ true
  pub unlike : (may_be_absent s && may_follow s k) ≡ false

not_true : (b : Bool) → not b ≡ true → b ≡ false
not_true true e = absurd cc
not_true false e = refl

good-from : (s : Symbol) (k : WordKind) (o : Option (List Symbol)) (after : List Symbol) → o ≡ Some after → is_good_after s k o ≡ true → IsGood s k after
good-from s k None after e good = absurd cc
good-from s k (Some x) after e good =
    let f : x ≡ after = cc in
    record { followed = ap (λ (y : List Symbol). are_followed y s) (sym f) ∙ front _ _ good; unlike = not_true _ (back (are_followed x s) _ good) }

pub is_good-at : (s : Symbol) (k : WordKind) (after : List Symbol) → starts s k ≡ Some after → IsGood s k after
is_good-at s k after e = good-from s k (starts s k) after e (all_kinds-at (is_good s) (rows s) k)

pub clear-after : (s : Symbol) (stack : List Symbol) (k : WordKind) (after : List Symbol) → IsClear (s ∷ stack) → starts s k ≡ Some after → IsClear (after ++ stack)
clear-after s stack k after clear e = pushed after s stack clear (is_good-at s k after e).followed

pub clear-layer : IsClear layer
clear-layer = ((λ k e. head k e), ((λ k e. refl), tt))
  where
    head : (k : WordKind) → may_follow symbol.MaybeHead k ≡ false → step (symbol.RootStatements ∷ []) k ≡ None
    head (token.Word word.Reorder) e = absurd cc
    head (token.Word word.Specifier) e = absurd cc
    head k e = refl
