-- The symbols of the code, the innermost last, and those of the machine.
use Rattle.std.proofs.Common.{◌≡◌, ◌<◌, true, false, length, arith, List, [], ◌∷◌, ◌++◌, Some, None, refl, ap, sym, ◌∙◌}
use Rattle.usda_grammar.specs.declared.symbols.Symbol.{Symbol}
use Rattle.usda_grammar.specs.declared.kinds.WordKind.{WordKind}
use Rattle.usda_grammar.specs.Table.{starts, may_be_absent}
use Rattle.usda_grammar.specs.Machine.{step, is_done}
use Rattle.plain_data.specs.Ends.{last, front}
use Rattle.usda_machine.specs.Stacks.{onto, stack_of}

onto-push : (below ss : List Symbol) (s : Symbol) → onto below (ss ++ s ∷ []) ≡ s ∷ onto below ss
onto-push below [] s = refl
onto-push below (t ∷ ss) s = onto-push (t ∷ below) ss s

pub stack_of-push : (ss : List Symbol) (s : Symbol) → stack_of (ss ++ s ∷ []) ≡ s ∷ stack_of ss
unfolding stack_of
stack_of-push ss s = onto-push [] ss s

parts : (ss : List Symbol) (s : Symbol) → Some s ≡ last ss → ss ≡ front ss ++ s ∷ []
parts [] s e = absurd cc
parts (t ∷ []) s e = let f : s ≡ t = cc in ap (λ (x : Symbol). x ∷ []) (sym f)
parts (t ∷ u ∷ ss) s e = ap (λ (l : List Symbol). t ∷ l) (parts (u ∷ ss) s e)

pub stack_of-pop : (ss : List Symbol) (s : Symbol) → Some s ≡ last ss → stack_of ss ≡ s ∷ stack_of (front ss)
stack_of-pop ss s e = ap stack_of (parts ss s e) ∙ stack_of-push (front ss) s

pub stack_of-none : (ss : List Symbol) → None ≡ last ss → stack_of ss ≡ []
unfolding stack_of
stack_of-none [] e = refl
stack_of-none (s ∷ ss) e = absurd (some s ss e)
  where
    some : (s : Symbol) (ss : List Symbol) → None ≡ last (s ∷ ss) → ⊥
    some s [] e = absurd cc
    some s (t ∷ ss) e = some t ss e

pub pop_shorter : (ss : List Symbol) (s : Symbol) → Some s ≡ last ss → length (front ss) < length ss
pop_shorter [] s e = absurd cc
pop_shorter (t ∷ []) s e = omega arith
pop_shorter (t ∷ u ∷ ss) s e = omega (arith, pop_shorter (u ∷ ss) s e)

-- ---- the end

pub done_refused : (ss : List Symbol) (s : Symbol) → Some s ≡ last ss → may_be_absent s ≡ false → is_done (stack_of ss) ≡ false
done_refused ss s e firm = ap is_done (stack_of-pop ss s e) ∙ rw firm refl

pub done_goes : (ss : List Symbol) (s : Symbol) → Some s ≡ last ss → may_be_absent s ≡ true → is_done (stack_of ss) ≡ is_done (stack_of (front ss))
done_goes ss s e absent = ap is_done (stack_of-pop ss s e) ∙ rw absent refl

pub done_none : (ss : List Symbol) → None ≡ last ss → is_done (stack_of ss) ≡ true
done_none ss e = ap is_done (stack_of-none ss e)

-- ---- a token

pub step_taken : (ss : List Symbol) (s : Symbol) (k : WordKind) (after : List Symbol) → Some s ≡ last ss → Some after ≡ starts s k → step (stack_of ss) k ≡ Some (s, after ++ stack_of (front ss))
step_taken ss s k after e at = let f : starts s k ≡ Some after = sym at in ap (λ (l : List Symbol). step l k) (stack_of-pop ss s e) ∙ rw f refl

pub step_refused : (ss : List Symbol) (s : Symbol) (k : WordKind) → Some s ≡ last ss → None ≡ starts s k → may_be_absent s ≡ false → step (stack_of ss) k ≡ None
step_refused ss s k e at firm = let f : starts s k ≡ None = sym at in ap (λ (l : List Symbol). step l k) (stack_of-pop ss s e) ∙ rw (f, firm) refl

pub step_goes : (ss : List Symbol) (s : Symbol) (k : WordKind) → Some s ≡ last ss → None ≡ starts s k → may_be_absent s ≡ true → step (stack_of ss) k ≡ step (stack_of (front ss)) k
step_goes ss s k e at absent = let f : starts s k ≡ None = sym at in ap (λ (l : List Symbol). step l k) (stack_of-pop ss s e) ∙ rw (f, absent) refl

pub step_none : (ss : List Symbol) (k : WordKind) → None ≡ last ss → step (stack_of ss) k ≡ None
step_none ss k e = ap (λ (l : List Symbol). step l k) (stack_of-none ss e)
