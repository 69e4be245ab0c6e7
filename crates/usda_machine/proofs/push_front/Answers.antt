use Rattle.std.proofs.Common.{◌≡◌, ℕ, suc, ◌+◌, ◌-◌, ◌<◌, List, [], ◌∷◌, ◌++◌, length, get_or, drop, ap, sym, ◌∙◌, arith}
use Rattle.std.proofs.Math.Seq.{drop-cons}
use Rattle.usda_grammar.specs.declared.symbols.Symbol.{Symbol}
use Rattle.usda_machine.specs.Stacks.{stack_of}
use Rattle.usda_machine.proofs.Symbols.{stack_of-push}
use Rattle.usda_machine.proofs.push_front.Goals as goal

more : (after old new start : List Symbol) (i : ℕ) (d : Symbol) → i < length after → new ≡ old ++ get_or after (length after - 1 - i) d ∷ [] → stack_of old ≡ drop (length after - i) after ++ start → stack_of new ≡ drop (length after - (i + 1)) after ++ start
more after old new start i d lt e so_far =
    let k : length after - (i + 1) ≡ length after - 1 - i = omega arith in
    let next : suc (length after - 1 - i) ≡ length after - i = omega arith in
    let x = get_or after (length after - 1 - i) d in
    let at : drop (length after - 1 - i) after ≡ x ∷ drop (suc (length after - 1 - i)) after = drop-cons after (length after - 1 - i) d (omega arith) in
    let tail : drop (suc (length after - 1 - i)) after ≡ drop (length after - i) after = ap (λ (n : ℕ). drop n after) next in
    let whole : drop (length after - (i + 1)) after ≡ x ∷ drop (length after - i) after = ap (λ (n : ℕ). drop n after) k ∙ at ∙ ap (λ (l : List Symbol). x ∷ l) tail in
    (ap stack_of e ∙ stack_of-push old x ∙ ap (λ (l : List Symbol). x ∷ l) so_far) ∙ ap (λ (l : List Symbol). l ++ start) (sym whole)

pub loop-i-preserved : goal.loop-i-preserved
loop-i-preserved c = more c.args.after.now c.loop-i.stack c.push.new.self (stack_of c.args.stack.now) c.loop-i.i _ c.loop-i-test.true c.in_ok-push.ensures.ok c.loop-i.invariant
