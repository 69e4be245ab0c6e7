use Rattle.std.proofs.Common.{rules, ◌≡◌, ℕ, ◌<◌, ◌++◌, [], ◌∷◌, sym, ap, ◌∙◌, subst, get_or, arith, All}
use Rattle.turn_lock.specs.Weights.{times}
use Rattle.turn_lock.specs.Seats.{number, seen, numbers}
use Rattle.turn_writers.specs.Books.{EachWrote}
use Rattle.turn_writers.proofs.Books.{each_has, each_joined, all_from}
use Rattle.turn_writers.proofs.pair.write_by_two.Goals as goal

pub returns : goal.returns
returns g c = let steps = c.args.steps in let made = c.in_ok-desk.ensures in let split = c.in-Ok.ensures in let one = c.join-one.result.0.0 in let two = c.join-one.result.1.0 in let last = c.join_seat.new.seat in let joined = c.join_seat.ensures in let closed = c.close.ensures in
    let second : number c.in-Ok.second ≡ 1 = ap (λ l. get_or l 0 0) (sym split.spare.0 ∙ made.numbers.2) in
    let own : numbers one ≡ 0 ∷ [] = c.join-one.ensures.first.0.2.1 ∙ (split.same.3 ∙ made.numbers.1) in
    let own' : numbers two ≡ 1 ∷ [] = c.join-one.ensures.second.0.2.1 ∙ (split.new.2 ∙ ap (λ (k : ℕ). k ∷ []) second) in
    let wrote : EachWrote steps (numbers one) (seen one) = search rules in
    let wrote' : EachWrote steps (numbers two) (seen two) = search rules in
    let both : EachWrote steps (numbers one ++ numbers two) c.close.result.entries = subst (EachWrote steps (numbers one ++ numbers two)) (sym closed.seen) (each_joined steps (numbers one) (numbers two) (seen one) (seen two) (seen last) wrote wrote' joined.own joined.theirs) in record {
      each = λ k lt. each_has steps (numbers one ++ numbers two) c.close.result.entries both k (omega (arith, ap (times k) (λ i. own i ++ own' i), all_from 2 k (omega arith) lt));
      others = subst (λ (n : ℕ). All (λ e. e.by < n) c.close.result.entries) made.desk.1 closed.borne;
    }
