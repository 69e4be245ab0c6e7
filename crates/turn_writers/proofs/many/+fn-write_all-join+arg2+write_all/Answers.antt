use Rattle.std.proofs.Common.{sym, ◌∙◌, subst, IfOk}
use Rattle.std.proofs.lemmas.Result.{IfOk-weaker}
use Rattle.turn_lock.specs.Seats.{number, seen, numbers, spare_numbers}
use Rattle.turn_writers.specs.Books.{EachWrote}
use Rattle.turn_writers.proofs.Books.{each_joined, grown}
use Rattle.turn_writers.proofs.many.+fn-write_all-join+arg2+write_all.Goals as goal

pub returns-in-Ok-done-clause-numbers : goal.returns-in-Ok-done-clause-numbers
returns-in-Ok-done-clause-numbers g t c k = let seat = c.args.seat in let cut = c.split_seat.new.seat in let other = c.in-Ok.other in let split = c.in-Ok.ensures in let back = c.join-one.result.1.0 in let one = c.join-one.ensures.first in let two = c.join-one.ensures.second in
    grown k (number other) (numbers seat) (spare_numbers seat) (numbers cut) (spare_numbers cut) (numbers c.join-one.result.0.0) (numbers back) (numbers c.join_seat.new.seat) split.same.3 split.spare.0 (two.0.2.1 ∙ split.new.2) c.join_seat.ensures.numbers (one.1.0 k)

pub returns-in-Err-clause-numbers : goal.returns-in-Err-clause-numbers
returns-in-Err-clause-numbers g t c k = let seat = c.args.seat in let cut = c.split_seat.new.seat in let other = c.in-Ok.other in let split = c.in-Ok.ensures in let back = c.join-one.result.1.0 in let one = c.join-one.ensures.first in let two = c.join-one.ensures.second in
    grown k (number other) (numbers seat) (spare_numbers seat) (numbers cut) (spare_numbers cut) (numbers c.join-one.result.0.0) (numbers back) (numbers c.join_seat.new.seat) split.same.3 split.spare.0 (two.0.2.1 ∙ split.new.2) c.join_seat.ensures.numbers (one.1.0 k)

pub returns-in-Ok-done-clause-written : goal.returns-in-Ok-done-clause-written
returns-in-Ok-done-clause-written g t c = let steps = c.args.steps in let one = c.join-one.result.0.0 in let two = c.join-one.result.1.0 in let last = c.join_seat.new.seat in let joined = c.join_seat.ensures in
    let wrote : EachWrote steps (numbers one) (seen one) = subst (λ r. IfOk r (λ _. EachWrote steps (numbers one) (seen one))) c.in-Ok-done.is c.join-one.ensures.first.1.1 in
    IfOk-weaker c.join-one.result.1.1 _ _
    (λ _ theirs. subst (λ l. EachWrote steps l (seen last)) (sym joined.numbers) (each_joined steps (numbers one) (numbers two) (seen one) (seen two) (seen last) wrote theirs joined.own joined.theirs)) c.join-one.ensures.second.1
