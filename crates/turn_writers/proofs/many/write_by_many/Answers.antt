use Rattle.std.proofs.Common.{rules, ℕ, ◌<◌, ◌++◌, sym, ap, subst, arith, All}
use Rattle.turn_lock.specs.Weights.{times, only}
use Rattle.turn_lock.specs.Seats.{seen, numbers, spare_numbers}
use Rattle.turn_lock.proofs.Sums.{total-append}
use Rattle.turn_writers.specs.Books.{EachWrote}
use Rattle.turn_writers.proofs.Books.{each_has, all_from}
use Rattle.turn_writers.proofs.many.write_by_many.Goals as goal

pub close-requires : goal.close-requires
close-requires g c = let seats = c.args.seats in let seat = c.write_all-seat.result.0 in let made = c.in_ok-desk.ensures in let wrote = c.write_all-seat.ensures in record {
  seat = (
    wrote.seat.0,
    wrote.seat.1,
    λ k lt. let within : k < seats = omega (arith, lt, made.desk.1) in
        omega (arith, wrote.numbers k, ap (times k) (λ i. made.numbers.1 i ++ made.numbers.2 i), all_from seats k c.requires.0 within, total-append (only k) (numbers seat) (spare_numbers seat)),
  );
}

pub returns : goal.returns
returns g c = let seats = c.args.seats in let steps = c.args.steps in let seat = c.write_all-seat.result.0 in let made = c.in_ok-desk.ensures in let done = c.write_all-seat.ensures in let closed = c.close.ensures in
    let wrote : EachWrote steps (numbers seat) (seen seat) = search rules in
    let all : EachWrote steps (numbers seat) c.close.result.entries = subst (EachWrote steps (numbers seat)) (sym closed.seen) wrote in record {
      each = λ k lt. each_has steps (numbers seat) c.close.result.entries all k (omega (arith, done.numbers k, ap (times k) (λ i. made.numbers.1 i ++ made.numbers.2 i), all_from seats k c.requires.0 lt));
      others = subst (λ (n : ℕ). All (λ e. e.by < n) c.close.result.entries) made.desk.1 closed.borne;
    }
