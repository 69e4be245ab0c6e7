use Rattle.std.proofs.Common.{ℕ, ◌<◌, arith, false, sym, subst, ◌+◌, ◌*◌}
use Rattle.sdf_values.specs.Places.{IsShort}
use Rattle.sdf_values.proofs.Digits.{long_more, short_zero, short_more, short_last, long_last}
use Rattle.sdf_values.proofs.parse.with_digit.Goals as goal

pub returns-then-kept-clause-kept : goal.returns-then-kept-clause-kept
returns-then-kept-clause-kept c n keeps = record {
  short = λ h. absurd cc;
  long = λ h. long_more n c.args.digit c.requires.digit (keeps.long h);
}

pub returns-then-kept-eq0-clause-kept : goal.returns-then-kept-eq0-clause-kept
returns-then-kept-eq0-clause-kept c n keeps = record {
  short = λ h. short_zero n c.args.digit c.args.kept.digits c.args.kept.zeros c.requires.digit (keeps.short c.if-kept.false).whole c.if-kept-eq0.true;
  long = λ h. absurd cc;
}

pub returns-then-digit-eq0-clause-kept : goal.returns-then-digit-eq0-clause-kept
returns-then-digit-eq0-clause-kept c n keeps = record {
  short = λ h. subst (λ (d : ℕ). IsShort (n * 10 + d) (record { digits = c.args.kept.digits; zeros = c.args.kept.zeros + 1; is_long = false })) (sym c.if-digit-eq0.true)
      (short_more n c.args.kept c.if-kept-eq0.false (keeps.short c.if-kept.false));
  long = λ h. absurd cc;
}

pub returns-else-digit-eq0-clause-kept : goal.returns-else-digit-eq0-clause-kept
returns-else-digit-eq0-clause-kept c n keeps =
    let some : 0 < c.args.digit = omega (arith, c.if-digit-eq0.false) in
    let made = c.with_last_digit.ensures in
    let before : IsShort n c.args.kept = keeps.short c.if-kept.false in
    record {
      short = λ h. short_last n c.args.kept.digits c.args.kept.zeros c.args.digit c.with_last_digit.result some c.requires.digit before.whole (made.short h) (made.few h) made.zeros;
      long = λ h. long_last n c.args.kept.digits c.args.kept.zeros c.args.digit some c.requires.digit before.whole (made.long h);
    }
