use Rattle.std.proofs.Common.{◌≤◌, ◌^◌, sym, subst, lit<}
use Rattle.std.specs.Prelude.{ℤ, unsigned_abs}
use Rattle.prim_opinions.proofs.Times.{multiplied, product_size}
use Rattle.prim_opinions.proofs.offset.product.Goals as goal

pub returns-clause-value : goal.returns-clause-value
returns-clause-value c = multiplied c.args.a c.args.b (10 ^ 9) (10 ^ 6) c.ranges.a c.ranges.b c.requires.a c.requires.b (lit< tt)

pub returns-clause-size : goal.returns-clause-size
returns-clause-size c =
    subst (λ (z : ℤ). unsigned_abs z ≤ 10 ^ 15) (sym (returns-clause-value c)) (product_size c.args.a c.args.b (10 ^ 9) (10 ^ 6) c.requires.a c.requires.b)
