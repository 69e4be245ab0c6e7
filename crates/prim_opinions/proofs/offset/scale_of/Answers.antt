use Rattle.std.proofs.Common.{sym, subst, lit<}
use Rattle.std.specs.Prelude.{ℤ, pos, ◌≤ℤ◌}
use Rattle.prim_opinions.proofs.Times.{multiplied, scale_size, product_least}
use Rattle.prim_opinions.proofs.offset.scale_of.Goals as goal

pub returns-clause-value : goal.returns-clause-value
returns-clause-value c =
    multiplied c.args.a c.args.b 1000000 1000000 c.ranges.a c.ranges.b
    (scale_size c.args.a c.requires.a_least c.requires.a_most) (scale_size c.args.b c.requires.b_least c.requires.b_most) (lit< tt)

pub returns-clause-least : goal.returns-clause-least
returns-clause-least c =
    subst (λ (z : ℤ). pos 1 ≤ℤ z) (sym (returns-clause-value c)) (product_least c.args.a c.args.b c.requires.a_least c.requires.b_least)
