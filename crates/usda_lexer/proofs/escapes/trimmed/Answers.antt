use Rattle.std.proofs.Common.{◌≡◌, ◌-◌, ◌+◌, arith, subst, ℕ}
use Rattle.std.specs.Str.{IsCharBoundary}
use Rattle.std.proofs.lemmas.Str.{IsCharBoundary-after_ascii}
use Rattle.usda_lexer.proofs.escapes.trimmed.Goals as goal

pub split_at-requires : goal.split_at-requires
split_at-requires c =
    let here : c.args.n - 1 + 1 ≡ c.args.n = omega arith in
    subst (λ (n : ℕ). IsCharBoundary c.args.text.now n) here (IsCharBoundary-after_ascii c.args.text.now (c.args.n - 1) c.utf8.text (omega (arith, c.requires.opens.0)) c.requires.opens.1)
