use Rattle.std.proofs.Common.{◌≡◌, ◌≤◌, ℕ, Bool, true, false, arith, length, ap}
use Rattle.sdf_paths.proofs.Shapes.{flag_little, length_joined}
use Rattle.sdf_paths.specs.Paths.{written_all}
use Rattle.std.proofs.Common.{leb}
use Rattle.std.proofs.lemmas.Bool.Decides.{nat_tests}
use Rattle.sdf_paths.proofs.edits.fits.Goals as goal

pub measure-more-requires : goal.measure-more-requires
measure-more-requires c = omega (arith, flag_little c.args.rest.now c.measure-bytes.result.1 false, c.requires.rest)

test_le : (a b : ℕ) → leb a b ≡ true → a ≤ b
test_le a b h = grind (arith, nat_tests)

le_test : (a b : ℕ) → a ≤ b → leb a b ≡ true
le_test a b h = grind (arith, nat_tests)

pub returns-clause-short : goal.returns-clause-short
returns-clause-short c =
    λ yes. omega (
      arith,
      test_le _ 4096 yes,
      c.measure-bytes.ensures.bytes,
      c.measure-more.ensures.bytes,
      length_joined c.args.by.now c.args.rest.now false,
      ap (λ (b : Bool). length (written_all b c.args.rest.now)) c.measure-bytes.ensures.last,
    )

pub returns-clause-fits : goal.returns-clause-fits
returns-clause-fits c =
    λ few short. le_test _ 4096 (omega (
      arith,
      short,
      c.measure-bytes.ensures.bytes,
      c.measure-more.ensures.bytes,
      length_joined c.args.by.now c.args.rest.now false,
      ap (λ (b : Bool). length (written_all b c.args.rest.now)) c.measure-bytes.ensures.last,
    ))
