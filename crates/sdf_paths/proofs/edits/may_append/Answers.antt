use Rattle.std.proofs.Common.{◌≡◌, ◌≤◌, ℕ, Bool, true, cond, arith, ap, sym, ◌∙◌, leb}
use Rattle.std.proofs.lemmas.Bool.Decides.{nat_tests}
use Rattle.sdf_paths.proofs.Shapes.{append_path, append_short}
use Rattle.sdf_paths.proofs.edits.may_append.Goals as goal

test_le : (a b : ℕ) → leb a b ≡ true → a ≤ b
test_le a b h = grind (arith, nat_tests)

le_test : (a b : ℕ) → a ≤ b → leb a b ≡ true
le_test a b h = grind (arith, nat_tests)

pub returns-then-name-gt-MAX_BYTES : goal.returns-then-name-gt-MAX_BYTES
returns-then-name-gt-MAX_BYTES c =
    (λ no. absurd cc, λ h. absurd (omega (arith, append_short c.args.elements.now c.args.name.now h, c.if-name-gt-MAX_BYTES.true)))

pub returns : goal.returns
returns c =
    let slash : c.slash_len-slash.result ≡ cond _ 0 1 = c.slash_len-slash.ensures ∙ ap (λ (b : Bool). cond b 0 1) c.measure-bytes.ensures.last in (
      λ yes. append_path c.args.elements.now c.args.name.now c.requires.path c.requires.prim (sym c.is_identifier.ensures ∙ c.if-not-is_identifier.false)
          (omega (arith, c.if-depth-ge-MAX_NAMES.false, c.depth.ensures)) (omega (arith, test_le _ 4096 yes, slash, c.measure-bytes.ensures.bytes)),
      λ h. le_test _ 4096 (omega (arith, append_short c.args.elements.now c.args.name.now h, slash, c.measure-bytes.ensures.bytes)),
    )
