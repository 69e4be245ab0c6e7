use Rattle.std.proofs.Common.{◌≡◌, ◌≤◌, ℕ, true, arith, sym, ◌∙◌, leb}
use Rattle.std.proofs.lemmas.Bool.Decides.{nat_tests}
use Rattle.sdf_paths.proofs.Selections.{select_path, select_short, some_elements}
use Rattle.sdf_paths.proofs.edits.may_select.Goals as goal
use Rattle.sdf_paths.proofs.edits.may_select.Goals.{then-set-gt-MAX_BYTES-via-then-set-gt-MAX_BYTES, then-set-gt-MAX_BYTES-via-else-set-gt-MAX_BYTES+then-variant-gt-MAX_BYTES}

test_le : (a b : ℕ) → leb a b ≡ true → a ≤ b
test_le a b h = grind (arith, nat_tests)

le_test : (a b : ℕ) → a ≤ b → leb a b ≡ true
le_test a b h = grind (arith, nat_tests)

pub returns-then-set-gt-MAX_BYTES : goal.returns-then-set-gt-MAX_BYTES
returns-then-set-gt-MAX_BYTES c = (
  λ no. absurd cc,
  λ h.
      let short = select_short c.args.elements.now c.args.set.now c.args.variant.now h in
      elim c.then-set-gt-MAX_BYTES.branch [
        | then-set-gt-MAX_BYTES-via-then-set-gt-MAX_BYTES w ↦ absurd (omega (arith, short, w.if-set-gt-MAX_BYTES.true))
        | then-set-gt-MAX_BYTES-via-else-set-gt-MAX_BYTES+then-variant-gt-MAX_BYTES w ↦ absurd (omega (arith, short, w.if-variant-gt-MAX_BYTES.true))
      ],
)

pub returns : goal.returns
returns c = (
  λ yes. select_path c.args.elements.now c.args.set.now c.args.variant.now c.requires.path c.requires.prim (some_elements c.args.elements.now (sym c.is_empty.ensures ∙ c.if-is_empty.false))
      (sym c.is_identifier.ensures ∙ c.if-not-is_identifier.false) (sym c.is_variant.ensures ∙ c.if-not-is_variant.false)
      (omega (arith, test_le _ 4096 yes, c.measure-bytes.ensures.bytes)),
  λ h. le_test _ 4096 (omega (arith, select_short c.args.elements.now c.args.set.now c.args.variant.now h, c.measure-bytes.ensures.bytes)),
)
