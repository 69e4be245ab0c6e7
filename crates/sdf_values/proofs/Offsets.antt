-- Offsets of layers.
use Rattle.std.proofs.Common.{◌≡◌, subst, refl}
use Rattle.std.specs.Prelude.{ℤ}
use Rattle.sdf_values.specs.Scales.{Offset}

pub same_offsets : (a b : Offset) → a.offset ≡ b.offset → a.scale ≡ b.scale → a ≡ b
same_offsets a b p q =
    subst (λ (x : ℤ). a ≡ record { offset = x; scale = b.scale }) p (subst (λ (y : ℤ). a ≡ record { offset = a.offset; scale = y }) q refl)
