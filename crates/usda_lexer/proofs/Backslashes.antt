-- A step over a byte of an escape.
use Rattle.std.proofs.Common.{◌≡◌, ℕ, zero, suc, ◌<◌, ◌-◌, Bool, false, List, ◌∷◌, Some, None, ap, arith}
use Rattle.std.specs.Prelude.{if◌then◌else◌}
use Rattle.std.specs.Str.{IsUtf8}
use Rattle.std.proofs.lemmas.Str.{is_utf8-from_IsUtf8}
use Rattle.usda_lexer.specs.Meanings.{unescaped, if_utf8}
use Rattle.usda_lexer.proofs.Cuts.{not_utf8}

pub unescaped_taken : (n : ℕ) (after : Bool) (c : ℕ) (cs : List ℕ) → 0 < n → unescaped n after (c ∷ cs) ≡ unescaped (n - 1) false cs
unescaped_taken zero after c cs h = absurd (omega arith)
unescaped_taken (suc n) after c cs h = ap (λ k. unescaped k false cs) (let e : n ≡ suc n - 1 = omega arith in e)

pub is_text : (bytes : List ℕ) → IsUtf8 bytes → if_utf8 bytes ≡ Some bytes
is_text bytes u = ap (λ b. if b then Some bytes else None) (is_utf8-from_IsUtf8 bytes u)

pub is_no_text : (bytes : List ℕ) → (IsUtf8 bytes → ⊥) → if_utf8 bytes ≡ None
is_no_text bytes bad = ap (λ b. if b then Some bytes else None) (not_utf8 bytes bad)
