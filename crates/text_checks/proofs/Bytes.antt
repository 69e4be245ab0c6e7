-- Bytes that are UTF-8, put together.
use Rattle.std.proofs.Common.{◌≡◌, ℕ, zero, suc, ◌<◌, nat_lt, Bool, true, false, List, [], ◌∷◌, ◌++◌, arith}
use Rattle.std.specs.Prelude.{if◌then◌else◌, replicate}
use Rattle.std.specs.List.{list_all, flat_map}
use Rattle.std.specs.Str.{is_utf8, IsUtf8}
use Rattle.std.proofs.lemmas.Bool.{and_parts}
use Rattle.std.proofs.lemmas.Bool.Decides.{nat_tests}
use Rattle.std.proofs.lemmas.Str.{IsUtf8-append, IsUtf8-from_is_utf8, IsUtf8-nil}
use Rattle.value_texts.proofs.AsciiTests.{ascii_before}

pub record IsValid (t : List ℕ) : Type 0 where
  pub utf8 : IsUtf8 t

pub tested : (t : List ℕ) → is_utf8 t ≡ true → IsValid t
tested t h = record { utf8 = IsUtf8-from_is_utf8 t h }

-- a text behind another
pub two : {s t : List ℕ} → IsValid s → IsValid t → IsValid (s ++ t)
two {s = s} {t = t} h k = record { utf8 = IsUtf8-append s t h.utf8 k.utf8 }

pub nothing : IsValid []
nothing = record { utf8 = IsUtf8-nil }

-- behind an ASCII character
pub behind : (c : ℕ) → c < 128 → {t : List ℕ} → IsValid t → IsValid (c ∷ t)
behind c low {t = t} h = record { utf8 = ascii_before c t low h.utf8 }

abbrev pub is_low : ℕ → Bool
is_low c = nat_lt c 128

pub ascii : (t : List ℕ) → list_all is_low t ≡ true → IsValid t
ascii [] h = nothing
ascii (c ∷ t) h = let p = and_parts (is_low c) (list_all is_low t) h in let low : nat_lt c 128 ≡ true = p.0 in behind c (grind (arith, nat_tests, low)) (ascii t p.1)

-- one text or another
pub either : (b : Bool) → {s t : List ℕ} → IsValid s → IsValid t → IsValid (if b then s else t)
either true h k = h
either false h k = k

pub repeated : (n c : ℕ) → c < 128 → IsValid (replicate n c)
repeated zero c low = nothing
repeated (suc n) c low = behind c low (repeated n c low)

-- texts one behind the other
pub all : {T : Type 0} (f : T → List ℕ) (w : T → Bool) → ((x : T) → w x ≡ true → IsValid (f x)) → (xs : List T) → list_all w xs ≡ true → IsValid (flat_map f xs)
all f w each [] h = nothing
all f w each (x ∷ xs) h = let p = and_parts (w x) (list_all w xs) h in two (each x p.0) (all f w each xs p.1)
