-- Tests that tell two entries apart exactly.
use Rattle.std.specs.Prelude.{◌≡◌, ◌&&◌, Bool, true}
use Rattle.plain_data.specs.Exact.{both_true}

-- whether two entries are one, by tests of keys and of values
abbrev pub same_entry : {K V : Type 0} → (K → K → Bool) → (V → V → Bool) → K × V → K × V → Bool
same_entry E F p q = E p.0 q.0 && F p.1 q.1

-- entries that pass the test are one, where keys and values that pass theirs are
pub entry_same : {K V : Type 0} (E : K → K → Bool) (F : V → V → Bool) → ((x y : K) → E x y ≡ true → x ≡ y) → ((x y : V) → F x y ≡ true → x ≡ y)
    → (p q : K × V) → same_entry E F p q ≡ true → p ≡ q
entry_same E F e f (a, v) (b, w) t =
    let both = both_true (E a b) (F v w) t in
    let key = e a b both.0 in
    let value = f v w both.1 in
    cc
