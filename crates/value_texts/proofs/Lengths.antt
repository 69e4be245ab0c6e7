-- No token is empty.
use Rattle.std.proofs.Common.{◌≡◌, ℕ, ◌+◌, ◌<◌, ◌&&◌, ◌||◌, ◌==◌, Bool, true, false, List, [], ◌∷◌, take, drop, Option, Some, None, Ok, refl, arith}
use Rattle.std.specs.Prelude.{if◌then◌else◌}
use Rattle.std.specs.Result.{IfOk}
use Rattle.std.specs.Option.{IfSome}
use Rattle.std.proofs.lemmas.Bool.Decides.{nat_tests}
use Rattle.sdf_values.specs.Numbers.{DecimalNumber}
use Rattle.usda_lexer.specs.declared.token.Mark.{Mark}
use Rattle.usda_lexer.specs.declared.token.TokenKind.{TokenKind}
use Rattle.usda_lexer.specs.declared.token.TokenKind.TheVariants as kind
use Rattle.usda_lexer.specs.Decimals.{decimal_of}
use Rattle.usda_lexer.specs.Names.{name_len}
use Rattle.usda_lexer.specs.Forms.{closed_line, closed_string, closed_tripled, closed_asset, begins_twice, string_len, asset_len, more_ats, number_len}
use Rattle.usda_lexer.specs.Words.{Found, found, name_or_other, name_kind, number_or_mark, minus_or_mark, quoted_or_mark, if_short, if_closed, if_mark, mark_of, begins_number_word}

abbrev Longer : Option ℕ → Type 0
Longer r = IfSome r (λ n. 0 < n)

by_test : (F : Bool → Type 0) (b : Bool) → F true → F false → F b
by_test F true x y = x
by_test F false x y = y

line_some : (close n : ℕ) (cs : List ℕ) → Longer (closed_line close n cs)
line_some close n [] = tt
line_some close n (c ∷ cs) =
    by_test (λ b. Longer (elim b [ true ↦ Some (n + 1) | false ↦ elim (c == 10) [ true ↦ None | false ↦ closed_line close (n + 1) cs ] ])) (c == close) (omega arith)
    (by_test (λ b. Longer (elim b [ true ↦ None | false ↦ closed_line close (n + 1) cs ])) (c == 10) tt (line_some close (n + 1) cs))

string_some : (quote : ℕ) (escaped : Bool) (n : ℕ) (cs : List ℕ) → Longer (closed_string quote escaped n cs)
string_some quote escaped n [] = tt
string_some quote true n (c ∷ cs) = by_test (λ b. Longer (elim b [ true ↦ None | false ↦ closed_string quote false (n + 1) cs ])) (c == 10) tt (string_some quote false (n + 1) cs)
string_some quote false n (c ∷ cs) =
    by_test (λ b. Longer (elim b [ true ↦ None | false ↦ elim (c == quote) [ true ↦ Some (n + 1) | false ↦ closed_string quote (c == 92) (n + 1) cs ] ])) (c == 10) tt
    (by_test (λ b. Longer (elim b [ true ↦ Some (n + 1) | false ↦ closed_string quote (c == 92) (n + 1) cs ])) (c == quote) (omega arith) (string_some quote (c == 92) (n + 1) cs))

tripled_some : (quote : ℕ) (escaped : Bool) (run n : ℕ) (cs : List ℕ) → Longer (closed_tripled quote escaped run n cs)
tripled_some quote escaped run n [] = tt
tripled_some quote true run n (c ∷ cs) = tripled_some quote false 0 (n + 1) cs
tripled_some quote false run n (c ∷ cs) =
    by_test (λ b. Longer (elim b [ true ↦ elim (run == 2) [ true ↦ Some (n + 1) | false ↦ closed_tripled quote false (run + 1) (n + 1) cs ] | false ↦ closed_tripled quote (c == 92) 0 (n + 1) cs ])) (c == quote)
    (by_test (λ b. Longer (elim b [ true ↦ Some (n + 1) | false ↦ closed_tripled quote false (run + 1) (n + 1) cs ])) (run == 2) (omega arith) (tripled_some quote false (run + 1) (n + 1) cs))
    (tripled_some quote (c == 92) 0 (n + 1) cs)

asset_some : (run n : ℕ) (cs : List ℕ) → Longer (closed_asset run n cs)
asset_some run n [] = tt
asset_some run n (c ∷ cs) =
    by_test (λ b. Longer (elim b [ true ↦ elim (run == 2) [ true ↦ Some (n + 1 + more_ats cs) | false ↦ closed_asset (run + 1) (n + 1) cs ] | false ↦ closed_asset 0 (n + 1) cs ])) (c == 64)
    (by_test (λ b. Longer (elim b [ true ↦ Some (n + 1 + more_ats cs) | false ↦ closed_asset (run + 1) (n + 1) cs ])) (run == 2) (omega arith) (asset_some (run + 1) (n + 1) cs))
    (asset_some 0 (n + 1) cs)

abbrev IsLong : Found → Type 0
IsLong r = IfOk r (λ f. 0 < f.1)

closed : (at : ℕ) (k : TokenKind) (r : Option ℕ) → Longer r → IsLong (if_closed at k r)
closed at k None h = tt
closed at k (Some n) h = h

marked : (at : ℕ) (m : Option Mark) → IsLong (if_mark at m)
marked at None = tt
marked at (Some m) = omega arith

quoted : (at c : ℕ) (cs : List ℕ) → IsLong (quoted_or_mark at c cs)
quoted at c cs =
    by_test (λ b. IsLong (if b then if_closed at kind.String (string_len c cs) else if c == 64 then if_closed at kind.Asset (asset_len cs) else if c == 60 then if_closed at kind.Path (closed_line 62 1 cs) else if_mark at (mark_of c)))
    ((c == 34) || (c == 39))
    (closed at kind.String (string_len c cs) (by_test (λ b. Longer (if b then closed_tripled c false 0 3 (drop 2 cs) else closed_string c false 1 cs)) (begins_twice c cs) (tripled_some c false 0 3 (drop 2 cs)) (string_some c false 1 cs)))
    (by_test (λ b. IsLong (if b then if_closed at kind.Asset (asset_len cs) else if c == 60 then if_closed at kind.Path (closed_line 62 1 cs) else if_mark at (mark_of c))) (c == 64)
    (closed at kind.Asset (asset_len cs) (by_test (λ b. Longer (if b then closed_asset 0 3 (drop 2 cs) else closed_line 64 1 cs)) (begins_twice 64 cs) (asset_some 0 3 (drop 2 cs)) (line_some 64 1 cs)))
    (by_test (λ b. IsLong (if b then if_closed at kind.Path (closed_line 62 1 cs) else if_mark at (mark_of c))) (c == 60) (closed at kind.Path (closed_line 62 1 cs) (line_some 62 1 cs)) (marked at (mark_of c))))

minus : (at : ℕ) (bytes : List ℕ) → IsLong (minus_or_mark at bytes)
minus at [] = tt
minus at (c ∷ cs) = by_test (λ b. IsLong (if b then Ok (kind.Number, 4) else quoted_or_mark at c cs)) ((c == 45) && begins_number_word cs) (omega arith) (quoted at c cs)

short : (at n : ℕ) (d : Option DecimalNumber) → 0 < n → IsLong (if_short at n d)
short at n None h = tt
short at n (Some d) h = h

pub some_len : (n : ℕ) → (n == 0) ≡ false → 0 < n
some_len n h = grind (arith, nat_tests)

number : (at n : ℕ) (bytes : List ℕ) → IsLong (number_or_mark at n bytes)
number at n bytes = cases (n == 0) refl
  where
    cases : (b : Bool) → (n == 0) ≡ b → IsLong (if b then minus_or_mark at bytes else if_short at n (decimal_of (take n bytes)))
    cases true e = minus at bytes
    cases false e = short at n (decimal_of (take n bytes)) (some_len n e)

name : (at n : ℕ) (bytes : List ℕ) → IsLong (name_or_other at n bytes)
name at n bytes = cases (n == 0) refl
  where
    cases : (b : Bool) → (n == 0) ≡ b → IsLong (if b then number_or_mark at (number_len bytes) bytes else Ok (name_kind (take n bytes), n))
    cases true e = number at (number_len bytes) bytes
    cases false e = some_len n e

pub found_some : (at : ℕ) (bytes : List ℕ) → IfOk (found at bytes) (λ f. 0 < f.1)
unfolding found
found_some at bytes = name at (name_len bytes) bytes
