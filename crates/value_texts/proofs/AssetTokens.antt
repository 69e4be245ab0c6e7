-- An asset and a path between their delimiters are tokens, and mean what stands between them.
use Rattle.std.proofs.Common.{◌≡◌, ◌∙◌, ℕ, zero, suc, ◌+◌, ◌-◌, ◌<◌, ◌&&◌, ◌||◌, ◌==◌, nat_le, Bool, true, false, List, [], ◌∷◌, ◌++◌, append_assoc, length, length-append, take, drop, get_or, Option, Some, None, Ok, ap, sym, refl, arith}
use Rattle.std.specs.Prelude.{if◌then◌else◌, codes, slice_index}
use Rattle.std.specs.List.{list_any}
use Rattle.std.proofs.lemmas.Bool.Decides.{nat_tests}
use Rattle.std.proofs.lemmas.Bool.{not-true, or_parts}
use Rattle.sdf_values.specs.Print.{is_long_asset, asset_text}
use Rattle.usda_lexer.specs.declared.token.TokenKind.TheVariants as kind
use Rattle.usda_lexer.specs.Blanks.{begins}
use Rattle.usda_lexer.specs.Forms.{closed_line, closed_asset, more_ats, begins_twice}
use Rattle.usda_lexer.specs.Meanings.{inside, trimmed, asset_text as asset_of, path_text as path_of}
use Rattle.usda_lexer.specs.Words.{found, if_closed}
use Rattle.value_texts.specs.Follows.{begins_not}
use Rattle.value_texts.specs.Writable.{has_short_ats, is_writable_asset, is_writable_path}
use Rattle.value_texts.proofs.Pieces.{front}
use Rattle.value_texts.proofs.MarkTokens.{at_sign, less}

pub eq_refl : (c : ℕ) → (c == c) ≡ true
eq_refl c = grind (arith, nat_tests)

-- a text without its closing delimiter and without line feeds
abbrev IsInside : ℕ → List ℕ → Type 0
IsInside close t = list_any (λ c. (c == close) || (c == 10)) t ≡ false

line_closes : (close n : ℕ) (t rest : List ℕ) → IsInside close t → closed_line close n (t ++ close ∷ rest) ≡ Some (n + length t + 1)
line_closes close n [] rest h =
    ap (λ b. elim b as (λ _. Option ℕ) [ true ↦ Some (n + 1) | false ↦ elim (close == 10) [ true ↦ None | false ↦ closed_line close (n + 1) rest ] ]) (eq_refl close)
    ∙ ap Some (let e : n + 1 ≡ n + 0 + 1 = omega arith in e)
line_closes close n (c ∷ t) rest h =
    let p = or_parts ((c == close) || (c == 10)) (list_any (λ c. (c == close) || (c == 10)) t) h in
    let q = or_parts (c == close) (c == 10) p.0 in
    ap (λ b. elim b as (λ _. Option ℕ) [ true ↦ Some (n + 1) | false ↦ elim (c == 10) [ true ↦ None | false ↦ closed_line close (n + 1) (t ++ close ∷ rest) ] ]) q.0
    ∙ ap (λ b. elim b as (λ _. Option ℕ) [ true ↦ None | false ↦ closed_line close (n + 1) (t ++ close ∷ rest) ]) q.1
    ∙ line_closes close (n + 1) t rest p.1 ∙ ap Some (let e : n + 1 + length t + 1 ≡ n + suc (length t) + 1 = omega arith in e)

-- a path is a token
pub path_found : (at : ℕ) (t rest : List ℕ) → is_writable_path t ≡ true → found at ((codes "<" ++ t ++ codes ">") ++ rest) ≡ Ok (kind.Path, length (codes "<" ++ t ++ codes ">"))
path_found at t rest h =
    ap (λ x. found at (60 ∷ x)) (append_assoc t (62 ∷ []) rest) ∙ less at (t ++ 62 ∷ rest) ∙ ap (if_closed at kind.Path) (line_closes 62 1 t rest (not-true _ h))
    ∙ ap (λ n. Ok (kind.Path, n)) (let e : 1 + length t + 1 ≡ suc (length (t ++ 62 ∷ [])) = omega (arith, length-append t (62 ∷ [])) in e)

-- a short asset
no_more_ats : (t rest : List ℕ) → IsInside 64 t → begins_not 64 rest ≡ true → begins_twice 64 (t ++ 64 ∷ rest) ≡ false
no_more_ats [] rest h k = not-true (begins 64 rest) k
no_more_ats (c ∷ t) rest h k =
    let p = or_parts ((c == 64) || (c == 10)) (list_any (λ c. (c == 64) || (c == 10)) t) h in
    ap (λ b. b && begins 64 (t ++ 64 ∷ rest)) (or_parts (c == 64) (c == 10) p.0).0

short_found : (at : ℕ) (t rest : List ℕ) → is_long_asset t ≡ false → begins_not 64 rest ≡ true → found at ((codes "@" ++ t ++ codes "@") ++ rest) ≡ Ok (kind.Asset, length (codes "@" ++ t ++ codes "@"))
short_found at t rest h k =
    ap (λ x. found at (64 ∷ x)) (append_assoc t (64 ∷ []) rest) ∙ at_sign at (t ++ 64 ∷ rest)
    ∙ ap (λ b. if_closed at kind.Asset (if b then closed_asset 0 3 (drop 2 (t ++ 64 ∷ rest)) else closed_line 64 1 (t ++ 64 ∷ rest))) (no_more_ats t rest h k)
    ∙ ap (if_closed at kind.Asset) (line_closes 64 1 t rest h)
    ∙ ap (λ n. Ok (kind.Asset, n)) (let e : 1 + length t + 1 ≡ suc (length (t ++ 64 ∷ [])) = omega (arith, length-append t (64 ∷ [])) in e)

-- a long asset: the first three `@` in a row that close it, and up to two before them
none_more : (rest : List ℕ) → begins_not 64 rest ≡ true → more_ats rest ≡ 0
none_more [] h = refl
none_more (c ∷ cs) h = ap (λ b. if b then (if begins 64 cs then 2 else 1) else 0) (not-true (c == 64) h)

abbrev Longer : ℕ → ℕ → List ℕ → List ℕ → Type 0
Longer run n t rest = closed_asset run n (t ++ 64 ∷ 64 ∷ 64 ∷ rest) ≡ Some (n + length t + 3)

ats_end : (run n : ℕ) (rest : List ℕ) → run < 3 → begins_not 64 rest ≡ true → Longer run n [] rest
ats_end zero n rest h k = ap (λ m. Some (n + 1 + 1 + 1 + m)) (none_more rest k) ∙ ap Some (let e : n + 1 + 1 + 1 + 0 ≡ n + 0 + 3 = omega arith in e)
ats_end (suc zero) n rest h k =
    ap (λ b. Some (n + 1 + 1 + (if b then 2 else 1))) (not-true (begins 64 rest) k) ∙ ap Some (let e : n + 1 + 1 + 1 ≡ n + 0 + 3 = omega arith in e)
ats_end (suc (suc zero)) n rest h k = ap Some (let e : n + 1 + 2 ≡ n + 0 + 3 = omega arith in e)
ats_end (suc (suc (suc run))) n rest h k = absurd (omega (arith, h))

abbrev Closed : ℕ → ℕ → List ℕ → Bool → Bool → Option ℕ
Closed run n cs a b = elim a [ true ↦ elim b [ true ↦ Some (n + 1 + more_ats cs) | false ↦ closed_asset (run + 1) (n + 1) cs ] | false ↦ closed_asset 0 (n + 1) cs ]

abbrev Short : ℕ → List ℕ → Bool → Bool → Bool
Short run t a b = elim a [ true ↦ elim b [ true ↦ false | false ↦ has_short_ats (run + 1) t ] | false ↦ has_short_ats 0 t ]

long_closes : (run n : ℕ) (t rest : List ℕ) → run < 3 → has_short_ats run t ≡ true → begins_not 64 rest ≡ true → Longer run n t rest
long_closes run n [] rest h s k = ats_end run n rest h k
long_closes run n (c ∷ t) rest h s k =
    cases (c == 64) refl (run == 2) refl (λ few w. long_closes (run + 1) (n + 1) t rest few w k) (λ w. long_closes 0 (n + 1) t rest (omega arith) w k)
  where
    one_on : Some (n + 1 + length t + 3) ≡ Some (n + suc (length t) + 3)
    one_on = ap Some (let e : n + 1 + length t + 3 ≡ n + suc (length t) + 3 = omega arith in e)

    found_at : (a b : Bool) → (c == 64) ≡ a → (run == 2) ≡ b → closed_asset run n (c ∷ t ++ 64 ∷ 64 ∷ 64 ∷ rest) ≡ Closed run n (t ++ 64 ∷ 64 ∷ 64 ∷ rest) a b
    found_at a b e f = ap (λ a. Closed run n (t ++ 64 ∷ 64 ∷ 64 ∷ rest) a (run == 2)) e ∙ ap (Closed run n (t ++ 64 ∷ 64 ∷ 64 ∷ rest) a) f

    short_at : (a b : Bool) → (c == 64) ≡ a → (run == 2) ≡ b → Short run t a b ≡ true
    short_at a b e f = sym (ap (λ a. Short run t a (run == 2)) e ∙ ap (Short run t a) f) ∙ s

    cases : (a : Bool) → (c == 64) ≡ a → (b : Bool) → (run == 2) ≡ b → (run + 1 < 3 → has_short_ats (run + 1) t ≡ true → Longer (run + 1) (n + 1) t rest)
        → (has_short_ats 0 t ≡ true → Longer 0 (n + 1) t rest) → Longer run n (c ∷ t) rest
    cases true e true f more again = (let bad : false ≡ true = short_at true true e f in absurd cc)
    cases true e false f more again = (let few : run + 1 < 3 = grind (arith, nat_tests) in found_at true false e f ∙ more few (short_at true false e f) ∙ one_on)
    cases false e b f more again = found_at false b e f ∙ again (short_at false b e f) ∙ one_on

long_found : (at : ℕ) (t rest : List ℕ) → is_writable_asset t ≡ true → begins_not 64 rest ≡ true → found at ((codes "@@@" ++ t ++ codes "@@@") ++ rest) ≡ Ok (kind.Asset, length (codes "@@@" ++ t ++ codes "@@@"))
long_found at t rest h k =
    ap (λ x. found at (64 ∷ 64 ∷ 64 ∷ x)) (append_assoc t (64 ∷ 64 ∷ 64 ∷ []) rest) ∙ at_sign at (64 ∷ 64 ∷ t ++ 64 ∷ 64 ∷ 64 ∷ rest)
    ∙ ap (if_closed at kind.Asset) (long_closes 0 3 t rest (omega arith) h k)
    ∙ ap (λ n. Ok (kind.Asset, n)) (let e : 3 + length t + 3 ≡ suc (suc (suc (length (t ++ 64 ∷ 64 ∷ 64 ∷ [])))) = omega (arith, length-append t (64 ∷ 64 ∷ 64 ∷ [])) in e)

-- an asset is a token
pub asset_found : (at : ℕ) (t rest : List ℕ) → is_writable_asset t ≡ true → begins_not 64 rest ≡ true → found at (asset_text t ++ rest) ≡ Ok (kind.Asset, length (asset_text t))
asset_found at t rest h k = test (is_long_asset t) refl
  where
    test : (b : Bool) → is_long_asset t ≡ b
        → found at ((if b then codes "@@@" ++ t ++ codes "@@@" else codes "@" ++ t ++ codes "@") ++ rest) ≡ Ok (kind.Asset, length (if b then codes "@@@" ++ t ++ codes "@@@" else codes "@" ++ t ++ codes "@"))
    test true e = long_found at t rest h k
    test false e = short_found at t rest e k

-- what stands behind the first of two texts
pub at_seam : (xs ys : List ℕ) (c : ℕ) → get_or (xs ++ c ∷ ys) (length xs) 0 ≡ c
at_seam [] ys c = refl
at_seam (x ∷ xs) ys c = at_seam xs ys c

pub last_at : (xs ys : List ℕ) (c k : ℕ) → k ≡ length xs → slice_index (xs ++ c ∷ ys) k ≡ c
last_at xs ys c k e = ap (λ j. slice_index (xs ++ c ∷ ys) j) e ∙ at_seam xs ys c

-- a text without one delimiter on both sides
pub one_off : (first close : ℕ) (t : List ℕ) → trimmed close 1 (first ∷ t ++ close ∷ []) ≡ t
one_off first close t =
    let text : List ℕ = first ∷ t ++ close ∷ [] in
    let len : length text ≡ length t + 2 = omega (arith, length-append t (close ∷ [])) in
    let enough : nat_le (1 + 1) (length text) ≡ true = grind (arith, nat_tests, len) in
    let closing : slice_index text (length text - 1) ≡ close = last_at (first ∷ t) [] close (length text - 1) (omega (arith, len)) in
    ap (λ b. if b && (slice_index text (length text - 1) == close) then inside 1 text else text) enough
    ∙ ap (λ c. if c == close then inside 1 text else text) closing ∙ ap (λ b. if b then inside 1 text else text) (eq_refl close)
    ∙ ap (λ n. take n (t ++ close ∷ [])) (let e : length text - 1 - 1 ≡ length t = omega (arith, len) in e) ∙ front t (close ∷ [])

pub three_off : (t : List ℕ) → trimmed 64 3 (64 ∷ 64 ∷ 64 ∷ t ++ 64 ∷ 64 ∷ 64 ∷ []) ≡ t
three_off t =
    let text : List ℕ = 64 ∷ 64 ∷ 64 ∷ t ++ 64 ∷ 64 ∷ 64 ∷ [] in
    let len : length text ≡ length t + 6 = omega (arith, length-append t (64 ∷ 64 ∷ 64 ∷ [])) in
    let enough : nat_le (3 + 3) (length text) ≡ true = grind (arith, nat_tests, len) in
    let closing : slice_index text (length text - 3) ≡ 64 = last_at (64 ∷ 64 ∷ 64 ∷ t) (64 ∷ 64 ∷ []) 64 (length text - 3) (omega (arith, len)) in
    ap (λ b. if b && (slice_index text (length text - 3) == 64) then inside 3 text else text) enough
    ∙ ap (λ c. if c == 64 then inside 3 text else text) closing
    ∙ ap (λ n. take n (t ++ 64 ∷ 64 ∷ 64 ∷ [])) (let e : length text - 3 - 3 ≡ length t = omega (arith, len) in e) ∙ front t (64 ∷ 64 ∷ 64 ∷ [])

-- what an asset and a path mean
pub asset_means : (t : List ℕ) → asset_of (asset_text t) ≡ t
unfolding asset_of
asset_means t = test (is_long_asset t) refl
  where
    test : (b : Bool) → is_long_asset t ≡ b → asset_of (if b then codes "@@@" ++ t ++ codes "@@@" else codes "@" ++ t ++ codes "@") ≡ t
    test true e = three_off t
    test false e = ap (λ b. if b then trimmed 64 3 (64 ∷ t ++ 64 ∷ []) else trimmed 64 1 (64 ∷ t ++ 64 ∷ [])) (no_more_ats t [] e refl) ∙ one_off 64 64 t

pub path_means : (t : List ℕ) → path_of (codes "<" ++ t ++ codes ">") ≡ t
unfolding path_of
path_means t = one_off 60 62 t
