-- Strings, assets and paths in front of a text: where they end, and what stands between their delimiters.
use Rattle.std.proofs.Common.{◌≡◌, ◌∙◌, ℕ, zero, suc, ◌+◌, ◌-◌, ◌<◌, Bool, true, false, ◌&&◌, ◌==◌, List, [], ◌∷◌, ◌++◌, append_assoc, length, length-append, take, drop, Option, Some, None, ap, sym, refl, subst, arith, eqb-true}
use Rattle.std.specs.Prelude.{if◌then◌else◌}
use Rattle.std.proofs.lemmas.Bool.Decides.{nat_tests}
use Rattle.usda_lexer.specs.Blanks.{begins}
use Rattle.usda_lexer.specs.Forms.{closed_line, closed_string, closed_tripled, closed_asset, more_ats, begins_twice, string_len, asset_len}
use Rattle.usda_lexer.specs.Meanings.{trimmed, asset_text, path_text}
use Rattle.value_texts.specs.Writable.{has_short_ats, is_writable_asset}
use Rattle.value_texts.proofs.AssetTokens.{one_off, three_off}
use Rattle.value_texts.proofs.Pieces.{front as front_of}
use Rattle.std.specs.Str.{IsUtf8, is_utf8}
use Rattle.std.proofs.lemmas.Str.{is_utf8-from_IsUtf8}
use Rattle.values_read.proofs.Seams.{behind_one, behind_ascii, before_ascii}

-- a token of n bytes, of which k stand before these, that ends with this byte
pub record EndsWith (close k : ℕ) (cs : List ℕ) (n : ℕ) : Type 0 where
  pub front : List ℕ
  pub rest : List ℕ
  pub all : cs ≡ front ++ close ∷ rest
  pub at : n ≡ k + length front + 1

-- a byte more before it
one_before : (close k c : ℕ) (cs : List ℕ) (n : ℕ) → EndsWith close (k + 1) cs n → EndsWith close k (c ∷ cs) n
one_before close k c cs n is = record { front = c ∷ is.front; rest = is.rest; all = ap (λ t. c ∷ t) is.all; at = is.at ∙ (let e : k + 1 + length is.front + 1 ≡ k + suc (length is.front) + 1 = omega arith in e) }

-- it is the first byte
here : (close k c : ℕ) (cs : List ℕ) (n : ℕ) → (c == close) ≡ true → Some (k + 1) ≡ Some n → EndsWith close k (c ∷ cs) n
here close k c cs n is e =
    let same : k + 1 ≡ n = cc e in
    record { front = []; rest = cs; all = ap (λ x. x ∷ cs) (eqb-true c close is); at = sym same ∙ (let e : k + 1 ≡ k + 0 + 1 = omega arith in e) }

-- ---- on one line

-- the byte does not stand in the text
abbrev pub has_none : ℕ → List ℕ → Bool
has_none close [] = true
has_none close (c ∷ cs) = if c == close then false else has_none close cs

-- a token on one line: the byte that ends it does not stand before its end
pub record EndsLine (close k : ℕ) (cs : List ℕ) (n : ℕ) : Type 0 where
  pub ends : EndsWith close k cs n
  pub none : has_none close ends.front ≡ true

pub line_ends : (close k : ℕ) (cs : List ℕ) (n : ℕ) → closed_line close k cs ≡ Some n → EndsLine close k cs n
unfolding one_before here
line_ends close k [] n h = absurd cc
line_ends close k (c ∷ cs) n h = cases (c == close) refl (c == 10) h (λ g. line_ends close (k + 1) cs n g)
  where
    cases : (a : Bool) → (c == close) ≡ a → (b : Bool) → elim a as (λ _. Option ℕ) [ true ↦ Some (k + 1) | false ↦ elim b [ true ↦ None | false ↦ closed_line close (k + 1) cs ] ] ≡ Some n
        → (closed_line close (k + 1) cs ≡ Some n → EndsLine close (k + 1) cs n) → EndsLine close k (c ∷ cs) n
    cases true e b g more = record { ends = here close k c cs n e g; none = refl }
    cases false e true g more = absurd cc
    cases false e false g more =
        let is = more g in
        record { ends = one_before close k c cs n is.ends; none = ap (λ b. if b then false else has_none close is.ends.front) e ∙ is.none }

string_ends : (quote : ℕ) (escaped : Bool) (k : ℕ) (cs : List ℕ) (n : ℕ) → closed_string quote escaped k cs ≡ Some n → EndsWith quote k cs n
string_ends quote escaped k [] n h = absurd cc
string_ends quote escaped k (c ∷ cs) n h =
    cases (c == 10) escaped (c == quote) refl h (λ g. string_ends quote false (k + 1) cs n g) (λ g. string_ends quote (c == 92) (k + 1) cs n g)
  where
    cases : (a b d : Bool) → (c == quote) ≡ d
        → elim a as (λ _. Option ℕ) [
          | true ↦ None
          | false ↦ elim b [ true ↦ closed_string quote false (k + 1) cs | false ↦ elim d [ true ↦ Some (k + 1) | false ↦ closed_string quote (c == 92) (k + 1) cs ] ]
        ] ≡ Some n
        → (closed_string quote false (k + 1) cs ≡ Some n → EndsWith quote (k + 1) cs n) → (closed_string quote (c == 92) (k + 1) cs ≡ Some n → EndsWith quote (k + 1) cs n) → EndsWith quote k (c ∷ cs) n
    cases true b d e g p q = absurd cc
    cases false true d e g p q = one_before quote k c cs n (p g)
    cases false false true e g p q = here quote k c cs n e g
    cases false false false e g p q = one_before quote k c cs n (q g)

tripled_ends : (quote : ℕ) (escaped : Bool) (run k : ℕ) (cs : List ℕ) (n : ℕ) → closed_tripled quote escaped run k cs ≡ Some n → EndsWith quote k cs n
tripled_ends quote escaped run k [] n h = absurd cc
tripled_ends quote escaped run k (c ∷ cs) n h =
    cases escaped (c == quote) refl (run == 2) h (λ g. tripled_ends quote false 0 (k + 1) cs n g) (λ g. tripled_ends quote false (run + 1) (k + 1) cs n g) (λ g. tripled_ends quote (c == 92) 0 (k + 1) cs n g)
  where
    cases : (a b : Bool) → (c == quote) ≡ b → (d : Bool)
        → elim a as (λ _. Option ℕ) [
          | true ↦ closed_tripled quote false 0 (k + 1) cs
          | false ↦ elim b [ true ↦ elim d [ true ↦ Some (k + 1) | false ↦ closed_tripled quote false (run + 1) (k + 1) cs ] | false ↦ closed_tripled quote (c == 92) 0 (k + 1) cs ]
        ] ≡ Some n
        → (closed_tripled quote false 0 (k + 1) cs ≡ Some n → EndsWith quote (k + 1) cs n) → (closed_tripled quote false (run + 1) (k + 1) cs ≡ Some n → EndsWith quote (k + 1) cs n)
        → (closed_tripled quote (c == 92) 0 (k + 1) cs ≡ Some n → EndsWith quote (k + 1) cs n) → EndsWith quote k (c ∷ cs) n
    cases true b e d g p q r = one_before quote k c cs n (p g)
    cases false true e true g p q r = here quote k c cs n e g
    cases false true e false g p q r = one_before quote k c cs n (q g)
    cases false false e d g p q r = one_before quote k c cs n (r g)

-- two bytes in front
two_in_front : (c : ℕ) (cs : List ℕ) → begins_twice c cs ≡ true → cs ≡ c ∷ c ∷ drop 2 cs
two_in_front c [] h = absurd cc
two_in_front c (a ∷ []) h = absurd (no (a == c) h)
  where
    no : (b : Bool) → (b && false) ≡ true → ⊥
    no true e = cc
    no false e = cc
two_in_front c (a ∷ b ∷ cs) h = parts (a == c) refl (b == c) refl h
  where
    parts : (x : Bool) → (a == c) ≡ x → (y : Bool) → (b == c) ≡ y → (x && y) ≡ true → a ∷ b ∷ cs ≡ c ∷ c ∷ cs
    parts true e true f g = ap (λ t. t ∷ b ∷ cs) (eqb-true a c e) ∙ ap (λ t. c ∷ t ∷ cs) (eqb-true b c f)
    parts true e false f g = absurd cc
    parts false e y f g = absurd cc

pub quoted_ends : (quote : ℕ) (cs : List ℕ) (n : ℕ) → string_len quote cs ≡ Some n → EndsWith quote 1 cs n
quoted_ends quote cs n h = cases (begins_twice quote cs) refl h
  where
    cases : (b : Bool) → begins_twice quote cs ≡ b → (if b then closed_tripled quote false 0 3 (drop 2 cs) else closed_string quote false 1 cs) ≡ Some n → EndsWith quote 1 cs n
    cases true e g =
        let is = tripled_ends quote false 0 3 (drop 2 cs) n g in
        record {
          front = quote ∷ quote ∷ is.front;
          rest = is.rest;
          all = two_in_front quote cs e ∙ ap (λ t. quote ∷ quote ∷ t) is.all;
          at = is.at ∙ (let e : 3 + length is.front + 1 ≡ 1 + suc (suc (length is.front)) + 1 = omega arith in e);
        }
    cases false e g = string_ends quote false 1 cs n g

-- ---- where a token ends

-- the first n bytes end with a byte that is ASCII
pub record EndsLow (bytes : List ℕ) (n : ℕ) : Type 0 where
  pub front : List ℕ
  pub close : ℕ
  pub rest : List ℕ
  pub low : close < 128
  pub all : bytes ≡ front ++ close ∷ rest
  pub at : n ≡ suc (length front)

pub behind_low : (bytes : List ℕ) (n : ℕ) → EndsLow bytes n → IsUtf8 bytes → IsUtf8 (drop n bytes)
behind_low bytes n is u =
    subst IsUtf8 (sym (ap (drop n) is.all ∙ ap (λ k. drop k (is.front ++ is.close ∷ is.rest)) is.at ∙ behind_one is.front is.rest is.close))
    (behind_ascii is.front is.rest is.close is.low (subst IsUtf8 is.all u))

-- a token whose first byte stands before these
pub low_behind : (c close : ℕ) (cs : List ℕ) (n : ℕ) → close < 128 → EndsWith close 1 cs n → EndsLow (c ∷ cs) n
low_behind c close cs n low is = record { front = c ∷ is.front; close = close; rest = is.rest; low = low; all = ap (λ t. c ∷ t) is.all; at = is.at ∙ (let e : 1 + length is.front + 1 ≡ suc (suc (length is.front)) = omega arith in e) }

-- a token of these bytes
token_is : (bytes token rest : List ℕ) (n : ℕ) → bytes ≡ token ++ rest → n ≡ length token → take n bytes ≡ token
token_is bytes token rest n all at = ap (take n) all ∙ ap (λ k. take k (token ++ rest)) at ∙ front_of token rest

-- ---- delimiters are taken off

-- ---- paths

pub path_off : (t : List ℕ) → path_text (60 ∷ t ++ 62 ∷ []) ≡ t
unfolding path_text
path_off t = one_off 60 62 t

pub path_utf8 : (cs : List ℕ) (n : ℕ) → closed_line 62 1 cs ≡ Some n → IsUtf8 (60 ∷ cs) → is_utf8 (path_text (take n (60 ∷ cs))) ≡ true
path_utf8 cs n h u =
    let is : EndsWith 62 1 cs n = (line_ends 62 1 cs n h).ends in
    let whole : 60 ∷ cs ≡ (60 ∷ is.front ++ 62 ∷ []) ++ is.rest = ap (λ t. 60 ∷ t) (is.all ∙ sym (append_assoc is.front (62 ∷ []) is.rest)) in
    let token = token_is (60 ∷ cs) (60 ∷ is.front ++ 62 ∷ []) is.rest n whole (is.at ∙ (let e : 1 + length is.front + 1 ≡ suc (length (is.front ++ 62 ∷ [])) = omega (arith, length-append is.front (62 ∷ [])) in e)) in
    ap (λ t. is_utf8 (path_text t)) token ∙ ap is_utf8 (path_off is.front)
    ∙ is_utf8-from_IsUtf8 is.front (before_ascii is.front is.rest 62 (omega arith) (subst IsUtf8 is.all (behind_ascii [] cs 60 (omega arith) u)))

-- ---- assets

-- an asset, whose text has no three `@` in a row
abbrev IsAssetText : List ℕ → Bool
IsAssetText t = is_utf8 (asset_text t) && is_writable_asset (asset_text t)

asset_is : (token text : List ℕ) → asset_text token ≡ text → IsUtf8 text → is_writable_asset text ≡ true → IsAssetText token ≡ true
asset_is token text means u writable = ap (λ t. is_utf8 t && is_writable_asset t) means ∙ ap (λ b. b && is_writable_asset text) (is_utf8-from_IsUtf8 text u) ∙ writable

no_at_first : (c : ℕ) (cs : List ℕ) → has_none 64 (c ∷ cs) ≡ true → ((c == 64) ≡ false) × (has_none 64 cs ≡ true)
no_at_first c cs h = cases (c == 64) refl h
  where
    cases : (b : Bool) → (c == 64) ≡ b → (if b then false else has_none 64 cs) ≡ true → ((c == 64) ≡ false) × (has_none 64 cs ≡ true)
    cases true e g = absurd cc
    cases false e g = (e, g)

no_at_short : (t : List ℕ) → has_none 64 t ≡ true → is_writable_asset t ≡ true
no_at_short [] h = refl
no_at_short (c ∷ cs) h =
    let p = no_at_first c cs h in
    ap (λ b. elim b as (λ _. Bool) [ true ↦ has_short_ats 1 cs | false ↦ has_short_ats 0 cs ]) p.0 ∙ no_at_short cs p.1

one_at : (t : List ℕ) → has_none 64 t ≡ true → begins_twice 64 (t ++ 64 ∷ []) ≡ false
one_at [] h = refl
one_at (c ∷ cs) h = ap (λ b. b && begins 64 (cs ++ 64 ∷ [])) (no_at_first c cs h).0

short_off : (t : List ℕ) → has_none 64 t ≡ true → asset_text (64 ∷ t ++ 64 ∷ []) ≡ t
unfolding asset_text
short_off t h = ap (λ b. if b then trimmed 64 3 (64 ∷ t ++ 64 ∷ []) else trimmed 64 1 (64 ∷ t ++ 64 ∷ [])) (one_at t h) ∙ one_off 64 64 t

long_off : (t : List ℕ) → asset_text (64 ∷ 64 ∷ 64 ∷ t ++ 64 ∷ 64 ∷ 64 ∷ []) ≡ t
unfolding asset_text
long_off t = three_off t

-- the first n bytes are an asset
pub record IsAsset (bytes : List ℕ) (n : ℕ) : Type 0 where
  pub ends : EndsLow bytes n
  pub text : IsUtf8 bytes → IsAssetText (take n bytes) ≡ true

short_asset : (cs : List ℕ) (n : ℕ) → closed_line 64 1 cs ≡ Some n → IsAsset (64 ∷ cs) n
short_asset cs n h =
    let line : EndsLine 64 1 cs n = line_ends 64 1 cs n h in
    let is : EndsWith 64 1 cs n = line.ends in
    let whole : 64 ∷ cs ≡ (64 ∷ is.front ++ 64 ∷ []) ++ is.rest = ap (λ t. 64 ∷ t) (is.all ∙ sym (append_assoc is.front (64 ∷ []) is.rest)) in
    let token = token_is (64 ∷ cs) (64 ∷ is.front ++ 64 ∷ []) is.rest n whole (is.at ∙ (let e : 1 + length is.front + 1 ≡ suc (length (is.front ++ 64 ∷ [])) = omega (arith, length-append is.front (64 ∷ [])) in e)) in
    record {
      ends = low_behind 64 64 cs n (omega arith) is;
      text = λ u. ap IsAssetText token ∙ asset_is (64 ∷ is.front ++ 64 ∷ []) is.front (short_off is.front line.none) (before_ascii is.front is.rest 64 (omega arith) (subst IsUtf8 is.all (behind_ascii [] cs 64 (omega arith) u))) (no_at_short is.front line.none);
    }

-- ---- assets between three `@`

-- so many `@` and then these bytes
abbrev ats : ℕ → List ℕ → List ℕ
ats zero cs = cs
ats (suc run) cs = 64 ∷ ats run cs

ats_in : (run : ℕ) (cs : List ℕ) → 64 ∷ ats run cs ≡ ats run (64 ∷ cs)
ats_in zero cs = refl
ats_in (suc run) cs = ap (λ t. 64 ∷ t) (ats_in run cs)

-- The text of an asset up to its three `@`, where so many `@` stand directly before these bytes, which are those from the k-th on.
pub record EndsLong (run k : ℕ) (cs : List ℕ) (n : ℕ) : Type 0 where
  pub text : List ℕ
  pub rest : List ℕ
  pub all : ats run cs ≡ text ++ 64 ∷ 64 ∷ 64 ∷ rest
  pub at : n + run ≡ k + length text + 3
  pub short : has_short_ats 0 text ≡ true

-- a byte that is no `@`
reset_short : (run c : ℕ) (t : List ℕ) → run < 3 → (c == 64) ≡ false → has_short_ats 0 t ≡ true → has_short_ats 0 (ats run (c ∷ t)) ≡ true
reset_short zero c t few other h = ap (λ b. elim b as (λ _. Bool) [ true ↦ has_short_ats 1 t | false ↦ has_short_ats 0 t ]) other ∙ h
reset_short (suc zero) c t few other h = ap (λ b. elim b as (λ _. Bool) [ true ↦ has_short_ats 2 t | false ↦ has_short_ats 0 t ]) other ∙ h
reset_short (suc (suc zero)) c t few other h = ap (λ b. elim b as (λ _. Bool) [ true ↦ false | false ↦ has_short_ats 0 t ]) other ∙ h
reset_short (suc (suc (suc run))) c t few other h = absurd (omega (arith, few))

ats_append : (run : ℕ) (xs ys : List ℕ) → ats run (xs ++ ys) ≡ ats run xs ++ ys
ats_append zero xs ys = refl
ats_append (suc run) xs ys = ap (λ t. 64 ∷ t) (ats_append run xs ys)

ats_length : (run : ℕ) (xs : List ℕ) → length (ats run xs) ≡ run + length xs
ats_length zero xs = omega arith
ats_length (suc run) xs = omega (arith, ats_length run xs)

reset : (run k c : ℕ) (cs : List ℕ) (n : ℕ) → run < 3 → (c == 64) ≡ false → EndsLong 0 (k + 1) cs n → EndsLong run k (c ∷ cs) n
reset run k c cs n few other is = record {
  text = ats run (c ∷ is.text);
  rest = is.rest;
  all = ap (λ t. ats run (c ∷ t)) is.all ∙ ats_append run (c ∷ is.text) (64 ∷ 64 ∷ 64 ∷ is.rest);
  at = (let a = is.at in omega (arith, a, ats_length run (c ∷ is.text)));
  short = reset_short run c is.text few other is.short;
}

one_at_more : (run k c : ℕ) (cs : List ℕ) (n : ℕ) → (c == 64) ≡ true → EndsLong (run + 1) (k + 1) cs n → EndsLong run k (c ∷ cs) n
one_at_more run k c cs n is long = record {
  text = long.text;
  rest = long.rest;
  all = ap (λ x. ats run (x ∷ cs)) (eqb-true c 64 is) ∙ sym (ats_in run cs) ∙ ap (λ r. ats r cs) (let e : suc run ≡ run + 1 = omega arith in e) ∙ long.all;
  at = (let a = long.at in omega (arith, a));
  short = long.short;
}

-- the third `@` in a row, and up to two more
last_ats : (k : ℕ) (cs : List ℕ) (n : ℕ) → k + 1 + more_ats cs ≡ n → EndsLong 2 k (64 ∷ cs) n
last_ats k [] n h = record { text = []; rest = []; all = refl; at = omega (arith, h); short = refl }
last_ats k (c ∷ cs) n h = cases (c == 64) refl h
  where
    two : (b : Bool) → begins 64 cs ≡ b → (c == 64) ≡ true → k + 1 + (if b then 2 else 1) ≡ n → EndsLong 2 k (64 ∷ c ∷ cs) n
    two true f e g = more cs f
      where
        more : (cs : List ℕ) → begins 64 cs ≡ true → EndsLong 2 k (64 ∷ c ∷ cs) n
        more [] f = absurd cc
        more (d ∷ ds) f = record {
          text = 64 ∷ 64 ∷ [];
          rest = ds;
          all = ap (λ x. 64 ∷ 64 ∷ 64 ∷ x ∷ d ∷ ds) (eqb-true c 64 e) ∙ ap (λ x. 64 ∷ 64 ∷ 64 ∷ 64 ∷ x ∷ ds) (eqb-true d 64 f);
          at = omega (arith, g);
          short = refl;
        }
    two false f e g = record { text = 64 ∷ []; rest = cs; all = ap (λ x. 64 ∷ 64 ∷ 64 ∷ x ∷ cs) (eqb-true c 64 e); at = omega (arith, g); short = refl }

    cases : (b : Bool) → (c == 64) ≡ b → k + 1 + (if b then (if begins 64 cs then 2 else 1) else 0) ≡ n → EndsLong 2 k (64 ∷ c ∷ cs) n
    cases true e g = two (begins 64 cs) refl e g
    cases false e g = record { text = []; rest = c ∷ cs; all = refl; at = omega (arith, g); short = refl }

long_ends : (run k : ℕ) (cs : List ℕ) (n : ℕ) → run < 3 → closed_asset run k cs ≡ Some n → EndsLong run k cs n
long_ends run k [] n few h = absurd cc
long_ends run k (c ∷ cs) n few h = cases (c == 64) refl (run == 2) refl h (λ f g. long_ends (run + 1) (k + 1) cs n f g) (λ g. long_ends 0 (k + 1) cs n (omega arith) g)
  where
    cases : (a : Bool) → (c == 64) ≡ a → (b : Bool) → (run == 2) ≡ b
        → elim a as (λ _. Option ℕ) [ true ↦ elim b [ true ↦ Some (k + 1 + more_ats cs) | false ↦ closed_asset (run + 1) (k + 1) cs ] | false ↦ closed_asset 0 (k + 1) cs ] ≡ Some n
        → (run + 1 < 3 → closed_asset (run + 1) (k + 1) cs ≡ Some n → EndsLong (run + 1) (k + 1) cs n) → (closed_asset 0 (k + 1) cs ≡ Some n → EndsLong 0 (k + 1) cs n) → EndsLong run k (c ∷ cs) n
    cases true e true f g p q =
        let last : EndsLong 2 k (64 ∷ cs) n = last_ats k cs n (cc g) in
        subst (λ r. EndsLong r k (c ∷ cs) n) (sym (eqb-true run 2 f)) (subst (λ x. EndsLong 2 k (x ∷ cs) n) (sym (eqb-true c 64 e)) last)
    cases true e false f g p q = one_at_more run k c cs n e (p (grind (arith, nat_tests)) g)
    cases false e b f g p q = reset run k c cs n few e (q g)

long_asset : (cs : List ℕ) (n : ℕ) → begins_twice 64 cs ≡ true → closed_asset 0 3 (drop 2 cs) ≡ Some n → IsAsset (64 ∷ cs) n
long_asset cs n two h =
    let is : EndsLong 0 3 (drop 2 cs) n = long_ends 0 3 (drop 2 cs) n (omega arith) h in
    let all : 64 ∷ cs ≡ 64 ∷ 64 ∷ 64 ∷ is.text ++ 64 ∷ 64 ∷ 64 ∷ is.rest = ap (λ t. 64 ∷ t) (two_in_front 64 cs two ∙ ap (λ t. 64 ∷ 64 ∷ t) is.all) in
    let whole : 64 ∷ cs ≡ (64 ∷ 64 ∷ 64 ∷ is.text ++ 64 ∷ 64 ∷ 64 ∷ []) ++ is.rest = all ∙ ap (λ t. 64 ∷ 64 ∷ 64 ∷ t) (sym (append_assoc is.text (64 ∷ 64 ∷ 64 ∷ []) is.rest)) in
    let token = token_is (64 ∷ cs) (64 ∷ 64 ∷ 64 ∷ is.text ++ 64 ∷ 64 ∷ 64 ∷ []) is.rest n whole (let a = is.at in omega (arith, a, length-append is.text (64 ∷ 64 ∷ 64 ∷ []))) in
    record {
      ends = record {
        front = 64 ∷ 64 ∷ 64 ∷ is.text ++ 64 ∷ 64 ∷ [];
        close = 64;
        rest = is.rest;
        low = omega arith;
        all = all ∙ ap (λ t. 64 ∷ 64 ∷ 64 ∷ t) (sym (append_assoc is.text (64 ∷ 64 ∷ []) (64 ∷ is.rest)));
        at = (let a = is.at in omega (arith, a, length-append is.text (64 ∷ 64 ∷ [])));
      };
      text = λ u. ap IsAssetText token ∙ asset_is (64 ∷ 64 ∷ 64 ∷ is.text ++ 64 ∷ 64 ∷ 64 ∷ []) is.text (long_off is.text) (before_ascii is.text (64 ∷ 64 ∷ is.rest) 64 (omega arith) (behind_ascii (64 ∷ 64 ∷ []) (is.text ++ 64 ∷ 64 ∷ 64 ∷ is.rest) 64 (omega arith) (subst IsUtf8 all u))) is.short;
    }

pub asset_is_token : (cs : List ℕ) (n : ℕ) → asset_len cs ≡ Some n → IsAsset (64 ∷ cs) n
asset_is_token cs n h = cases (begins_twice 64 cs) refl h
  where
    cases : (b : Bool) → begins_twice 64 cs ≡ b → (if b then closed_asset 0 3 (drop 2 cs) else closed_line 64 1 cs) ≡ Some n → IsAsset (64 ∷ cs) n
    cases true e g = long_asset cs n e g
    cases false e g = short_asset cs n g
