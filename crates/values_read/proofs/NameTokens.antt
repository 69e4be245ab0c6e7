-- A name in front of a text is a name.
use Rattle.std.proofs.Common.{◌≡◌, ◌∙◌, ℕ, ◌+◌, Bool, true, false, ◌&&◌, ◌==◌, List, [], ◌∷◌, ◌++◌, length, take, drop, ap, sym, refl, subst, arith, inl, inr, ◌⊎◌}
use Rattle.std.specs.Prelude.{if◌then◌else◌}
use Rattle.std.specs.Char.{len_utf8}
use Rattle.std.specs.Str.{chars, is_utf8, IsUtf8, all_scalars, encode_utf8_all}
use Rattle.std.proofs.lemmas.Str.{encodes-chars, scalars-chars, chars_from_encodes, encodes-append, is_utf8-from_IsUtf8}
use Rattle.std.proofs.lemmas.Bool.{and_parts}
use lib.Utf8.{scalar}
use Rattle.unicode_ident.specs.Ident.{is_xid_continue}
use Rattle.usd_names.specs.Names.{goes_on, spells_joined}
use Rattle.usda_lexer.specs.Names.{name_end, name_len}
use Rattle.value_texts.proofs.Pieces.{front as front_of, back as behind_front}
use Rattle.value_texts.proofs.NameTokens.{one_wider, width}

-- characters in front that are a name, up to a place
pub record IsName (begun : Bool) (n end : ℕ) (cs : List ℕ) : Type 0 where
  pub front : List ℕ
  pub back : List ℕ
  pub all : cs ≡ front ++ back
  pub joined : spells_joined begun front ≡ true
  pub at : end ≡ n + width front

-- a character more before them
with_first : (begun next : Bool) (n end c : ℕ) (cs : List ℕ) → ((front : List ℕ) → spells_joined next front ≡ true → spells_joined begun (c ∷ front) ≡ true) → IsName next (n + len_utf8 c) end cs → IsName begun n end (c ∷ cs)
with_first begun next n end c cs on is = record {
  front = c ∷ is.front;
  back = is.back;
  all = ap (λ t. c ∷ t) is.all;
  joined = on is.front is.joined;
  at = is.at ∙ one_wider c is.front n;
}

-- the character alone
alone : (begun : Bool) (n end c : ℕ) (cs : List ℕ) → spells_joined begun (c ∷ []) ≡ true → end ≡ n + len_utf8 c → IsName begun n end (c ∷ cs)
alone begun n end c cs is at = record { front = c ∷ []; back = cs; all = refl; joined = is; at = at ∙ (let e : n + len_utf8 c + 0 ≡ n + width (c ∷ []) = one_wider c [] n in omega (arith, e)) }

joins : (begun : Bool) (c : ℕ) → (begun && c == 58) ≡ true → (front : List ℕ) → spells_joined false front ≡ true → spells_joined begun (c ∷ front) ≡ true
joins true c e front h = ap (λ b. if b then spells_joined false front else (is_xid_continue c && spells_joined true front)) e ∙ h
joins false c e front h = absurd cc

goes : (begun : Bool) (c : ℕ) → (begun && c == 58) ≡ false → goes_on begun c ≡ true → (front : List ℕ) → spells_joined true front ≡ true → spells_joined begun (c ∷ front) ≡ true
goes true c e g front h = ap (λ b. if b then spells_joined false front else (is_xid_continue c && spells_joined true front)) e ∙ ap (λ b. b && spells_joined true front) g ∙ h
goes false c e g front h = ap (λ b. b && spells_joined true front) g ∙ h

abbrev EndsAt : Bool → ℕ → ℕ → ℕ → List ℕ → Type 0
EndsAt begun end n r cs = (r ≡ end) ⊎ IsName begun n r cs

ended : (begun : Bool) (end n : ℕ) (cs : List ℕ) → EndsAt begun end n (name_end begun end n cs) cs
ended begun end n [] = inl refl
ended begun end n (c ∷ cs) =
    cases (begun && c == 58) refl (goes_on begun c) refl (ended false end (n + len_utf8 c) cs) (ended true (n + len_utf8 c) (n + len_utf8 c) cs)
  where
    result : Bool → Bool → ℕ
    result a b = elim a [
      | true ↦ name_end false end (n + len_utf8 c) cs
      | false ↦ elim b [ true ↦ name_end true (n + len_utf8 c) (n + len_utf8 c) cs | false ↦ end ]
    ]

    colon : (begun && c == 58) ≡ true → EndsAt false end (n + len_utf8 c) (name_end false end (n + len_utf8 c) cs) cs → EndsAt begun end n (name_end false end (n + len_utf8 c) cs) (c ∷ cs)
    colon e (inl same) = inl same
    colon e (inr is) = inr (with_first begun false n (name_end false end (n + len_utf8 c) cs) c cs (joins begun c e) is)

    more : (begun && c == 58) ≡ false → goes_on begun c ≡ true → EndsAt true (n + len_utf8 c) (n + len_utf8 c) (name_end true (n + len_utf8 c) (n + len_utf8 c) cs) cs
        → EndsAt begun end n (name_end true (n + len_utf8 c) (n + len_utf8 c) cs) (c ∷ cs)
    more e g (inl same) = inr (alone begun n (name_end true (n + len_utf8 c) (n + len_utf8 c) cs) c cs (goes begun c e g [] refl) same)
    more e g (inr is) = inr (with_first begun true n (name_end true (n + len_utf8 c) (n + len_utf8 c) cs) c cs (goes begun c e g) is)

    cases : (a : Bool) → (begun && c == 58) ≡ a → (b : Bool) → goes_on begun c ≡ b → EndsAt false end (n + len_utf8 c) (name_end false end (n + len_utf8 c) cs) cs
        → EndsAt true (n + len_utf8 c) (n + len_utf8 c) (name_end true (n + len_utf8 c) (n + len_utf8 c) cs) cs → EndsAt begun end n (name_end begun end n (c ∷ cs)) (c ∷ cs)
    cases true e b f p q = subst (λ r. EndsAt begun end n r (c ∷ cs)) (sym (ap (λ a. result a (goes_on begun c)) e)) (colon e p)
    cases false e true f p q = subst (λ r. EndsAt begun end n r (c ∷ cs)) (sym (ap (λ a. result a (goes_on begun c)) e ∙ ap (result false) f)) (more e f q)
    cases false e false f p q = subst (λ r. EndsAt begun end n r (c ∷ cs)) (sym (ap (λ a. result a (goes_on begun c)) e ∙ ap (result false) f)) (inl refl)

-- ---- the bytes of a name

scalars_parts : (cs ds : List ℕ) → all_scalars (cs ++ ds) ≡ true → (all_scalars cs ≡ true) × (all_scalars ds ≡ true)
scalars_parts [] ds h = (refl, h)
scalars_parts (c ∷ cs) ds h =
    let p = and_parts (scalar c) (all_scalars (cs ++ ds)) h in
    let q = scalars_parts cs ds p.1 in
    (ap (λ b. b && all_scalars cs) p.0 ∙ q.0, q.1)

-- a name in front: it is UTF-8, it is a name, and what stands behind it is UTF-8
pub record IsNameInFront (bytes : List ℕ) (n : ℕ) : Type 0 where
  pub utf8 : is_utf8 (take n bytes) ≡ true
  pub joined : spells_joined false (chars (take n bytes)) ≡ true
  pub behind : IsUtf8 (drop n bytes)

in_front : (bytes : List ℕ) (n : ℕ) → IsUtf8 bytes → IsName false 0 n (chars bytes) → IsNameInFront bytes n
in_front bytes n u is =
    let scalars = scalars_parts is.front is.back (ap all_scalars (sym is.all) ∙ scalars-chars bytes u) in
    let front : IsUtf8 (encode_utf8_all is.front) = (is.front, (scalars.0, refl)) in
    let back : IsUtf8 (encode_utf8_all is.back) = (is.back, (scalars.1, refl)) in
    let whole : bytes ≡ encode_utf8_all is.front ++ encode_utf8_all is.back = sym (encodes-chars bytes u) ∙ ap encode_utf8_all is.all ∙ encodes-append is.front is.back in
    let size : n ≡ length (encode_utf8_all is.front) = is.at ∙ (let e : 0 + width is.front ≡ width is.front = omega arith in e) in
    let taken : take n bytes ≡ encode_utf8_all is.front = ap (take n) whole ∙ ap (λ k. take k (encode_utf8_all is.front ++ encode_utf8_all is.back)) size ∙ front_of (encode_utf8_all is.front) (encode_utf8_all is.back) in
    let left : drop n bytes ≡ encode_utf8_all is.back = ap (drop n) whole ∙ ap (λ k. drop k (encode_utf8_all is.front ++ encode_utf8_all is.back)) size ∙ behind_front (encode_utf8_all is.front) (encode_utf8_all is.back) in
    record {
      utf8 = ap is_utf8 taken ∙ is_utf8-from_IsUtf8 (encode_utf8_all is.front) front;
      joined = ap (λ t. spells_joined false (chars t)) taken ∙ ap (spells_joined false) (sym (chars_from_encodes is.front (encode_utf8_all is.front) front refl)) ∙ is.joined;
      behind = subst IsUtf8 (sym left) back;
    }

pub name_in_front : (bytes : List ℕ) → IsUtf8 bytes → (name_len bytes == 0) ≡ false → IsNameInFront bytes (name_len bytes)
name_in_front bytes u some = by (ended false 0 0 (chars bytes))
  where
    by : EndsAt false 0 0 (name_len bytes) (chars bytes) → IsNameInFront bytes (name_len bytes)
    by (inl none) = absurd (let e : true ≡ false = sym (ap (λ k. k == 0) none) ∙ some in cc)
    by (inr is) = in_front bytes (name_len bytes) u is
