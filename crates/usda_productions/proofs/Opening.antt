-- Forms opened by choices, up to the word that takes a token.
use Rattle.std.proofs.Common.{◌≡◌, ℕ, zero, suc, ◌≤◌, ◌⊎◌, inl, inr, Bool, true, false, ◌&&◌, ◌||◌, List, [], ◌∷◌, ◌++◌, length, Option, Some, None, refl, ap, sym, subst, ◌∙◌, append_assoc, arith}
use Rattle.std.proofs.lemmas.Bool.{and_parts}
use Rattle.usda_grammar.specs.declared.kinds.WordKind.{WordKind}
use Rattle.usda_grammar.specs.declared.kinds.WordKind.TheVariants as token
use Rattle.usda_grammar.specs.declared.symbols.Symbol.{Symbol}
use Rattle.usda_productions.specs.Tokens.{is}
use Rattle.usda_productions.specs.Forms.{Rule, root_statement, head_item, sublayer_list, sublayer, offset_item, prim, prim_item, edited_field, field, string_list, path_list, reference_list, reference, statement, variant_set, variant, relationship, after_reorder, after_edit, after_edited_custom, after_edited_variability, after_custom, after_variability, after_dot, edited_dot, sample, property_item, value, dictionary, entry, name_list, Form, one, rule, either, maybe, many, more, commas, Seq, nil, then, list_of, just}
use Rattle.usda_productions.specs.Rules.{rules}
use Rattle.usda_productions.specs.Texts.{Choice, left, right, opened}
use Rattle.usda_productions.proofs.Ways.{absent, absent_seq, absent_all, Way, Ways, both_ways, all_before, before, if_absent, ways_in, ways_opened, if_same, ways_by, ways}

-- the first of these forms are opened by these choices, one after another
abbrev pub Opens : List Choice → List Form → List Form → Type 0
Opens [] fs to = fs ≡ to
Opens (c ∷ cs) [] to = ⊥
Opens (c ∷ cs) (f ∷ fs) to = (gs : List Form) × (opened c f ≡ Some gs) × Opens cs (gs ++ fs) to

abbrev pub OpenTo : List Form → List Form → Type 0
OpenTo fs to = (cs : List Choice) × Opens cs fs to

one_of : (a b : Bool) → (a || b) ≡ true → (a ≡ true) ⊎ (b ≡ true)
one_of true b e = inl refl
one_of false b e = inr e

or_true : (a : Bool) → (a || true) ≡ true
or_true true = refl
or_true false = refl

-- ---- absent forms

absent_list : (s : Seq) → absent_all (list_of s) ≡ absent_seq s
absent_list nil = refl
absent_list (then f s) = ap (λ (b : Bool). absent f && b) (absent_list s)

-- a form that may be absent is opened to nothing
mutual
  absent_opens : (f : Form) → absent f ≡ true → (gs to : List Form) → OpenTo gs to → OpenTo (f ∷ gs) to
  absent_opens (one s test) e gs to h = absurd cc
  absent_opens (rule r) e gs to h = absurd cc
  absent_opens (either a b) e gs to h = elim (one_of (absent_seq a) (absent_seq b) e) [
    | inl x ↦ let t = absent_seq_opens a x gs to h in (left ∷ t.0, (list_of a, refl, t.1))
    | inr x ↦ let t = absent_seq_opens b x gs to h in (right ∷ t.0, (list_of b, refl, t.1))
  ]
  absent_opens (maybe a) e gs to (cs, h) = (left ∷ cs, ([], refl, h))
  absent_opens (many a) e gs to (cs, h) = (left ∷ cs, ([], refl, h))
  absent_opens (more next behind a k) e gs to h = absurd cc

  absent_seq_opens : (s : Seq) → absent_seq s ≡ true → (gs to : List Form) → OpenTo gs to → OpenTo (list_of s ++ gs) to
  absent_seq_opens nil e gs to h = h
  absent_seq_opens (then f s) e gs to h = let b = and_parts (absent f) (absent_seq s) e in absent_opens f b.0 (list_of s ++ gs) to (absent_seq_opens s b.1 gs to h)

pub skipped : (f : Form) → absent f ≡ true → (gs : List Form) → OpenTo (f ∷ gs) gs
skipped f e gs = absent_opens f e gs gs ([], refl)

rule_firm : (r : Rule) → absent_all (list_of (rules r)) ≡ false
rule_firm root_statement = refl
rule_firm head_item = refl
rule_firm sublayer_list = refl
rule_firm sublayer = refl
rule_firm offset_item = refl
rule_firm (prim s) = refl
rule_firm prim_item = refl
rule_firm edited_field = refl
rule_firm (field s) = refl
rule_firm string_list = refl
rule_firm path_list = refl
rule_firm reference_list = refl
rule_firm (reference s) = refl
rule_firm statement = refl
rule_firm variant_set = refl
rule_firm variant = refl
rule_firm (relationship s) = refl
rule_firm after_reorder = refl
rule_firm after_edit = refl
rule_firm after_edited_custom = refl
rule_firm after_edited_variability = refl
rule_firm after_custom = refl
rule_firm after_variability = refl
rule_firm after_dot = refl
rule_firm edited_dot = refl
rule_firm sample = refl
rule_firm property_item = refl
rule_firm (value s) = refl
rule_firm (dictionary s) = refl
rule_firm entry = refl
rule_firm name_list = refl

-- what opens to absent forms may be absent
opened_absent : (c : Choice) (f : Form) (gs : List Form) → opened c f ≡ Some gs → absent_all gs ≡ true → absent f ≡ true
opened_absent c (one s test) gs e all = absurd cc
opened_absent left (rule r) gs e all = let g : list_of (rules r) ≡ gs = cc in absurd (let h : false ≡ true = sym (rule_firm r) ∙ ap absent_all g ∙ all in cc)
opened_absent right (rule r) gs e all = absurd cc
opened_absent left (either a b) gs e all = let g : list_of a ≡ gs = cc in let h : absent_seq a ≡ true = sym (absent_list a) ∙ ap absent_all g ∙ all in rw h refl
opened_absent right (either a b) gs e all = let g : list_of b ≡ gs = cc in let h : absent_seq b ≡ true = sym (absent_list b) ∙ ap absent_all g ∙ all in rw h (or_true (absent_seq a))
opened_absent c (maybe a) gs e all = refl
opened_absent c (many a) gs e all = refl
opened_absent left (more next behind a k) gs e all = let g : one behind (is k) ∷ [] ≡ gs = cc in absurd (let h : false ≡ true = ap absent_all g ∙ all in cc)
opened_absent right (more next behind a k) gs e all = let g : one behind (is token.Comma) ∷ either (just (one next (is k))) (commas next behind a k) ∷ [] ≡ gs = cc in absurd (let h : false ≡ true = ap absent_all g ∙ all in cc)

all_both : (gs fs : List Form) → absent_all (gs ++ fs) ≡ true → (absent_all gs ≡ true) × (absent_all fs ≡ true)
all_both [] fs e = (refl, e)
all_both (g ∷ gs) fs e = let b = and_parts (absent g) (absent_all (gs ++ fs)) e in let d = all_both gs fs b.1 in (ap (λ (x : Bool). x && absent_all gs) b.0 ∙ d.0, d.1)

-- what is opened to nothing may be absent
pub nothing_left : (cs : List Choice) (fs : List Form) → Opens cs fs [] → absent_all fs ≡ true
nothing_left [] fs h = ap absent_all h
nothing_left (c ∷ cs) [] h = absurd h
nothing_left (c ∷ cs) (f ∷ fs) (gs, op, h) =
    let b = all_both gs fs (nothing_left cs (gs ++ fs) h) in
    ap (λ (x : Bool). x && absent_all fs) (opened_absent c f gs op b.0) ∙ b.1

-- ---- ways

abbrev pub IsIn : Way → List Way → Type 0
IsIn r [] = ⊥
IsIn r (x ∷ xs) = (x ≡ r) ⊎ IsIn r xs

in_left : (r : Way) (xs ys : List Way) → IsIn r xs → IsIn r (xs ++ ys)
in_left r [] ys h = absurd h
in_left r (x ∷ xs) ys (inl e) = inl e
in_left r (x ∷ xs) ys (inr h) = inr (in_left r xs ys h)

in_right : (r : Way) (xs ys : List Way) → IsIn r ys → IsIn r (xs ++ ys)
in_right r [] ys h = h
in_right r (x ∷ xs) ys h = inr (in_right r xs ys h)

in_either : (r : Way) (xs ys : List Way) → IsIn r (xs ++ ys) → IsIn r xs ⊎ IsIn r ys
in_either r [] ys h = inr h
in_either r (x ∷ xs) ys (inl e) = inl (inl e)
in_either r (x ∷ xs) ys (inr h) = elim (in_either r xs ys h) [ inl a ↦ inl (inr a) | inr b ↦ inr b ]

in_before : (s : Symbol) (r fs : List Form) (xs : List Way) → IsIn (s, r) xs → IsIn (s, r ++ fs) (all_before fs xs)
in_before s r fs [] h = absurd h
in_before s r fs (x ∷ xs) (inl e) = inl (ap (λ (y : Way). (y.0, y.1 ++ fs)) e)
in_before s r fs (x ∷ xs) (inr h) = inr (in_before s r fs xs h)

from_before : (r : Way) (fs : List Form) (xs : List Way) → IsIn r (all_before fs xs) → (q : Way) × IsIn q xs × ((q.0, q.1 ++ fs) ≡ r)
from_before r fs [] h = absurd h
from_before r fs (x ∷ xs) (inl e) = (x, inl refl, e)
from_before r fs (x ∷ xs) (inr h) = let q = from_before r fs xs h in (q.0, inr q.1, q.2)

-- the two parts of the ways
record Parts (a b : Ways) (rs : List Way) : Type 0 where
  pub xs : List Way
  pub ys : List Way
  pub first : a ≡ Some xs
  pub second : b ≡ Some ys
  pub same : xs ++ ys ≡ rs

parts : (a b : Ways) (rs : List Way) → both_ways a b ≡ Some rs → Parts a b rs
parts (Some xs) (Some ys) rs e = record { xs = xs; ys = ys; first = refl; second = refl; same = cc }
parts (Some xs) None rs e = absurd cc
parts None b rs e = absurd cc

before_parts : (fs : List Form) (w : Ways) (rs : List Way) → before fs w ≡ Some rs → (xs : List Way) × (w ≡ Some xs) × (all_before fs xs ≡ rs)
before_parts fs None rs e = absurd cc
before_parts fs (Some xs) rs e = (xs, refl, cc)

-- a form that is opened is no word
opened_ways : (w : Form → WordKind → Ways) (c : Choice) (f : Form) (fs : List Form) (k : WordKind) → opened c f ≡ Some fs → ways_by w f k ≡ both_ways (ways_opened w (opened left f) k) (ways_opened w (opened right f) k)
opened_ways w c (one s test) fs k e = absurd cc
opened_ways w c f fs k e = refl

-- ---- by a way of a form it is opened to a word that takes the token

abbrev pub Reaches : List Form → WordKind → Symbol → List Form → Type 0
Reaches fs k s behind = (test : WordKind → Bool) × (test k ≡ true) × OpenTo fs (one s test ∷ behind)

abbrev WaysReach : (Form → WordKind → Ways) → Type 0
WaysReach w = (f : Form) (k : WordKind) (rs : List Way) → w f k ≡ Some rs → (r : Way) → IsIn r rs → (gs : List Form) → Reaches (f ∷ gs) k r.0 (r.1 ++ gs)

none_in : (r : Way) (rs : List Way) → if_absent false None ≡ Some rs → IsIn r rs → ⊥
none_in r rs e is_in = let f : [] ≡ rs = cc in subst (IsIn r) (sym f) is_in

ways_in_reach : (w : Form → WordKind → Ways) → WaysReach w → (fs : List Form) (k : WordKind) (rs : List Way) → ways_in w fs k ≡ Some rs → (r : Way) → IsIn r rs → (gs : List Form) → Reaches (fs ++ gs) k r.0 (r.1 ++ gs)
ways_in_reach w at [] k rs e r is_in gs = absurd (none_in r rs e is_in)
ways_in_reach w at (f ∷ fs) k rs e r is_in gs =
    let p = parts (before fs (w f k)) (if_absent (absent f) (ways_in w fs k)) rs e in
    elim (in_either r p.xs p.ys (subst (IsIn r) (sym p.same) is_in)) [
      | inl x ↦ first p.xs p.first x
      | inr x ↦ later (λ ys e is_in. ways_in_reach w at fs k ys e r is_in gs) (absent f) refl p.ys p.second x
    ]
  where
    first : (xs : List Way) → before fs (w f k) ≡ Some xs → IsIn r xs → Reaches (f ∷ fs ++ gs) k r.0 (r.1 ++ gs)
    first xs e is_in =
        let b = before_parts fs (w f k) xs e in
        let q = from_before r fs b.0 (subst (IsIn r) (sym b.2) is_in) in
        let there = at f k b.0 b.1 q.0 q.1 (fs ++ gs) in
        subst (λ (y : Way). Reaches (f ∷ fs ++ gs) k y.0 (y.1 ++ gs)) q.2
        (subst (λ (l : List Form). Reaches (f ∷ fs ++ gs) k q.0.0 l) (sym (append_assoc q.0.1 fs gs)) there)

    later : ((ys : List Way) → ways_in w fs k ≡ Some ys → IsIn r ys → Reaches (fs ++ gs) k r.0 (r.1 ++ gs)) → (b : Bool) → absent f ≡ b → (ys : List Way) → if_absent b (ways_in w fs k) ≡ Some ys → IsIn r ys → Reaches (f ∷ fs ++ gs) k r.0 (r.1 ++ gs)
    later deeper true absent_f ys e is_in = let t = deeper ys e is_in in (t.0, t.1, absent_opens f absent_f (fs ++ gs) (one r.0 t.0 ∷ r.1 ++ gs) t.2)
    later deeper false absent_f ys e is_in = absurd (none_in r ys e is_in)

word_reaches : (s : Symbol) (test : WordKind → Bool) (k : WordKind) (b : Bool) → test k ≡ b → (rs : List Way) → if_same s b ≡ Some rs → (r : Way) → IsIn r rs → (gs : List Form) → Reaches (one s test ∷ gs) k r.0 (r.1 ++ gs)
word_reaches s test k false eq rs e r is_in gs = absurd (none_in r rs e is_in)
word_reaches s test k true eq rs e r is_in gs =
    let g : (s, []) ∷ [] ≡ rs = cc in
    elim (subst (IsIn r) (sym g) is_in) [
      | inl x ↦ subst (λ (y : Way). Reaches (one s test ∷ gs) k y.0 (y.1 ++ gs)) x (test, eq, ([], refl))
      | inr x ↦ absurd x
    ]

opened_reaches : (w : Form → WordKind → Ways) → WaysReach w → (c : Choice) (f : Form) (k : WordKind) (o : Option (List Form)) → opened c f ≡ o → (rs : List Way) → ways_opened w o k ≡ Some rs → (r : Way) → IsIn r rs → (gs : List Form) → Reaches (f ∷ gs) k r.0 (r.1 ++ gs)
opened_reaches w at c f k None op rs e r is_in gs = absurd (none_in r rs e is_in)
opened_reaches w at c f k (Some fs) op rs e r is_in gs = let t = ways_in_reach w at fs k rs e r is_in gs in (t.0, t.1, (c ∷ t.2.0, (fs, op, t.2.1)))

either_reaches : (w : Form → WordKind → Ways) → WaysReach w → (f : Form) (k : WordKind) (rs : List Way) → both_ways (ways_opened w (opened left f) k) (ways_opened w (opened right f) k) ≡ Some rs → (r : Way) → IsIn r rs → (gs : List Form) → Reaches (f ∷ gs) k r.0 (r.1 ++ gs)
either_reaches w at f k rs e r is_in gs =
    let p = parts (ways_opened w (opened left f) k) (ways_opened w (opened right f) k) rs e in
    elim (in_either r p.xs p.ys (subst (IsIn r) (sym p.same) is_in)) [
      | inl x ↦ opened_reaches w at left f k (opened left f) refl p.xs p.first r x gs
      | inr x ↦ opened_reaches w at right f k (opened right f) refl p.ys p.second r x gs
    ]

ways_by_reach : (w : Form → WordKind → Ways) → WaysReach w → WaysReach (ways_by w)
ways_by_reach w at (one s test) k rs e r is_in gs = word_reaches s test k (test k) refl rs e r is_in gs
ways_by_reach w at f k rs e r is_in gs = either_reaches w at f k rs e r is_in gs

pub ways_reach : (n : ℕ) → WaysReach (ways n)
ways_reach zero f k rs e r is_in gs = absurd cc
ways_reach (suc n) f k rs e r is_in gs = ways_by_reach (ways n) (ways_reach n) f k rs e r is_in gs

-- ---- what is opened to a word that takes the token is opened by a way

-- by a way the form is opened to the word, or the form is absent and what stands behind it is opened so
abbrev pub Out : List Way → Bool → List Form → Symbol → (WordKind → Bool) → List Form → ℕ → Type 0
Out rs b gs s test behind most = ((r : List Form) × IsIn (s, r) rs × (behind ≡ r ++ gs)) ⊎ ((b ≡ true) × (cs : List Choice) × (length cs ≤ most) × Opens cs gs (one s test ∷ behind))

abbrev Claim : ℕ → Type 0
Claim most = (n : ℕ) (f : Form) (gs : List Form) (k : WordKind) (s : Symbol) (test : WordKind → Bool) (behind : List Form) (rs : List Way) (cs : List Choice) → length cs ≤ most → test k ≡ true → ways n f k ≡ Some rs → Opens cs (f ∷ gs) (one s test ∷ behind) → Out rs (absent f) gs s test behind most

claim_in : (most : ℕ) → Claim most → (n : ℕ) (fs gs : List Form) (k : WordKind) (s : Symbol) (test : WordKind → Bool) (behind : List Form) (rs : List Way) (cs : List Choice) → length cs ≤ most → test k ≡ true → ways_in (ways n) fs k ≡ Some rs → Opens cs (fs ++ gs) (one s test ∷ behind) → Out rs (absent_all fs) gs s test behind most
claim_in most c n [] gs k s test behind rs cs le holds e h = inr (refl, cs, le, h)
claim_in most c n (f ∷ fs) gs k s test behind rs cs le holds e h =
    let ps = parts (before fs (ways n f k)) (if_absent (absent f) (ways_in (ways n) fs k)) rs e in
    let b = before_parts fs (ways n f k) ps.xs ps.first in
    elim (c n f (fs ++ gs) k s test behind b.0 cs le holds b.1 h) [
      | inl x ↦ inl (x.0 ++ fs, subst (IsIn (s, x.0 ++ fs)) ps.same (in_left (s, x.0 ++ fs) ps.xs ps.ys (subst (IsIn (s, x.0 ++ fs)) b.2 (in_before s x.0 fs b.0 x.1))), x.2 ∙ sym (append_assoc x.0 fs gs))
      | inr x ↦
          let w : ways_in (ways n) fs k ≡ Some ps.ys = ap (λ (b : Bool). if_absent b (ways_in (ways n) fs k)) (sym x.0) ∙ ps.second in
          elim (claim_in most c n fs gs k s test behind ps.ys x.1 x.2 holds w x.3) [
            | inl y ↦ inl (y.0, subst (IsIn (s, y.0)) ps.same (in_right (s, y.0) ps.xs ps.ys y.1), y.2)
            | inr y ↦ inr (ap (λ (b : Bool). b && absent_all fs) x.0 ∙ y.0, y.1, y.2, y.3)
          ]
    ]

-- the form is the word itself
claim_word : (most n : ℕ) (f : Form) (gs : List Form) (k : WordKind) (s : Symbol) (test : WordKind → Bool) (behind : List Form) (rs : List Way) → test k ≡ true → ways n f k ≡ Some rs → f ∷ gs ≡ one s test ∷ behind → Out rs (absent f) gs s test behind most
claim_word most zero f gs k s test behind rs holds e h = absurd cc
claim_word most (suc n) f gs k s test behind rs holds e h =
    let same : f ≡ one s test = cc in
    let after : gs ≡ behind = cc in
    let taken : if_same s true ≡ Some rs = ap (if_same s) (sym holds) ∙ ap (λ (x : Form). ways (suc n) x k) (sym same) ∙ e in
    let g : (s, []) ∷ [] ≡ rs = cc in
    inl ([], subst (IsIn (s, [])) g (inl refl), sym after)

-- the form is opened by a choice first
claim_opened : (most : ℕ) → Claim most → (n : ℕ) (f : Form) (gs : List Form) (k : WordKind) (s : Symbol) (test : WordKind → Bool) (behind : List Form) (rs : List Way) (ch : Choice) (cs : List Choice) → suc (length cs) ≤ suc most → test k ≡ true → ways n f k ≡ Some rs → Opens (ch ∷ cs) (f ∷ gs) (one s test ∷ behind) → Out rs (absent f) gs s test behind (suc most)
claim_opened most c zero f gs k s test behind rs ch cs le holds e h = absurd cc
claim_opened most c (suc n) f gs k s test behind rs ch cs le holds e (fs, op, h) =
    let ps = parts (ways_opened (ways n) (opened left f) k) (ways_opened (ways n) (opened right f) k) rs (sym (opened_ways (ways n) ch f fs k op) ∙ e) in
    side ch op ps
  where
    out : (xs : List Way) → ((r : Way) → IsIn r xs → IsIn r rs) → (d : Choice) → opened d f ≡ Some fs → ways_in (ways n) fs k ≡ Some xs → Out rs (absent f) gs s test behind (suc most)
    out xs into d op w = elim (claim_in most c n fs gs k s test behind xs cs (omega (arith, le)) holds w h) [
      | inl x ↦ inl (x.0, into (s, x.0) x.1, x.2)
      | inr x ↦ inr (opened_absent d f fs op x.0, x.1, omega (arith, x.2), x.3)
    ]

    side : (d : Choice) → opened d f ≡ Some fs → Parts (ways_opened (ways n) (opened left f) k) (ways_opened (ways n) (opened right f) k) rs → Out rs (absent f) gs s test behind (suc most)
    side left op ps = out ps.xs (λ r i. subst (IsIn r) ps.same (in_left r ps.xs ps.ys i)) left op (ap (λ (o : Option (List Form)). ways_opened (ways n) o k) (sym op) ∙ ps.first)
    side right op ps = out ps.ys (λ r i. subst (IsIn r) ps.same (in_right r ps.xs ps.ys i)) right op (ap (λ (o : Option (List Form)). ways_opened (ways n) o k) (sym op) ∙ ps.second)

pub claim : (most : ℕ) → Claim most
claim most n f gs k s test behind rs [] le holds e h = claim_word most n f gs k s test behind rs holds e h
claim zero n f gs k s test behind rs (ch ∷ cs) le holds e h = absurd (omega arith)
claim (suc most) n f gs k s test behind rs (ch ∷ cs) le holds e h = claim_opened most (claim most) n f gs k s test behind rs ch cs le holds e h
