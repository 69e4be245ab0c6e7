-- A step of the machine, by what its stack tells of prims and variants.
use Rattle.std.proofs.Common.{◌≡◌, ◌∙◌, ◌+◌, ◌<◌, ◌≤◌, Bool, true, false, not, ◌&&◌, ◌||◌, List, [], ◌∷◌, ◌++◌, Option, Some, None, refl, ap, sym, subst, arith}
use Rattle.std.proofs.Math.Dec.{eqb, leb}
use Rattle.std.proofs.lemmas.Bool.{eqb-true, leb-true}
use Rattle.std.proofs.Math.Bool.{or-false}
use Rattle.std.proofs.lemmas.Option.{same_Some}
use Rattle.usda_grammar.proofs.AllKinds.{front, back}
use Rattle.usda_grammar.specs.Machine.{step, choose, is_done}
use Rattle.usda_grammar.specs.Table.{starts, may_be_absent}
use Rattle.usda_grammar.specs.declared.kinds.WordKind.{WordKind}
use Rattle.usda_grammar.specs.declared.kinds.WordKind.TheVariants as token
use Rattle.usda_grammar.specs.declared.symbols.Symbol.{Symbol}
use Rattle.usda_grammar.specs.declared.symbols.Symbol.TheVariants as symbol
use Rattle.trees_read.specs.Stacks.{is_end, end_of, ends, has_end, name_of, names, variant_of, is_in_body, are_held, AreBalanced, awaits_body, is_name, have_bodies, is_opening}
use Rattle.trees_read.proofs.Rows.{are_balanced, is_kept_after, rows}

-- ---- symbols that may be absent

absent_end : (s : Symbol) → may_be_absent s ≡ true → is_end s ≡ false
absent_end symbol.BodyEnd h = absurd cc
absent_end s h = refl

absent_ends : (s : Symbol) → may_be_absent s ≡ true → end_of s ≡ 0
absent_ends symbol.BodyEnd h = absurd cc
absent_ends s h = refl

absent_names : (s : Symbol) → may_be_absent s ≡ true → name_of s ≡ 0
absent_names symbol.PrimName h = absurd cc
absent_names s h = refl

-- ---- rows

pub record IsRow (s : Symbol) (after : List Symbol) : Type 0 where
  pub counted : names after + variant_of s ≡ ends after
  pub held : are_held (is_in_body s) after ≡ true
  pub balanced : AreBalanced after
  pub bodies : have_bodies after ≡ true

balanced-from : (stack : List Symbol) → are_balanced stack ≡ true → AreBalanced stack
balanced-from [] h = tt
balanced-from (s ∷ stack) h =
    (leb-true (names (s ∷ stack)) (ends (s ∷ stack)) (front (leb (names (s ∷ stack)) (ends (s ∷ stack))) (are_balanced stack) h), balanced-from stack (back (leb (names (s ∷ stack)) (ends (s ∷ stack))) (are_balanced stack) h))

row-from : (s : Symbol) (o : Option (List Symbol)) (after : List Symbol) → o ≡ Some after → is_kept_after s o ≡ true → IsRow s after
row-from s None after e h = absurd cc
row-from s (Some x) after e h =
    let same : x ≡ after = cc in
    let rest : (are_held (is_in_body s) x && (are_balanced x && have_bodies x)) ≡ true = back (eqb (names x + variant_of s) (ends x)) (are_held (is_in_body s) x && (are_balanced x && have_bodies x)) h in
    let more : (are_balanced x && have_bodies x) ≡ true = back (are_held (is_in_body s) x) (are_balanced x && have_bodies x) rest in
    subst (λ (y : List Symbol). IsRow s y) same
    (record {
      counted = eqb-true (names x + variant_of s) (ends x) (front (eqb (names x + variant_of s) (ends x)) (are_held (is_in_body s) x && (are_balanced x && have_bodies x)) h);
      held = front (are_held (is_in_body s) x) (are_balanced x && have_bodies x) rest;
      balanced = balanced-from x (front (are_balanced x) (have_bodies x) more);
      bodies = back (are_balanced x) (have_bodies x) more;
    })

pub row_at : (s : Symbol) (k : WordKind) (after : List Symbol) → starts s k ≡ Some after → IsRow s after
row_at s k after e = row-from s (starts s k) after e (rows s k)

-- ---- the symbol that takes a word, and what it leaves

pub record Took (stack : List Symbol) (k : WordKind) (s : Symbol) (after : List Symbol) : Type 0 where
  pub below : List Symbol
  pub rest : List Symbol
  pub starts_it : starts s k ≡ Some rest
  pub leaves : after ≡ rest ++ below
  pub ends_of : ends stack ≡ end_of s + ends below
  pub names_of : names stack ≡ name_of s + names below
  pub end_in : has_end stack ≡ (is_end s || has_end below)
  pub held : are_held false stack ≡ true → are_held false (s ∷ below) ≡ true
  pub balanced : AreBalanced stack → AreBalanced (s ∷ below)
  pub bodies : have_bodies stack ≡ true → have_bodies (s ∷ below) ≡ true

bodies_below : (s : Symbol) (stack : List Symbol) → have_bodies (s ∷ stack) ≡ true → have_bodies stack ≡ true
bodies_below s stack h = back (not (is_name s) || awaits_body stack) (have_bodies stack) h

held_below : (s : Symbol) (stack : List Symbol) → are_held false (s ∷ stack) ≡ true → are_held false stack ≡ true
held_below s stack h = back (not (is_in_body s) || (has_end stack || false)) (are_held false stack) h

pub took : (stack : List Symbol) (k : WordKind) (s : Symbol) (after : List Symbol) → step stack k ≡ Some (s, after) → Took stack k s after
took [] k s after e = absurd cc
took (u ∷ stack) k s after e = cases (starts u k) refl (may_be_absent u) refl e (λ f. took stack k s after f)
  where
    cases : (o : Option (List Symbol)) → starts u k ≡ o → (b : Bool) → may_be_absent u ≡ b → choose u stack o b (step stack k) ≡ Some (s, after) → (step stack k ≡ Some (s, after) → Took stack k s after) → Took (u ∷ stack) k s after
    cases (Some a) is b absent f more =
        let same : (u, a ++ stack) ≡ (s, after) = same_Some (u, a ++ stack) (s, after) f in
        subst (λ (x : Symbol). Took (u ∷ stack) k x after) (ap (λ (x : Symbol × List Symbol). x.0) same)
        (record { below = stack; rest = a; starts_it = is; leaves = sym (ap (λ (x : Symbol × List Symbol). x.1) same); ends_of = refl; names_of = refl; end_in = refl; held = λ h. h; balanced = λ h. h; bodies = λ h. h })
    cases None is true absent f more =
        let t : Took stack k s after = more f in
        record {
          below = t.below;
          rest = t.rest;
          starts_it = t.starts_it;
          leaves = t.leaves;
          ends_of = omega (arith, absent_ends u absent, t.ends_of);
          names_of = omega (arith, absent_names u absent, t.names_of);
          end_in = ap (λ b. b || has_end stack) (absent_end u absent) ∙ t.end_in;
          held = λ h. t.held (held_below u stack h);
          balanced = λ h. t.balanced h.1;
          bodies = λ h. t.bodies (bodies_below u stack h);
        }
    cases None is false absent f more = absurd cc

-- ---- counts of joined stacks

ends_joined : (a b : List Symbol) → ends (a ++ b) ≡ ends a + ends b
ends_joined [] b = omega arith
ends_joined (s ∷ a) b = omega (arith, ends_joined a b)

names_joined : (a b : List Symbol) → names (a ++ b) ≡ names a + names b
names_joined [] b = omega arith
names_joined (s ∷ a) b = omega (arith, names_joined a b)

or_more : (a b c : Bool) → (a || (b || c)) ≡ ((a || b) || c)
or_more true b c = refl
or_more false b c = refl

end_joined : (a b : List Symbol) → has_end (a ++ b) ≡ (has_end a || has_end b)
end_joined [] b = refl
end_joined (s ∷ a) b = ap (λ x. is_end s || x) (end_joined a b) ∙ or_more (is_end s) (has_end a) (has_end b)

-- what is held with something below is held where that stands below
held_over : (base : Bool) (a below : List Symbol) → (base ≡ true → has_end below ≡ true) → are_held base a ≡ true → are_held false below ≡ true → are_held false (a ++ below) ≡ true
held_over base [] below some h rest = rest
held_over base (s ∷ a) below some h rest =
    both (not (is_in_body s) || (has_end (a ++ below) || false)) (are_held false (a ++ below)) (one (not (is_in_body s)) (has_end a) base some (has_end (a ++ below)) (end_joined a below) (front (not (is_in_body s) || (has_end a || base)) (are_held base a) h))
    (held_over base a below some (back (not (is_in_body s) || (has_end a || base)) (are_held base a) h) rest)
  where
    both : (x y : Bool) → x ≡ true → y ≡ true → (x && y) ≡ true
    both true y p q = q
    both false y p q = absurd cc

    one : (out inner base : Bool) → (base ≡ true → has_end below ≡ true) → (all : Bool) → all ≡ (inner || has_end below) → (out || (inner || base)) ≡ true → (out || (all || false)) ≡ true
    one true inner base some all joined h = refl
    one false true base some all joined h = or-false all ∙ joined
    one false false true some all joined h = or-false all ∙ joined ∙ some refl
    one false false false some all joined h = absurd cc

pub balanced_whole : (stack : List Symbol) → AreBalanced stack → names stack ≤ ends stack
balanced_whole [] h = omega arith
balanced_whole (s ∷ stack) h = h.0

balanced_over : (a below : List Symbol) → AreBalanced a → AreBalanced below → AreBalanced (a ++ below)
balanced_over [] below h rest = rest
balanced_over (s ∷ a) below h rest =
    let one : names (s ∷ a) ≤ ends (s ∷ a) = h.0 in
    (omega (arith, names_joined a below, ends_joined a below, balanced_whole below rest), balanced_over a below h.1 rest)

body_over : (a below : List Symbol) → awaits_body a ≡ true → awaits_body (a ++ below) ≡ true
body_over (symbol.MaybePrimMetadata ∷ symbol.OpenBrace ∷ a) below h = refl
body_over _ below h = absurd cc

bodies_over : (a below : List Symbol) → have_bodies a ≡ true → have_bodies below ≡ true → have_bodies (a ++ below) ≡ true
bodies_over [] below h rest = rest
bodies_over (s ∷ a) below h rest =
    both (not (is_name s)) (awaits_body a) (awaits_body (a ++ below)) (have_bodies (a ++ below)) (body_over a below) (front (not (is_name s) || awaits_body a) (have_bodies a) h) (bodies_over a below (back (not (is_name s) || awaits_body a) (have_bodies a) h) rest)
  where
    both : (x y z b : Bool) → (y ≡ true → z ≡ true) → (x || y) ≡ true → b ≡ true → ((x || z) && b) ≡ true
    both true y z b more h g = g
    both false y z b more h g = ap (λ c. c && b) (more h) ∙ g

-- ---- what a step keeps

pub record Stepped (stack : List Symbol) (s : Symbol) (after : List Symbol) : Type 0 where
  pub counted : names after + ends stack + variant_of s + name_of s ≡ ends after + names stack + end_of s
  pub held : are_held false stack ≡ true → are_held false after ≡ true
  pub ended : has_end stack ≡ true → is_end s ≡ false → has_end after ≡ true
  pub in_body : are_held false stack ≡ true → is_in_body s ≡ true → has_end after ≡ true
  pub balanced : AreBalanced stack → AreBalanced after
  pub closes : AreBalanced stack → is_end s ≡ true → names stack < ends stack
  pub bodies : have_bodies stack ≡ true → have_bodies after ≡ true
  pub named : have_bodies stack ≡ true → is_name s ≡ true → awaits_body after ≡ true

held_end : (s : Symbol) (below : List Symbol) → is_in_body s ≡ true → are_held false (s ∷ below) ≡ true → has_end below ≡ true
held_end s below is h = from (is_in_body s) is (has_end below) (front (not (is_in_body s) || (has_end below || false)) (are_held false below) h)
  where
    from : (b : Bool) → b ≡ true → (e : Bool) → (not b || (e || false)) ≡ true → e ≡ true
    from true is true h = refl
    from true is false h = absurd cc
    from false is e h = absurd cc

ends_one : (s : Symbol) → is_end s ≡ true → (end_of s ≡ 1) × (name_of s ≡ 0)
ends_one symbol.BodyEnd h = (refl, refl)
ends_one _ h = absurd cc

-- behind the name of a prim nothing comes before what stands below it
name_alone : (s : Symbol) (k : WordKind) (rest : List Symbol) → is_name s ≡ true → starts s k ≡ Some rest → rest ≡ []
name_alone symbol.PrimName token.Quoted rest is h = sym (same_Some [] rest h)
name_alone symbol.PrimName _ rest is h = absurd cc
name_alone _ k rest is h = absurd cc

name_body : (s : Symbol) (below : List Symbol) → is_name s ≡ true → have_bodies (s ∷ below) ≡ true → awaits_body below ≡ true
name_body s below is h = from (is_name s) is (front (not (is_name s) || awaits_body below) (have_bodies below) h)
  where
    from : (b : Bool) → b ≡ true → (not b || awaits_body below) ≡ true → awaits_body below ≡ true
    from true is h = h
    from false is h = absurd cc

end_over : (a below : List Symbol) → has_end below ≡ true → has_end (a ++ below) ≡ true
end_over a below h = end_joined a below ∙ last (has_end a) (has_end below) h
  where
    last : (x y : Bool) → y ≡ true → (x || y) ≡ true
    last true y h = refl
    last false y h = h

pub stepped : (stack : List Symbol) (k : WordKind) (s : Symbol) (after : List Symbol) → step stack k ≡ Some (s, after) → Stepped stack s after
stepped stack k s after e =
    let t : Took stack k s after = took stack k s after e in
    let row : IsRow s t.rest = row_at s k t.rest t.starts_it in
    record {
      counted = subst (λ (x : List Symbol). names x + ends stack + variant_of s + name_of s ≡ ends x + names stack + end_of s) (sym t.leaves) (omega (arith, row.counted, t.ends_of, t.names_of, ends_joined t.rest t.below, names_joined t.rest t.below));
      held = λ h. subst (λ (x : List Symbol). are_held false x ≡ true) (sym t.leaves) (held_over (is_in_body s) t.rest t.below (λ is. held_end s t.below is (t.held h)) row.held (held_below s t.below (t.held h)));
      ended = λ h other. subst (λ (x : List Symbol). has_end x ≡ true) (sym t.leaves) (end_over t.rest t.below (sym (ap (λ b. b || has_end t.below) other) ∙ sym t.end_in ∙ h));
      in_body = λ h is. subst (λ (x : List Symbol). has_end x ≡ true) (sym t.leaves) (end_over t.rest t.below (held_end s t.below is (t.held h)));
      balanced = λ h. subst AreBalanced (sym t.leaves) (balanced_over t.rest t.below row.balanced (t.balanced h).1);
      closes = λ h is. let one : (end_of s ≡ 1) × (name_of s ≡ 0) = ends_one s is in let whole : names t.below ≤ ends t.below = balanced_whole t.below (t.balanced h).1 in omega (arith, one.0, one.1, t.ends_of, t.names_of);
      bodies = λ h. subst (λ (x : List Symbol). have_bodies x ≡ true) (sym t.leaves) (bodies_over t.rest t.below row.bodies (bodies_below s t.below (t.bodies h)));
      named = λ h is. subst (λ (x : List Symbol). awaits_body x ≡ true) (sym (t.leaves ∙ ap (λ (x : List Symbol). x ++ t.below) (name_alone s k t.rest is t.starts_it))) (name_body s t.below is (t.bodies h));
    }

-- where the metadata or the body of a prim comes next, its mark is what is taken
pub opened_by : (stack : List Symbol) (k : WordKind) (s : Symbol) (after : List Symbol) → awaits_body stack ≡ true → step stack k ≡ Some (s, after) → is_opening s ≡ true
opened_by (symbol.MaybePrimMetadata ∷ symbol.OpenBrace ∷ stack) k s after h e = cases (starts symbol.MaybePrimMetadata k) (starts symbol.OpenBrace k) e
  where
    cases : (a b : Option (List Symbol)) → choose symbol.MaybePrimMetadata (symbol.OpenBrace ∷ stack) a true (choose symbol.OpenBrace stack b false (step stack k)) ≡ Some (s, after) → is_opening s ≡ true
    cases (Some a) b f = ap (λ (x : Symbol × List Symbol). is_opening x.0) (sym (same_Some (symbol.MaybePrimMetadata, a ++ symbol.OpenBrace ∷ stack) (s, after) f))
    cases None (Some b) f = ap (λ (x : Symbol × List Symbol). is_opening x.0) (sym (same_Some (symbol.OpenBrace, b ++ stack) (s, after) f))
    cases None None f = absurd cc
opened_by _ k s after h e = absurd cc

-- ---- the end

pub done_ends : (stack : List Symbol) → is_done stack ≡ true → ends stack ≡ 0
done_ends [] h = refl
done_ends (s ∷ stack) h = omega (arith, absent_ends s (front (may_be_absent s) (is_done stack) h), done_ends stack (back (may_be_absent s) (is_done stack) h))

pub done_end : (stack : List Symbol) → is_done stack ≡ true → has_end stack ≡ false
done_end [] h = refl
done_end (s ∷ stack) h = ap (λ b. b || has_end stack) (absent_end s (front (may_be_absent s) (is_done stack) h)) ∙ done_end stack (back (may_be_absent s) (is_done stack) h)
