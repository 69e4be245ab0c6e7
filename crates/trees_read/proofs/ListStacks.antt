-- A step of the machine, by what its stack tells of the list that is read.
use Rattle.std.proofs.Common.{◌≡◌, ◌∙◌, Bool, true, false, not, ◌&&◌, ◌||◌, List, [], ◌∷◌, ◌++◌, Option, Some, None, refl, ap, sym, subst}
use Rattle.std.specs.List.{list_all}
use Rattle.std.proofs.lemmas.List.Folds.{list_any-append}
use Rattle.std.proofs.lemmas.Bool.{and_from, or_right}
use Rattle.std.proofs.Math.Bool.{or-false}
use Rattle.std.proofs.lemmas.Option.{same_Some}
use Rattle.usda_grammar.proofs.AllKinds.{front, back}
use Rattle.usda_grammar.specs.Machine.{step, choose, is_done}
use Rattle.usda_grammar.specs.Table.{starts, may_be_absent}
use Rattle.usda_grammar.specs.declared.kinds.WordKind.{WordKind}
use Rattle.usda_grammar.specs.declared.symbols.Symbol.{Symbol}
use Rattle.usda_grammar.specs.declared.symbols.Symbol.TheVariants as symbol
use Rattle.value_texts.proofs.Tests.{implied, other_holds}
use Rattle.trees_read.proofs.ListRows.{Part, none, begun, brackets, sublayers, part_of, or_part, part, is_none, is_of_item, has_item, is_light, has_parts, are_on_top, begins_list, is_list_after, list_rows}

-- ---- parts

or_none : (p : Part) → or_part p none ≡ p
or_none none = refl
or_none begun = refl
or_none brackets = refl
or_none sublayers = refl

or_more : (p q r : Part) → or_part p (or_part q r) ≡ or_part (or_part p q) r
or_more none q r = refl
or_more begun q r = refl
or_more brackets q r = refl
or_more sublayers q r = refl

part_joined : (a b : List Symbol) → part (a ++ b) ≡ or_part (part a) (part b)
part_joined [] b = refl
part_joined (s ∷ a) b = ap (or_part (part_of s)) (part_joined a b) ∙ or_more (part_of s) (part a) (part b)

item_joined : (a b : List Symbol) → has_item (a ++ b) ≡ (has_item a || has_item b)
item_joined a b = list_any-append is_of_item a b

pub is_the_none : (p : Part) → is_none p ≡ true → p ≡ none
is_the_none none h = refl
is_the_none begun h = absurd cc
is_the_none brackets h = absurd cc
is_the_none sublayers h = absurd cc

-- no parts
pub record NoParts (stack : List Symbol) : Type 0 where
  pub part_is : part stack ≡ none
  pub no_item : has_item stack ≡ false

no_parts : (stack : List Symbol) → not (has_parts stack) ≡ true → NoParts stack
no_parts stack h = by (part stack) refl (has_item stack) refl h
  where
    by : (p : Part) → part stack ≡ p → (b : Bool) → has_item stack ≡ b → not (not (is_none p) || b) ≡ true → NoParts stack
    by none is false item e = record { part_is = is; no_item = item }
    by none is true item e = absurd cc
    by begun is b item e = absurd cc
    by brackets is b item e = absurd cc
    by sublayers is b item e = absurd cc

-- ---- rows

pub record IsListRow (s : Symbol) (after : List Symbol) : Type 0 where
  pub on_top : are_on_top after ≡ true
  pub light : (not (is_light s) || (list_all is_light after && (is_none (part after) && (not (has_item after) || is_of_item s)))) ≡ true
  pub plain : (is_light s || begins_list s || not (is_none (part_of s)) || not (has_parts after)) ≡ true

row-from : (s : Symbol) (o : Option (List Symbol)) (after : List Symbol) → o ≡ Some after → is_list_after s o ≡ true → IsListRow s after
row-from s None after e h = absurd cc
row-from s (Some x) after e h =
    let same : x ≡ after = cc in
    let b : Bool = not (is_light s) || (list_all is_light x && (is_none (part x) && (not (has_item x) || is_of_item s))) in
    let c : Bool = is_light s || begins_list s || not (is_none (part_of s)) || not (has_parts x) in
    let rest : (b && c) ≡ true = back (are_on_top x) (b && c) h in
    subst (λ (y : List Symbol). IsListRow s y) same (record { on_top = front (are_on_top x) (b && c) h; light = front b c rest; plain = back b c rest })

row_at : (s : Symbol) (k : WordKind) (after : List Symbol) → starts s k ≡ Some after → IsListRow s after
row_at s k after e = row-from s (starts s k) after e (list_rows s k)

-- ---- the symbol that takes a word

absent_part : (s : Symbol) → may_be_absent s ≡ true → part_of s ≡ none
absent_part symbol.StringList h = absurd cc
absent_part symbol.PathList h = absurd cc
absent_part symbol.ReferenceList h = absurd cc
absent_part symbol.StringsOrEnd h = absurd cc
absent_part symbol.MoreStrings h = absurd cc
absent_part symbol.PathsOrEnd h = absurd cc
absent_part symbol.MorePaths h = absurd cc
absent_part symbol.ReferencesOrEnd h = absurd cc
absent_part symbol.MoreReferences h = absurd cc
absent_part symbol.SubLayerList h = absurd cc
absent_part symbol.SubLayersOrEnd h = absurd cc
absent_part symbol.MoreSubLayers h = absurd cc
absent_part s h = refl

light_part : (s : Symbol) → is_light s ≡ true → part_of s ≡ none
light_part symbol.MaybePath h = refl
light_part symbol.MaybeOffsets h = refl
light_part symbol.OffsetItems h = refl
light_part symbol.OffsetNumber h = refl
light_part symbol.Equals h = refl
light_part symbol.CloseParen h = refl
light_part symbol.MaybeSemicolon h = refl
light_part _ h = absurd cc

record Took (stack : List Symbol) (k : WordKind) (s : Symbol) (after : List Symbol) : Type 0 where
  pub below : List Symbol
  pub rest : List Symbol
  pub starts_it : starts s k ≡ Some rest
  pub leaves : after ≡ rest ++ below
  pub on_top : are_on_top stack ≡ true → are_on_top (s ∷ below) ≡ true
  pub part_is : part stack ≡ part (s ∷ below)
  pub item : has_item (s ∷ below) ≡ true → has_item stack ≡ true

top_below : (s : Symbol) (stack : List Symbol) → are_on_top (s ∷ stack) ≡ true → are_on_top stack ≡ true
top_below s stack h = back (is_light s || not (has_parts stack)) (are_on_top stack) h

took : (stack : List Symbol) (k : WordKind) (s : Symbol) (after : List Symbol) → step stack k ≡ Some (s, after) → Took stack k s after
took [] k s after e = absurd cc
took (u ∷ stack) k s after e = cases (starts u k) refl (may_be_absent u) refl e (λ f. took stack k s after f)
  where
    cases : (o : Option (List Symbol)) → starts u k ≡ o → (b : Bool) → may_be_absent u ≡ b → choose u stack o b (step stack k) ≡ Some (s, after) → (step stack k ≡ Some (s, after) → Took stack k s after) → Took (u ∷ stack) k s after
    cases (Some a) is b absent f more =
        let same : (u, a ++ stack) ≡ (s, after) = same_Some (u, a ++ stack) (s, after) f in
        subst (λ (x : Symbol). Took (u ∷ stack) k x after) (ap (λ (x : Symbol × List Symbol). x.0) same)
        (record { below = stack; rest = a; starts_it = is; leaves = sym (ap (λ (x : Symbol × List Symbol). x.1) same); on_top = λ h. h; part_is = refl; item = λ h. h })
    cases None is true absent f more =
        let t : Took stack k s after = more f in
        record {
          below = t.below;
          rest = t.rest;
          starts_it = t.starts_it;
          leaves = t.leaves;
          on_top = λ h. t.on_top (top_below u stack h);
          part_is = ap (λ p. or_part p (part stack)) (absent_part u absent) ∙ t.part_is;
          item = λ h. or_right (is_of_item u) (has_item stack) (t.item h);
        }
    cases None is false absent f more = absurd cc

-- ---- what a step keeps

light_over : (a below : List Symbol) → list_all is_light a ≡ true → are_on_top below ≡ true → are_on_top (a ++ below) ≡ true
light_over [] below h rest = rest
light_over (s ∷ a) below h rest =
    and_from (is_light s || not (has_parts (a ++ below))) (are_on_top (a ++ below)) (ap (λ b. b || not (has_parts (a ++ below))) (front (is_light s) (list_all is_light a) h)) (light_over a below (back (is_light s) (list_all is_light a) h) rest)

parts_alone : (a below : List Symbol) → NoParts below → has_parts (a ++ below) ≡ has_parts a
parts_alone a below n =
    ap (λ p. not (is_none p) || has_item (a ++ below)) (part_joined a below ∙ ap (or_part (part a)) n.part_is ∙ or_none (part a))
    ∙ ap (λ b. not (is_none (part a)) || b) (item_joined a below ∙ ap (λ b. has_item a || b) n.no_item ∙ or-false (has_item a))

top_over : (a below : List Symbol) → are_on_top a ≡ true → NoParts below → are_on_top below ≡ true → are_on_top (a ++ below) ≡ true
top_over [] below h n rest = rest
top_over (s ∷ a) below h n rest =
    and_from (is_light s || not (has_parts (a ++ below))) (are_on_top (a ++ below)) (ap (λ b. is_light s || not b) (parts_alone a below n) ∙ front (is_light s || not (has_parts a)) (are_on_top a) h)
    (top_over a below (back (is_light s || not (has_parts a)) (are_on_top a) h) n rest)

pub record Listed (stack : List Symbol) (k : WordKind) (s : Symbol) (after : List Symbol) : Type 0 where
  pub on_top : are_on_top after ≡ true
  -- a light symbol goes on with the same list
  pub light : is_light s ≡ true → (part after ≡ part stack) × (has_item after ≡ true → has_item stack ≡ true)
  pub item : is_of_item s ≡ true → has_item stack ≡ true
  -- any other is the first of a list, or stands where none is read
  pub heavy : is_light s ≡ false → (rest : List Symbol) × (starts s k ≡ Some rest) × (part stack ≡ part_of s) × (part after ≡ part rest) × (has_item after ≡ has_item rest)
  pub plain : is_light s ≡ false → begins_list s ≡ false → part_of s ≡ none → NoParts after

item_or : (a b c : Bool) → (not a || b) ≡ true → (a || c) ≡ true → (b || c) ≡ true
item_or true true c m h = refl
item_or true false c m h = absurd cc
item_or false b c m h = or_right b c h

no_other : (a b : Bool) (p : Part) (c : Bool) → a ≡ false → b ≡ false → p ≡ none → (a || b || not (is_none p) || c) ≡ true → c ≡ true
no_other true b p c is other pn m = absurd cc
no_other false true p c is other pn m = absurd cc
no_other false false none c is other pn m = m
no_other false false begun c is other pn m = absurd (let bad : is_none begun ≡ is_none none = ap is_none pn in cc)
no_other false false brackets c is other pn m = absurd (let bad : is_none brackets ≡ is_none none = ap is_none pn in cc)
no_other false false sublayers c is other pn m = absurd (let bad : is_none sublayers ≡ is_none none = ap is_none pn in cc)

pub listed : (stack : List Symbol) (k : WordKind) (s : Symbol) (after : List Symbol) → are_on_top stack ≡ true → step stack k ≡ Some (s, after) → Listed stack k s after
listed stack k s after top e = record { on_top = on_top (is_light s) refl; light = light; item = λ h. t.item (ap (λ b. b || has_item t.below) h); heavy = heavy; plain = plain }
  where
    t : Took stack k s after
    t = took stack k s after e

    row : IsListRow s t.rest
    row = row_at s k t.rest t.starts_it

    light_row : is_light s ≡ true → (list_all is_light t.rest && (is_none (part t.rest) && (not (has_item t.rest) || is_of_item s))) ≡ true
    light_row is = implied (is_light s) (list_all is_light t.rest && (is_none (part t.rest) && (not (has_item t.rest) || is_of_item s))) is row.light

    light_more : is_light s ≡ true → (is_none (part t.rest) && (not (has_item t.rest) || is_of_item s)) ≡ true
    light_more is = back (list_all is_light t.rest) (is_none (part t.rest) && (not (has_item t.rest) || is_of_item s)) (light_row is)

    bare : is_light s ≡ false → NoParts t.below
    bare is = no_parts t.below (other_holds (is_light s) (not (has_parts t.below)) is (front (is_light s || not (has_parts t.below)) (are_on_top t.below) (t.on_top top)))

    on_top : (b : Bool) → is_light s ≡ b → are_on_top after ≡ true
    on_top true is = subst (λ (x : List Symbol). are_on_top x ≡ true) (sym t.leaves) (light_over t.rest t.below (front (list_all is_light t.rest) (is_none (part t.rest) && (not (has_item t.rest) || is_of_item s)) (light_row is)) (top_below s t.below (t.on_top top)))
    on_top false is = subst (λ (x : List Symbol). are_on_top x ≡ true) (sym t.leaves) (top_over t.rest t.below row.on_top (bare is) (top_below s t.below (t.on_top top)))

    light : is_light s ≡ true → (part after ≡ part stack) × (has_item after ≡ true → has_item stack ≡ true)
    light is = (
      ap part t.leaves ∙ part_joined t.rest t.below ∙ ap (λ p. or_part p (part t.below)) (is_the_none (part t.rest) (front (is_none (part t.rest)) (not (has_item t.rest) || is_of_item s) (light_more is)))
          ∙ sym (ap (λ p. or_part p (part t.below)) (light_part s is)) ∙ sym t.part_is,
      λ h. t.item (item_or (has_item t.rest) (is_of_item s) (has_item t.below) (back (is_none (part t.rest)) (not (has_item t.rest) || is_of_item s) (light_more is)) (sym (item_joined t.rest t.below) ∙ sym (ap has_item t.leaves) ∙ h)),
    )

    heavy : is_light s ≡ false → (rest : List Symbol) × (starts s k ≡ Some rest) × (part stack ≡ part_of s) × (part after ≡ part rest) × (has_item after ≡ has_item rest)
    heavy is = (
      t.rest,
      t.starts_it,
      t.part_is ∙ ap (or_part (part_of s)) (bare is).part_is ∙ or_none (part_of s),
      ap part t.leaves ∙ part_joined t.rest t.below ∙ ap (or_part (part t.rest)) (bare is).part_is ∙ or_none (part t.rest),
      ap has_item t.leaves ∙ item_joined t.rest t.below ∙ ap (λ b. has_item t.rest || b) (bare is).no_item ∙ or-false (has_item t.rest),
    )

    plain : is_light s ≡ false → begins_list s ≡ false → part_of s ≡ none → NoParts after
    plain is other part_none =
        let n : NoParts t.rest = no_parts t.rest (no_other (is_light s) (begins_list s) (part_of s) (not (has_parts t.rest)) is other part_none row.plain) in
        record {
          part_is = ap part t.leaves ∙ part_joined t.rest t.below ∙ ap (or_part (part t.rest)) (bare is).part_is ∙ or_none (part t.rest) ∙ n.part_is;
          no_item = ap has_item t.leaves ∙ item_joined t.rest t.below ∙ ap (λ b. has_item t.rest || b) (bare is).no_item ∙ ap (λ b. b || false) n.no_item;
        }

-- where the text may end no list is read
pub done_parts : (stack : List Symbol) → is_done stack ≡ true → part stack ≡ none
done_parts [] h = refl
done_parts (s ∷ stack) h = ap (λ p. or_part p (part stack)) (absent_part s (front (may_be_absent s) (is_done stack) h)) ∙ done_parts stack (back (may_be_absent s) (is_done stack) h)
