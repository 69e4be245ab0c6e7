-- What the reader has read is a text of what it holds.
use Rattle.std.proofs.Common.{◌≡◌, ℕ, ◌+◌, ◌<◌, ◌≤◌, Bool, true, false, cond, not, ◌&&◌, ◌||◌, ◌==◌, List, [], ◌∷◌, ◌++◌, Option, Some, None, refl, sym, ap, ◌∙◌, subst, append_assoc, append-nil, ◌⊎◌, inl, inr, arith, lit<, lit≤, ltb-true}
use Rattle.std.specs.Prelude.{encode_utf8, nat_lt, if◌then◌else◌}
use Rattle.std.specs.List.{list_all}
use Rattle.std.specs.Str.{encode_utf8_all, chars, is_utf8}
use lib.Utf8.{scalar, scalars}
use Rattle.std.proofs.lemmas.Bool.{and_from, and_parts, cases_Bool, eqb-true}
use Rattle.std.proofs.lemmas.List.Folds.{list_all-append, list_any-append}
use Rattle.std.proofs.lemmas.List.Sums.{sum_by_push}
use Rattle.std.proofs.lemmas.Str.{encodes-append, encode_ascii, chars-encodes, is_utf8-from_IsUtf8}
use Rattle.unicode_ident.specs.Ident.{is_xid_continue}
use Rattle.usd_names.specs.Names.{is_start, is_variant_character, goes_on, spells_identifier, identifier_rest, spells_joined, spells_run, spells_variant, is_identifier, is_variant, is_number_word, is_name, is_property_name}
use Rattle.sdf_paths.specs.Paths.{is_selection, is_prim_name, is_well_named, is_ordered, is_empty, is_property, is_property_part, depth, written, Spells, IsTextOf, IsWellFormed, ends_selected}
use Rattle.sdf_paths.specs.Reader.{reader, start, step, finish, begins, step_name, step_set, step_after_set, step_variant, step_selected, step_property, step_nothing, step_open, finish_name, finish_property, finish_open, after_all}
use Rattle.sdf_paths.specs.declared.element.Element.{Element}
use Rattle.sdf_paths.specs.declared.element.Element.TheVariants.{Prim, Property, Selection}
use Rattle.sdf_paths.specs.declared.reader.Reader.{Reader}
use Rattle.sdf_paths.specs.declared.reader.Open.{Open}
use Rattle.sdf_paths.specs.declared.reader.Open.TheVariants.{Nothing, Name, Set, AfterSet, Variant, Selected, PropertyName}
use Rattle.sdf_paths.proofs.NameRuns.{variant_dot, continue_colon, after_none, and_false}

-- ---- parts of names

-- `name` is a part of a name: it goes on exactly with what `left` allows
pub record IsPart (whole left : List ℕ → Bool) (name : List ℕ) : Type 0 where
  pub cs : List ℕ
  pub valid : scalars cs ≡ true
  pub bytes : encode_utf8_all cs ≡ name
  pub rest : (ds : List ℕ) → whole (cs ++ ds) ≡ left ds

part_empty : (whole : List ℕ → Bool) → IsPart whole whole []
part_empty whole = record { cs = []; valid = refl; bytes = refl; rest = λ ds. refl }

scalars_push : (cs : List ℕ) (c : ℕ) → scalars cs ≡ true → scalar c ≡ true → scalars (cs ++ c ∷ []) ≡ true
scalars_push [] c h one = and_from (scalar c) true one refl
scalars_push (d ∷ cs) c h one = let both = and_parts (scalar d) (scalars cs) h in and_from (scalar d) (scalars (cs ++ c ∷ [])) both.0 (scalars_push cs c both.1 one)

part_push : (whole left left' : List ℕ → Bool) (name : List ℕ) (c : ℕ) → IsPart whole left name → scalar c ≡ true → ((ds : List ℕ) → left (c ∷ ds) ≡ left' ds) → IsPart whole left' (name ++ encode_utf8 c)
part_push whole left left' name c part valid goes =
    record {
      cs = part.cs ++ c ∷ [];
      valid = scalars_push part.cs c part.valid valid;
      bytes = encodes-append part.cs (c ∷ []) ∙ rw (part.bytes, append-nil) refl;
      rest = λ ds. ap whole (append_assoc part.cs (c ∷ []) ds) ∙ part.rest (c ∷ ds) ∙ goes ds;
    }

part_done : (whole left : List ℕ → Bool) (name : List ℕ) → IsPart whole left name → left [] ≡ true → (is_utf8 name && whole (chars name)) ≡ true
part_done whole left name part ends =
    let spelled : chars name ≡ part.cs = ap chars (sym part.bytes) ∙ chars-encodes part.cs part.valid in
    and_from (is_utf8 name) (whole (chars name)) (is_utf8-from_IsUtf8 name (part.cs, (part.valid, part.bytes)))
    (ap whole spelled ∙ ap whole (sym (append-nil part.cs)) ∙ part.rest [] ∙ ends)

-- ---- whole elements

-- `text` spells the elements, of which there is at least one, and another may follow
pub record IsRead (elements : List Element) (names : ℕ) (text : List ℕ) : Type 0 where
  pub named : list_all is_well_named elements ≡ true
  pub ordered : is_ordered false elements ≡ true
  pub spelled : Spells false elements text
  pub count : depth elements ≡ names
  pub few : names ≤ 64

spells_push : (elements : List Element) (after_selection : Bool) (text : List ℕ) (e : Element) (is_bare : Bool) → Spells after_selection elements text
    → Spells after_selection (elements ++ e ∷ []) (text ++ written (ends_selected after_selection elements && is_bare) e)
spells_push [] a text e is_bare h = (is_bare, ([], (ap (λ l. l ++ written (a && is_bare) e) h ∙ sym (append-nil _), refl)))
spells_push (x ∷ elements) a text e is_bare (b, (more, (text_is, spelled))) = (
  b,
  (
    more ++ written (ends_selected (is_selection x) elements && is_bare) e,
    (
      ap (λ l. l ++ written (ends_selected (is_selection x) elements && is_bare) e) text_is ∙ append_assoc (written (a && b) x) more _,
      spells_push elements (is_selection x) more e is_bare spelled,
    ),
  ),
)

all_push : (elements : List Element) (e : Element) → list_all is_well_named elements ≡ true → is_well_named e ≡ true → list_all is_well_named (elements ++ e ∷ []) ≡ true
all_push elements e h one = list_all-append is_well_named elements (e ∷ []) ∙ and_from _ _ h (and_from (is_well_named e) true one refl)

-- a prim's name may follow all but a property
ordered_prim : (elements : List Element) (named : Bool) (n : List ℕ) → is_ordered named elements ≡ true → is_property elements ≡ false → is_ordered named (elements ++ Prim n ∷ []) ≡ true
ordered_prim [] named n h prim = refl
ordered_prim (Prim x ∷ elements) named n h prim = ordered_prim elements true n h prim
ordered_prim (Selection s v ∷ elements) named n h prim =
    let both = and_parts named (is_ordered true elements) h in and_from _ _ both.0 (ordered_prim elements true n both.1 prim)
ordered_prim (Property x ∷ elements) named n h prim = absurd cc

-- any element may follow a name
ordered_more : (elements : List Element) (named : Bool) (e : Element) → is_ordered named elements ≡ true → is_property elements ≡ false → (named || not (is_empty elements)) ≡ true
    → is_ordered named (elements ++ e ∷ []) ≡ true
ordered_more [] true (Prim n) h prim some = refl
ordered_more [] true (Property n) h prim some = refl
ordered_more [] true (Selection s v) h prim some = refl
ordered_more [] false e h prim some = absurd cc
ordered_more (Prim x ∷ elements) named e h prim some = ordered_more elements true e h prim refl
ordered_more (Selection s v ∷ elements) named e h prim some =
    let both = and_parts named (is_ordered true elements) h in and_from _ _ both.0 (ordered_more elements true e both.1 prim refl)
ordered_more (Property x ∷ elements) named e h prim some = absurd cc

pub some_push : (elements : List Element) (e : Element) → is_empty (elements ++ e ∷ []) ≡ false
some_push [] e = refl
some_push (x ∷ elements) e = refl

prim_push : (elements : List Element) (e : Element) → is_property elements ≡ false → is_property_part e ≡ false → is_property (elements ++ e ∷ []) ≡ false
prim_push elements e h one = list_any-append is_property_part elements (e ∷ []) ∙ rw (h, one) refl

depth_push : (elements : List Element) (e : Element) → depth (elements ++ e ∷ []) ≡ depth elements + cond (is_prim_name e) 1 0
depth_push elements e = sum_by_push (λ x. cond (is_prim_name x) 1 0) elements e

ends_push : (elements : List Element) (after_selection : Bool) (e : Element) → ends_selected after_selection (elements ++ e ∷ []) ≡ is_selection e
ends_push [] a e = refl
ends_push (x ∷ elements) a e = ends_push elements (is_selection x) e

-- ---- what the reader holds

-- an element is open: `mark` has been read of it after the whole elements
pub record InElement (elements : List Element) (names : ℕ) (mark text : List ℕ) : Type 0 where
  pub front : List ℕ
  pub whole : IsRead elements names front
  pub prim : is_property elements ≡ false
  pub some : is_empty elements ≡ false
  pub text_is : text ≡ front ++ mark

pub record InName (elements : List Element) (names : ℕ) (name : List ℕ) (begun : Bool) (text : List ℕ) : Type 0 where
  pub front : List ℕ
  pub is_bare : Bool
  pub before : ℕ
  pub whole : IsRead elements before front
  pub prim : is_property elements ≡ false
  pub count : names ≡ before + 1
  pub few : names ≤ 64
  pub text_is : text ≡ front ++ written (ends_selected false elements && is_bare) (Prim name)
  pub part : IsPart spells_identifier (identifier_rest begun) name
  pub blank : begun ≡ false → name ≡ []

-- whole elements have been read, and a name or a selection is the last
pub record AtEnd (elements : List Element) (names : ℕ) (text : List ℕ) : Type 0 where
  pub whole : IsRead elements names text
  pub prim : is_property elements ≡ false
  pub some : is_empty elements ≡ false

abbrev variant_rest : Bool → List ℕ → Bool
variant_rest true cs = list_all is_variant_character cs
variant_rest false cs = spells_run cs

abbrev Holds : List Element → ℕ → Open → List ℕ → Type 0
Holds elements names Nothing text = (elements ≡ []) × (text ≡ [])
Holds elements names (Name name begun) text = InName elements names name begun text
Holds elements names (Set set begun) text = InElement elements names (123 ∷ set) text × IsPart spells_identifier (identifier_rest begun) set
Holds elements names (AfterSet set) text = InElement elements names (123 ∷ set ++ (61 ∷ [])) text × (is_identifier set ≡ true)
Holds elements names (Variant set variant begun) text =
    InElement elements names (123 ∷ set ++ (61 ∷ variant)) text × ((is_identifier set ≡ true) × IsPart spells_variant (variant_rest begun) variant)
Holds elements names Selected text = AtEnd elements names text × (ends_selected false elements ≡ true)
Holds elements names (PropertyName name begun) text = InElement elements names (46 ∷ name) text × IsPart (spells_joined false) (spells_joined begun) name

pub record HoldsRead (r : Reader) (text : List ℕ) : Type 0 where
  pub holds : Holds r.elements r.names r.open_part text

pub holds_start : HoldsRead start []
holds_start = record { holds = (refl, refl) }

open_more : (elements : List Element) (names : ℕ) (mark text more : List ℕ) → InElement elements names mark text → InElement elements names (mark ++ more) (text ++ more)
open_more elements names mark text more h =
    record { front = h.front; whole = h.whole; prim = h.prim; some = h.some; text_is = ap (λ l. l ++ more) h.text_is ∙ append_assoc h.front mark more }

opens_at : (elements : List Element) (names : ℕ) (text : List ℕ) (c mark : ℕ) → (c == mark) ≡ true → mark < 128 → AtEnd elements names text → InElement elements names (mark ∷ []) (text ++ encode_utf8 c)
opens_at elements names text c mark is small h = record {
  front = text;
  whole = h.whole;
  prim = h.prim;
  some = h.some;
  text_is = ap (λ l. text ++ l) (ap encode_utf8 (eqb-true c mark is) ∙ encode_ascii mark small);
}

-- what an element that has been closed makes of what was read
closes : (elements : List Element) (names : ℕ) (text : List ℕ) (e : Element) → InElement elements names (written false e) text → is_well_named e ≡ true → is_prim_name e ≡ false
    → IsRead (elements ++ e ∷ []) names text
closes elements names text e h good other = record {
  named = all_push elements e h.whole.named good;
  ordered = ordered_more elements false e h.whole.ordered h.prim (rw h.some refl);
  spelled = subst (Spells false (elements ++ e ∷ [])) (ap (λ b. h.front ++ written b e) (and_false (ends_selected false elements)) ∙ sym h.text_is) (spells_push elements false h.front e false h.whole.spelled);
  count = depth_push elements e ∙ rw other (omega (arith, h.whole.count));
  few = h.whole.few;
}

name_closes : (elements : List Element) (names : ℕ) (name text : List ℕ) → InName elements names name true text → AtEnd (elements ++ Prim name ∷ []) names text
unfolding is_identifier
name_closes elements names name text h = record {
  whole = record {
    named = all_push elements (Prim name) h.whole.named (part_done spells_identifier (identifier_rest true) name h.part refl);
    ordered = ordered_prim elements false name h.whole.ordered h.prim;
    spelled = subst (Spells false (elements ++ Prim name ∷ [])) (sym h.text_is) (spells_push elements false h.front (Prim name) h.is_bare h.whole.spelled);
    count = depth_push elements (Prim name) ∙ ap (λ k. k + 1) h.whole.count ∙ sym h.count;
    few = h.few;
  };
  prim = prim_push elements (Prim name) h.prim refl;
  some = some_push elements (Prim name);
}

-- ---- each step keeps this

-- a choice that gives something
taken : {X : Type 0} (b : Bool) (x y : Option X) (r : X) → (if b then x else y) ≡ Some r → ((b ≡ true) × (x ≡ Some r)) ⊎ ((b ≡ false) × (y ≡ Some r))
taken true x y r h = inl (refl, h)
taken false x y r h = inr (refl, h)

is_the : (a r : Reader) (text : List ℕ) → Some a ≡ Some r → HoldsRead a text → HoldsRead r text
is_the a r text e h = subst (λ (o : Reader). HoldsRead o text) (some_same e) h
  where
    some_same : Some a ≡ Some r → a ≡ r
    some_same e = cc

begins_holds : (elements : List Element) (names c : ℕ) (text : List ℕ) (r : Reader) → AtEnd elements names text → begins elements names c ≡ Some r → HoldsRead r (text ++ encode_utf8 c)
begins_holds elements names c text r h e = elim (taken (c == 47) _ _ r e) [
  | inl slash ↦ elim (taken (nat_lt names 64) _ _ r slash.1) [
    | inl free ↦ is_the _ r _ free.1 (record {
      holds = record {
        front = text;
        is_bare = false;
        before = names;
        whole = h.whole;
        prim = h.prim;
        count = refl;
        few = omega (arith, ltb-true names 64 free.0);
        text_is = ap (λ l. text ++ l) (ap encode_utf8 (eqb-true c 47 slash.0) ∙ encode_ascii 47 (lit< tt)) ∙ ap (λ b. text ++ written b (Prim [])) (sym (and_false (ends_selected false elements)));
        part = part_empty spells_identifier;
        blank = λ _. refl;
      };
    })
    | inr full ↦ absurd (cc full.1)
  ]
  | inr other ↦ elim (taken (c == 123) _ _ r other.1) [
    | inl brace ↦ is_the _ r _ brace.1 (record { holds = (opens_at elements names text c 123 brace.0 (lit< tt) h, part_empty spells_identifier) })
    | inr another ↦ elim (taken (c == 46) _ _ r another.1) [
      | inl dot ↦ is_the _ r _ dot.1 (record { holds = (opens_at elements names text c 46 dot.0 (lit< tt) h, part_empty (spells_joined false)) })
      | inr none ↦ absurd (cc none.1)
    ]
  ]
]

written_more : (after_selection : Bool) (n more : List ℕ) → written after_selection (Prim n) ++ more ≡ written after_selection (Prim (n ++ more))
written_more true n more = refl
written_more false n more = refl

identifier_goes : (begun : Bool) (c : ℕ) → goes_on begun c ≡ true → (ds : List ℕ) → identifier_rest begun (c ∷ ds) ≡ identifier_rest true ds
identifier_goes true c h ds = rw h refl
identifier_goes false c h ds = rw h refl

name_goes : (elements : List Element) (names : ℕ) (name : List ℕ) (begun : Bool) (c : ℕ) (text : List ℕ) → InName elements names name begun text → scalar c ≡ true → goes_on begun c ≡ true
    → HoldsRead (reader elements names (Name (name ++ encode_utf8 c) true)) (text ++ encode_utf8 c)
name_goes elements names name begun c text h valid goes = record {
  holds = record {
    front = h.front;
    is_bare = h.is_bare;
    before = h.before;
    whole = h.whole;
    prim = h.prim;
    count = h.count;
    few = h.few;
    text_is = ap (λ l. l ++ encode_utf8 c) h.text_is ∙ append_assoc h.front _ (encode_utf8 c) ∙ ap (λ l. h.front ++ l) (written_more (ends_selected false elements && h.is_bare) name (encode_utf8 c));
    part = part_push spells_identifier (identifier_rest begun) (identifier_rest true) name c h.part valid (identifier_goes begun c goes);
    blank = λ no. absurd cc;
  };
}

name_holds : (elements : List Element) (names : ℕ) (name : List ℕ) (begun : Bool) (c : ℕ) (text : List ℕ) (r : Reader) → InName elements names name begun text → scalar c ≡ true
    → step_name elements names name begun c ≡ Some r → HoldsRead r (text ++ encode_utf8 c)
name_holds elements names name true c text r h valid e = elim (taken (goes_on true c) _ _ r e) [
  | inl goes ↦ is_the _ r _ goes.1 (name_goes elements names name true c text h valid goes.0)
  | inr ends ↦ begins_holds (elements ++ Prim name ∷ []) names c text r (name_closes elements names name text h) ends.1
]
name_holds elements names name false c text r h valid e = elim (taken (goes_on false c) _ _ r e) [
  | inl goes ↦ is_the _ r _ goes.1 (name_goes elements names name false c text h valid goes.0)
  | inr ends ↦ absurd (cc ends.1)
]

identifier_done : (name : List ℕ) → IsPart spells_identifier (identifier_rest true) name → is_identifier name ≡ true
unfolding is_identifier
identifier_done name part = part_done spells_identifier (identifier_rest true) name part refl

variant_done : (name : List ℕ) → IsPart spells_variant (variant_rest true) name → is_variant name ≡ true
unfolding is_variant
variant_done name part = part_done spells_variant (variant_rest true) name part refl

property_done : (name : List ℕ) → IsPart (spells_joined false) (spells_joined true) name → is_number_word name ≡ false → is_property_name name ≡ true
unfolding is_property_name
property_done name part other =
    let joined = and_parts (is_utf8 name) (spells_joined false (chars name)) (part_done (spells_joined false) (spells_joined true) name part refl) in
    and_from (is_utf8 name) (is_name name) joined.0 (and_from (spells_joined false (chars name)) (not (is_number_word name)) joined.1 (ap not other))

marked : (elements : List Element) (names : ℕ) (mark mark' text : List ℕ) → mark ≡ mark' → InElement elements names mark text → InElement elements names mark' text
marked elements names mark mark' text e h = subst (λ (m : List ℕ). InElement elements names m text) e h

mark_is : (c k : ℕ) → (c == k) ≡ true → k < 128 → encode_utf8 c ≡ k ∷ []
mark_is c k h small = ap encode_utf8 (eqb-true c k h) ∙ encode_ascii k small

set_holds : (elements : List Element) (names : ℕ) (set : List ℕ) (begun : Bool) (c : ℕ) (text : List ℕ) (r : Reader) → InElement elements names (123 ∷ set) text
    → IsPart spells_identifier (identifier_rest begun) set → scalar c ≡ true → step_set elements names set begun c ≡ Some r → HoldsRead r (text ++ encode_utf8 c)
set_holds elements names set begun c text r h part valid e = elim (taken (goes_on begun c) _ _ r e) [
  | inl goes ↦ is_the _ r _ goes.1 (record {
    holds =
        (open_more elements names (123 ∷ set) text (encode_utf8 c) h, part_push spells_identifier (identifier_rest begun) (identifier_rest true) set c part valid (identifier_goes begun c goes.0));
  })
  | inr ends ↦ elim (taken (c == 61) _ _ r ends.1) [
    | inl equals ↦ closed begun part equals.1 (mark_is c 61 equals.0 (lit< tt))
    | inr none ↦ absurd (cc none.1)
  ]
]
  where
    closed : (b : Bool) → IsPart spells_identifier (identifier_rest b) set → (if b then Some (reader elements names (AfterSet set)) else None) ≡ Some r → encode_utf8 c ≡ 61 ∷ [] → HoldsRead r (text ++ encode_utf8 c)
    closed true part e is = is_the _ r _ e (record {
      holds =
          (marked elements names ((123 ∷ set) ++ encode_utf8 c) (123 ∷ set ++ (61 ∷ [])) (text ++ encode_utf8 c) (ap (λ l. (123 ∷ set) ++ l) is) (open_more elements names (123 ∷ set) text (encode_utf8 c) h), identifier_done set part);
    })
    closed false part e is = absurd cc

not_dot : (c : ℕ) → is_variant_character c ≡ true → (c == 46) ≡ false
not_dot c h = elim (cases_Bool (c == 46)) [
  | inl dot ↦ let same = ap is_variant_character (eqb-true c 46 dot) in absurd (cc (variant_dot, same, h))
  | inr other ↦ other
]

variant_first : (c : ℕ) → is_variant_character c ≡ true → (ds : List ℕ) → spells_variant (c ∷ ds) ≡ variant_rest true ds
variant_first c h ds = rw (not_dot c h, h) refl

dot_first : (c : ℕ) → (c == 46) ≡ true → (ds : List ℕ) → spells_variant (c ∷ ds) ≡ variant_rest false ds
dot_first c h ds = rw h refl

after_set_holds : (elements : List Element) (names : ℕ) (set : List ℕ) (c : ℕ) (text : List ℕ) (r : Reader) → InElement elements names (123 ∷ set ++ (61 ∷ [])) text → is_identifier set ≡ true
    → scalar c ≡ true → step_after_set elements names set c ≡ Some r → HoldsRead r (text ++ encode_utf8 c)
after_set_holds elements names set c text r h good valid e =
    let more = marked elements names (123 ∷ set ++ (61 ∷ []) ++ encode_utf8 c) (123 ∷ set ++ (61 ∷ encode_utf8 c)) (text ++ encode_utf8 c) (append_assoc (123 ∷ set) (61 ∷ []) (encode_utf8 c))
    (open_more elements names (123 ∷ set ++ (61 ∷ [])) text (encode_utf8 c) h) in
    elim (taken (is_variant_character c) _ _ r e) [
      | inl first ↦ is_the _ r _ first.1 (record { holds = (more, (good, part_push spells_variant spells_variant (variant_rest true) [] c (part_empty spells_variant) valid (variant_first c first.0))) })
      | inr other ↦ elim (taken (c == 46) _ _ r other.1) [
        | inl dot ↦ is_the _ r _ dot.1 (record { holds = (more, (good, part_push spells_variant spells_variant (variant_rest false) [] c (part_empty spells_variant) valid (dot_first c dot.0))) })
        | inr none ↦ absurd (cc none.1)
      ]
    ]

variant_goes : (begun : Bool) (c : ℕ) → is_variant_character c ≡ true → (ds : List ℕ) → variant_rest begun (c ∷ ds) ≡ variant_rest true ds
variant_goes true c h ds = rw h refl
variant_goes false c h ds = rw h refl

variant_holds : (elements : List Element) (names : ℕ) (set variant : List ℕ) (begun : Bool) (c : ℕ) (text : List ℕ) (r : Reader) → InElement elements names (123 ∷ set ++ (61 ∷ variant)) text
    → is_identifier set ≡ true → IsPart spells_variant (variant_rest begun) variant → scalar c ≡ true → step_variant elements names set variant begun c ≡ Some r → HoldsRead r (text ++ encode_utf8 c)
variant_holds elements names set variant begun c text r h good part valid e =
    let more = open_more elements names (123 ∷ set ++ (61 ∷ variant)) text (encode_utf8 c) h in
    elim (taken (is_variant_character c) _ _ r e) [
      | inl goes ↦ is_the _ r _ goes.1 (record {
        holds = (
          marked elements names (123 ∷ set ++ (61 ∷ variant) ++ encode_utf8 c) (123 ∷ set ++ (61 ∷ (variant ++ encode_utf8 c))) (text ++ encode_utf8 c) (append_assoc (123 ∷ set) (61 ∷ variant) (encode_utf8 c)) more,
          (good, part_push spells_variant (variant_rest begun) (variant_rest true) variant c part valid (variant_goes begun c goes.0)),
        );
      })
      | inr ends ↦ elim (taken (c == 125) _ _ r ends.1) [
        | inl close ↦ closed begun part close.1 (marked elements names (123 ∷ set ++ (61 ∷ variant) ++ encode_utf8 c) (written false (Selection set variant)) (text ++ encode_utf8 c)
            (ap (λ l. 123 ∷ set ++ (61 ∷ variant) ++ l) (mark_is c 125 close.0 (lit< tt))) more)
        | inr none ↦ absurd (cc none.1)
      ]
    ]
  where
    closed : (b : Bool) → IsPart spells_variant (variant_rest b) variant → (if b then Some (reader (elements ++ Selection set variant ∷ []) names Selected) else None) ≡ Some r
        → InElement elements names (written false (Selection set variant)) (text ++ encode_utf8 c) → HoldsRead r (text ++ encode_utf8 c)
    closed true part e whole = is_the _ r _ e (record {
      holds = (
        record {
          whole = closes elements names (text ++ encode_utf8 c) (Selection set variant) whole (and_from (is_identifier set) (is_variant variant) good (variant_done variant part)) refl;
          prim = prim_push elements (Selection set variant) h.prim refl;
          some = some_push elements (Selection set variant);
        },
        ends_push elements false (Selection set variant),
      );
    })
    closed false part e whole = absurd cc

identifier_first : (c : ℕ) → is_start c ≡ true → (ds : List ℕ) → spells_identifier (c ∷ ds) ≡ identifier_rest true ds
identifier_first c h ds = rw h refl

selected_holds : (elements : List Element) (names c : ℕ) (text : List ℕ) (r : Reader) → AtEnd elements names text → ends_selected false elements ≡ true → scalar c ≡ true
    → step_selected elements names c ≡ Some r → HoldsRead r (text ++ encode_utf8 c)
selected_holds elements names c text r h selected valid e = elim (taken (is_start c) _ _ r e) [
  | inl first ↦ elim (taken (nat_lt names 64) _ _ r first.1) [
    | inl free ↦ is_the _ r _ free.1 (record {
      holds = record {
        front = text;
        is_bare = true;
        before = names;
        whole = h.whole;
        prim = h.prim;
        count = refl;
        few = room_is names (ltb-true names 64 free.0);
        text_is = ap (λ b. text ++ written (b && true) (Prim (encode_utf8 c))) (sym selected);
        part = part_push spells_identifier spells_identifier (identifier_rest true) [] c (part_empty spells_identifier) valid (identifier_first c first.0);
        blank = λ no. absurd cc;
      };
    })
    | inr full ↦ absurd (cc full.1)
  ]
  | inr other ↦ begins_holds elements names c text r h other.1
]
  where
    room_is : (n : ℕ) → n < 64 → n + 1 ≤ 64
    room_is n h = omega arith

not_colon : (c : ℕ) → is_xid_continue c ≡ true → (c == 58) ≡ false
not_colon c h = elim (cases_Bool (c == 58)) [
  | inl colon ↦ let same = ap is_xid_continue (eqb-true c 58 colon) in absurd (cc (continue_colon, same, h))
  | inr other ↦ other
]

joined_goes : (begun : Bool) (c : ℕ) → goes_on begun c ≡ true → (ds : List ℕ) → spells_joined begun (c ∷ ds) ≡ spells_joined true ds
joined_goes true c h ds = rw (not_colon c h, h) refl
joined_goes false c h ds = rw h refl

joined_colon : (c : ℕ) → (c == 58) ≡ true → (ds : List ℕ) → spells_joined true (c ∷ ds) ≡ spells_joined false ds
joined_colon c h ds = rw h refl

property_holds : (elements : List Element) (names : ℕ) (name : List ℕ) (begun : Bool) (c : ℕ) (text : List ℕ) (r : Reader) → InElement elements names (46 ∷ name) text
    → IsPart (spells_joined false) (spells_joined begun) name → scalar c ≡ true → step_property elements names name begun c ≡ Some r → HoldsRead r (text ++ encode_utf8 c)
property_holds elements names name begun c text r h part valid e = elim (taken (goes_on begun c) _ _ r e) [
  | inl goes ↦ is_the _ r _ goes.1 (record { holds = (more, part_push (spells_joined false) (spells_joined begun) (spells_joined true) name c part valid (joined_goes begun c goes.0)) })
  | inr ends ↦ elim (taken (c == 58) _ _ r ends.1) [
    | inl colon ↦ closed begun part colon.1 colon.0
    | inr none ↦ absurd (cc none.1)
  ]
]
  where
    more : InElement elements names (46 ∷ (name ++ encode_utf8 c)) (text ++ encode_utf8 c)
    more = open_more elements names (46 ∷ name) text (encode_utf8 c) h

    closed : (b : Bool) → IsPart (spells_joined false) (spells_joined b) name → (if b then Some (reader elements names (PropertyName (name ++ encode_utf8 c) false)) else None) ≡ Some r
        → (c == 58) ≡ true → HoldsRead r (text ++ encode_utf8 c)
    closed true part e colon = is_the _ r _ e (record { holds = (more, part_push (spells_joined false) (spells_joined true) (spells_joined false) name c part valid (joined_colon c colon)) })
    closed false part e colon = absurd cc

nothing_holds : (elements : List Element) (names c : ℕ) (text : List ℕ) (r : Reader) → elements ≡ [] → text ≡ [] → step_nothing elements c ≡ Some r → HoldsRead r (text ++ encode_utf8 c)
nothing_holds elements names c text r none blank e = elim (taken (c == 47) _ _ r e) [
  | inl slash ↦ is_the _ r _ slash.1 (record {
    holds = subst (λ (es : List Element). InName es 1 [] false (text ++ encode_utf8 c)) (sym none) (record {
      front = [];
      is_bare = false;
      before = 0;
      whole = record { named = refl; ordered = refl; spelled = refl; count = refl; few = lit≤ tt };
      prim = refl;
      count = refl;
      few = lit≤ tt;
      text_is = ap (λ l. l ++ encode_utf8 c) blank ∙ mark_is c 47 slash.0 (lit< tt);
      part = part_empty spells_identifier;
      blank = λ _. refl;
    });
  })
  | inr other ↦ absurd (cc other.1)
]

open_holds : (elements : List Element) (names : ℕ) (o : Open) (c : ℕ) (text : List ℕ) (r : Reader) → Holds elements names o text → scalar c ≡ true → step_open elements names o c ≡ Some r → HoldsRead r (text ++ encode_utf8 c)
open_holds elements names Nothing c text r h valid e = nothing_holds elements names c text r h.0 h.1 e
open_holds elements names (Name name begun) c text r h valid e = name_holds elements names name begun c text r h valid e
open_holds elements names (Set set begun) c text r h valid e = set_holds elements names set begun c text r h.0 h.1 valid e
open_holds elements names (AfterSet set) c text r h valid e = after_set_holds elements names set c text r h.0 h.1 valid e
open_holds elements names (Variant set variant begun) c text r h valid e = variant_holds elements names set variant begun c text r h.0 h.1.0 h.1.1 valid e
open_holds elements names Selected c text r h valid e = selected_holds elements names c text r h.0 h.1 valid e
open_holds elements names (PropertyName name begun) c text r h valid e = property_holds elements names name begun c text r h.0 h.1 valid e

pub step_holds : (r next : Reader) (c : ℕ) (text : List ℕ) → HoldsRead r text → scalar c ≡ true → step r c ≡ Some next → HoldsRead next (text ++ encode_utf8 c)
unfolding step
step_holds r next c text h valid e = open_holds r.elements r.names r.open_part c text next h.holds valid e

pub all_hold : (cs : List ℕ) (r last : Reader) (text : List ℕ) → HoldsRead r text → scalars cs ≡ true → after_all cs (Some r) ≡ Some last → HoldsRead last (text ++ encode_utf8_all cs)
all_hold [] r last text h valid e = rw append-nil (is_the r last text e h)
all_hold (c ∷ cs) r last text h valid e =
    let both = and_parts (scalar c) (scalars cs) valid in
    subst (HoldsRead last) (append_assoc text (encode_utf8 c) (encode_utf8_all cs))
    (go (step r c) refl e (λ next is after. all_hold cs next last (text ++ encode_utf8 c) (step_holds r next c text h both.0 is) both.1 after))
  where
    go : (o : Option Reader) → step r c ≡ o → after_all cs o ≡ Some last
        → ((next : Reader) → step r c ≡ Some next → after_all cs (Some next) ≡ Some last → HoldsRead last ((text ++ encode_utf8 c) ++ encode_utf8_all cs))
        → HoldsRead last ((text ++ encode_utf8 c) ++ encode_utf8_all cs)
    go None is e again = absurd (cc (after_none cs, e))
    go (Some next) is e again = again next is e

-- ---- the end

text_of : (path : List Element) (text : List ℕ) → is_empty path ≡ false → Spells false path text → IsTextOf path text
text_of [] text some h = absurd cc
text_of (e ∷ path) text some h = h

well_formed : (path : List Element) (names : ℕ) (text : List ℕ) → IsRead path names text → IsWellFormed path
well_formed path names text h = record { ordered = h.ordered; named = h.named; few = rw h.count h.few }

-- what has been read is a path, and the text spells it
pub record IsSpelled (path : List Element) (text : List ℕ) : Type 0 where
  pub well_formed : IsWellFormed path
  pub spelled : IsTextOf path text

spelled_path : (path : List Element) (names : ℕ) (text : List ℕ) → IsRead path names text → is_empty path ≡ false → IsSpelled path text
spelled_path path names text h some = record { well_formed = well_formed path names text h; spelled = text_of path text some h.spelled }

the_path : (a path : List Element) (text : List ℕ) → Some a ≡ Some path → IsSpelled a text → IsSpelled path text
the_path a path text e h = subst (λ (p : List Element). IsSpelled p text) (same e) h
  where
    same : Some a ≡ Some path → a ≡ path
    same e = cc

finish_name_holds : (elements : List Element) (names : ℕ) (name : List ℕ) (begun : Bool) (text : List ℕ) (path : List Element) → InName elements names name begun text
    → finish_name elements name begun ≡ Some path → IsSpelled path text
finish_name_holds elements names name true text path h e =
    let ended = name_closes elements names name text h in the_path _ path text e (spelled_path (elements ++ Prim name ∷ []) names text ended.whole ended.some)
finish_name_holds [] names name false text path h e = the_path [] path text e (record {
  well_formed = record { ordered = refl; named = refl; few = lit≤ tt };
  spelled = h.text_is ∙ ap (λ l. l ++ (47 ∷ name)) h.whole.spelled ∙ ap (λ n. 47 ∷ n) (h.blank refl);
})
finish_name_holds (x ∷ elements) names name false text path h e = absurd (cc e)

finish_property_holds : (elements : List Element) (names : ℕ) (name : List ℕ) (begun : Bool) (text : List ℕ) (path : List Element) → InElement elements names (46 ∷ name) text
    → IsPart (spells_joined false) (spells_joined begun) name → finish_property elements name begun ≡ Some path → IsSpelled path text
finish_property_holds elements names name true text path h part e = elim (taken (is_number_word name) _ _ path e) [
  | inl number ↦ absurd (cc number.1)
  | inr other ↦
      let ended = closes elements names text (Property name) h (property_done name part other.0) refl in
      the_path _ path text other.1 (spelled_path (elements ++ Property name ∷ []) names text ended (some_push elements (Property name)))
]
finish_property_holds elements names name false text path h part e = absurd (cc e)

finish_open_holds : (elements : List Element) (names : ℕ) (o : Open) (text : List ℕ) (path : List Element) → Holds elements names o text → finish_open elements o ≡ Some path → IsSpelled path text
finish_open_holds elements names Nothing text path h e = absurd (cc e)
finish_open_holds elements names (Name name begun) text path h e = finish_name_holds elements names name begun text path h e
finish_open_holds elements names (Set set begun) text path h e = absurd (cc e)
finish_open_holds elements names (AfterSet set) text path h e = absurd (cc e)
finish_open_holds elements names (Variant set variant begun) text path h e = absurd (cc e)
finish_open_holds elements names Selected text path h e = the_path elements path text e (spelled_path elements names text h.0.whole h.0.some)
finish_open_holds elements names (PropertyName name begun) text path h e = finish_property_holds elements names name begun text path h.0 h.1 e

pub finish_holds : (r : Reader) (text : List ℕ) (path : List Element) → HoldsRead r text → finish r ≡ Some path → IsSpelled path text
unfolding finish
finish_holds r text path h e = finish_open_holds r.elements r.names r.open_part text path h.holds e
