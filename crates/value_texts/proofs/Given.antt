-- Tokens that are given to a draft.
use Rattle.std.proofs.Common.{◌≡◌, ◌∙◌, ℕ, zero, suc, ◌+◌, ◌<◌, ◌≤◌, ◌==◌, nat_le, true, false, List, [], ◌∷◌, ◌++◌, append_assoc, append-nil, length, length-append, map, Option, Some, None, Ok, Err, ap, sym, refl, arith}
use Rattle.std.specs.Prelude.{if◌then◌else◌}
use Rattle.std.proofs.lemmas.Bool.Decides.{nat_tests}
use Rattle.std.proofs.lemmas.Bool.{and_parts}
use Rattle.plain_data.specs.Ends.{last, front, last-push, front-push}
use Rattle.sdf_values.specs.Proper.{all_true}
use Rattle.sdf_values.specs.declared.refusal.RefusalKind.TheVariants.{ValueShape, TooDeep}
use Rattle.sdf_values.specs.declared.value.DictType.TheVariants as dict
use Rattle.sdf_values.specs.declared.value.Value.{Value}
use Rattle.sdf_values.proofs.Values.{Each}
use Rattle.usda_lexer.specs.declared.token.TokenKind.{TokenKind}
use Rattle.usda_values.specs.declared.shape.Shape.{Shape}
use Rattle.usda_values.specs.declared.level.Bracket.{Bracket}
use Rattle.usda_values.specs.declared.level.Place.{Place}
use Rattle.usda_values.specs.declared.level.Place.TheVariants as place
use Rattle.usda_values.specs.declared.level.Level.{Level}
use Rattle.usda_values.specs.declared.draft.ValueDraft.{ValueDraft}
use Rattle.usda_values.specs.Scalars.{token_value}
use Rattle.usda_values.specs.Shapes.{take_value, Members}
use Rattle.usda_values.specs.Drafts.{Acted, new_level, one_fewer, is_full, is_lacking, give, give_act, given, put_act, is_statement, behind_value, deeper, open_members, close_act, go_out, wrap_as, closes, act_value, act_at, value_act, awaits_value}
use Rattle.value_texts.specs.Cuts.{Said}
use Rattle.value_texts.specs.Acts.{acts}
use Rattle.value_texts.specs.Writable.{is_writable}
use Rattle.value_texts.specs.ValueWords.{words_of_value, more_said, listed_said, comma}
use Rattle.value_texts.specs.Readable.{is_read_as, all_read, depth, deepest}
use Rattle.value_texts.proofs.Leaves.{Gives}

-- one token, and then the others
pub acts_one : (w : Said) (ws : List Said) (d e : ValueDraft) → value_act w.kind w.text d ≡ Ok e → acts (w ∷ ws) d ≡ acts ws e
acts_one w ws d e h = ap (λ (r : Acted). elim r as (λ _. Acted) [ Ok next ↦ acts ws next | Err k ↦ Err k ]) h

abbrev pub Then : List Said → Acted → Acted
Then ws r = elim r as (λ _. Acted) [ Ok next ↦ acts ws next | Err k ↦ Err k ]

pub acts_then : (a b : List Said) (d e : ValueDraft) → acts a d ≡ Ok e → acts (a ++ b) d ≡ acts b e
acts_then [] b d e h = let same : d ≡ e = cc h in ap (acts b) same
acts_then (w ∷ a) b d e h = cases (value_act w.kind w.text d) h (λ next k. acts_then a b next e k)
  where
    cases : (r : Acted) → Then a r ≡ Ok e → ((next : ValueDraft) → acts a next ≡ Ok e → acts (a ++ b) next ≡ acts b e) → Then (a ++ b) r ≡ acts b e
    cases (Ok next) k more = more next k
    cases (Err k) g more = absurd cc

abbrev pub ClosesNone : TokenKind → Type 0
ClosesNone k = (b : Bracket) → closes b k ≡ false

pub first_token : (k : TokenKind) (text : List ℕ) (d : ValueDraft) → awaits_value d.place ≡ true → ClosesNone k → value_act k text d ≡ act_value k text d
unfolding value_act
first_token k text d h none = at_place d.place h
  where
    at_place : (p : Place) → awaits_value p ≡ true → act_at p k text d ≡ act_value k text d
    at_place place.Value e = refl
    at_place place.ValueOrEnd e = ap (λ b. if b then close_act d else act_value k text d) (none d.level.bracket)
    at_place _ e = absurd cc

-- a value of one token
pub leaf_given : (w : Said) (v : Value) (d : ValueDraft) → awaits_value d.place ≡ true → is_full d.level.room ≡ false → ClosesNone w.kind → act_value w.kind w.text d ≡ put_act (token_value w.kind w.text) d
    → Gives w.kind w.text d.level.item (is_statement d.level.bracket) v → acts (w ∷ []) d ≡ Ok (give_act v d)
leaf_given w v d h room none put gives =
    acts_one w [] d (give_act v d)
    (first_token w.kind w.text d h none ∙ put ∙ ap (λ r. put_act r d) gives.1
    ∙ ap (λ b. if b then Err ValueShape else given (take_value d.level.item (is_statement d.level.bracket) gives.0) d) room ∙ ap (λ r. given r d) gives.2)

-- what is to be shown of a value: its tokens put it into a draft
abbrev pub IsGiven : Value → Type 0
IsGiven v =
    (d : ValueDraft) → awaits_value d.place ≡ true → is_full d.level.room ≡ false → is_writable v ≡ true → is_read_as v d.level.item (is_statement d.level.bracket) ≡ true
    → depth v + length d.outer ≤ 64 → acts (words_of_value v) d ≡ Ok (give_act v d)

-- so many members are to come
abbrev pub Fits : Option ℕ → ℕ → Type 0
Fits None n = Unit {0}
Fits (Some k) n = k ≡ n

pub fits_more : (room : Option ℕ) (n : ℕ) → Fits room (suc n) → (is_full room ≡ false) × Fits (one_fewer room) n
fits_more None n h = (refl, tt)
fits_more (Some zero) n h = absurd (omega (arith, h))
fits_more (Some (suc k)) n h = (grind (arith, nat_tests), omega (arith, h))

pub fits_all : (room : Option ℕ) → Fits room 0 → is_lacking room ≡ false
fits_all None h = refl
fits_all (Some k) h = ap (λ n. if n == 0 then false else true) h

-- a draft within a tuple or an array
abbrev pub within : Place → Bracket → Shape → Option ℕ → List Value → List Level → ValueDraft
within p b item room values outer =
    record { place = p; level = record { bracket = b; item = item; room = room; values = values; entries = []; key = []; ty = dict.Dictionary }; outer = outer }

-- a level more
pub opened : (b : Bracket) (p : Place) (m : Shape × Option ℕ) (members : Members) (d : ValueDraft) → members ≡ Some m → is_full d.level.room ≡ false → length d.outer < 64
    → open_members b p members d ≡ Ok (within p b m.0 m.1 [] (d.outer ++ d.level ∷ []))
opened b p m members d is room few =
    let test : nat_le 64 (length d.outer) ≡ false = grind (arith, nat_tests) in
    ap (λ x. open_members b p x d) is ∙ ap (λ t. if t then Err ValueShape else deeper p (new_level b m.0 m.1) d) room
    ∙ ap (λ t. if t then Err TooDeep else Ok (record { place = p; level = new_level b m.0 m.1; outer = d.outer ++ d.level ∷ [] })) test

-- a level that is closed
pub went_out : (l : Level) (outer : List Level) (d : ValueDraft) → d.outer ≡ outer ++ l ∷ [] → is_lacking d.level.room ≡ false
    → close_act d ≡ Ok (record { place = behind_value l.bracket; level = give (wrap_as d.level.bracket d.level) l; outer = outer })
went_out l outer d is room =
    ap (λ t. if t then Err ValueShape else Ok (go_out (last d.outer) d)) room
    ∙ ap (λ o. Ok (go_out o d)) (ap last is ∙ last-push outer l)
    ∙ ap (λ o. Ok (record { place = behind_value l.bracket; level = give (wrap_as d.level.bracket d.level) l; outer = o })) (ap front is ∙ front-push outer l)

-- a draft in which a value was closed
abbrev pub closed : Level → List Level → Value → ValueDraft
closed l outer v = record { place = behind_value l.bracket; level = give v l; outer = outer }

-- what a bracket does: its members go behind each other, and its mark closes it
pub record IsList (b : Bracket) (close : Said) (wrap : List Value → Value) : Type 0 where
  pub inner : is_statement b ≡ false
  pub goes : (p : Place) (item : Shape) (room : Option ℕ) (values : List Value) (outer : List Level) (v : Value)
      → give_act v (within p b item room values outer) ≡ within place.BehindMember b item (one_fewer room) (values ++ v ∷ []) outer
  pub parts : (item : Shape) (room : Option ℕ) (values : List Value) (outer : List Level) → value_act comma.kind comma.text (within place.BehindMember b item room values outer) ≡ Ok (within place.ValueOrEnd b item room values outer)
  pub ends : (item : Shape) (room : Option ℕ) (values : List Value) (outer : List Level) → value_act close.kind close.text (within place.BehindMember b item room values outer) ≡ close_act (within place.BehindMember b item room values outer)
  pub wraps : (item : Shape) (room : Option ℕ) (values : List Value) (outer : List Level) → wrap_as b (within place.BehindMember b item room values outer).level ≡ wrap values

module _ (b : Bracket) (close : Said) (wrap : List Value → Value) (is : IsList b close wrap) (item : Shape) (l : Level) (outer : List Level) where
  ended : (room : Option ℕ) (values : List Value) → is_lacking room ≡ false → acts (close ∷ []) (within place.BehindMember b item room values (outer ++ l ∷ [])) ≡ Ok (closed l outer (wrap values))
  ended room values h =
      let d : ValueDraft = within place.BehindMember b item room values (outer ++ l ∷ []) in
      acts_one close [] d (closed l outer (wrap values))
      (is.ends item room values (outer ++ l ∷ []) ∙ went_out l outer d refl h ∙ ap (λ v. Ok (closed l outer v)) (is.wraps item room values (outer ++ l ∷ [])))

  -- one member, where it has to come
  one_given : (v : Value) (p : Place) (room : Option ℕ) (values : List Value) → IsGiven v → awaits_value p ≡ true → is_full room ≡ false → is_writable v ≡ true → is_read_as v item false ≡ true
      → depth v + suc (length outer) ≤ 64 → acts (words_of_value v) (within p b item room values (outer ++ l ∷ [])) ≡ Ok (within place.BehindMember b item (one_fewer room) (values ++ v ∷ []) (outer ++ l ∷ []))
  one_given v p room values given h full w r deep =
      given (within p b item room values (outer ++ l ∷ [])) h full w (ap (is_read_as v item) is.inner ∙ r) (omega (arith, deep, length-append outer (l ∷ [])))
      ∙ ap Ok (is.goes p item room values (outer ++ l ∷ []) v)

  pub more_given : (vs : List Value) (room : Option ℕ) (values : List Value) → Each IsGiven vs → all_true (map is_writable vs) ≡ true → all_read (map is_read_as vs) item ≡ true
      → deepest (map depth vs) + suc (length outer) ≤ 64 → Fits room (length vs)
      → acts (more_said (map words_of_value vs) ++ close ∷ []) (within place.BehindMember b item room values (outer ++ l ∷ [])) ≡ Ok (closed l outer (wrap (values ++ vs)))
  more_given [] room values each w r deep fits = ended room values (fits_all room fits) ∙ ap (λ x. Ok (closed l outer (wrap x))) (sym (append-nil values))
  more_given (v ∷ vs) room values each w r deep fits =
      let p = and_parts (is_writable v) (all_true (map is_writable vs)) w in
      let q = and_parts (is_read_as v item false) (all_read (map is_read_as vs) item) r in
      let f = fits_more room (length vs) fits in
      let more : List Said = more_said (map words_of_value vs) in
      acts_one comma ((words_of_value v ++ more) ++ close ∷ []) (within place.BehindMember b item room values (outer ++ l ∷ [])) (within place.ValueOrEnd b item room values (outer ++ l ∷ [])) (is.parts item room values (outer ++ l ∷ []))
      ∙ ap (λ x. acts x (within place.ValueOrEnd b item room values (outer ++ l ∷ []))) (append_assoc (words_of_value v) more (close ∷ []))
      ∙ acts_then (words_of_value v) (more ++ close ∷ []) (within place.ValueOrEnd b item room values (outer ++ l ∷ [])) (within place.BehindMember b item (one_fewer room) (values ++ v ∷ []) (outer ++ l ∷ []))
      (one_given v place.ValueOrEnd room values each.0 refl f.0 p.0 q.0 (omega (arith, deep)))
      ∙ more_given vs (one_fewer room) (values ++ v ∷ []) each.1 p.1 q.1 (omega (arith, deep)) f.1
      ∙ ap (λ x. Ok (closed l outer (wrap x))) (append_assoc values (v ∷ []) vs)

  pub listed_given : (v : Value) (vs : List Value) (p : Place) (room : Option ℕ) → awaits_value p ≡ true → Each IsGiven (v ∷ vs) → all_true (map is_writable (v ∷ vs)) ≡ true → all_read (map is_read_as (v ∷ vs)) item ≡ true
      → deepest (map depth (v ∷ vs)) + suc (length outer) ≤ 64 → Fits room (suc (length vs))
      → acts (listed_said (map words_of_value (v ∷ vs)) ++ close ∷ []) (within p b item room [] (outer ++ l ∷ [])) ≡ Ok (closed l outer (wrap (v ∷ vs)))
  listed_given v vs p room h each w r deep fits =
      let x = and_parts (is_writable v) (all_true (map is_writable vs)) w in
      let y = and_parts (is_read_as v item false) (all_read (map is_read_as vs) item) r in
      let f = fits_more room (length vs) fits in
      let more : List Said = more_said (map words_of_value vs) in
      ap (λ x. acts x (within p b item room [] (outer ++ l ∷ []))) (append_assoc (words_of_value v) more (close ∷ []))
      ∙ acts_then (words_of_value v) (more ++ close ∷ []) (within p b item room [] (outer ++ l ∷ [])) (within place.BehindMember b item (one_fewer room) (v ∷ []) (outer ++ l ∷ []))
      (one_given v p room [] each.0 h f.0 x.0 y.0 (omega (arith, deep)))
      ∙ more_given vs (one_fewer room) (v ∷ []) each.1 x.1 y.1 (omega (arith, deep)) f.1
