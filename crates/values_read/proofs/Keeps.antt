-- Each token keeps a draft sound.
use Rattle.std.proofs.Common.{◌≡◌, ◌∙◌, ℕ, suc, ◌<◌, ◌≤◌, Bool, true, false, List, [], ◌∷◌, ◌++◌, length, length-append, nat_le, Option, Some, None, Ok, Err, ap, sym, refl, subst, arith}
use Rattle.std.specs.Prelude.{if◌then◌else◌}
use Rattle.std.specs.Str.{is_utf8}
use Rattle.std.proofs.lemmas.Bool.Decides.{nat_tests}
use Rattle.plain_data.specs.Ends.{last}
use Rattle.sdf_values.specs.TypeNames.{find_element}
use Rattle.sdf_values.specs.Conforms.{one}
use Rattle.sdf_values.specs.Proper.{are_keys_in_order}
use Rattle.std.specs.Prelude.{codes, ◌==◌}
use Rattle.std.specs.Cmp.Lexicographic.{pointwise}
use Rattle.std.proofs.lemmas.Bool.{and_parts}
use Rattle.sdf_values.specs.declared.refusal.RefusalKind.TheVariants.{Syntax, ValueShape, DuplicateSpec, TooDeep}
use Rattle.sdf_values.specs.declared.type_name.ElementType.{ElementType}
use Rattle.sdf_values.specs.declared.type_name.TheConstants.{ELEMENTS}
use Rattle.sdf_values.specs.declared.value.DictType.TheVariants as dict
use Rattle.usd_names.specs.Names.{is_name}
use Rattle.usda_lexer.specs.Meanings.{string_text}
use Rattle.usda_lexer.specs.declared.token.Mark.TheVariants as mark
use Rattle.usda_lexer.specs.declared.token.TokenKind.{TokenKind}
use Rattle.usda_lexer.specs.declared.token.TokenKind.TheVariants as kind
use Rattle.usda_values.specs.declared.draft.ValueDraft.{ValueDraft}
use Rattle.usda_values.specs.declared.level.Bracket.{Bracket}
use Rattle.usda_values.specs.declared.level.Bracket.TheVariants as bracket
use Rattle.usda_values.specs.declared.level.Level.{Level}
use Rattle.usda_values.specs.declared.level.Place.{Place}
use Rattle.usda_values.specs.declared.level.Place.TheVariants as place
use Rattle.usda_values.specs.declared.shape.Shape.{Shape}
use Rattle.usda_values.specs.declared.shape.Shape.TheVariants.{Untyped, Metadata, Typed, Dictionary}
use Rattle.usda_values.specs.Drafts.{Acted, new_level, is_full, is_lacking, is_statement, give_act, given, put_act, deeper, open_members, open_dict, go_out, close_act, closes, typed_entry, array_type, key_act, act_value, act_value_or_end, act_behind_member, act_entry, act_key, act_behind_type, act_type_end, act_equals, act_behind_entry, act_dictionary, act_at, value_act, is_complete_at, value_of_last, draft_of}
use Rattle.usda_values.specs.Entries.{has_key}
use Rattle.usda_values.specs.Scalars.{Taken, token_value}
use Rattle.usda_values.specs.Shapes.{Members, entry_shape, tuple_members, array_members, takes_dictionary, take_value}
use Rattle.value_shapes.proofs.TypedReading.{draft}
use Rattle.values_read.specs.Laws.{ReadValuesAreSound}
use Rattle.values_read.specs.Tokens.{is_sound_token}
use Rattle.values_read.specs.Sound.{IsSound, AreSoundEntries, keys_in, AreCounted, IsDict, IsInner, HasNewKey, AwaitsValue, AreOpen, whole, inside, MayEnd, IsAt, IsDraft, ongoing, complete, IsSoundDraft}
use Rattle.values_read.proofs.Leaves.{leaf_sound, string_utf8}
use Rattle.values_read.proofs.Levels.{placed, MayClose, may_end, dict_closes, closed}

-- the draft after an act
abbrev Keeps : Shape → Acted → Type 0
Keeps shape r = (next : ValueDraft) → r ≡ Ok next → IsSoundDraft shape next

keeps_ok : (shape : Shape) (d : ValueDraft) → IsSoundDraft shape d → Keeps shape (Ok d)
keeps_ok shape d sound next h = let same : d ≡ next = cc in subst (IsSoundDraft shape) same sound

-- no more than 64 levels are open
few_outside : (shape : Shape) (outer : List Level) (l : Level) → AreOpen shape outer l → length outer ≤ 64
few_outside shape _ l (whole _ b i none) = omega arith
few_outside shape _ l (inside outer parent _ below full awaits few inner) = omega (arith, length-append outer (parent ∷ []), few)

-- ---- a level more

deeper_keeps : (shape : Shape) (p q : Place) (level l : Level) (outer : List Level) → AreOpen shape outer l → is_full l.room ≡ false → AwaitsValue l.bracket l → IsInner level.bracket (suc (length outer)) l.item level → IsAt q level
    → Keeps shape (deeper q level (draft p l outer))
deeper_keeps shape p q level l outer below full awaits inner at next h = test (nat_le 64 (length outer)) refl h
  where
    test : (b : Bool) → nat_le 64 (length outer) ≡ b → (if b then Err TooDeep else Ok (draft q level (outer ++ l ∷ []))) ≡ Ok next → IsSoundDraft shape next
    test true e g = absurd cc
    test false e g =
        let few : length outer < 64 = grind (arith, nat_tests) in
        keeps_ok shape (draft q level (outer ++ l ∷ [])) (ongoing q level (outer ++ l ∷ []) (inside outer l level below full awaits few inner) at) next g

-- a tuple has as much room as it has members to come
all_counted : (e : Shape) (item : Shape) (room : Option ℕ) → tuple_members e ≡ Some (item, room) → AreCounted room 0 room
all_counted e item None h = refl
all_counted e item (Some n) h = (n, refl, omega arith)

tuple_opened : (shape : Shape) (p : Place) (l : Level) (outer : List Level) (o : Members) → AreOpen shape outer l → AwaitsValue l.bracket l → tuple_members l.item ≡ o
    → Keeps shape (open_members bracket.Tuple place.Value o (draft p l outer))
tuple_opened shape p l outer None below awaits is next h = absurd cc
tuple_opened shape p l outer (Some m) below awaits is next h = test (is_full l.room) refl h
  where
    inner : Level
    inner = new_level bracket.Tuple m.0 m.1

    test : (b : Bool) → is_full l.room ≡ b → (if b then Err ValueShape else deeper place.Value inner (draft p l outer)) ≡ Ok next → IsSoundDraft shape next
    test true full g = absurd cc
    test false full g =
        deeper_keeps shape p place.Value inner l outer below full awaits (record { all = m.1; members = is; counted = all_counted l.item m.0 m.1 is; each = tt }) tt next g

-- an array has room for any number of members
no_bound : (e : Shape) (m : Shape × Option ℕ) → array_members e ≡ Some m → m.1 ≡ None
no_bound e m h = any e h
  where
    typed : (b : Bool) (item : Shape) → (if b then Some (item, None) else None) ≡ Some m → m.1 ≡ None
    typed true item g = (let same : (item, None) ≡ m = cc g in ap (λ (x : Shape × Option ℕ). x.1) (sym same))
    typed false item g = absurd cc

    any : (e : Shape) → array_members e ≡ Some m → m.1 ≡ None
    any Untyped g = (let same : (Untyped, None) ≡ m = cc g in ap (λ (x : Shape × Option ℕ). x.1) (sym same))
    any Metadata g = (let same : (Metadata, None) ≡ m = cc g in ap (λ (x : Shape × Option ℕ). x.1) (sym same))
    any (Typed t) g = typed t.array (Typed (one t.element)) g
    any Dictionary g = absurd cc

array_opened : (shape : Shape) (p : Place) (l : Level) (outer : List Level) (o : Members) → AreOpen shape outer l → AwaitsValue l.bracket l → array_members l.item ≡ o
    → Keeps shape (open_members bracket.Array place.ValueOrEnd o (draft p l outer))
array_opened shape p l outer None below awaits is next h = absurd cc
array_opened shape p l outer (Some m) below awaits is next h = test (is_full l.room) refl h
  where
    inner : Level
    inner = new_level bracket.Array m.0 m.1

    test : (b : Bool) → is_full l.room ≡ b → (if b then Err ValueShape else deeper place.ValueOrEnd inner (draft p l outer)) ≡ Ok next → IsSoundDraft shape next
    test true full g = absurd cc
    test false full g =
        let none = no_bound l.item m is in
        deeper_keeps shape p place.ValueOrEnd inner l outer below full awaits (record { members = is ∙ ap (λ x. Some (m.0, x)) none; room = none; each = tt }) tt next g

dict_opened : (shape : Shape) (p : Place) (l : Level) (outer : List Level) → AreOpen shape outer l → AwaitsValue l.bracket l → Keeps shape (open_dict (draft p l outer))
dict_opened shape p l outer below awaits next h = test (is_full l.room) refl (takes_dictionary l.item) refl h
  where
    inner : Level
    inner = new_level bracket.Dict Untyped None

    test : (b : Bool) → is_full l.room ≡ b → (c : Bool) → takes_dictionary l.item ≡ c → (if b then Err ValueShape else if c then deeper place.EntryType inner (draft p l outer) else Err ValueShape) ≡ Ok next → IsSoundDraft shape next
    test true full c may g = absurd cc
    test false full true may g = deeper_keeps shape p place.EntryType inner l outer below full awaits (record { may = may; room = refl; ordered = refl; each = tt }) refl next g
    test false full false may g = absurd cc

-- ---- a value of one token

put_keeps : (shape : Shape) (p : Place) (l : Level) (outer : List Level) (k : TokenKind) (text : List ℕ) (r : Taken) → is_sound_token k text ≡ true → token_value k text ≡ r → AreOpen shape outer l → AwaitsValue l.bracket l
    → Keeps shape (put_act r (draft p l outer))
put_keeps shape p l outer k text (Err r) sound e below awaits next h = absurd cc
put_keeps shape p l outer k text (Ok v) sound e below awaits next h = test (is_full l.room) refl h
  where
    shown : (r : Taken) → take_value l.item (is_statement l.bracket) v ≡ r → is_full l.room ≡ false → given r (draft p l outer) ≡ Ok next → IsSoundDraft shape next
    shown (Err r) f full g = absurd cc
    shown (Ok x) f full g =
        keeps_ok shape (give_act x (draft p l outer))
        (placed shape outer l x below full awaits (leaf_sound (length outer) k text v l.item (is_statement l.bracket) x (few_outside shape outer l below) sound e f)) next g

    test : (b : Bool) → is_full l.room ≡ b → (if b then Err ValueShape else given (take_value l.item (is_statement l.bracket) v) (draft p l outer)) ≡ Ok next → IsSoundDraft shape next
    test true full g = absurd cc
    test false full g = shown (take_value l.item (is_statement l.bracket) v) refl full g

value_keeps : (shape : Shape) (p : Place) (l : Level) (outer : List Level) (k : TokenKind) (text : List ℕ) → is_sound_token k text ≡ true → AreOpen shape outer l → AwaitsValue l.bracket l → Keeps shape (act_value k text (draft p l outer))
value_keeps shape p l outer (kind.Mark mark.OpenParen) text sound below awaits next h = tuple_opened shape p l outer (tuple_members l.item) below awaits refl next h
value_keeps shape p l outer (kind.Mark mark.OpenBracket) text sound below awaits next h = array_opened shape p l outer (array_members l.item) below awaits refl next h
value_keeps shape p l outer (kind.Mark mark.OpenBrace) text sound below awaits next h = dict_opened shape p l outer below awaits next h
value_keeps shape p l outer k text sound below awaits next h = put_keeps shape p l outer k text (token_value k text) sound refl below awaits next h

-- ---- a mark that closes a level

close_keeps : (shape : Shape) (p : Place) (l : Level) (outer : List Level) → AreOpen shape outer l → MayClose l.bracket l → Keeps shape (close_act (draft p l outer))
close_keeps shape p l outer below may next h = test (is_lacking l.room) refl h
  where
    test : (b : Bool) → is_lacking l.room ≡ b → (if b then Err ValueShape else Ok (go_out (last outer) (draft p l outer))) ≡ Ok next → IsSoundDraft shape next
    test true lacking g = absurd cc
    test false lacking g = keeps_ok shape (go_out (last outer) (draft p l outer)) (closed shape p outer l below may lacking) next g

-- where a tuple or an array may end, a value may come too
awaits_too : (b : Bracket) (l : Level) → MayEnd b l → AwaitsValue b l
awaits_too bracket.Statement l h = tt
awaits_too bracket.Tuple l h = tt
awaits_too bracket.Array l h = tt
awaits_too bracket.Dict l h = absurd h

or_end_keeps : (shape : Shape) (p : Place) (l : Level) (outer : List Level) (k : TokenKind) (text : List ℕ) → is_sound_token k text ≡ true → AreOpen shape outer l → MayEnd l.bracket l
    → Keeps shape (act_value_or_end k text (draft p l outer))
or_end_keeps shape p l outer k text sound below may next h = test (closes l.bracket k) h
  where
    test : (b : Bool) → (if b then close_act (draft p l outer) else act_value k text (draft p l outer)) ≡ Ok next → IsSoundDraft shape next
    test true g = close_keeps shape p l outer below (may_end l.bracket l may) next g
    test false g = value_keeps shape p l outer k text sound below (awaits_too l.bracket l may) next g

closes_or_not : (shape : Shape) (p : Place) (l : Level) (outer : List Level) (b : Bool) → AreOpen shape outer l → MayEnd l.bracket l → Keeps shape (if b then close_act (draft p l outer) else Err Syntax)
closes_or_not shape p l outer true below may next h = close_keeps shape p l outer below (may_end l.bracket l may) next h
closes_or_not shape p l outer false below may next h = absurd cc

member_keeps : (shape : Shape) (p : Place) (l : Level) (outer : List Level) (k : TokenKind) → AreOpen shape outer l → MayEnd l.bracket l → Keeps shape (act_behind_member k (draft p l outer))
member_keeps shape p l outer (kind.Mark mark.Comma) below may next h = keeps_ok shape (draft place.ValueOrEnd l outer) (ongoing place.ValueOrEnd l outer below may) next h
member_keeps shape p l outer k below may next h = closes_or_not shape p l outer (closes l.bracket k) below may next h

-- ---- an entry of a dictionary

-- the levels, where the innermost has another type, key or expectation for its open entry
still_open : (shape : Shape) (l m : Level) (outer : List Level) → l.bracket ≡ bracket.Dict → m.bracket ≡ bracket.Dict → m.room ≡ l.room → m.entries ≡ l.entries → AreOpen shape outer l → AreOpen shape outer m
still_open shape l m _ is b r e (whole _ lone i none) = absurd (let bad : bracket.Statement ≡ bracket.Dict = sym lone ∙ is in cc)
still_open shape l m _ is b r e (inside outer parent _ below full awaits few inner) =
    inside outer parent m below full awaits few (subst (λ x. IsInner x (suc (length outer)) parent.item m) (sym b) (same (subst (λ x. IsInner x (suc (length outer)) parent.item l) is inner)))
  where
    same : IsDict (suc (length outer)) parent.item l → IsDict (suc (length outer)) parent.item m
    same d = record {
      may = d.may;
      room = r ∙ d.room;
      ordered = ap (λ x. are_keys_in_order (keys_in x)) e ∙ d.ordered;
      each = subst (AreSoundEntries (suc (length outer))) (sym e) d.each;
    }

entry_keeps : (shape : Shape) (p : Place) (l : Level) (outer : List Level) (k : TokenKind) (text : List ℕ) → AreOpen shape outer l → l.bracket ≡ bracket.Dict → Keeps shape (act_entry k text (draft p l outer))
entry_keeps shape p l outer (kind.Mark mark.CloseBrace) text below is next h = close_keeps shape p l outer below (dict_closes l is) next h
entry_keeps shape p l outer kind.Name text below is next h = test (pointwise ◌==◌ text (codes "dictionary")) h
  where
    typed : (o : Option ElementType) → typed_entry o (draft p l outer) ≡ Ok next → IsSoundDraft shape next
    typed None g = absurd cc
    typed (Some e) g =
        let m : Level = record l { ty = dict.Plain (record { element = e; array = false }) } in
        keeps_ok shape (draft place.BehindType m outer) (ongoing place.BehindType m outer (still_open shape l m outer is is refl refl below) is) next g

    test : (b : Bool) → (if b then Ok (draft place.Key (record l { ty = dict.Dictionary }) outer) else typed_entry (find_element ELEMENTS text) (draft p l outer)) ≡ Ok next → IsSoundDraft shape next
    test true g =
        let m : Level = record l { ty = dict.Dictionary } in
        keeps_ok shape (draft place.Key m outer) (ongoing place.Key m outer (still_open shape l m outer is is refl refl below) is) next g
    test false g = typed (find_element ELEMENTS text) g
entry_keeps shape p l outer _ text below is next h = absurd cc

found_key : (shape : Shape) (p : Place) (l : Level) (outer : List Level) (key : Option (List ℕ)) → ((t : List ℕ) → key ≡ Some t → is_utf8 t ≡ true) → AreOpen shape outer l → l.bracket ≡ bracket.Dict → Keeps shape (key_act key (draft p l outer))
found_key shape p l outer None utf8 below is next h = absurd cc
found_key shape p l outer (Some t) utf8 below is next h = test (has_key t l.entries) refl h
  where
    test : (b : Bool) → has_key t l.entries ≡ b → (if b then Err DuplicateSpec else Ok (draft place.Equals (record l { key = t }) outer)) ≡ Ok next → IsSoundDraft shape next
    test true new g = absurd cc
    test false new g =
        let m : Level = record l { key = t } in
        keeps_ok shape (draft place.Equals m outer) (ongoing place.Equals m outer (still_open shape l m outer is is refl refl below) (is, record { utf8 = utf8 t refl; new = new })) next g

key_keeps : (shape : Shape) (p : Place) (l : Level) (outer : List Level) (k : TokenKind) (text : List ℕ) → is_sound_token k text ≡ true → AreOpen shape outer l → l.bracket ≡ bracket.Dict → Keeps shape (act_key k text (draft p l outer))
key_keeps shape p l outer kind.Name text sound below is next h =
    found_key shape p l outer (Some text) (λ t e. let same : text ≡ t = cc e in subst (λ x. is_utf8 x ≡ true) same (and_parts (is_utf8 text) (is_name text) sound).0) below is next h
key_keeps shape p l outer kind.String text sound below is next h = found_key shape p l outer (string_text text) (λ t e. string_utf8 text t e) below is next h
key_keeps shape p l outer _ text sound below is next h = absurd cc

behind_type_keeps : (shape : Shape) (p : Place) (l : Level) (outer : List Level) (k : TokenKind) (text : List ℕ) → is_sound_token k text ≡ true → AreOpen shape outer l → l.bracket ≡ bracket.Dict → Keeps shape (act_behind_type k text (draft p l outer))
behind_type_keeps shape p l outer (kind.Mark mark.OpenBracket) text sound below is next h =
    let m : Level = record l { ty = array_type l.ty } in
    keeps_ok shape (draft place.TypeEnd m outer) (ongoing place.TypeEnd m outer (still_open shape l m outer is is refl refl below) is) next h
behind_type_keeps shape p l outer k text sound below is next h = key_keeps shape p l outer k text sound below is next h

type_end_keeps : (shape : Shape) (p : Place) (l : Level) (outer : List Level) (k : TokenKind) → AreOpen shape outer l → l.bracket ≡ bracket.Dict → Keeps shape (act_type_end k (draft p l outer))
type_end_keeps shape p l outer (kind.Mark mark.CloseBracket) below is next h = keeps_ok shape (draft place.Key l outer) (ongoing place.Key l outer below is) next h
type_end_keeps shape p l outer _ below is next h = absurd cc

equals_keeps : (shape : Shape) (p : Place) (l : Level) (outer : List Level) (k : TokenKind) → AreOpen shape outer l → l.bracket ≡ bracket.Dict → HasNewKey l → Keeps shape (act_equals k (draft p l outer))
equals_keeps shape p l outer (kind.Mark mark.Equals) below is key next h =
    let m : Level = record l { item = entry_shape l.ty } in
    keeps_ok shape (draft place.Value m outer)
    (ongoing place.Value m outer (still_open shape l m outer is is refl refl below) (subst (λ x. AwaitsValue x m) (sym is) (record { utf8 = key.utf8; new = key.new }, refl))) next h
equals_keeps shape p l outer _ below is key next h = absurd cc

behind_entry_keeps : (shape : Shape) (p : Place) (l : Level) (outer : List Level) (k : TokenKind) (text : List ℕ) → AreOpen shape outer l → l.bracket ≡ bracket.Dict → Keeps shape (act_behind_entry k text (draft p l outer))
behind_entry_keeps shape p l outer (kind.Mark mark.Comma) text below is next h = keeps_ok shape (draft place.EntryType l outer) (ongoing place.EntryType l outer below is) next h
behind_entry_keeps shape p l outer (kind.Mark mark.Semicolon) text below is next h = keeps_ok shape (draft place.EntryType l outer) (ongoing place.EntryType l outer below is) next h
behind_entry_keeps shape p l outer k text below is next h = entry_keeps shape p l outer k text below is next h

dictionary_keeps : (shape : Shape) (p : Place) (l : Level) (outer : List Level) (k : TokenKind) → AreOpen shape outer l → l.bracket ≡ bracket.Statement → Keeps shape (act_dictionary k (draft p l outer))
dictionary_keeps shape p l outer (kind.Mark mark.OpenBrace) below is next h = dict_opened shape p l outer below (subst (λ x. AwaitsValue x l) (sym is) tt) next h
dictionary_keeps shape p l outer _ below is next h = absurd cc

-- ---- each place

open_keeps : (shape : Shape) (p : Place) (l : Level) (outer : List Level) (k : TokenKind) (text : List ℕ) → is_sound_token k text ≡ true → AreOpen shape outer l → IsAt p l → Keeps shape (act_at p k text (draft p l outer))
open_keeps shape place.Value l outer k text sound below at next h = value_keeps shape place.Value l outer k text sound below at next h
open_keeps shape place.ValueOrEnd l outer k text sound below at next h = or_end_keeps shape place.ValueOrEnd l outer k text sound below at next h
open_keeps shape place.BehindMember l outer k text sound below at next h = member_keeps shape place.BehindMember l outer k below at next h
open_keeps shape place.EntryType l outer k text sound below at next h = entry_keeps shape place.EntryType l outer k text below at next h
open_keeps shape place.BehindType l outer k text sound below at next h = behind_type_keeps shape place.BehindType l outer k text sound below at next h
open_keeps shape place.TypeEnd l outer k text sound below at next h = type_end_keeps shape place.TypeEnd l outer k below at next h
open_keeps shape place.Key l outer k text sound below at next h = key_keeps shape place.Key l outer k text sound below at next h
open_keeps shape place.Equals l outer k text sound below at next h = equals_keeps shape place.Equals l outer k below at.0 at.1 next h
open_keeps shape place.BehindEntry l outer k text sound below at next h = behind_entry_keeps shape place.BehindEntry l outer k text below at next h
open_keeps shape place.Dictionary l outer k text sound below at next h = dictionary_keeps shape place.Dictionary l outer k below at next h
open_keeps shape place.Complete l outer k text sound below at next h = absurd at

act_keeps : (shape : Shape) (p : Place) (l : Level) (outer : List Level) (k : TokenKind) (text : List ℕ) → is_sound_token k text ≡ true → IsDraft shape p l outer → Keeps shape (act_at p k text (draft p l outer))
act_keeps shape p l outer k text sound (ongoing _ _ _ below at) next h = open_keeps shape p l outer k text sound below at next h
act_keeps shape _ l outer k text sound (complete _ _ v is fits) next h = absurd cc

pub kept : (shape : Shape) (d next : ValueDraft) (k : TokenKind) (text : List ℕ) → is_sound_token k text ≡ true → IsSoundDraft shape d → value_act k text d ≡ Ok next → IsSoundDraft shape next
unfolding value_act
kept shape d next k text sound is h = act_keeps shape d.place d.level d.outer k text sound is next h

no_open : (p : Place) (l : Level) → IsAt p l → is_complete_at p ≡ true → ⊥
no_open place.Complete l at is = at
no_open _ l at is = cc

ended : (shape : Shape) (p : Place) (l : Level) (outer : List Level) → IsDraft shape p l outer → is_complete_at p ≡ true → IsSound 0 shape true (value_of_last (last l.values))
ended shape p l outer (ongoing _ _ _ below at) is = absurd (no_open p l at is)
ended shape _ l outer (complete _ _ v one fits) is = subst (λ x. IsSound 0 shape true (value_of_last (last x))) (sym one) fits

begun : (shape : Shape) (p : Place) → IsAt p (new_level bracket.Statement shape (Some 1)) → IsSoundDraft shape (draft_of p shape)
begun shape p at = ongoing p (new_level bracket.Statement shape (Some 1)) [] (whole (new_level bracket.Statement shape (Some 1)) refl refl refl) at

pub sound : ReadValuesAreSound
sound = record { value = λ shape. begun shape place.Value tt; dictionary = λ shape. begun shape place.Dictionary refl; kept = kept; complete = λ shape d is end. ended shape d.place d.level d.outer is end }
