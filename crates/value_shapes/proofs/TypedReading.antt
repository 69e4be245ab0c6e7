-- What is read where a type is expected is of the type.
use Rattle.std.proofs.Common.{◌≡◌, ◌∙◌, ℕ, Bool, true, false, List, [], ◌∷◌, ◌++◌, length, nat_le, Option, Some, None, Ok, Err, ap, sym, refl, subst, arith}
use Rattle.std.specs.Prelude.{if◌then◌else◌}
use Rattle.plain_data.specs.Ends.{last}
use Rattle.sdf_values.specs.Conforms.{conforms, members_of, one}
use Rattle.sdf_values.specs.declared.refusal.RefusalKind.TheVariants.{Syntax, ValueShape, TooDeep}
use Rattle.sdf_values.specs.declared.type_name.ElementType.{ElementType}
use Rattle.sdf_values.specs.declared.type_name.TypeName.{TypeName}
use Rattle.sdf_values.specs.declared.value.Value.{Value}
use Rattle.usda_lexer.specs.declared.token.LexFault.{LexFault}
use Rattle.usda_lexer.specs.declared.token.Mark.TheVariants as mark
use Rattle.usda_lexer.specs.declared.token.TokenKind.{TokenKind}
use Rattle.usda_lexer.specs.declared.token.TokenKind.TheVariants as kind
use Rattle.usda_lexer.specs.Words.{Word, Lexing}
use Rattle.usda_values.specs.declared.draft.ValueDraft.{ValueDraft}
use Rattle.usda_values.specs.declared.level.Bracket.{Bracket}
use Rattle.usda_values.specs.declared.level.Bracket.TheVariants as bracket
use Rattle.usda_values.specs.declared.level.Level.{Level}
use Rattle.usda_values.specs.declared.level.Place.{Place}
use Rattle.usda_values.specs.declared.level.Place.TheVariants as place
use Rattle.usda_values.specs.declared.shape.Shape.TheVariants.{Typed, Untyped}
use Rattle.usda_values.specs.Drafts.{Acted, new_level, is_full, is_lacking, is_statement, give_act, given, put_act, deeper, open_members, open_dict, go_out, close_act, closes, act_value, act_value_or_end, act_behind_member, act_at, value_act, is_complete, is_complete_at, value_of, value_of_last, draft_of}
use Rattle.usda_values.specs.Reads.{got, reads, behind_act, lexing_of, no_more}
use Rattle.usda_values.specs.Scalars.{Taken, token_value}
use Rattle.usda_values.specs.Shapes.{counted_members, tuple_members, array_members, takes_dictionary, take_value}
use Rattle.value_shapes.proofs.Taken.{typed}
use Rattle.value_shapes.proofs.TypedLevels.{is_open, Stack, bottom, tuple, array, Good, ongoing, finished, IsGood, type_of, placed, closed, typed_stands}

-- a draft of these parts
abbrev pub draft : Place → Level → List Level → ValueDraft
draft p l outer = record { place = p; level = l; outer = outer }

-- the draft after an act
abbrev Keeps : TypeName → Acted → Type 0
Keeps t r = (next : ValueDraft) → r ≡ Ok next → IsGood t next

keeps_ok : (t : TypeName) (d : ValueDraft) → IsGood t d → Keeps t (Ok d)
keeps_ok t d good next h = let same : d ≡ next = cc in subst (IsGood t) same good

deeper_keeps : (t : TypeName) (p q : Place) (level l : Level) (outer : List Level) → is_open q ≡ true → Stack t (outer ++ l ∷ []) level → Keeps t (deeper q level (draft p l outer))
deeper_keeps t p q level l outer goes_on stack next h = test (nat_le 64 (length outer)) h
  where
    test : (b : Bool) → (if b then Err TooDeep else Ok (draft q level (outer ++ l ∷ []))) ≡ Ok next → IsGood t next
    test true g = absurd cc
    test false g = keeps_ok t (draft q level (outer ++ l ∷ [])) (ongoing q level (outer ++ l ∷ []) goes_on stack) next g

-- a tuple is opened
tuple_opened : (t : TypeName) (p : Place) (l : Level) (outer : List Level) (e : ElementType) (o : Option (ElementType × ℕ)) → Stack t outer l → l.item ≡ Typed (one e) → members_of e ≡ o
    → Keeps t (open_members bracket.Tuple place.Value (counted_members o) (draft p l outer))
tuple_opened t p l outer e None below i is next h = absurd cc
tuple_opened t p l outer e (Some m) below i is next h = test (is_full l.room) refl h
  where
    inner : Level
    inner = new_level bracket.Tuple (Typed (one m.0)) (Some m.1)

    test : (b : Bool) → is_full l.room ≡ b → (if b then Err ValueShape else deeper place.Value inner (draft p l outer)) ≡ Ok next → IsGood t next
    test true full g = absurd cc
    test false full g =
        deeper_keeps t p place.Value inner l outer refl (tuple outer l inner e m m.1 below full i is refl refl refl (omega arith) refl) next g

array_opened : (t : TypeName) (p : Place) (l : Level) (outer : List Level) (e : ElementType) → Stack t outer l → l.item ≡ Typed (typed e true)
    → Keeps t (open_members bracket.Array place.ValueOrEnd (Some (Typed (one e), None)) (draft p l outer))
array_opened t p l outer e below i next h = test (is_full l.room) refl h
  where
    inner : Level
    inner = new_level bracket.Array (Typed (one e)) None

    test : (b : Bool) → is_full l.room ≡ b → (if b then Err ValueShape else deeper place.ValueOrEnd inner (draft p l outer)) ≡ Ok next → IsGood t next
    test true full g = absurd cc
    test false full g = deeper_keeps t p place.ValueOrEnd inner l outer refl (array outer l inner e below full i refl refl refl) next g

by_tuple : (t : TypeName) (p : Place) (l : Level) (outer : List Level) (a : Bool) (e : ElementType) → Stack t outer l → l.item ≡ Typed (typed e a)
    → Keeps t (open_members bracket.Tuple place.Value (tuple_members (Typed (typed e a))) (draft p l outer))
by_tuple t p l outer true e below i next h = absurd cc
by_tuple t p l outer false e below i next h = tuple_opened t p l outer e (members_of e) below i refl next h

by_array : (t : TypeName) (p : Place) (l : Level) (outer : List Level) (a : Bool) (e : ElementType) → Stack t outer l → l.item ≡ Typed (typed e a)
    → Keeps t (open_members bracket.Array place.ValueOrEnd (array_members (Typed (typed e a))) (draft p l outer))
by_array t p l outer true e below i next h = array_opened t p l outer e below i next h
by_array t p l outer false e below i next h = absurd cc

-- no dictionary is a value of a type
dict_opened : (l : Level) (p : Place) (outer : List Level) (u : TypeName) (next : ValueDraft) → l.item ≡ Typed u → open_dict (draft p l outer) ≡ Ok next → ⊥
dict_opened l p outer u next i h = test (is_full l.room) (takes_dictionary l.item) (ap takes_dictionary i) h
  where
    test : (b c : Bool) → c ≡ false → (if b then Err ValueShape else if c then deeper place.EntryType (new_level bracket.Dict Untyped None) (draft p l outer) else Err ValueShape) ≡ Ok next → ⊥
    test true c e g = cc
    test false true e g = cc
    test false false e g = cc

-- a value of one token
put_keeps : (t : TypeName) (p : Place) (l : Level) (outer : List Level) (r : Taken) → Stack t outer l → Keeps t (put_act r (draft p l outer))
put_keeps t p l outer (Err k) below next h = absurd cc
put_keeps t p l outer (Ok v) below next h = test (is_full l.room) refl h
  where
    shown : (r : Taken) → take_value l.item (is_statement l.bracket) v ≡ r → is_full l.room ≡ false → given r (draft p l outer) ≡ Ok next → IsGood t next
    shown (Err k) e full g = absurd cc
    shown (Ok x) e full g =
        keeps_ok t (give_act x (draft p l outer))
        (placed t outer l x below full
        (λ u i. typed_stands (is_statement l.bracket) u v x (sym (ap (λ s. take_value s (is_statement l.bracket) v) i) ∙ e))) next g

    test : (b : Bool) → is_full l.room ≡ b → (if b then Err ValueShape else given (take_value l.item (is_statement l.bracket) v) (draft p l outer)) ≡ Ok next → IsGood t next
    test true full g = absurd cc
    test false full g = shown (take_value l.item (is_statement l.bracket) v) refl full g

value_keeps : (t : TypeName) (p : Place) (l : Level) (outer : List Level) (k : TokenKind) (text : List ℕ) → Stack t outer l → Keeps t (act_value k text (draft p l outer))
value_keeps t p l outer (kind.Mark mark.OpenParen) text below next h =
    let u = type_of t outer l below in
    by_tuple t p l outer u.0.array u.0.element below u.1 next (ap (λ s. open_members bracket.Tuple place.Value (tuple_members s) (draft p l outer)) (sym u.1) ∙ h)
value_keeps t p l outer (kind.Mark mark.OpenBracket) text below next h =
    let u = type_of t outer l below in
    by_array t p l outer u.0.array u.0.element below u.1 next (ap (λ s. open_members bracket.Array place.ValueOrEnd (array_members s) (draft p l outer)) (sym u.1) ∙ h)
value_keeps t p l outer (kind.Mark mark.OpenBrace) text below next h = let u = type_of t outer l below in absurd (dict_opened l p outer u.0 next u.1 h)
value_keeps t p l outer k text below next h = put_keeps t p l outer (token_value k text) below next h

-- the mark that closes a level
no_statement : (c : Bracket) (k : TokenKind) → closes c k ≡ true → is_statement c ≡ false
no_statement bracket.Statement k h = absurd cc
no_statement _ k h = refl

close_keeps : (t : TypeName) (p : Place) (l : Level) (outer : List Level) (k : TokenKind) → Stack t outer l → closes l.bracket k ≡ true → Keeps t (close_act (draft p l outer))
close_keeps t p l outer k below is next h = test (is_lacking l.room) refl h
  where
    test : (b : Bool) → is_lacking l.room ≡ b → (if b then Err ValueShape else Ok (go_out (last outer) (draft p l outer))) ≡ Ok next → IsGood t next
    test true lacking g = absurd cc
    test false lacking g = keeps_ok t (go_out (last outer) (draft p l outer)) (closed t p outer l below (no_statement l.bracket k is) lacking) next g

or_end_keeps : (t : TypeName) (p : Place) (l : Level) (outer : List Level) (k : TokenKind) (text : List ℕ) → Stack t outer l → Keeps t (act_value_or_end k text (draft p l outer))
or_end_keeps t p l outer k text below next h = test (closes l.bracket k) refl h
  where
    test : (b : Bool) → closes l.bracket k ≡ b → (if b then close_act (draft p l outer) else act_value k text (draft p l outer)) ≡ Ok next → IsGood t next
    test true is g = close_keeps t p l outer k below is next g
    test false is g = value_keeps t p l outer k text below next g

closes_or_not : (t : TypeName) (p : Place) (l : Level) (outer : List Level) (k : TokenKind) → Stack t outer l → Keeps t (if closes l.bracket k then close_act (draft p l outer) else Err Syntax)
closes_or_not t p l outer k below next h = test (closes l.bracket k) refl h
  where
    test : (b : Bool) → closes l.bracket k ≡ b → (if b then close_act (draft p l outer) else Err Syntax) ≡ Ok next → IsGood t next
    test true is g = close_keeps t p l outer k below is next g
    test false is g = absurd cc

member_keeps : (t : TypeName) (p : Place) (l : Level) (outer : List Level) (k : TokenKind) → Stack t outer l → Keeps t (act_behind_member k (draft p l outer))
member_keeps t p l outer (kind.Mark mark.Comma) below next h = keeps_ok t (draft place.ValueOrEnd l outer) (ongoing place.ValueOrEnd l outer refl below) next h
member_keeps t p l outer k below next h = closes_or_not t p l outer k below next h

open_keeps : (t : TypeName) (p : Place) (l : Level) (outer : List Level) (k : TokenKind) (text : List ℕ) → is_open p ≡ true → Stack t outer l → Keeps t (act_at p k text (draft p l outer))
open_keeps t place.Value l outer k text is below next h = value_keeps t place.Value l outer k text below next h
open_keeps t place.ValueOrEnd l outer k text is below next h = or_end_keeps t place.ValueOrEnd l outer k text below next h
open_keeps t place.BehindMember l outer k text is below next h = member_keeps t place.BehindMember l outer k below next h
open_keeps t _ l outer k text is below next h = absurd cc

act_keeps : (t : TypeName) (p : Place) (l : Level) (outer : List Level) (k : TokenKind) (text : List ℕ) → Good t p l outer → Keeps t (act_at p k text (draft p l outer))
act_keeps t p l outer k text (ongoing _ _ _ is below) next h = open_keeps t p l outer k text is below next h
act_keeps t _ l outer k text (finished _ _ v is fits) next h = absurd cc

step_keeps : (t : TypeName) (d next : ValueDraft) (k : TokenKind) (text : List ℕ) → IsGood t d → value_act k text d ≡ Ok next → IsGood t next
unfolding value_act
step_keeps t d next k text good h = act_keeps t d.place d.level d.outer k text good next h

no_open : (p : Place) → is_open p ≡ true → is_complete_at p ≡ true → ⊥
no_open place.Complete is complete = cc
no_open _ is complete = cc

value_good : (t : TypeName) (p : Place) (l : Level) (outer : List Level) → Good t p l outer → is_complete_at p ≡ true → conforms (value_of_last (last l.values)) t ≡ true
value_good t p l outer (ongoing _ _ _ is below) complete = absurd (no_open p is complete)
value_good t _ l outer (finished _ _ v is fits) complete = subst (λ x. conforms (value_of_last (last x)) t ≡ true) (sym is) fits

no_value : (f : Option LexFault) (end : ℕ) (p : Place) (v : Value) (left : Lexing) → no_more f end p ≡ got v left → ⊥
no_value None end p v left h = cc
no_value (Some f) end p v left h = cc

pub read_good : (ws : List Word) (f : Option LexFault) (end : ℕ) (t : TypeName) (d : ValueDraft) (v : Value) (left : Lexing) → IsGood t d → reads ws f end d ≡ got v left → conforms v t ≡ true
read_good [] f end t d v left good h = absurd (no_value f end d.place v left h)
read_good (w ∷ ws) f end t d v left good h = acted (value_act w.kind w.text d) refl h (λ next g k. read_good ws f end t next v left g k)
  where
    complete : (next : ValueDraft) (b : Bool) → is_complete next ≡ b → IsGood t next → (if b then got (value_of next) (lexing_of ws f) else reads ws f end next) ≡ got v left
        → (IsGood t next → reads ws f end next ≡ got v left → conforms v t ≡ true) → conforms v t ≡ true
    complete next true is fine g rest =
        let same : value_of next ≡ v = cc in
        subst (λ x. conforms x t ≡ true) same (value_good t next.place next.level next.outer fine is)
    complete next false is fine g rest = rest fine g

    acted : (r : Acted) → value_act w.kind w.text d ≡ r → behind_act r w ws f (λ next. reads ws f end next) ≡ got v left
        → ((next : ValueDraft) → IsGood t next → reads ws f end next ≡ got v left → conforms v t ≡ true) → conforms v t ≡ true
    acted (Err k) e g rest = absurd cc
    acted (Ok next) e g rest = complete next (is_complete next) refl (step_keeps t d next w.kind w.text good e) g (rest next)

begun : (t : TypeName) → IsGood t (draft_of place.Value (Typed t))
begun t = ongoing place.Value (new_level bracket.Statement (Typed t) (Some 1)) [] refl (bottom (new_level bracket.Statement (Typed t) (Some 1)) refl refl refl)

pub typed_read : (t : TypeName) (ws : List Word) (f : Option LexFault) (end : ℕ) (v : Value) (left : Lexing) → reads ws f end (draft_of place.Value (Typed t)) ≡ got v left → conforms v t ≡ true
typed_read t ws f end v left h = read_good ws f end t (draft_of place.Value (Typed t)) v left (begun t) h
