-- A value of a line is what the reader of values alone reads of its tokens, with their paths from the root down.
use Rattle.std.proofs.Common.{◌≡◌, ◌∙◌, sym, ap, refl, ℕ, Bool, true, false, List, [], ◌∷◌, Option, Some, None, Result, Ok, Err}
use Rattle.std.specs.Prelude.{if◌then◌else◌, not}
use Rattle.sdf_paths.specs.declared.element.Element.{Element}
use Rattle.sdf_values.specs.declared.refusal.RefusalKind.{RefusalKind}
use Rattle.sdf_values.specs.declared.refusal.RefusalKind.TheVariants.{Syntax}
use Rattle.sdf_values.specs.declared.value.Value.{Value}
use Rattle.usda_lexer.specs.Meanings.{path_text}
use Rattle.usda_lexer.specs.Words.{Word, Lexer, Lexing, left}
use Rattle.usda_lexer.specs.declared.token.LexFault.{LexFault}
use Rattle.usda_lexer.specs.declared.token.TokenKind.{TokenKind}
use Rattle.usda_lexer.specs.declared.token.TokenKind.TheVariants as kind
use Rattle.usda_lists.specs.Paths.{absolute_from}
use Rattle.usda_statements.specs.OpenValues.{opened, given_in, given_path, with_draft}
use Rattle.usda_statements.specs.declared.open_value.OpenValue.{OpenValue}
use Rattle.usda_values.specs.Drafts.{Acted, draft_of, value_act, act_at, value_of, is_complete, is_complete_at}
use Rattle.usda_values.specs.Reads.{Reading, reads, got, refused, lexing_of, behind_act}
use Rattle.usda_values.specs.declared.draft.ValueDraft.{ValueDraft}
use Rattle.usda_values.specs.declared.level.Place.{Place}
use Rattle.usda_values.specs.declared.level.Place.TheVariants as place
use Rattle.usda_values.specs.declared.shape.Shape.TheVariants.{Untyped}
use Rattle.script_words.specs.Answers.{◌>>=◌, made}
use Rattle.script_words.specs.Values.{unless_fault, of_all, value_from, value_in}
use Rattle.script_words.specs.Words.{lexer_of}
use Rattle.script_words.specs.Laws.{absolute_text, put_word, absolute_words, IsValueOf, LineValuesAreRead}
use Rattle.composition.proofs.Tests.{by_test}

-- ---- cases

by_option : {A R : Type 0} → (o : Option A) → (o ≡ None → R) → ((x : A) → o ≡ Some x → R) → R
by_option None none some = none refl
by_option (Some x) none some = some x refl

by_result : {A E R : Type 0} → (r : Result A E) → ((x : A) → r ≡ Ok x → R) → ((e : E) → r ≡ Err e → R) → R
by_result (Ok x) ok err = ok x refl
by_result (Err e) ok err = err e refl

nothing : {A R : Type 0} {x : A} → None ≡ Some x → R
nothing e = absurd cc

-- ---- a token more

abbrev open_with : ValueDraft → OpenValue
open_with d = record { draft = d; only_strings = false }

abbrev act_of : TokenKind → Option (List ℕ) → ValueDraft → Acted
act_of k None d = Err Syntax
act_of k (Some text) d = value_act k text d

by_token : (text : Option (List ℕ)) (d : ValueDraft) → given_path false text d ≡ act_of kind.Path text d
by_token None d = refl
by_token (Some text) d = refl

by_kind : (base : List Element) (k : TokenKind) (text : List ℕ) (d : ValueDraft) → given_in base false k text d ≡ act_of k (absolute_text base k text) d
by_kind base kind.Name text d = refl
by_kind base kind.Number text d = refl
by_kind base kind.String text d = refl
by_kind base kind.Asset text d = refl
by_kind base kind.Path text d = by_token (absolute_from base (path_text text)) d
by_kind base (kind.Mark m) text d = refl

-- what is read behind an act
abbrev behind : List Element → List Word → ValueDraft → Acted → Option Value
behind base ws d acted = made (with_draft (open_with d) acted) >>= λ next. value_from base next ws

step : (base : List Element) (w : Word) (ws : List Word) (d : ValueDraft)
    → value_from base (open_with d) (w ∷ ws) ≡ behind base ws d (act_of w.kind (absolute_text base w.kind w.text) d)
step base w ws d = ap (behind base ws d) (by_kind base w.kind w.text d)

-- ---- behind a whole value nothing follows

complete_place : (p : Place) → is_complete_at p ≡ true → p ≡ place.Complete
complete_place place.Complete on = refl
complete_place place.Value on = absurd cc
complete_place place.ValueOrEnd on = absurd cc
complete_place place.BehindMember on = absurd cc
complete_place place.EntryType on = absurd cc
complete_place place.BehindType on = absurd cc
complete_place place.TypeEnd on = absurd cc
complete_place place.Key on = absurd cc
complete_place place.Equals on = absurd cc
complete_place place.BehindEntry on = absurd cc
complete_place place.Dictionary on = absurd cc

complete_act : (k : TokenKind) (text : List ℕ) (d : ValueDraft) → is_complete d ≡ true → value_act k text d ≡ Err Syntax
unfolding value_act
complete_act k text d on = ap (λ (p : Place). act_at p k text d) (complete_place d.place on)

abbrev whole_by : ValueDraft → Bool → Option Value
whole_by d complete = if not complete then None else Some (value_of d)

refused_act : (base : List Element) (ws : List Word) (d : ValueDraft) (k : TokenKind) (text : Option (List ℕ)) → is_complete d ≡ true → behind base ws d (act_of k text d) ≡ None
refused_act base ws d k None on = refl
refused_act base ws d k (Some text) on = ap (behind base ws d) (complete_act k text d on)

-- the value of a whole one, where nothing follows
record IsWhole (ws : List Word) (d : ValueDraft) (x : Value) : Type 0 where
  none : ws ≡ []
  is : x ≡ value_of d

some_is : {A : Type 0} {x y : A} → Some x ≡ Some y → y ≡ x
some_is e = cc

whole : (base : List Element) (ws : List Word) (d : ValueDraft) (x : Value) → is_complete d ≡ true → value_from base (open_with d) ws ≡ Some x → IsWhole ws d x
whole base [] d x on h = record { none = refl; is = some_is (sym (ap (whole_by d) on) ∙ h) }
whole base (w ∷ ws) d x on h = nothing (sym (step base w ws d ∙ refused_act base ws d w.kind (absolute_text base w.kind w.text) on) ∙ h)

-- ---- from the line's value to the reader alone

record Alone (base : List Element) (end : ℕ) (ws : List Word) (d : ValueDraft) (x : Value) : Type 0 where
  words : List Word
  absolute : absolute_words base ws ≡ Some words
  read : reads words None end d ≡ got x (lexing_of [] None)

abbrev read_on : ℕ → List Word → Word → Acted → Reading
read_on end ws w acted = behind_act acted w ws None (λ next. reads ws None end next)

abbrev read_by : ℕ → List Word → ValueDraft → Bool → Reading
read_by end ws next complete = if complete then got (value_of next) (lexing_of ws None) else reads ws None end next

forward : (base : List Element) (end : ℕ) (ws : List Word) (d : ValueDraft) (x : Value) → is_complete d ≡ false → value_from base (open_with d) ws ≡ Some x → Alone base end ws d x
forward base end [] d x going h = nothing (sym (ap (whole_by d) going) ∙ h)
forward base end (w ∷ ws) d x going h =
    let h' : behind base ws d (act_of w.kind (absolute_text base w.kind w.text) d) ≡ Some x = sym (step base w ws d) ∙ h in
    by_option (absolute_text base w.kind w.text)
    (λ none. nothing (sym (ap (λ (o : Option (List ℕ)). behind base ws d (act_of w.kind o d)) none) ∙ h'))
    (λ text some.
    let h2 : behind base ws d (value_act w.kind text d) ≡ Some x = sym (ap (λ (o : Option (List ℕ)). behind base ws d (act_of w.kind o d)) some) ∙ h' in
    by_result (value_act w.kind text d)
    (λ next ok.
    let h3 : value_from base (open_with next) ws ≡ Some x = sym (ap (behind base ws d) ok) ∙ h2 in
    by_test (is_complete next)
    (λ on.
    let last : IsWhole ws next x = whole base ws next x on h3 in
    record {
      words = record w { text = text } ∷ [];
      absolute = ap (λ (o : Option (List ℕ)). put_word w o (absolute_words base ws)) some ∙ ap (λ (l : List Word). put_word w (Some text) (absolute_words base l)) last.none;
      read = ap (read_on end [] (record w { text = text })) ok ∙ ap (read_by end [] next) on ∙ ap (λ (y : Value). got y (lexing_of [] None)) (sym last.is);
    })
    (λ off.
    let rest : Alone base end ws next x = forward base end ws next x off h3 in
    record {
      words = record w { text = text } ∷ rest.words;
      absolute = ap (λ (o : Option (List ℕ)). put_word w o (absolute_words base ws)) some ∙ ap (put_word w (Some text)) rest.absolute;
      read = ap (read_on end rest.words (record w { text = text })) ok ∙ ap (read_by end rest.words next) off ∙ rest.read;
    }))
    (λ k err. nothing (sym (ap (behind base ws d) err) ∙ h2)))

-- ---- and back

refused_got : {R : Type 0} {k : RefusalKind} {at : ℕ} {l m : Lexing} {v : Value} → refused k at l ≡ got v m → R
refused_got e = absurd cc

record SameGot (ws : List Word) (a b : Value) : Type 0 where
  none : ws ≡ []
  same : a ≡ b

abbrev left_words : Reading → List Word
left_words (got v l) = l.words
left_words (refused k at l) = l.words

same_got : (ws : List Word) (a b : Value) → got a (lexing_of ws None) ≡ got b (lexing_of [] None) → SameGot ws a b
same_got ws a b e = record { none = ap left_words e; same = cc }

no_words : (base : List Element) (ws : List Word) → absolute_words base ws ≡ Some [] → ws ≡ []
no_words base [] e = refl
no_words base (w ∷ ws) e =
    by_option (absolute_text base w.kind w.text)
    (λ none. nothing (sym (ap (λ (o : Option (List ℕ)). put_word w o (absolute_words base ws)) none) ∙ e))
    (λ text some.
    let e2 : put_word w (Some text) (absolute_words base ws) ≡ Some [] = sym (ap (λ (o : Option (List ℕ)). put_word w o (absolute_words base ws)) some) ∙ e in
    by_option (absolute_words base ws)
    (λ none. nothing (sym (ap (put_word w (Some text)) none) ∙ e2))
    (λ rest is. let e3 : Some (record w { text = text } ∷ rest) ≡ Some [] = sym (ap (put_word w (Some text)) is) ∙ e2 in absurd cc))

backward : (base : List Element) (end : ℕ) (ws words : List Word) (d : ValueDraft) (x : Value)
    → absolute_words base ws ≡ Some words → reads words None end d ≡ got x (lexing_of [] None) → value_from base (open_with d) ws ≡ Some x
backward base end [] words d x absolute read =
    let none : words ≡ [] = cc in refused_got (sym (ap (λ (l : List Word). reads l None end d) none) ∙ read)
backward base end (w ∷ ws) words d x absolute read =
    by_option (absolute_text base w.kind w.text)
    (λ none. nothing (sym (ap (λ (o : Option (List ℕ)). put_word w o (absolute_words base ws)) none) ∙ absolute))
    (λ text some.
    let a2 : put_word w (Some text) (absolute_words base ws) ≡ Some words = sym (ap (λ (o : Option (List ℕ)). put_word w o (absolute_words base ws)) some) ∙ absolute in
    by_option (absolute_words base ws)
    (λ none. nothing (sym (ap (put_word w (Some text)) none) ∙ a2))
    (λ rest is.
    let a3 : words ≡ record w { text = text } ∷ rest = some_is (sym (ap (put_word w (Some text)) is) ∙ a2) in
    let r2 : read_on end rest (record w { text = text }) (value_act w.kind text d) ≡ got x (lexing_of [] None) = sym (ap (λ (l : List Word). reads l None end d) a3) ∙ read in
    let back : value_from base (open_with d) (w ∷ ws) ≡ behind base ws d (value_act w.kind text d)
    = step base w ws d ∙ ap (λ (o : Option (List ℕ)). behind base ws d (act_of w.kind o d)) some in
    by_result (value_act w.kind text d)
    (λ next ok.
    let r3 : read_by end rest next (is_complete next) ≡ got x (lexing_of [] None) = sym (ap (read_on end rest (record w { text = text })) ok) ∙ r2 in
    let on_with : value_from base (open_with d) (w ∷ ws) ≡ value_from base (open_with next) ws = back ∙ ap (behind base ws d) ok in
    by_test (is_complete next)
    (λ on.
    let s : SameGot rest (value_of next) x = same_got rest (value_of next) x (sym (ap (read_by end rest next) on) ∙ r3) in
    let empty : ws ≡ [] = no_words base ws (is ∙ ap Some s.none) in
    on_with ∙ ap (value_from base (open_with next)) empty ∙ ap (whole_by next) on ∙ ap Some s.same)
    (λ off. on_with ∙ backward base end ws rest next x is (sym (ap (read_by end rest next) off) ∙ r3)))
    (λ k err. refused_got (sym (ap (read_on end rest (record w { text = text })) err) ∙ r2))))

-- ---- on the bytes of a line

abbrev first_draft : ValueDraft
first_draft = draft_of place.Value Untyped

abbrev read_all : List Element → Lexing → Option Value
read_all base l = of_all (value_from base (opened Untyped false)) l

value_is : (base : List Element) (bytes : List ℕ) → value_in base bytes ≡ (lexer_of bytes >>= λ t. read_all base (left t))
unfolding value_in
value_is base bytes = refl

there : (base : List Element) (bytes : List ℕ) (v : Value) → value_in base bytes ≡ Some v → IsValueOf base bytes v
there base bytes v h =
    let h' : (lexer_of bytes >>= λ t. read_all base (left t)) ≡ Some v = sym (value_is base bytes) ∙ h in
    by_option (lexer_of bytes)
    (λ none. nothing (sym (ap (λ (o : Option Lexer). o >>= λ t. read_all base (left t)) none) ∙ h'))
    (λ t is.
    let h2 : unless_fault (left t).fault (value_from base (open_with first_draft) (left t).words) ≡ Some v
    = sym (ap (λ (o : Option Lexer). o >>= λ t. read_all base (left t)) is) ∙ h' in
    by_option (left t).fault
    (λ good. record {
      tokens = t;
      opened = is;
      good = good;
      alone = λ end.
          let a : Alone base end (left t).words first_draft v
          = forward base end (left t).words first_draft v refl (sym (ap (λ (f : Option LexFault). unless_fault f (value_from base (open_with first_draft) (left t).words)) good) ∙ h2) in
          record { words = a.words; absolute = a.absolute; read = a.read };
    })
    (λ fault bad. nothing (sym (ap (λ (f : Option LexFault). unless_fault f (value_from base (open_with first_draft) (left t).words)) bad) ∙ h2)))

back_again : (base : List Element) (bytes : List ℕ) (v : Value) → IsValueOf base bytes v → value_in base bytes ≡ Some v
back_again base bytes v w =
    let a = w.alone 0 in
    value_is base bytes
    ∙ ap (λ (o : Option Lexer). o >>= λ t. read_all base (left t)) w.opened
    ∙ ap (λ (f : Option LexFault). unless_fault f (value_from base (open_with first_draft) (left w.tokens).words)) w.good
    ∙ backward base 0 (left w.tokens).words a.words first_draft v a.absolute a.read

pub line_values_are_read : LineValuesAreRead
line_values_are_read base bytes v = (there base bytes v, back_again base bytes v)
