-- From the first word of a text on, each word keeps the properties of the draft proper.
use Rattle.std.proofs.Common.{◌≡◌, ◌∙◌, sym, ap, refl, subst, Bool, true, false, List, [], ◌∷◌, ◌++◌, Option, Some, None, Ok, ◌⊎◌, inl, inr}
use Rattle.std.specs.Prelude.{if◌then◌else◌}
use Rattle.usda_grammar.specs.Table.{layer, starts}
use Rattle.usda_grammar.specs.declared.kinds.Keyword.TheVariants as word
use Rattle.usda_grammar.specs.declared.kinds.WordKind.{WordKind}
use Rattle.usda_grammar.specs.declared.kinds.WordKind.TheVariants as token
use Rattle.usda_grammar.specs.declared.symbols.Symbol.{Symbol}
use Rattle.usda_grammar.specs.declared.symbols.Symbol.TheVariants as symbol
use Rattle.usda_lists.specs.declared.edit.ListEdit.TheVariants.{Explicit}
use Rattle.usda_statements.specs.OpenValues.{is_open}
use Rattle.usda_words.specs.Words.{Word}
use Rattle.usda_drafts.specs.Acts.{layers_act, prims_act, bodies_act, act}
use Rattle.usda_drafts.specs.Bodies.{dot_act}
use Rattle.usda_drafts.specs.Lists.{in_list_act, in_references_act}
use Rattle.usda_drafts.specs.Metadata.{edited_act, prim_item_act}
use Rattle.usda_drafts.specs.Drafts.{blank}
use Rattle.usda_drafts.specs.Values.{token_act, first_act}
use Rattle.layer_texts.specs.Writable.{is_word}
use Rattle.usda_drafts.specs.declared.draft.Draft.{Draft}
use Rattle.value_texts.specs.Each.{AreAll}
use Rattle.properties_read.specs.Drafts.{IsProperEntry, IsNameWord, HasSoundProperties, is_of_property, behind_start, behind_part, takes_lists, takes_turns, takes_values}
use Rattle.properties_read.specs.Stacks.{has_no_list, is_shaped, open_list_of, if_of_property, is_above, IsListRead, IsReading, IsReady, StepsKeepProperties}
use Rattle.properties_read.specs.Targets.{Reading, closed, begun, bracketed}
use Rattle.properties_read.proofs.DraftLists.{other_list_sound, references_sound, started_sound, part_sound}
use Rattle.properties_read.proofs.Drafts.{blank_sound, token_sound, first_sound, name_sound, dot_sound, targets_sound, ended_sound}
use Rattle.properties_read.proofs.OpenLists.{in_list_list, in_references_list, item_path_list, offset_key_list, number_list, token_list, targets_list, string_field_list, path_field_list, reference_field_list}
use Rattle.properties_read.proofs.Others.{bodies_sound, statement_sound}
use Rattle.properties_read.proofs.Stacks.{plain_read, plain_sound, pushed_plain, pushed_above, taken}
use Rattle.properties_read.proofs.Symbols.{may_open, starts_plain, metadata_plain, edited_plain}
use Rattle.text_syntax.proofs.Tokens.{acted_by}
use Rattle.text_syntax.specs.Open.{begins_value}

-- ---- whether a value is open

pub acted : (s : Symbol) (w : Word) (d next : Draft) → act s w d ≡ Ok next → ((is_open d.value ≡ true) × (token_act w d ≡ Ok next)) ⊎ ((is_open d.value ≡ false) × (bodies_act s w d ≡ Ok next))
acted s w d next e = by (is_open d.value) refl (acted_by s w d next (is_open d.value) refl e)
  where
    by : (b : Bool) → is_open d.value ≡ b → (if b then token_act w d else bodies_act s w d) ≡ Ok next
        → ((is_open d.value ≡ true) × (token_act w d ≡ Ok next)) ⊎ ((is_open d.value ≡ false) × (bodies_act s w d ≡ Ok next))
    by true o h = inl (o, h)
    by false o h = inr (o, h)

-- no value is open at a symbol that takes no words of values
shut : (s : Symbol) (w : Word) (d next : Draft) → takes_values s ≡ false → IsReady s w d → act s w d ≡ Ok next → bodies_act s w d ≡ Ok next
shut s w d next other ready e = elim (acted s w d next e) [
  | inl a ↦ absurd (let is : takes_values s ≡ true = ready.apart a.0 in cc)
  | inr b ↦ b.1
]

-- a symbol at which no list begins or goes on
other_sound : (r : Reading) (s : Symbol) (w : Word) (d next : Draft) → takes_lists s ≡ false → takes_turns s ≡ false → begins_value s ≡ false → IsReady s w d → act s w d ≡ Ok next
    → HasSoundProperties r d → HasSoundProperties r next
other_sound r s w d next l t v ready e sound = elim (acted s w d next e) [
  | inl a ↦ token_sound r w d next sound (ready.value a.0) a.1
  | inr b ↦ bodies_sound r s w d next l t v sound b.1
]

-- ---- lists between their words

-- the words of a list of the property in hand, or of another
list_read : (r after : Reading) (k : WordKind) (w : Word) (d next : Draft)
    → (is_of_property d.list ≡ true → HasSoundProperties r d → HasSoundProperties after next) → in_list_act k w d ≡ Ok next
    → HasSoundProperties (if_of_property (is_of_property d.list) r) d → HasSoundProperties (if_of_property (is_of_property next.list) after) next
list_read r after k w d next here e sound =
    subst (λ l. HasSoundProperties (if_of_property (is_of_property l) after) next) (sym (in_list_list k w d next e)) (by (is_of_property d.list) refl sound)
  where
    by : (b : Bool) → is_of_property d.list ≡ b → HasSoundProperties (if_of_property b r) d → HasSoundProperties (if_of_property b after) next
    by true is s = here is s
    by false is s = other_list_sound closed k w d next is s e

-- behind the last word of a list none is open
list_over : (b : Bool) (next : Draft) → HasSoundProperties (if_of_property b closed) next → HasSoundProperties closed next
list_over true next s = s
list_over false next s = s

-- what stands above these symbols behind a word, where that is known
pushed_is : (expected pushed below : List Symbol) (next : Draft) → ◌≡◌ {A = Option (List Symbol)} (Some expected) (Some pushed) → IsReading (expected ++ below) next → IsReading (pushed ++ below) next
pushed_is expected pushed below next e r = let same : expected ≡ pushed = cc e in subst (λ p. IsReading (p ++ below) next) same r

-- the list goes on with this symbol
goes_on : (s : Symbol) (below : List Symbol) (next : Draft) → takes_lists s ≡ true → has_no_list below ≡ true → IsListRead (Some s) next → IsReading (s ∷ below) next
goes_on s below next t h sound = record {
  shaped = ap (λ b. if b then has_no_list below else if is_above s then is_shaped below else has_no_list below) t ∙ h;
  sound = subst (λ o. IsListRead o next) (sym (ap (λ b. if b then Some s else open_list_of below) t)) sound;
}

path_list_read : (k : WordKind) (w : Word) (d next : Draft) (pushed below : List Symbol) → starts symbol.PathList k ≡ Some pushed → has_no_list below ≡ true
    → HasSoundProperties (if_of_property (is_of_property next.list) (behind_start k)) next → IsReading (pushed ++ below) next
path_list_read (token.Word word.NoneWord) w d next pushed below e h s = pushed_is [] pushed below next e (plain_read below next h (list_over (is_of_property next.list) next s))
path_list_read token.Path w d next pushed below e h s = pushed_is [] pushed below next e (plain_read below next h (list_over (is_of_property next.list) next s))
path_list_read token.OpenBracket w d next pushed below e h s = pushed_is (symbol.PathsOrEnd ∷ []) pushed below next e (goes_on symbol.PathsOrEnd below next refl h s)
path_list_read k w d next pushed below e h s = absurd cc

paths_read : (k : WordKind) (w : Word) (d next : Draft) (pushed below : List Symbol) → starts symbol.PathsOrEnd k ≡ Some pushed → has_no_list below ≡ true
    → HasSoundProperties (if_of_property (is_of_property next.list) (behind_part k)) next → IsReading (pushed ++ below) next
paths_read token.CloseBracket w d next pushed below e h s = pushed_is [] pushed below next e (plain_read below next h (list_over (is_of_property next.list) next s))
paths_read token.Path w d next pushed below e h s = pushed_is (symbol.MorePaths ∷ []) pushed below next e (goes_on symbol.MorePaths below next refl h s)
paths_read k w d next pushed below e h s = absurd cc

more_paths_read : (k : WordKind) (w : Word) (d next : Draft) (pushed below : List Symbol) → starts symbol.MorePaths k ≡ Some pushed → has_no_list below ≡ true
    → HasSoundProperties (if_of_property (is_of_property next.list) (behind_part k)) next → IsReading (pushed ++ below) next
more_paths_read token.CloseBracket w d next pushed below e h s = pushed_is [] pushed below next e (plain_read below next h (list_over (is_of_property next.list) next s))
more_paths_read token.Comma w d next pushed below e h s = pushed_is (symbol.PathsOrEnd ∷ []) pushed below next e (goes_on symbol.PathsOrEnd below next refl h s)
more_paths_read k w d next pushed below e h s = absurd cc

-- ---- lists of strings and of references

-- what is known of a draft while such a list is open
abbrev IsOther : Draft → Type 0
IsOther d = (is_of_property d.list ≡ false) × HasSoundProperties closed d

strings_begin : (k : WordKind) (next : Draft) (pushed below : List Symbol) → starts symbol.StringList k ≡ Some pushed → has_no_list below ≡ true → IsOther next → IsReading (pushed ++ below) next
strings_begin (token.Word word.NoneWord) next pushed below e h s = pushed_is [] pushed below next e (plain_read below next h s.1)
strings_begin token.Quoted next pushed below e h s = pushed_is [] pushed below next e (plain_read below next h s.1)
strings_begin token.OpenBracket next pushed below e h s = pushed_is (symbol.StringsOrEnd ∷ []) pushed below next e (goes_on symbol.StringsOrEnd below next refl h s)
strings_begin k next pushed below e h s = absurd cc

strings_go_on : (k : WordKind) (next : Draft) (pushed below : List Symbol) → starts symbol.StringsOrEnd k ≡ Some pushed → has_no_list below ≡ true → IsOther next → IsReading (pushed ++ below) next
strings_go_on token.CloseBracket next pushed below e h s = pushed_is [] pushed below next e (plain_read below next h s.1)
strings_go_on token.Quoted next pushed below e h s = pushed_is (symbol.MoreStrings ∷ []) pushed below next e (goes_on symbol.MoreStrings below next refl h s)
strings_go_on k next pushed below e h s = absurd cc

more_strings : (k : WordKind) (next : Draft) (pushed below : List Symbol) → starts symbol.MoreStrings k ≡ Some pushed → has_no_list below ≡ true → IsOther next → IsReading (pushed ++ below) next
more_strings token.CloseBracket next pushed below e h s = pushed_is [] pushed below next e (plain_read below next h s.1)
more_strings token.Comma next pushed below e h s = pushed_is (symbol.StringsOrEnd ∷ []) pushed below next e (goes_on symbol.StringsOrEnd below next refl h s)
more_strings k next pushed below e h s = absurd cc

-- the path and the offsets of an item above what is behind it
with_path_above : (stack : List Symbol) (next : Draft) → IsReading stack next → IsReading (symbol.MaybePath ∷ symbol.MaybeOffsets ∷ stack) next
with_path_above stack next r = record { shaped = r.shaped; sound = r.sound }

with_offsets_above : (stack : List Symbol) (next : Draft) → IsReading stack next → IsReading (symbol.MaybeOffsets ∷ stack) next
with_offsets_above stack next r = record { shaped = r.shaped; sound = r.sound }

references_begin : (k : WordKind) (next : Draft) (pushed below : List Symbol) → starts symbol.ReferenceList k ≡ Some pushed → has_no_list below ≡ true → IsOther next → IsReading (pushed ++ below) next
references_begin (token.Word word.NoneWord) next pushed below e h s = pushed_is [] pushed below next e (plain_read below next h s.1)
references_begin token.Asset next pushed below e h s = pushed_is (symbol.MaybePath ∷ symbol.MaybeOffsets ∷ []) pushed below next e (with_path_above below next (plain_read below next h s.1))
references_begin token.Path next pushed below e h s = pushed_is (symbol.MaybeOffsets ∷ []) pushed below next e (with_offsets_above below next (plain_read below next h s.1))
references_begin token.OpenBracket next pushed below e h s = pushed_is (symbol.ReferencesOrEnd ∷ []) pushed below next e (goes_on symbol.ReferencesOrEnd below next refl h s)
references_begin k next pushed below e h s = absurd cc

references_go_on : (k : WordKind) (next : Draft) (pushed below : List Symbol) → starts symbol.ReferencesOrEnd k ≡ Some pushed → has_no_list below ≡ true → IsOther next → IsReading (pushed ++ below) next
references_go_on token.CloseBracket next pushed below e h s = pushed_is [] pushed below next e (plain_read below next h s.1)
references_go_on token.Asset next pushed below e h s =
    pushed_is (symbol.MaybePath ∷ symbol.MaybeOffsets ∷ symbol.MoreReferences ∷ []) pushed below next e (with_path_above (symbol.MoreReferences ∷ below) next (goes_on symbol.MoreReferences below next refl h s))
references_go_on token.Path next pushed below e h s =
    pushed_is (symbol.MaybeOffsets ∷ symbol.MoreReferences ∷ []) pushed below next e (with_offsets_above (symbol.MoreReferences ∷ below) next (goes_on symbol.MoreReferences below next refl h s))
references_go_on k next pushed below e h s = absurd cc

more_references : (k : WordKind) (next : Draft) (pushed below : List Symbol) → starts symbol.MoreReferences k ≡ Some pushed → has_no_list below ≡ true → IsOther next → IsReading (pushed ++ below) next
more_references token.CloseBracket next pushed below e h s = pushed_is [] pushed below next e (plain_read below next h s.1)
more_references token.Comma next pushed below e h s = pushed_is (symbol.ReferencesOrEnd ∷ []) pushed below next e (goes_on symbol.ReferencesOrEnd below next refl h s)
more_references k next pushed below e h s = absurd cc

other_list : (k : WordKind) (w : Word) (d next : Draft) → in_list_act k w d ≡ Ok next → IsOther d → IsOther next
other_list k w d next e s = (ap is_of_property (in_list_list k w d next e) ∙ s.0, other_list_sound closed k w d next s.0 s.1 e)

other_references : (k : WordKind) (w : Word) (d next : Draft) → in_references_act k w d ≡ Ok next → IsOther d → IsOther next
other_references k w d next e s = (ap is_of_property (in_references_list k w d next e) ∙ s.0, references_sound closed k w d next s.0 s.1 e)

-- ---- words that begin a list

-- the `=` of a list, above it
with_equals_above : (stack : List Symbol) (next : Draft) → IsReading stack next → IsReading (symbol.Equals ∷ stack) next
with_equals_above stack next r = record { shaped = r.shaped; sound = r.sound }

begun_paths : (below : List Symbol) (next : Draft) → has_no_list below ≡ true → is_of_property next.list ≡ true → HasSoundProperties begun next → IsReading (symbol.PathList ∷ below) next
begun_paths below next h is s = goes_on symbol.PathList below next refl h (subst (λ b. HasSoundProperties (if_of_property b begun) next) (sym is) s)

targets_read : (k : WordKind) (next : Draft) (pushed below : List Symbol) → starts symbol.MaybeTargets k ≡ Some pushed → has_no_list below ≡ true
    → is_of_property next.list ≡ true → HasSoundProperties begun next → IsReading (pushed ++ below) next
targets_read token.Equals next pushed below e h is s = pushed_is (symbol.PathList ∷ []) pushed below next e (begun_paths below next h is s)
targets_read k next pushed below e h is s = absurd cc

dot_list : (w : Word) (d next : Draft) → dot_act (token.Word word.Connect) w.start d ≡ Ok next → is_of_property next.list ≡ true
unfolding dot_act
dot_list w d next e = targets_list d next e

no_dot : (k : WordKind) (w : Word) (d next : Draft) → dot_act (token.Word word.Spline) w.start d ≡ Ok next → ⊥
unfolding dot_act
no_dot k w d next e = cc

dot_read : (k : WordKind) (w : Word) (d next : Draft) (pushed below : List Symbol) → starts symbol.AfterDot k ≡ Some pushed → has_no_list below ≡ true
    → HasSoundProperties closed d → dot_act k w.start d ≡ Ok next → IsReading (pushed ++ below) next
dot_read (token.Word word.TimeSamples) w d next pushed below e h s a =
    pushed_is (symbol.Equals ∷ symbol.OpenBrace ∷ symbol.SamplesOrEnd ∷ []) pushed below next e
    (plain_read (symbol.Equals ∷ symbol.OpenBrace ∷ symbol.SamplesOrEnd ∷ below) next h (dot_sound (token.Word word.TimeSamples) w.start d next s a))
dot_read (token.Word word.Connect) w d next pushed below e h s a =
    pushed_is (symbol.Equals ∷ symbol.PathList ∷ []) pushed below next e
    (with_equals_above (symbol.PathList ∷ below) next (begun_paths below next h (dot_list w d next a) (dot_sound (token.Word word.Connect) w.start d next s a)))
dot_read (token.Word word.Spline) w d next pushed below e h s a = absurd (no_dot (token.Word word.Spline) w d next a)
dot_read k w d next pushed below e h s a = absurd cc

connect_read : (k : WordKind) (w : Word) (d next : Draft) (pushed below : List Symbol) → starts symbol.ConnectWord k ≡ Some pushed → has_no_list below ≡ true
    → HasSoundProperties closed d → dot_act k w.start d ≡ Ok next → IsReading (pushed ++ below) next
connect_read (token.Word word.Connect) w d next pushed below e h s a =
    pushed_is (symbol.Equals ∷ symbol.PathList ∷ []) pushed below next e
    (with_equals_above (symbol.PathList ∷ below) next (begun_paths below next h (dot_list w d next a) (dot_sound (token.Word word.Connect) w.start d next s a)))
connect_read (token.Word word.Spline) w d next pushed below e h s a = absurd (no_dot (token.Word word.Spline) w d next a)
connect_read k w d next pushed below e h s a = absurd cc

-- the list of a field
field_paths : (stack : List Symbol) (next : Draft) → has_no_list stack ≡ true → is_of_property next.list ≡ false → HasSoundProperties closed next → IsReading (symbol.PathList ∷ stack) next
field_paths stack next h other s = goes_on symbol.PathList stack next refl h (subst (λ b. HasSoundProperties (if_of_property b begun) next) (sym other) s)

metadata_read : (k : WordKind) (w : Word) (d next : Draft) (pushed below : List Symbol) → starts symbol.PrimMetadata k ≡ Some pushed → has_no_list below ≡ true
    → prim_item_act k w d ≡ Ok next → HasSoundProperties closed next → IsReading (pushed ++ below) next
unfolding prim_item_act
metadata_read (token.Word word.StringField) w d next pushed below e h a s =
    pushed_is (symbol.Equals ∷ symbol.StringList ∷ symbol.MaybeSemicolon ∷ symbol.PrimMetadata ∷ []) pushed below next e
    (with_equals_above (symbol.StringList ∷ symbol.MaybeSemicolon ∷ symbol.PrimMetadata ∷ below) next
    (goes_on symbol.StringList (symbol.MaybeSemicolon ∷ symbol.PrimMetadata ∷ below) next refl h (string_field_list Explicit w d next a, s)))
metadata_read (token.Word word.PathField) w d next pushed below e h a s =
    pushed_is (symbol.Equals ∷ symbol.PathList ∷ symbol.MaybeSemicolon ∷ symbol.PrimMetadata ∷ []) pushed below next e
    (with_equals_above (symbol.PathList ∷ symbol.MaybeSemicolon ∷ symbol.PrimMetadata ∷ below) next
    (field_paths (symbol.MaybeSemicolon ∷ symbol.PrimMetadata ∷ below) next h (path_field_list Explicit w d next a) s))
metadata_read (token.Word word.ReferenceField) w d next pushed below e h a s =
    pushed_is (symbol.Equals ∷ symbol.ReferenceList ∷ symbol.MaybeSemicolon ∷ symbol.PrimMetadata ∷ []) pushed below next e
    (with_equals_above (symbol.ReferenceList ∷ symbol.MaybeSemicolon ∷ symbol.PrimMetadata ∷ below) next
    (goes_on symbol.ReferenceList (symbol.MaybeSemicolon ∷ symbol.PrimMetadata ∷ below) next refl h (reference_field_list Explicit w d next a, s)))
metadata_read k w d next pushed below e h a s = pushed_plain (starts symbol.PrimMetadata k) pushed below next e (metadata_plain k refl) h s

edited_read : (k : WordKind) (w : Word) (d next : Draft) (pushed below : List Symbol) → starts symbol.EditedField k ≡ Some pushed → has_no_list below ≡ true
    → edited_act k w d ≡ Ok next → HasSoundProperties closed next → IsReading (pushed ++ below) next
unfolding edited_act
edited_read (token.Word word.StringField) w d next pushed below e h a s =
    pushed_is (symbol.Equals ∷ symbol.StringList ∷ []) pushed below next e
    (with_equals_above (symbol.StringList ∷ below) next (goes_on symbol.StringList below next refl h (string_field_list d.edit w d next a, s)))
edited_read (token.Word word.PathField) w d next pushed below e h a s =
    pushed_is (symbol.Equals ∷ symbol.PathList ∷ []) pushed below next e (with_equals_above (symbol.PathList ∷ below) next (field_paths below next h (path_field_list d.edit w d next a) s))
edited_read (token.Word word.ReferenceField) w d next pushed below e h a s =
    pushed_is (symbol.Equals ∷ symbol.ReferenceList ∷ []) pushed below next e
    (with_equals_above (symbol.ReferenceList ∷ below) next (goes_on symbol.ReferenceList below next refl h (reference_field_list d.edit w d next a, s)))
edited_read k w d next pushed below e h a s = pushed_plain (starts symbol.EditedField k) pushed below next e (edited_plain k refl) h s

-- the word that a property's name is
name_word : (k : WordKind) (w : Word) (pushed : List Symbol) → starts symbol.PropertyName k ≡ Some pushed → IsNameWord k w → is_word w.text ≡ true
name_word (token.Word x) w pushed e is = is
name_word k w pushed e is = absurd cc

-- ---- any symbol

-- a word of a symbol that may stand above a list
above_made : (s : Symbol) (w : Word) (d next : Draft) (pushed below : List Symbol) → is_above s ≡ true → takes_lists s ≡ false → takes_turns s ≡ false → begins_value s ≡ false
    → (bodies_act s w d ≡ Ok next → next.list ≡ d.list) → starts s w.kind ≡ Some pushed → is_shaped (s ∷ below) ≡ true
    → IsListRead (open_list_of (s ∷ below)) d → act s w d ≡ Ok next → IsReady s w d → IsReading (pushed ++ below) next
above_made s w d next pushed below up l t v same e shaped read a ready =
    pushed_above s w.kind pushed below d next up e shaped (λ r sound. other_sound r s w d next l t v ready a sound) moved read
  where
    moved : next.list ≡ d.list
    moved = elim (acted s w d next a) [ inl x ↦ token_list w d next x.1 | inr y ↦ same y.1 ]

-- a word that opens no list
plain_made : (s : Symbol) (w : Word) (next : Draft) (pushed below : List Symbol) → may_open s ≡ false → starts s w.kind ≡ Some pushed → has_no_list below ≡ true
    → HasSoundProperties closed next → IsReading (pushed ++ below) next
plain_made s w next pushed below m e h s' = pushed_plain (starts s w.kind) pushed below next e (starts_plain s w.kind m) h s'

-- the first word of a value
first_made : (s : Symbol) (w : Word) (d next : Draft) → begins_value s ≡ true → IsReady s w d → (bodies_act s w d ≡ Ok next → first_act w d ≡ Ok next) → HasSoundProperties closed d
    → act s w d ≡ Ok next → HasSoundProperties closed next
first_made s w d next v ready so sound a = elim (acted s w d next a) [
  | inl x ↦ token_sound closed w d next sound (ready.value x.0) x.1
  | inr y ↦ first_sound closed w d next sound (ready.first y.0 v) (so y.1)
]

-- metadata of a prim, where no value is open or one is
metadata_made : (w : Word) (d next : Draft) (pushed below : List Symbol) → starts symbol.PrimMetadata w.kind ≡ Some pushed → has_no_list below ≡ true
    → HasSoundProperties closed d → act symbol.PrimMetadata w d ≡ Ok next → IsReady symbol.PrimMetadata w d → IsReading (pushed ++ below) next
unfolding bodies_act prims_act
metadata_made w d next pushed below e h sound a ready =
    metadata_read w.kind w d next pushed below e h (shut symbol.PrimMetadata w d next refl ready a) (other_sound closed symbol.PrimMetadata w d next refl refl refl ready a sound)

edited_made : (w : Word) (d next : Draft) (pushed below : List Symbol) → starts symbol.EditedField w.kind ≡ Some pushed → has_no_list below ≡ true
    → HasSoundProperties closed d → act symbol.EditedField w d ≡ Ok next → IsReady symbol.EditedField w d → IsReading (pushed ++ below) next
unfolding bodies_act prims_act
edited_made w d next pushed below e h sound a ready =
    edited_read w.kind w d next pushed below e h (shut symbol.EditedField w d next refl ready a) (other_sound closed symbol.EditedField w d next refl refl refl ready a sound)

-- the specs of a draft are proper, whatever list is open
specs_proper : (o : Option Symbol) (d : Draft) → IsListRead o d → AreAll IsProperEntry d.specs
specs_proper None d s = s.specs
specs_proper (Some symbol.PathList) d s = s.specs
specs_proper (Some symbol.PathsOrEnd) d s = s.specs
specs_proper (Some symbol.MorePaths) d s = s.specs
specs_proper (Some t) d s = s.1.specs

made : (s : Symbol) (w : Word) (d next : Draft) (pushed below : List Symbol) → starts s w.kind ≡ Some pushed → is_shaped (s ∷ below) ≡ true
    → IsListRead (open_list_of (s ∷ below)) d → act s w d ≡ Ok next → IsReady s w d → IsReading (pushed ++ below) next
unfolding bodies_act prims_act layers_act
made symbol.Equals w d next pushed below e shaped read a ready =
    above_made symbol.Equals w d next pushed below refl refl refl refl (λ b. ap (λ (x : Draft). x.list) (let same : next ≡ d = cc b in same)) e shaped read a ready
made symbol.MaybeSemicolon w d next pushed below e shaped read a ready =
    above_made symbol.MaybeSemicolon w d next pushed below refl refl refl refl (λ b. ap (λ (x : Draft). x.list) (let same : next ≡ d = cc b in same)) e shaped read a ready
made symbol.CloseParen w d next pushed below e shaped read a ready =
    above_made symbol.CloseParen w d next pushed below refl refl refl refl (λ b. ap (λ (x : Draft). x.list) (let same : next ≡ d = cc b in same)) e shaped read a ready
made symbol.MaybeOffsets w d next pushed below e shaped read a ready =
    above_made symbol.MaybeOffsets w d next pushed below refl refl refl refl (λ b. ap (λ (x : Draft). x.list) (let same : next ≡ d = cc b in same)) e shaped read a ready
made symbol.MaybePath w d next pushed below e shaped read a ready =
    above_made symbol.MaybePath w d next pushed below refl refl refl refl (λ b. item_path_list d.list w d next b) e shaped read a ready
made symbol.OffsetItems w d next pushed below e shaped read a ready =
    above_made symbol.OffsetItems w d next pushed below refl refl refl refl (λ b. offset_key_list w d next b) e shaped read a ready
made symbol.OffsetNumber w d next pushed below e shaped read a ready =
    above_made symbol.OffsetNumber w d next pushed below refl refl refl refl (λ b. number_list d.list w d next b) e shaped read a ready
made symbol.PathList w d next pushed below e shaped read a ready =
    let b = shut symbol.PathList w d next refl ready a in
    path_list_read w.kind w d next pushed below e shaped (list_read begun (behind_start w.kind) w.kind w d next (λ is s. started_sound w.kind w d next is ready.base ready.path s b) b read)
made symbol.PathsOrEnd w d next pushed below e shaped read a ready =
    let b = shut symbol.PathsOrEnd w d next refl ready a in
    paths_read w.kind w d next pushed below e shaped (list_read bracketed (behind_part w.kind) w.kind w d next (λ is s. part_sound w.kind w d next is ready.base ready.path s b) b read)
made symbol.MorePaths w d next pushed below e shaped read a ready =
    let b = shut symbol.MorePaths w d next refl ready a in
    more_paths_read w.kind w d next pushed below e shaped (list_read bracketed (behind_part w.kind) w.kind w d next (λ is s. part_sound w.kind w d next is ready.base ready.path s b) b read)
made symbol.StringList w d next pushed below e shaped read a ready =
    let b = shut symbol.StringList w d next refl ready a in strings_begin w.kind next pushed below e shaped (other_list w.kind w d next b read)
made symbol.StringsOrEnd w d next pushed below e shaped read a ready =
    let b = shut symbol.StringsOrEnd w d next refl ready a in strings_go_on w.kind next pushed below e shaped (other_list w.kind w d next b read)
made symbol.MoreStrings w d next pushed below e shaped read a ready =
    let b = shut symbol.MoreStrings w d next refl ready a in more_strings w.kind next pushed below e shaped (other_list w.kind w d next b read)
made symbol.ReferenceList w d next pushed below e shaped read a ready =
    let b = shut symbol.ReferenceList w d next refl ready a in references_begin w.kind next pushed below e shaped (other_references w.kind w d next b read)
made symbol.ReferencesOrEnd w d next pushed below e shaped read a ready =
    let b = shut symbol.ReferencesOrEnd w d next refl ready a in references_go_on w.kind next pushed below e shaped (other_references w.kind w d next b read)
made symbol.MoreReferences w d next pushed below e shaped read a ready =
    let b = shut symbol.MoreReferences w d next refl ready a in more_references w.kind next pushed below e shaped (other_references w.kind w d next b read)
made symbol.PrimMetadata w d next pushed below e shaped read a ready = metadata_made w d next pushed below e shaped (plain_sound below d shaped read) a ready
made symbol.EditedField w d next pushed below e shaped read a ready = edited_made w d next pushed below e shaped (plain_sound below d shaped read) a ready
made symbol.MaybeTargets w d next pushed below e shaped read a ready =
    let b = shut symbol.MaybeTargets w d next refl ready a in
    targets_read w.kind next pushed below e shaped (targets_list d next b) (targets_sound d next (plain_sound below d shaped read) b)
made symbol.AfterDot w d next pushed below e shaped read a ready =
    let b = shut symbol.AfterDot w d next refl ready a in dot_read w.kind w d next pushed below e shaped (plain_sound below d shaped read) b
made symbol.ConnectWord w d next pushed below e shaped read a ready =
    let b = shut symbol.ConnectWord w d next refl ready a in connect_read w.kind w d next pushed below e shaped (plain_sound below d shaped read) b
made symbol.PrimBody w d next pushed below e shaped read a ready =
    let b = shut symbol.PrimBody w d next refl ready a in
    plain_made symbol.PrimBody w next pushed below refl e shaped (statement_sound w d next (plain_sound below d shaped read) b)
made symbol.BodyEnd w d next pushed below e shaped read a ready =
    let b = shut symbol.BodyEnd w d next refl ready a in
    plain_made symbol.BodyEnd w next pushed below refl e shaped (ended_sound d next (plain_sound below d shaped read) b)
made symbol.PropertyName w d next pushed below e shaped read a ready =
    let b = shut symbol.PropertyName w d next refl ready a in
    plain_made symbol.PropertyName w next pushed below refl e shaped (name_sound closed w d next (name_word w.kind w pushed e ready.name) (plain_sound below d shaped read) b)
made symbol.Value w d next pushed below e shaped read a ready =
    plain_made symbol.Value w next pushed below refl e shaped (first_made symbol.Value w d next refl ready (λ b. b) (plain_sound below d shaped read) a)
made symbol.Dictionary w d next pushed below e shaped read a ready =
    plain_made symbol.Dictionary w next pushed below refl e shaped (first_made symbol.Dictionary w d next refl ready (λ b. b) (plain_sound below d shaped read) a)
made s w d next pushed below e shaped read a ready =
    plain_made s w next pushed below refl e shaped (other_sound closed s w d next refl refl refl ready a (plain_sound below d shaped read))

pub steps_keep : StepsKeepProperties
steps_keep = record {
  begins = plain_read layer blank refl blank_sound;
  kept = λ stack after s w d next st a ready r.
      (let t = taken stack w.kind s after r.shaped st in
      subst (λ x. IsReading x next) t.after_is (made s w d next t.pushed t.below t.starts_is t.shaped (subst (λ o. IsListRead o d) (sym t.same) r.sound) a ready));
  proper = λ stack d r. specs_proper (open_list_of stack) d r.sound;
}
