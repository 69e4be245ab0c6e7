-- The draft of a value goes with the grammar.
use Rattle.std.proofs.Common.{◌≡◌, ◌∙◌, ℕ, ◌==◌, nat_le, Bool, true, false, not, ◌&&◌, ◌||◌, List, [], ◌∷◌, ◌++◌, append_assoc, length, Option, Some, None, Ok, Err, ap, sym, refl, subst, inl, inr}
use Rattle.std.specs.Prelude.{if◌then◌else◌, ◌↔◌, ◌⊎◌, codes}
use Rattle.std.specs.List.{list_all}
use Rattle.std.specs.Cmp.Lexicographic.{pointwise, bytes_decides}
use Rattle.std.proofs.lemmas.Bool.{and_parts}
use Rattle.plain_data.specs.Ends.{last, front, last-push, front-push}
use Rattle.sdf_values.specs.TypeNames.{find_element}
use Rattle.sdf_values.specs.declared.refusal.RefusalKind.TheVariants.{Syntax, ValueShape, TooDeep, DuplicateSpec}
use Rattle.sdf_values.specs.declared.type_name.ElementType.{ElementType}
use Rattle.sdf_values.specs.declared.type_name.TheConstants.{ELEMENTS}
use Rattle.sdf_values.specs.declared.value.DictType.TheVariants as dict
use Rattle.sdf_values.specs.declared.value.Value.{Value}
use Rattle.sdf_values.specs.declared.value.Value.TheVariants as value
use Rattle.usda_grammar.specs.Machine.{step, choose}
use Rattle.usda_grammar.specs.Values.{dictionary_entries}
use Rattle.usda_grammar.specs.Words.{keyword_of, prim_word, property_word, field_word, layer_word, or_else, is}
use Rattle.usda_grammar.specs.declared.kinds.Keyword.{Keyword}
use Rattle.usda_grammar.specs.declared.kinds.Keyword.TheVariants as word
use Rattle.usda_grammar.specs.declared.kinds.WordKind.{WordKind}
use Rattle.usda_grammar.specs.declared.kinds.WordKind.TheVariants as kind
use Rattle.usda_grammar.specs.declared.symbols.Symbol.{Symbol}
use Rattle.usda_grammar.specs.declared.symbols.Symbol.TheVariants as symbol
use Rattle.usda_lexer.specs.Meanings.{string_text, path_text}
use Rattle.usda_lexer.specs.declared.token.Mark.TheVariants as mark
use Rattle.usda_lexer.specs.declared.token.TokenKind.{TokenKind}
use Rattle.usda_lexer.specs.declared.token.TokenKind.TheVariants as form
use Rattle.usda_values.specs.Drafts.{Acted, value_act, act_at, act_value, act_entry, act_key, put_act, given, give, behind_value, is_full, is_lacking, is_statement, is_complete, is_complete_at, open_members, open_dict, deeper, close_act, go_out, wrap_as, new_level, type_act, typed_entry, key_act}
use Rattle.usda_values.specs.Entries.{has_key}
use Rattle.usda_values.specs.PathTexts.{is_path_text}
use Rattle.usda_values.specs.Reads.{kind_of_fault}
use Rattle.usda_values.specs.Scalars.{Taken, token_value}
use Rattle.usda_values.specs.Shapes.{take_value, Members, tuple_members, array_members, takes_dictionary}
use Rattle.usda_values.specs.declared.draft.ValueDraft.{ValueDraft}
use Rattle.usda_values.specs.declared.level.Bracket.{Bracket}
use Rattle.usda_values.specs.declared.level.Bracket.TheVariants as bracket
use Rattle.usda_values.specs.declared.level.Level.{Level}
use Rattle.usda_values.specs.declared.level.Place.{Place}
use Rattle.usda_values.specs.declared.level.Place.TheVariants as place
use Rattle.usda_values.specs.declared.shape.Shape.TheVariants as shape
use Rattle.usda_lexer.specs.Words.{Word as Token, tokens_of}
use Rattle.usda_lexer.specs.declared.token.LexFault.{LexFault}
use Rattle.usda_lexer.specs.declared.token.LexFault.TheVariants as lex_fault
use Rattle.usda_words.specs.Words.{Word, kind_of, words_behind, if_joined, is_dot, behind, at_start}
use Rattle.usda_words.specs.declared.word.Before.{Before}
use Rattle.value_texts.specs.Following.{awaited, awaited_at, awaited_behind, awaited_outside, awaited_entry, is_formed, is_place_of, is_inner, are_levels, IsNoPath, GoesWith, IsOfToken, AreOfTokens, AreFollowing}
use Rattle.value_texts.proofs.LevelsFollow.{outside_push, levels_push, levels_pop, Pushed, stands_in, draft, formed, give_bracket, behind_goes}
use Rattle.value_texts.proofs.PlainTakes.{Plain, plain_value, Said, said}

module _ (f : TokenKind) (text : List ℕ) (below : List Symbol) where
  -- ---- a level more

  deeper_goes : (p : Place) (n : Level) (d : ValueDraft) (after : List Symbol) → is_statement n.bracket ≡ false → is_place_of p n.bracket ≡ true → are_levels d.outer d.level.bracket ≡ true
      → after ≡ (awaited_at p n.bracket ++ (awaited_behind d.level.bracket ++ awaited_outside d.outer)) ++ below → GoesWith f text below after (deeper p n d)
  deeper_goes p n d after inner fits h e = by_depth (nat_le 64 (length d.outer))
    where
      by_depth : (t : Bool) → GoesWith f text below after (if t then Err TooDeep else Ok (draft p n (d.outer ++ d.level ∷ [])))
      by_depth true = λ k. absurd cc
      by_depth false = (formed p n (d.outer ++ d.level ∷ []) fits (levels_push d.outer d.level n.bracket h inner), e ∙ ap (λ x. (awaited_at p n.bracket ++ x) ++ below) (sym (outside_push d.outer d.level)))

  members_go : (b : Bracket) (p : Place) (m : Members) (d : ValueDraft) (after : List Symbol) → is_statement b ≡ false → is_place_of p b ≡ true → are_levels d.outer d.level.bracket ≡ true
      → after ≡ (awaited_at p b ++ (awaited_behind d.level.bracket ++ awaited_outside d.outer)) ++ below → GoesWith f text below after (open_members b p m d)
  members_go b p None d after inner fits h e = λ k. absurd cc
  members_go b p (Some m) d after inner fits h e = by_room (is_full d.level.room)
    where
      by_room : (t : Bool) → GoesWith f text below after (if t then Err ValueShape else deeper p (new_level b m.0 m.1) d)
      by_room true = λ k. absurd cc
      by_room false = deeper_goes p (new_level b m.0 m.1) d after inner fits h e

  dict_goes : (d : ValueDraft) (after : List Symbol) → are_levels d.outer d.level.bracket ≡ true
      → after ≡ (awaited_at place.EntryType bracket.Dict ++ (awaited_behind d.level.bracket ++ awaited_outside d.outer)) ++ below → GoesWith f text below after (open_dict d)
  dict_goes d after h e = by_room (is_full d.level.room) (takes_dictionary d.level.item)
    where
      by_room : (t u : Bool) → GoesWith f text below after (if t then Err ValueShape else if u then deeper place.EntryType (new_level bracket.Dict shape.Untyped None) d else Err ValueShape)
      by_room true u = λ k. absurd cc
      by_room false true = deeper_goes place.EntryType (new_level bracket.Dict shape.Untyped None) d after refl refl h e
      by_room false false = λ k. absurd cc

  -- ---- a value of one token, and a level that is closed

  put_goes : (d : ValueDraft) (after : List Symbol) (t : Taken) → Said f text t → are_levels d.outer d.level.bracket ≡ true → after ≡ (awaited_behind d.level.bracket ++ awaited_outside d.outer) ++ below
      → GoesWith f text below after (put_act t d)
  put_goes d after (Err k) s h e = s
  put_goes d after (Ok v) s h e = by_room (is_full d.level.room) (take_value d.level.item (is_statement d.level.bracket) v) (plain_value d.level.item (is_statement d.level.bracket) v)
    where
      by_room : (t : Bool) (r : Taken) → Plain r → GoesWith f text below after (if t then Err ValueShape else given r d)
      by_room true r p = λ k. absurd cc
      by_room false (Err k) p = λ x. absurd (p x)
      by_room false (Ok w) p = behind_goes f text below d.level.bracket (give w d.level) d.outer after (give_bracket d.level.bracket w d.level) h e

  close_goes : (d : ValueDraft) (after : List Symbol) → are_levels d.outer d.level.bracket ≡ true → is_statement d.level.bracket ≡ false → after ≡ awaited_outside d.outer ++ below → GoesWith f text below after (close_act d)
  close_goes d after h inner e = by_room (is_lacking d.level.room)
    where
      by_room : (t : Bool) → GoesWith f text below after (if t then Err ValueShape else Ok (go_out (last d.outer) d))
      by_room true = λ k. absurd cc
      by_room false =
          let s : Pushed d.outer = stands_in d.outer d.level.bracket h inner in
          let v : Value = wrap_as d.level.bracket d.level in
          let out : go_out (last d.outer) d ≡ draft (behind_value s.1.bracket) (give v s.1) s.0 =
          ap (λ o. go_out o d) (ap last s.2 ∙ last-push s.0 s.1) ∙ ap (λ x. draft (behind_value s.1.bracket) (give v s.1) x) (ap front s.2 ∙ front-push s.0 s.1) in
          subst (λ (x : ValueDraft). GoesWith f text below after (Ok x)) (sym out)
          (behind_goes f text below s.1.bracket (give v s.1) s.0 after (give_bracket s.1.bracket v s.1) (levels_pop s.0 s.1 d.level.bracket (sym (ap (λ x. are_levels x d.level.bracket) s.2) ∙ h))
          (e ∙ ap (λ x. x ++ below) (ap awaited_outside s.2 ∙ outside_push s.0 s.1)))

  -- ---- the key of an entry

  key_goes_on : (d : ValueDraft) (after : List Symbol) (key : Option (List ℕ)) → d.level.bracket ≡ bracket.Dict → are_levels d.outer bracket.Dict ≡ true
      → after ≡ ((symbol.Equals ∷ symbol.Value ∷ awaited_behind bracket.Dict) ++ awaited_outside d.outer) ++ below → GoesWith f text below after (key_act key d)
  key_goes_on d after None is h e = λ k. absurd cc
  key_goes_on d after (Some key) is h e = by_keys (has_key key d.level.entries)
    where
      by_keys : (t : Bool) → GoesWith f text below after (if t then Err DuplicateSpec else Ok (draft place.Equals (record d.level { key = key }) d.outer))
      by_keys true = λ k. absurd cc
      by_keys false = (
        formed place.Equals (record d.level { key = key }) d.outer (ap (is_place_of place.Equals) is) (ap (are_levels d.outer) is ∙ h),
        e ∙ ap (λ b. (awaited_at place.Equals b ++ awaited_outside d.outer) ++ below) (sym is),
      )

-- ---- the word `dictionary` is a word of its own to the grammar

abbrev is_dictionary : Keyword → Bool
is_dictionary word.Dictionary = true
is_dictionary w = false

abbrev NoDictionary : Option Keyword → Type 0
NoDictionary (Some w) = is_dictionary w ≡ false
NoDictionary None = Unit {0}

prims : (a b c d e : Bool) → NoDictionary (if a then Some word.Specifier else if b then Some word.Edit else if c then Some word.Reorder else if d then Some word.Variants else if e then Some word.VariantSet else None)
prims true b c d e = refl
prims false true c d e = refl
prims false false true d e = refl
prims false false false true e = refl
prims false false false false true = refl
prims false false false false false = tt

properties : (a b c d e f : Bool)
    → NoDictionary (if a then Some word.Custom else if b then Some word.Variability else if c then Some word.Rel else if d then Some word.TimeSamples else if e then Some word.Connect else if f then Some word.Spline else None)
properties true b c d e f = refl
properties false true c d e f = refl
properties false false true d e f = refl
properties false false false true e f = refl
properties false false false false true f = refl
properties false false false false false true = refl
properties false false false false false false = tt

fields : (a b c d : Bool) → NoDictionary (if a then Some word.StringField else if b then Some word.PathField else if c then Some word.ReferenceField else if d then Some word.OrderedField else None)
fields true b c d = refl
fields false true c d = refl
fields false false true d = refl
fields false false false true = refl
fields false false false false = tt

layers : (a b c d : Bool) → d ≡ false → NoDictionary (if a then Some word.SubLayers else if b then Some word.RootPrims else if c then Some word.NoneWord else if d then Some word.Dictionary else None)
layers true b c d h = refl
layers false true c d h = refl
layers false false true d h = refl
layers false false false true h = absurd cc
layers false false false false h = tt

none_of_two : (o : Option Keyword) (w : Keyword) → NoDictionary o → is_dictionary w ≡ false → is_dictionary (or_else o w) ≡ false
none_of_two (Some x) w h k = h
none_of_two None w h k = k

other_word : (t : List ℕ) → is t (codes "dictionary") ≡ false → is_dictionary (keyword_of t) ≡ false
other_word t h =
    none_of_two (prim_word t) (or_else (property_word t) (or_else (field_word t) (or_else (layer_word t) word.Other)))
    (prims (is t (codes "def") || is t (codes "over") || is t (codes "class")) (is t (codes "delete") || is t (codes "add") || is t (codes "prepend") || is t (codes "append")) (is t (codes "reorder")) (is t (codes "variants")) (is t (codes "variantSet")))
    (none_of_two (property_word t) (or_else (field_word t) (or_else (layer_word t) word.Other))
    (properties (is t (codes "custom")) (is t (codes "uniform") || is t (codes "varying")) (is t (codes "rel")) (is t (codes "timeSamples")) (is t (codes "connect")) (is t (codes "spline")))
    (none_of_two (field_word t) (or_else (layer_word t) word.Other)
    (fields (is t (codes "variantSets") || is t (codes "apiSchemas") || is t (codes "clipSets")) (is t (codes "inherits") || is t (codes "specializes")) (is t (codes "references") || is t (codes "payload")) (is t (codes "nameChildren") || is t (codes "properties")))
    (none_of_two (layer_word t) word.Other (layers (is t (codes "subLayers")) (is t (codes "rootPrims")) (is t (codes "None")) (is t (codes "dictionary")) h) refl)))

the_word : (t : List ℕ) → t ≡ codes "dictionary" → is_dictionary (keyword_of t) ≡ true
the_word t h = ap (λ x. is_dictionary (keyword_of x)) h

pub dictionary_word : (t : List ℕ) → is_dictionary (keyword_of t) ≡ is t (codes "dictionary")
dictionary_word t = cases (is t (codes "dictionary")) refl
  where
    cases : (b : Bool) → is t (codes "dictionary") ≡ b → is_dictionary (keyword_of t) ≡ b
    cases true h = the_word t ((bytes_decides t (codes "dictionary")).0 h)
    cases false h = other_word t h

-- what follows the type of an entry: brackets may follow one that is no dictionary's
abbrev behind_dictionary : List Symbol
behind_dictionary = symbol.EntryKey ∷ symbol.Equals ∷ symbol.Value ∷ symbol.MaybeSeparator ∷ symbol.DictionaryEntries ∷ []

entry_begins : (w : Keyword) → dictionary_entries (kind.Word w) ≡ Some (if is_dictionary w then behind_dictionary else symbol.MaybeBrackets ∷ behind_dictionary)
entry_begins word.Dictionary = refl
entry_begins _ = refl

-- ---- each place

-- What the draft answers goes with what the grammar does: it takes the token and leaves these symbols, or it does not.
abbrev pub Agrees : TokenKind → List ℕ → List Symbol → Acted → Option (Symbol × List Symbol) → Type 0
Agrees f text below r None = r ≡ Err Syntax
Agrees f text below r (Some s) = GoesWith f text below s.1 r

value_goes : (f : TokenKind) (text : List ℕ) (below : List Symbol) (d : ValueDraft) → are_levels d.outer d.level.bracket ≡ true
    → Agrees f text below (act_value f text d) (step (symbol.Value ∷ ((awaited_behind d.level.bracket ++ awaited_outside d.outer) ++ below)) (kind_of f text))
unfolding token_value
value_goes (form.Mark mark.OpenParen) text below d h =
    members_go (form.Mark mark.OpenParen) text below bracket.Tuple place.Value (tuple_members d.level.item) d (symbol.Value ∷ symbol.MoreMembers ∷ ((awaited_behind d.level.bracket ++ awaited_outside d.outer) ++ below)) refl refl h refl
value_goes (form.Mark mark.OpenBracket) text below d h =
    members_go (form.Mark mark.OpenBracket) text below bracket.Array place.ValueOrEnd (array_members d.level.item) d (symbol.ElementsOrEnd ∷ ((awaited_behind d.level.bracket ++ awaited_outside d.outer) ++ below)) refl refl h refl
value_goes (form.Mark mark.OpenBrace) text below d h =
    dict_goes (form.Mark mark.OpenBrace) text below d (symbol.DictionaryEntries ∷ symbol.CloseBrace ∷ ((awaited_behind d.level.bracket ++ awaited_outside d.outer) ++ below)) h refl
value_goes (form.Mark m) text below d h = refl
value_goes form.Name text below d h = put_goes form.Name text below d ((awaited_behind d.level.bracket ++ awaited_outside d.outer) ++ below) (token_value form.Name text) (said form.Name text refl) h refl
value_goes form.Number text below d h = put_goes form.Number text below d ((awaited_behind d.level.bracket ++ awaited_outside d.outer) ++ below) (token_value form.Number text) (said form.Number text refl) h refl
value_goes form.String text below d h = put_goes form.String text below d ((awaited_behind d.level.bracket ++ awaited_outside d.outer) ++ below) (token_value form.String text) (said form.String text refl) h refl
value_goes form.Asset text below d h = put_goes form.Asset text below d ((awaited_behind d.level.bracket ++ awaited_outside d.outer) ++ below) (token_value form.Asset text) (said form.Asset text refl) h refl
value_goes form.Path text below d h = put_goes form.Path text below d ((awaited_behind d.level.bracket ++ awaited_outside d.outer) ++ below) (token_value form.Path text) (said form.Path text refl) h refl

-- a draft at a place of a level of this bracket
abbrev within : Place → Bracket → Level → List Level → ValueDraft
within p b l outer = draft p (record l { bracket = b }) outer

-- a draft agrees with the grammar at a place
abbrev pub AgreesAt : Place → Bracket → Type 0
AgreesAt p b =
    (f : TokenKind) (text : List ℕ) (below : List Symbol) (l : Level) (outer : List Level) → are_levels outer b ≡ true
    → Agrees f text below (act_at p f text (within p b l outer)) (step (awaited (within p b l outer) ++ below) (kind_of f text))

at_value : (b : Bracket) → AgreesAt place.Value b
at_value b f text below l outer h = value_goes f text below (within place.Value b l outer) h

tuple_or_end : AgreesAt place.ValueOrEnd bracket.Tuple
tuple_or_end (form.Mark mark.CloseParen) text below l outer h = close_goes (form.Mark mark.CloseParen) text below (within place.ValueOrEnd bracket.Tuple l outer) (awaited_outside outer ++ below) h refl refl
tuple_or_end f text below l outer h = value_goes f text below (within place.ValueOrEnd bracket.Tuple l outer) h

array_or_end : AgreesAt place.ValueOrEnd bracket.Array
array_or_end (form.Mark mark.CloseBracket) text below l outer h = close_goes (form.Mark mark.CloseBracket) text below (within place.ValueOrEnd bracket.Array l outer) (awaited_outside outer ++ below) h refl refl
array_or_end f text below l outer h = value_goes f text below (within place.ValueOrEnd bracket.Array l outer) h

tuple_member : AgreesAt place.BehindMember bracket.Tuple
tuple_member (form.Mark mark.Comma) text below l outer h = (h, refl)
tuple_member (form.Mark mark.CloseParen) text below l outer h = close_goes (form.Mark mark.CloseParen) text below (within place.BehindMember bracket.Tuple l outer) (awaited_outside outer ++ below) h refl refl
tuple_member _ text below l outer h = refl

array_member : AgreesAt place.BehindMember bracket.Array
array_member (form.Mark mark.Comma) text below l outer h = (h, refl)
array_member (form.Mark mark.CloseBracket) text below l outer h = close_goes (form.Mark mark.CloseBracket) text below (within place.BehindMember bracket.Array l outer) (awaited_outside outer ++ below) h refl refl
array_member _ text below l outer h = refl

type_goes : (p : Place) (text : List ℕ) (below : List Symbol) (l : Level) (outer : List Level) → are_levels outer bracket.Dict ≡ true
    → Agrees form.Name text below (type_act text (within p bracket.Dict l outer)) (step (symbol.DictionaryEntries ∷ symbol.CloseBrace ∷ (awaited_outside outer ++ below)) (kind.Word (keyword_of text)))
type_goes p text below l outer h =
    subst (λ o. Agrees form.Name text below (type_act text d) (choose symbol.DictionaryEntries stack o true (step stack (kind.Word (keyword_of text))))) (sym (entry_begins (keyword_of text) ∙ ap next (dictionary_word text)))
    (by_word (pointwise ◌==◌ text (codes "dictionary")))
  where
    d : ValueDraft
    d = within p bracket.Dict l outer

    stack : List Symbol
    stack = symbol.CloseBrace ∷ (awaited_outside outer ++ below)

    next : Bool → Option (List Symbol)
    next t = Some (if t then behind_dictionary else symbol.MaybeBrackets ∷ behind_dictionary)

    by_element : (e : Option ElementType) → GoesWith form.Name text below ((symbol.MaybeBrackets ∷ behind_dictionary) ++ stack) (typed_entry e d)
    by_element None = λ k. absurd cc
    by_element (Some e) = (h, refl)

    by_word : (t : Bool) → GoesWith form.Name text below ((if t then behind_dictionary else symbol.MaybeBrackets ∷ behind_dictionary) ++ stack)
        (if t then Ok (record d { place = place.Key; level = record d.level { ty = dict.Dictionary } }) else typed_entry (find_element ELEMENTS text) d)
    by_word true = (h, refl)
    by_word false = by_element (find_element ELEMENTS text)

entry_goes : (p : Place) (f : TokenKind) (text : List ℕ) (below : List Symbol) (l : Level) (outer : List Level) → are_levels outer bracket.Dict ≡ true
    → Agrees f text below (act_entry f text (within p bracket.Dict l outer)) (step (symbol.DictionaryEntries ∷ symbol.CloseBrace ∷ (awaited_outside outer ++ below)) (kind_of f text))
entry_goes p (form.Mark mark.CloseBrace) text below l outer h = close_goes (form.Mark mark.CloseBrace) text below (within p bracket.Dict l outer) (awaited_outside outer ++ below) h refl refl
entry_goes p form.Name text below l outer h = type_goes p text below l outer h
entry_goes p _ text below l outer h = refl

key_goes : (p : Place) (f : TokenKind) (text : List ℕ) (below : List Symbol) (l : Level) (outer : List Level) → are_levels outer bracket.Dict ≡ true
    → Agrees f text below (act_key f text (within p bracket.Dict l outer)) (step ((awaited_entry ++ awaited_outside outer) ++ below) (kind_of f text))
key_goes p form.Name text below l outer h =
    key_goes_on form.Name text below (within p bracket.Dict l outer) (((symbol.Equals ∷ symbol.Value ∷ awaited_behind bracket.Dict) ++ awaited_outside outer) ++ below) (Some text) refl h refl
key_goes p form.String text below l outer h =
    key_goes_on form.String text below (within p bracket.Dict l outer) (((symbol.Equals ∷ symbol.Value ∷ awaited_behind bracket.Dict) ++ awaited_outside outer) ++ below) (string_text text) refl h refl
key_goes p (form.Mark mark.OpenParen) text below l outer h = refl
key_goes p _ text below l outer h = refl

behind_type : AgreesAt place.BehindType bracket.Dict
behind_type (form.Mark mark.OpenBracket) text below l outer h = (h, refl)
behind_type f text below l outer h = key_goes place.BehindType f text below l outer h

type_end : AgreesAt place.TypeEnd bracket.Dict
type_end (form.Mark mark.CloseBracket) text below l outer h = (h, refl)
type_end _ text below l outer h = refl

equals : AgreesAt place.Equals bracket.Dict
equals (form.Mark mark.Equals) text below l outer h = (h, refl)
equals _ text below l outer h = refl

behind_entry : AgreesAt place.BehindEntry bracket.Dict
behind_entry (form.Mark mark.Comma) text below l outer h = (h, refl)
behind_entry (form.Mark mark.Semicolon) text below l outer h = (h, refl)
behind_entry f text below l outer h = entry_goes place.BehindEntry f text below l outer h

dictionary : AgreesAt place.Dictionary bracket.Statement
dictionary (form.Mark mark.OpenBrace) text below l outer h =
    dict_goes (form.Mark mark.OpenBrace) text below (within place.Dictionary bracket.Statement l outer) (symbol.DictionaryEntries ∷ symbol.CloseBrace ∷ (awaited_outside outer ++ below)) h refl
dictionary _ text below l outer h = refl

agrees_at : (p : Place) (b : Bracket) → is_place_of p b ≡ true → is_complete_at p ≡ false → AgreesAt p b
agrees_at place.Value b fits open' = at_value b
agrees_at place.ValueOrEnd bracket.Tuple fits open' = tuple_or_end
agrees_at place.ValueOrEnd bracket.Array fits open' = array_or_end
agrees_at place.BehindMember bracket.Tuple fits open' = tuple_member
agrees_at place.BehindMember bracket.Array fits open' = array_member
agrees_at place.EntryType bracket.Dict fits open' = entry_goes place.EntryType
agrees_at place.BehindType bracket.Dict fits open' = behind_type
agrees_at place.TypeEnd bracket.Dict fits open' = type_end
agrees_at place.Key bracket.Dict fits open' = key_goes place.Key
agrees_at place.Equals bracket.Dict fits open' = equals
agrees_at place.BehindEntry bracket.Dict fits open' = behind_entry
agrees_at place.Dictionary bracket.Statement fits open' = dictionary
agrees_at _ _ fits open' = absurd cc

agrees : (d : ValueDraft) (f : TokenKind) (text : List ℕ) (below : List Symbol) → is_formed d ≡ true → is_complete d ≡ false → Agrees f text below (value_act f text d) (step (awaited d ++ below) (kind_of f text))
unfolding value_act
agrees d f text below h open' =
    let p = and_parts (is_place_of d.place d.level.bracket) (are_levels d.outer d.level.bracket) h in
    agrees_at d.place d.level.bracket p.0 open' f text below d.level d.outer p.1

-- no place takes a fault
no_fault : (p : Place) (b : Bracket) (rest : List Symbol) → is_place_of p b ≡ true → is_complete_at p ≡ false → step (awaited_at p b ++ rest) kind.Fault ≡ None
no_fault place.Value b rest fits open' = refl
no_fault place.ValueOrEnd bracket.Tuple rest fits open' = refl
no_fault place.ValueOrEnd bracket.Array rest fits open' = refl
no_fault place.BehindMember bracket.Tuple rest fits open' = refl
no_fault place.BehindMember bracket.Array rest fits open' = refl
no_fault place.EntryType b rest fits open' = refl
no_fault place.BehindType b rest fits open' = refl
no_fault place.TypeEnd b rest fits open' = refl
no_fault place.Key b rest fits open' = refl
no_fault place.Equals b rest fits open' = refl
no_fault place.BehindEntry bracket.Dict rest fits open' = refl
no_fault place.Dictionary b rest fits open' = refl
no_fault _ _ rest fits open' = absurd cc

pub taken : (d : ValueDraft) (w : Word) (below : List Symbol) (s : Symbol) (after : List Symbol) → is_formed d ≡ true → is_complete d ≡ false → IsOfToken w
    → step (awaited d ++ below) w.kind ≡ Some (s, after) → GoesWith w.token w.text below after (value_act w.token w.text d)
taken d w below s after h open' (inl is) e =
    subst (Agrees w.token w.text below (value_act w.token w.text d)) (ap (step (awaited d ++ below)) (sym is) ∙ e) (agrees d w.token w.text below h open')
taken d w below s after h open' (inr is) e =
    let fits = (and_parts (is_place_of d.place d.level.bracket) (are_levels d.outer d.level.bracket) h).0 in
    let none : step (awaited d ++ below) w.kind ≡ None =
    ap (step (awaited d ++ below)) is ∙ ap (λ x. step x kind.Fault) (append_assoc (awaited_at d.place d.level.bracket) (awaited_outside d.outer) below)
    ∙ no_fault d.place d.level.bracket (awaited_outside d.outer ++ below) fits open' in
    absurd cc

pub refused : (d : ValueDraft) (f : TokenKind) (text : List ℕ) (below : List Symbol) → is_formed d ≡ true → is_complete d ≡ false
    → step (awaited d ++ below) (kind_of f text) ≡ None → value_act f text d ≡ Err Syntax
refused d f text below h open' e = subst (Agrees f text below (value_act f text d)) e (agrees d f text below h open')

-- ---- drafts in which nothing stands, and drafts that are complete

pub complete : (d : ValueDraft) → is_formed d ≡ true → is_complete d ≡ true → awaited d ≡ []
complete d h e =
    let p = and_parts (is_place_of d.place d.level.bracket) (are_levels d.outer d.level.bracket) h in
    at d.place d.level.bracket d.outer e p.0 p.1
  where
    at : (p : Place) (b : Bracket) (outer : List Level) → is_complete_at p ≡ true → is_place_of p b ≡ true → are_levels outer b ≡ true → awaited_at p b ++ awaited_outside outer ≡ []
    at place.Complete bracket.Statement [] is fits levels = refl
    at place.Complete bracket.Statement (l ∷ ls) is fits levels =
        let p = and_parts (is_statement l.bracket) (list_all is_inner ls && false) levels in
        let q = and_parts (list_all is_inner ls) false p.1 in
        absurd (cc q.1)
    at _ _ outer is fits levels = absurd cc

-- ---- a path that is none

no_value : (text : List ℕ) (d : ValueDraft) → is_path_text (path_text text) ≡ false → put_act (token_value form.Path text) d ≡ Err Syntax
unfolding token_value
no_value text d h = ap (λ b. put_act (if b then Ok (value.PathText (path_text text)) else Err Syntax) d) h

no_path_at : (p : Place) (b : Bracket) (l : Level) (outer : List Level) (text : List ℕ) → is_path_text (path_text text) ≡ false → act_at p form.Path text (within p b l outer) ≡ Err Syntax
no_path_at place.Value b l outer text h = no_value text (within place.Value b l outer) h
no_path_at place.ValueOrEnd bracket.Statement l outer text h = no_value text (within place.ValueOrEnd bracket.Statement l outer) h
no_path_at place.ValueOrEnd b l outer text h = no_value text (within place.ValueOrEnd b l outer) h
no_path_at place.BehindMember bracket.Statement l outer text h = refl
no_path_at place.BehindMember b l outer text h = refl
no_path_at _ b l outer text h = refl

pub no_path : (d : ValueDraft) (text : List ℕ) → is_path_text (path_text text) ≡ false → value_act form.Path text d ≡ Err Syntax
unfolding value_act
no_path d text h = no_path_at d.place d.level.bracket d.level d.outer text h

-- ---- a number that is too long

-- where a value stands no number is refused for syntax
number_stands : (d : ValueDraft) (text : List ℕ) (t : Taken) → Said form.Number text t → put_act t d ≡ Err Syntax → ⊥
number_stands d text (Err k) s h = let e : k ≡ Syntax = cc in let p : IsNoPath form.Number text = s e in cc p.0
number_stands d text (Ok v) s h = by_room (is_full d.level.room) (take_value d.level.item (is_statement d.level.bracket) v) (plain_value d.level.item (is_statement d.level.bracket) v) h
  where
    by_room : (t : Bool) (r : Taken) → Plain r → (if t then Err ValueShape else given r d) ≡ Err Syntax → ⊥
    by_room true r p g = cc
    by_room false (Err k) p g = p (let e : k ≡ Syntax = cc in e)
    by_room false (Ok w) p g = cc

number_at : (p : Place) (b : Bracket) (l : Level) (outer : List Level) (text : List ℕ) (at : ℕ)
    → (kind_of_fault (lex_fault.NumberTooLong at) p ≡ Syntax) ↔ (act_at p form.Number text (within p b l outer) ≡ Err Syntax)
number_at place.Value b l outer text at = (λ h. absurd cc, λ h. absurd (number_stands (within place.Value b l outer) text (token_value form.Number text) (said form.Number text refl) h))
number_at place.ValueOrEnd bracket.Statement l outer text at =
    (λ h. absurd cc, λ h. absurd (number_stands (within place.ValueOrEnd bracket.Statement l outer) text (token_value form.Number text) (said form.Number text refl) h))
number_at place.ValueOrEnd b l outer text at = (λ h. absurd cc, λ h. absurd (number_stands (within place.ValueOrEnd b l outer) text (token_value form.Number text) (said form.Number text refl) h))
number_at place.BehindMember bracket.Statement l outer text at = (λ h. refl, λ h. refl)
number_at place.BehindMember b l outer text at = (λ h. refl, λ h. refl)
number_at _ b l outer text at = (λ h. refl, λ h. refl)

too_long : (d : ValueDraft) (text : List ℕ) (at : ℕ) → (kind_of_fault (lex_fault.NumberTooLong at) d.place ≡ Syntax) ↔ (value_act form.Number text d ≡ Err Syntax)
unfolding value_act
too_long d text at = number_at d.place d.level.bracket d.level d.outer text at

-- ---- the words of a text

joined : (k : WordKind) (b : Bool) → (if_joined b k ≡ k) ⊎ (if_joined b k ≡ kind.Fault)
joined k true = inr refl
joined k false = inl refl

pub are_of_tokens : (before : Before) (ts : List Token) (fault : Option LexFault) → AreOfTokens (words_behind before ts fault)
are_of_tokens before [] None = tt
are_of_tokens before [] (Some (lex_fault.NumberTooLong at)) = (joined kind.Number ((before.is_dot || false) && not (at == before.end)), tt)
are_of_tokens before [] (Some (lex_fault.Unclosed at)) = (inr refl, tt)
are_of_tokens before [] (Some (lex_fault.BadByte at)) = (inr refl, tt)
are_of_tokens before [] (Some (lex_fault.NotUtf8 at)) = (inr refl, tt)
are_of_tokens before (t ∷ ts) fault = (joined (kind_of t.kind t.text) ((before.is_dot || is_dot (kind_of t.kind t.text)) && not (t.start == before.end)), are_of_tokens (behind t) ts fault)

pub followed : AreFollowing
followed = record {
  value = λ shape. (refl, refl);
  dictionary = λ shape. (refl, refl);
  complete = complete;
  taken = taken;
  refused = refused;
  no_path = no_path;
  too_long = too_long;
  words = λ text. are_of_tokens at_start (tokens_of text).words (tokens_of text).fault;
}
