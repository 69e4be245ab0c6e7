-- Selected variants: a dictionary of strings.
use Rattle.std.proofs.Common.{◌≡◌, ◌∙◌, ℕ, Bool, true, false, ◌==◌, List, [], ◌∷◌, ◌++◌, append_assoc, append-nil, map, Option, Some, Result, Ok, Err, ap, sym, refl, subst}
use Rattle.std.specs.Prelude.{if◌then◌else◌, codes}
use Rattle.std.specs.Cmp.Lexicographic.{pointwise}
use Rattle.std.specs.Option.{is_some}
use Rattle.std.specs.Str.{is_utf8}
use Rattle.std.proofs.lemmas.Cmp.{nat_list_cmp_total}
use Rattle.std.specs.List.Sorted.{IsStrictlySortedBy}
use Rattle.sdf_paths.specs.Order.{text_cmp}
use Rattle.sdf_paths.specs.declared.element.Element.{Element}
use Rattle.sdf_values.proofs.Elements.{type_is_found}
use Rattle.sdf_values.specs.TypeNames.{find_element}
use Rattle.sdf_values.specs.Print.{quoted, is_plain_key}
use Rattle.sdf_values.specs.declared.refusal.RefusalKind.TheVariants.{NumberTooLong, DuplicateSpec}
use Rattle.sdf_values.specs.declared.type_name.ElementType.TheVariants as element
use Rattle.sdf_values.specs.declared.type_name.TheConstants.{ELEMENTS}
use Rattle.sdf_values.specs.declared.value.DictItem.{DictItem, fold-DictItem}
use Rattle.sdf_values.specs.declared.value.DictType.{DictType}
use Rattle.sdf_values.specs.declared.value.DictType.TheVariants as dict
use Rattle.sdf_values.specs.declared.value.Value.TheVariants as value
use Rattle.spec_properties.specs.Entries.{SelectionEntries}
use Rattle.spec_tables.specs.Tables.{IsTable, at_key, with_key}
use Rattle.usda_fields.specs.Variants.{of_strings, selections_of, selections_act, with_selections, variants_act, Said as SelectionsSaid, said_step as selections_step, said_item as selections_item, entry_of}
use Rattle.usda_grammar.specs.Machine.{step}
use Rattle.usda_grammar.specs.declared.symbols.Symbol.{Symbol}
use Rattle.usda_grammar.specs.declared.symbols.Symbol.TheVariants as symbol
use Rattle.usda_lexer.specs.declared.token.TokenKind.TheVariants as kind
use Rattle.usda_lists.specs.Acts.{and_then}
use Rattle.usda_statements.specs.OpenValues.{no_value, is_open, opened, given, with_draft, value_in}
use Rattle.usda_statements.specs.declared.open_value.OpenValue.{OpenValue}
use Rattle.usda_values.specs.Drafts.{Acted, new_level, value_act, key_act, typed_entry}
use Rattle.usda_values.specs.Entries.{Table, items_of}
use Rattle.usda_values.specs.Shapes.{entry_shape}
use Rattle.usda_values.specs.declared.level.Bracket.TheVariants as bracket
use Rattle.usda_values.specs.declared.level.Place.{Place}
use Rattle.usda_values.specs.declared.level.Place.TheVariants as place
use Rattle.usda_values.specs.declared.shape.Shape.{Shape}
use Rattle.usda_values.specs.declared.shape.Shape.TheVariants.{Untyped, Dictionary}
use Rattle.usda_values.specs.declared.draft.ValueDraft.{ValueDraft}
use Rattle.usda_words.specs.Words.{Word}
use Rattle.usda_writer.specs.Fields.{selection_item}
use Rattle.usda_drafts.specs.Acts.{act, bodies_act, prims_act}
use Rattle.usda_drafts.specs.Metadata as metadata
use Rattle.usda_drafts.specs.Metadata.{prim_item_act}
use Rattle.usda_drafts.specs.Refusals.{refused, then_with}
use Rattle.usda_drafts.specs.Values.{aimed, token_act, first_act, after_token, completed, is_selections, with_said}
use Rattle.usda_drafts.specs.declared.aim.Goal.{Goal}
use Rattle.usda_drafts.specs.declared.aim.Goal.TheVariants as goal
use Rattle.usda_drafts.specs.declared.draft.Draft.{Draft}
use Rattle.usda_drafts.specs.declared.fault.Refused.{Refused}
use Rattle.value_texts.specs.Acts.{acts}
use Rattle.value_texts.specs.Cuts.{Said}
use Rattle.value_texts.specs.ValueWords.{words_of_value, words_of_item, said_step, said_item, entries_said, key_said, name_said, string_said, equals, open_brace, close_brace}
use Rattle.value_texts.specs.Words.{Told, told_of, as_word}
use Rattle.value_texts.proofs.DictsGiven.{in_dict}
use Rattle.value_texts.proofs.Given.{leaf_given}
use Rattle.value_texts.proofs.Leaves.{text_gives}
use Rattle.value_texts.proofs.StringTokens.{string_means}
use Rattle.value_texts.proofs.TypeTexts.{type_is_no_dictionary}
use Rattle.sdf_values.proofs.Values as fold
use Rattle.value_texts.proofs.ValuesGiven.{string_none}
use Rattle.value_texts.specs.Each.{AreAll}
use Rattle.layer_reads.specs.Taking.{AreTaken}
use Rattle.layer_reads.proofs.Taking.{taken_one, together, weaker, above}
use Rattle.layer_reads.specs.Selections.{IsSelectionKept, AreSelectionsKept, with_selected, AreSelectionsRead}
use Rattle.layer_reads.specs.Standing.{Standing, saying, IsAt}
use Rattle.layer_reads.proofs.EditedLists.{equals_taken}
use Rattle.layer_reads.proofs.Items.{no_items, one_item}
use Rattle.layer_reads.proofs.Tables.{AllBefore, AllAfter, none_at, put_between, after_nothing, first_behind, others, after_more}
use Rattle.layer_reads.proofs.Words.{word_then}

-- ---- words of a value that is open

-- what the act of a word is, where its token leads the open value to this one
open_acted : (s : Symbol) (w : Word) (x : Said) (d : Draft) (v : OpenValue) → told_of w ≡ as_word x → is_open d.value ≡ true → given d.owner.said.base x.kind x.text d.value ≡ Ok v → act s w d ≡ after_token (Ok v) w.start d
unfolding act token_act
open_acted s w x d v told going goes =
    ap (λ b. if b then Err (refused NumberTooLong w.start) else if is_open d.value then token_act w d else bodies_act s w d) (ap (λ (t : Told). t.too_long) told)
    ∙ ap (λ b. if b then token_act w d else bodies_act s w d) going
    ∙ ap (λ (t : Told). after_token (given d.owner.said.base t.token t.text d.value) w.start d) told
    ∙ ap (λ r. after_token r w.start d) goes

-- the value is open still
open_then : (from mid to : List Symbol) (s : Symbol) (d : Draft) (v : OpenValue) (x : Said) (said : List Said) (After : Draft → Type 0) → is_open d.value ≡ true → ((below : List Symbol) → step (from ++ below) (as_word x).kind ≡ Some (s, mid ++ below))
    → given d.owner.said.base x.kind x.text d.value ≡ Ok v → is_open v ≡ true → AreTaken mid (record d { value = v }) said to After → AreTaken from d (x ∷ said) to After
open_then from mid to s d v x said After going goes is still rest =
    together from mid to d (x ∷ []) said (λ e. e ≡ record d { value = v }) After
    (taken_one from mid s d x (λ e. e ≡ record d { value = v }) goes
    (λ w told. (
      record d { value = v },
      refl,
      open_acted s w x d v told going is
          ∙ ap (λ b. if b then Ok (record d { value = v }) else completed d.aim.goal (value_in v) w.start (record d { value = no_value })) still,
    )))
    (λ e same. subst (λ e. AreTaken mid e said to After) (sym same) rest)

-- the value is complete
open_last : (from to : List Symbol) (s : Symbol) (d next : Draft) (v : OpenValue) (x : Said) (After : Draft → Type 0) → is_open d.value ≡ true → ((below : List Symbol) → step (from ++ below) (as_word x).kind ≡ Some (s, to ++ below))
    → given d.owner.said.base x.kind x.text d.value ≡ Ok v → is_open v ≡ false → ((at : ℕ) → completed d.aim.goal (value_in v) at (record d { value = no_value }) ≡ Ok next) → After next → AreTaken from d (x ∷ []) to After
open_last from to s d next v x After going goes is over gives after =
    taken_one from to s d x After goes
    (λ w told. (
      next,
      after,
      open_acted s w x d v told going is
          ∙ ap (λ b. if b then Ok (record d { value = v }) else completed d.aim.goal (value_in v) w.start (record d { value = no_value })) over
          ∙ gives w.start,
    ))

-- ---- the dictionary

acts_of : (x : Said) (d : ValueDraft) → value_act x.kind x.text d ≡ acts (x ∷ []) d
acts_of x d = by (value_act x.kind x.text d)
  where
    by : (r : Acted) → r ≡ (elim r as (λ _. Acted) [ Ok next ↦ Ok next | Err k ↦ Err k ])
    by (Ok d) = refl
    by (Err k) = refl

-- the value that is open between two tokens of the dictionary
abbrev string_type : DictType
string_type = dict.Plain (record { element = element.String; array = false })

abbrev in_selections : Place → Shape → List ℕ → DictType → Table → OpenValue
in_selections p item key ty entries = record { draft = in_dict p item key ty entries (new_level bracket.Statement Dictionary (Some 1) ∷ []); only_strings = true }

abbrev tabled : SelectionEntries → Table
tabled [] = []
tabled (s ∷ ss) = (s.0, selection_item s) ∷ tabled ss

tabled_more : (done : SelectionEntries) (s : List ℕ × List ℕ) → tabled done ++ (s.0, selection_item s) ∷ [] ≡ tabled (done ++ s ∷ [])
tabled_more [] s = refl
tabled_more (e ∷ es) s = ap (λ l. (e.0, selection_item e) ∷ l) (tabled_more es s)

tabled_before : (done : SelectionEntries) (k : List ℕ) → AllBefore text_cmp done k → AllBefore text_cmp (tabled done) k
tabled_before [] k h = tt
tabled_before (e ∷ es) k h = (h.0, tabled_before es k h.1)

items_back : (done : SelectionEntries) → items_of (tabled done) ≡ map selection_item done
items_back [] = refl
items_back (s ∷ ss) = ap (λ l. selection_item s ∷ l) (items_back ss)

-- an entry may begin, behind another or not
abbrev entry_place : Bool → Place
entry_place true = place.BehindEntry
entry_place false = place.EntryType

abbrev entry_symbols : Bool → List Symbol
entry_symbols true = symbol.MaybeSeparator ∷ symbol.DictionaryEntries ∷ symbol.CloseBrace ∷ []
entry_symbols false = symbol.DictionaryEntries ∷ symbol.CloseBrace ∷ []

module _ (base : List Element) (item : Shape) (key : List ℕ) (ty : DictType) (entries : Table) where
  type_given : (b : Bool) → given base kind.Name (codes "string") (in_selections (entry_place b) item key ty entries) ≡ Ok (in_selections place.BehindType item key string_type entries)
  unfolding value_act
  type_given b = ap (λ r. with_draft (in_selections (entry_place b) item key ty entries) (and_then r of_strings)) (found b)
    where
      named : ValueDraft → Acted
      named d = if pointwise ◌==◌ (codes "string") (codes "dictionary") then Ok (record d { place = place.Key; level = record d.level { ty = dict.Dictionary } }) else typed_entry (find_element ELEMENTS (codes "string")) d

      as_string : (d : ValueDraft) → named d ≡ Ok (record d { place = place.BehindType; level = record d.level { ty = string_type } })
      as_string d =
          ap (λ b. if b then Ok (record d { place = place.Key; level = record d.level { ty = dict.Dictionary } }) else typed_entry (find_element ELEMENTS (codes "string")) d) (type_is_no_dictionary element.String)
          ∙ ap (λ o. typed_entry o d) (type_is_found element.String)

      found : (b : Bool) → value_act kind.Name (codes "string") (in_selections (entry_place b) item key ty entries).draft ≡ Ok (in_selections place.BehindType item key string_type entries).draft
      found true = as_string (in_selections place.BehindEntry item key ty entries).draft
      found false = as_string (in_selections place.EntryType item key ty entries).draft

  key_is_given : (k : List ℕ) → is_utf8 k ≡ true → is_some (at_key text_cmp k entries) ≡ false
      → given base (key_said k).kind (key_said k).text (in_selections place.BehindType item key string_type entries) ≡ Ok (in_selections place.Equals item k string_type entries)
  unfolding value_act
  key_is_given k utf8 none = by (is_plain_key k)
    where
      d : OpenValue
      d = in_selections place.BehindType item key string_type entries

      keyed : (x : Said) → value_act x.kind x.text d.draft ≡ key_act (Some k) d.draft → given base x.kind x.text d ≡ with_draft d (and_then (value_act x.kind x.text d.draft) of_strings)
          → given base x.kind x.text d ≡ Ok (in_selections place.Equals item k string_type entries)
      keyed x acts is =
          is ∙ ap (λ r. with_draft d (and_then r of_strings)) (acts ∙ ap (λ b. if b then Err DuplicateSpec else Ok (in_selections place.Equals item k string_type entries).draft) none)

      by : (b : Bool) → given base (if b then name_said k else string_said (quoted k)).kind (if b then name_said k else string_said (quoted k)).text d ≡ Ok (in_selections place.Equals item k string_type entries)
      by true = keyed (name_said k) refl refl
      by false = keyed (string_said (quoted k)) (ap (λ o. key_act o d.draft) (string_means k utf8)) refl

  equals_given : given base equals.kind equals.text (in_selections place.Equals item key string_type entries) ≡ Ok (in_selections place.Value (entry_shape string_type) key string_type entries)
  unfolding value_act
  equals_given = refl

  text_given : (t : List ℕ) → is_utf8 t ≡ true
      → given base kind.String (quoted t) (in_selections place.Value (entry_shape string_type) key string_type entries)
      ≡ Ok (in_selections place.BehindEntry (entry_shape string_type) key string_type (with_key text_cmp key (selection_item (key, t)) entries))
  text_given t utf8 =
      let v : OpenValue = in_selections place.Value (entry_shape string_type) key string_type entries in
      ap (λ r. with_draft v (and_then r of_strings))
      (acts_of (string_said (quoted t)) v.draft ∙ leaf_given (string_said (quoted t)) (value.Text t) v.draft refl refl (string_none (quoted t)) refl (text_gives t utf8 (entry_shape string_type) false refl))

-- the words of an entry
entry_said : (s : List ℕ × List ℕ) → words_of_item (selection_item s) ≡ name_said (codes "string") ∷ key_said s.0 ∷ equals ∷ string_said (quoted s.1) ∷ []
entry_said s =
    fold.of_item (List Said) (List Said) said_step said_item (selection_item s)
    ∙ ap (λ l. name_said (codes "string") ∷ key_said s.0 ∷ equals ∷ l) (fold.of_text (List Said) (List Said) said_step said_item s.1)

pub entry_all_said : (s : List ℕ × List ℕ) (ss : SelectionEntries) (said : List Said) → entries_said (map words_of_item (map selection_item (s ∷ ss))) ++ said
    ≡ name_said (codes "string") ∷ key_said s.0 ∷ equals ∷ string_said (quoted s.1) ∷ entries_said (map words_of_item (map selection_item ss)) ++ said
entry_all_said s ss said = ap (λ l. (l ++ entries_said (map words_of_item (map selection_item ss))) ++ said) (entry_said s)

-- a key is a name or a string
key_step : (k : List ℕ) (below : List Symbol) → step (symbol.MaybeBrackets ∷ symbol.EntryKey ∷ below) (as_word (key_said k)).kind ≡ Some (symbol.EntryKey, below)
key_step k below = by (is_plain_key k)
  where
    by : (b : Bool) → step (symbol.MaybeBrackets ∷ symbol.EntryKey ∷ below) (as_word (if b then name_said k else string_said (quoted k))).kind ≡ Some (symbol.EntryKey, below)
    by true = refl
    by false = refl

-- what the selections of the whole dictionary are

entries_of : (ss : SelectionEntries) → map entry_of (map selection_item ss) ≡ map (λ (s : List ℕ × List ℕ). (s.0, Some s.1)) ss
entries_of [] = refl
entries_of (s ∷ ss) = ap (λ (x : SelectionsSaid). (s.0, x.text) ∷ map entry_of (map selection_item ss)) (fold.of_text SelectionsSaid (List ℕ × Option (List ℕ)) selections_step selections_item s.1) ∙ ap (λ l. (s.0, Some s.1) ∷ l) (entries_of ss)

folded_items : (items : List DictItem) → map (fold-DictItem SelectionsSaid (List ℕ × Option (List ℕ)) selections_step selections_item) items ≡ map entry_of items
folded_items [] = refl
folded_items (i ∷ is) =
    ap (λ e. e ∷ map (fold-DictItem SelectionsSaid (List ℕ × Option (List ℕ)) selections_step selections_item) is) (fold.of_item SelectionsSaid (List ℕ × Option (List ℕ)) selections_step selections_item i) ∙ ap (λ l. entry_of i ∷ l) (folded_items is)

selected_again : (done rest : SelectionEntries) → AllAfter text_cmp done rest → IsTable text_cmp rest → with_selections (map (λ (s : List ℕ × List ℕ). (s.0, Some s.1)) rest) done ≡ done ++ rest
selected_again done [] after sorted = sym (append-nil done)
selected_again done (s ∷ ss) after sorted =
    ap (with_selections (map (λ (s : List ℕ × List ℕ). (s.0, Some s.1)) ss)) (ap (with_key text_cmp s.0 s.1) (sym (append-nil done)) ∙ put_between text_cmp done [] s.0 s.1 after.0 tt)
    ∙ selected_again (done ++ s ∷ []) ss (after_more text_cmp nat_list_cmp_total done s ss after.1 (first_behind text_cmp s ss sorted)) (others text_cmp s ss sorted)
    ∙ append_assoc done (s ∷ []) ss

selected_back : (ss : SelectionEntries) → IsTable text_cmp ss → selections_of (value.Dict (map selection_item ss)) ≡ ss
selected_back ss sorted =
    ap (λ (x : SelectionsSaid). with_selections x.entries []) (fold.of_dict SelectionsSaid (List ℕ × Option (List ℕ)) selections_step selections_item (map selection_item ss))
    ∙ ap (λ l. with_selections l []) (folded_items (map selection_item ss) ∙ entries_of ss)
    ∙ selected_again [] ss (after_nothing text_cmp ss) sorted

-- ---- the entries, and the dictionary

-- the draft while the dictionary is open
abbrev InDictionary : Draft → OpenValue → Draft
InDictionary d v = record d { value = v }

module _ (d : Draft) (for : d.aim.goal ≡ goal.Variants) where
  abbrev Base : List Element
  Base = d.owner.said.base

  abbrev selects : SelectionEntries → Draft
  selects ss = with_said (record d { value = no_value }) (selections_act (value.Dict (map selection_item ss)) d.owner.said)

  entries_taken : (b : Bool) (done rest : SelectionEntries) (item : Shape) (key : List ℕ) (ty : DictType) → AllAfter text_cmp done rest → IsTable text_cmp rest → AreAll IsSelectionKept rest
      → AreTaken (entry_symbols b) (InDictionary d (in_selections (entry_place b) item key ty (tabled done))) (entries_said (map words_of_item (map selection_item rest)) ++ close_brace ∷ []) [] (λ e. e ≡ selects (done ++ rest))
  unfolding completed value_act
  entries_taken b done [] item key ty after sorted each =
      open_last (entry_symbols b) [] symbol.CloseBrace (InDictionary d (in_selections (entry_place b) item key ty (tabled done))) (selects (done ++ [])) (closed (items_of (tabled done))) close_brace (λ e. e ≡ selects (done ++ [])) (open_at b) (ends b)
      (closes b) refl
      (λ at.
      ap (λ g. completed g (value.Dict (items_of (tabled done))) at (record d { value = no_value })) for
      ∙ ap (λ items. Ok (with_said (record d { value = no_value }) (selections_act (value.Dict items) d.owner.said))) (items_back done)
      ∙ ap (λ l. Ok (selects l)) (sym (append-nil done))) refl
    where
      closed : List DictItem → OpenValue
      closed items = record { draft = record { place = place.Complete; level = record (new_level bracket.Statement Dictionary (Some 0)) { values = value.Dict items ∷ [] }; outer = [] }; only_strings = true }

      open_at : (b : Bool) → is_open (in_selections (entry_place b) item key ty (tabled done)) ≡ true
      open_at true = refl
      open_at false = refl

      ends : (b : Bool) (below : List Symbol) → step (entry_symbols b ++ below) (as_word close_brace).kind ≡ Some (symbol.CloseBrace, below)
      ends true below = refl
      ends false below = refl

      closes : (b : Bool) → given Base close_brace.kind close_brace.text (in_selections (entry_place b) item key ty (tabled done)) ≡ Ok (closed (items_of (tabled done)))
      closes true = refl
      closes false = refl
  entries_taken b done (s ∷ ss) item key ty after sorted each =
      let to_key : List Symbol = symbol.MaybeBrackets ∷ symbol.EntryKey ∷ symbol.Equals ∷ symbol.Value ∷ entry_symbols true in
      let t : Table = tabled done in
      let After : Draft → Type 0 = λ e. e ≡ selects (done ++ s ∷ ss) in
      let more : List Said = entries_said (map words_of_item (map selection_item ss)) ++ close_brace ∷ [] in
      subst (λ l. AreTaken (entry_symbols b) (InDictionary d (in_selections (entry_place b) item key ty t)) l [] After) (sym (entry_all_said s ss (close_brace ∷ [])))
      (open_then (entry_symbols b) to_key [] symbol.DictionaryEntries (InDictionary d (in_selections (entry_place b) item key ty t)) (in_selections place.BehindType item key string_type t) (name_said (codes "string"))
      (key_said s.0 ∷ equals ∷ string_said (quoted s.1) ∷ more) After (open_at b) (begins b) (type_given Base item key ty t b) refl
      (open_then to_key (symbol.Equals ∷ symbol.Value ∷ entry_symbols true) [] symbol.EntryKey (InDictionary d (in_selections place.BehindType item key string_type t)) (in_selections place.Equals item s.0 string_type t) (key_said s.0)
      (equals ∷ string_said (quoted s.1) ∷ more) After refl (λ below. key_step s.0 (symbol.Equals ∷ symbol.Value ∷ entry_symbols true ++ below))
      (key_is_given Base item key ty t s.0 each.0.0 (ap is_some (ap (at_key text_cmp s.0) (sym (append-nil t)) ∙ none_at text_cmp t [] s.0 (tabled_before done s.0 after.0) tt))) refl
      (open_then (symbol.Equals ∷ symbol.Value ∷ entry_symbols true) (symbol.Value ∷ entry_symbols true) [] symbol.Equals (InDictionary d (in_selections place.Equals item s.0 string_type t))
      (in_selections place.Value (entry_shape string_type) s.0 string_type t) equals (string_said (quoted s.1) ∷ more) After refl (λ below. refl) (equals_given Base item s.0 ty t) refl
      (open_then (symbol.Value ∷ entry_symbols true) (entry_symbols true) [] symbol.Value (InDictionary d (in_selections place.Value (entry_shape string_type) s.0 string_type t))
      (in_selections place.BehindEntry (entry_shape string_type) s.0 string_type (with_key text_cmp s.0 (selection_item s) t)) (string_said (quoted s.1)) more After refl (λ below. refl) (text_given Base item s.0 ty t s.1 each.0.1) refl
      (subst (λ (u : Table). AreTaken (entry_symbols true) (InDictionary d (in_selections place.BehindEntry (entry_shape string_type) s.0 string_type u)) more [] After) (sym (put done s after.0))
      (subst (λ l. AreTaken (entry_symbols true) (InDictionary d (in_selections place.BehindEntry (entry_shape string_type) s.0 string_type (tabled (done ++ s ∷ [])))) more [] (λ e. e ≡ selects l)) (append_assoc done (s ∷ []) ss)
      (entries_taken true (done ++ s ∷ []) ss (entry_shape string_type) s.0 string_type (after_more text_cmp nat_list_cmp_total done s ss after.1 (first_behind text_cmp s ss sorted)) (others text_cmp s ss sorted) each.1)))))))
    where
      open_at : (b : Bool) → is_open (in_selections (entry_place b) item key ty (tabled done)) ≡ true
      open_at true = refl
      open_at false = refl

      begins : (b : Bool) (below : List Symbol)
          → step (entry_symbols b ++ below) (as_word (name_said (codes "string"))).kind ≡ Some (symbol.DictionaryEntries, symbol.MaybeBrackets ∷ symbol.EntryKey ∷ symbol.Equals ∷ symbol.Value ∷ entry_symbols true ++ below)
      begins true below = refl
      begins false below = refl

      put : (done : SelectionEntries) (s : List ℕ × List ℕ) → AllBefore text_cmp done s.0 → with_key text_cmp s.0 (selection_item s) (tabled done) ≡ tabled (done ++ s ∷ [])
      put done s h = ap (with_key text_cmp s.0 (selection_item s)) (sym (append-nil (tabled done))) ∙ put_between text_cmp (tabled done) [] s.0 (selection_item s) (tabled_before done s.0 h) tt ∙ tabled_more done s

  -- the whole dictionary, where its first bracket opens it
  dictionary_taken : (ss : SelectionEntries) → is_open d.value ≡ false → d.aim.shape ≡ Dictionary → AreSelectionsKept ss
      → AreTaken (symbol.Dictionary ∷ []) d (words_of_value (value.Dict (map selection_item ss))) [] (λ e. e ≡ selects ss)
  unfolding bodies_act first_act token_act is_selections value_act
  dictionary_taken ss shut shape kept =
      subst (λ l. AreTaken (symbol.Dictionary ∷ []) d l [] (λ e. e ≡ selects ss)) (sym (fold.of_dict (List Said) (List Said) said_step said_item (map selection_item ss)))
      (word_then (symbol.Dictionary ∷ []) (entry_symbols false) [] symbol.Dictionary d (InDictionary d (in_selections place.EntryType Untyped [] dict.Dictionary [])) open_brace (entries_said (map words_of_item (map selection_item ss)) ++ close_brace ∷ [])
      (λ e. e ≡ selects ss) shut (λ below. refl)
      (λ w. ap (λ g. first_act_for g d.aim.shape w) for ∙ ap (λ sh. first_act_for goal.Variants sh w) shape)
      (entries_taken false [] ss Untyped [] dict.Dictionary (after_nothing text_cmp ss) kept.ordered kept.each))
    where
      first_act_for : Goal → Shape → Word → Result Draft Refused
      first_act_for g sh w = after_token (given d.owner.said.base open_brace.kind open_brace.text (opened sh (is_selections g))) w.start (record d { value = opened sh (is_selections g) })

-- ---- the line

pub selections_read : AreSelectionsRead
unfolding bodies_act prims_act prim_item_act metadata.variants_act
selections_read [] s at kept = no_items symbol.PrimMetadata (IsAt (saying (with_selected [] false s) at)) (IsAt (saying (with_selected [] false s) at)) (λ d h. h)
selections_read (e ∷ es) s at kept =
    one_item symbol.PrimMetadata (name_said (codes "variants")) (equals ∷ words_of_value (value.Dict (map selection_item (e ∷ es)))) (IsAt (saying (with_selected [] false s) at)) After refl
    (λ d h.
    let back : List Symbol = symbol.MaybeSemicolon ∷ symbol.PrimMetadata ∷ [] in
    let next : Draft = aimed goal.Variants Dictionary (with_said d (with_selected [] true s)) in
    word_then (symbol.PrimMetadata ∷ []) (symbol.Equals ∷ symbol.Dictionary ∷ back) back symbol.PrimMetadata d next (name_said (codes "variants")) (equals ∷ words_of_value (value.Dict (map selection_item (e ∷ es)))) After h.shut (λ below. refl)
    (λ w. ap (λ u. then_with w.start (variants_act u) (λ said. aimed goal.Variants Dictionary (with_said d said))) (ap (λ (a : Standing). a.owner.said) h.stands))
    (together (symbol.Equals ∷ symbol.Dictionary ∷ back) (symbol.Dictionary ∷ back) back next (equals ∷ []) (words_of_value (value.Dict (map selection_item (e ∷ es)))) (λ f. f ≡ next) After (equals_taken (symbol.Dictionary ∷ back) next h.shut (λ f. f ≡ next) refl)
    (λ f same.
    subst (λ f. AreTaken (symbol.Dictionary ∷ back) f (words_of_value (value.Dict (map selection_item (e ∷ es)))) back After) (sym same)
    (above (symbol.Dictionary ∷ []) [] back next (words_of_value (value.Dict (map selection_item (e ∷ es)))) After
    (weaker (symbol.Dictionary ∷ []) [] next (words_of_value (value.Dict (map selection_item (e ∷ es)))) (λ f. f ≡ selects next refl (e ∷ es)) After (dictionary_taken next refl (e ∷ es) h.shut refl kept)
    (λ f k.
    subst After (sym k)
    (record {
      stands = ap (saying (selections_act (value.Dict (map selection_item (e ∷ es))) (with_selected [] true s))) h.stands ∙ ap (λ ss. saying (with_selected ss true s) at) (selected_back (e ∷ es) kept.ordered);
      free = h.free;
      shut = refl;
      shallow = h.shallow;
    })))))))
  where
    After : Draft → Type 0
    After = IsAt (saying (with_selected (e ∷ es) true s) at)

-- no selected variants
pub none_selected : AreSelectionsKept []
unfolding IsStrictlySortedBy
none_selected = record { ordered = tt; each = tt }
