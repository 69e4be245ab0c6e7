-- The words of a value are a value to the grammar.
use Rattle.std.proofs.Common.{◌≡◌, ◌∙◌, ℕ, Bool, true, false, List, [], ◌∷◌, ◌++◌, append_assoc, map, Some, ap, sym, refl}
use Rattle.std.specs.Prelude.{if◌then◌else◌}
use Rattle.std.proofs.lemmas.List.{map-append}
use Rattle.std.proofs.lemmas.Bool.{and_parts}
use Rattle.sdf_values.specs.Proper.{all_true}
use Rattle.sdf_values.specs.Print.{quoted, is_plain_key}
use Rattle.sdf_values.specs.TypeNames.{element_name}
use Rattle.sdf_values.specs.declared.value.DictType.{DictType}
use Rattle.sdf_values.specs.declared.value.DictType.TheVariants as dict_type
use Rattle.sdf_values.specs.declared.value.DictItem.{DictItem}
use Rattle.sdf_values.specs.declared.value.Value.{Value}
use Rattle.sdf_values.specs.declared.value.Value.TheVariants as value
use Rattle.sdf_values.proofs.Values.{Each, by_cases}
use Rattle.usda_grammar.specs.declared.kinds.Keyword.{Keyword}
use Rattle.usda_grammar.specs.declared.kinds.WordKind.{WordKind}
use Rattle.usda_grammar.specs.declared.kinds.WordKind.TheVariants as token
use Rattle.usda_grammar.specs.declared.symbols.Symbol.{Symbol}
use Rattle.usda_grammar.specs.declared.symbols.Symbol.TheVariants as symbol
use Rattle.usda_grammar.specs.Machine.{steps}
use Rattle.value_texts.specs.Cuts.{Said}
use Rattle.value_texts.specs.ValueWords.{words_of_value, words_of_item, said_step, said_item, more_said, listed_said, entries_said, dict_type_said, key_said, name_said, string_said, close_paren, open_bracket, close_bracket, close_brace, equals}
use Rattle.sdf_values.proofs.Values as fold
use Rattle.layer_reads.specs.Membered.{is_membered, is_membered_item, membered_step, membered_item, kinds_of}
use Rattle.layer_reads.proofs.Steps.{steps_then}
use Rattle.layer_reads.proofs.TypeWords.{type_word}

abbrev Behind : List Symbol → List WordKind → List Symbol → Type 0
Behind from ks to = steps from ks ≡ Some to

-- words behind words
pub kinds_then : (a b : List Said) (from mid to : List Symbol) → Behind from (kinds_of a) mid → Behind mid (kinds_of b) to → Behind from (kinds_of (a ++ b)) to
kinds_then a b from mid to p q = ap (steps from) (map-append _ a b) ∙ steps_then (kinds_of a) (kinds_of b) from mid p ∙ q

-- what is to be shown of a value, and of an entry of a dictionary
abbrev IsStepped : Value → Type 0
IsStepped v = is_membered v ≡ true → (below : List Symbol) → Behind (symbol.Value ∷ below) (kinds_of (words_of_value v)) below

abbrev front : Bool → List Symbol → List Symbol
front true below = symbol.MaybeSeparator ∷ symbol.DictionaryEntries ∷ below
front false below = symbol.DictionaryEntries ∷ below

abbrev IsSteppedItem : DictItem → Type 0
IsSteppedItem i = is_membered_item i ≡ true → (b : Bool) (below : List Symbol) → Behind (front b below) (kinds_of (words_of_item i)) (front true below)

-- a member of a tuple or an array begins as a value does
abbrev BeginsMember : Symbol → Symbol → Type 0
BeginsMember or_end more = (ks : List WordKind) (below : List Symbol) → Behind (symbol.Value ∷ more ∷ below) ks (more ∷ below) → Behind (or_end ∷ below) ks (more ∷ below)

begins_tuple : BeginsMember symbol.MembersOrEnd symbol.MoreMembers
begins_tuple [] below h = absurd cc
begins_tuple (token.Word w ∷ ks) below h = h
begins_tuple (token.Number ∷ ks) below h = h
begins_tuple (token.Quoted ∷ ks) below h = h
begins_tuple (token.Asset ∷ ks) below h = h
begins_tuple (token.Path ∷ ks) below h = h
begins_tuple (token.OpenParen ∷ ks) below h = h
begins_tuple (token.OpenBracket ∷ ks) below h = h
begins_tuple (token.OpenBrace ∷ ks) below h = h
begins_tuple (_ ∷ ks) below h = absurd cc

begins_array : BeginsMember symbol.ElementsOrEnd symbol.MoreElements
begins_array [] below h = absurd cc
begins_array (token.Word w ∷ ks) below h = h
begins_array (token.Number ∷ ks) below h = h
begins_array (token.Quoted ∷ ks) below h = h
begins_array (token.Asset ∷ ks) below h = h
begins_array (token.Path ∷ ks) below h = h
begins_array (token.OpenParen ∷ ks) below h = h
begins_array (token.OpenBracket ∷ ks) below h = h
begins_array (token.OpenBrace ∷ ks) below h = h
begins_array (_ ∷ ks) below h = absurd cc

-- members behind commas, up to the end
module _ (or_end more : Symbol) (close : Said) (begins : BeginsMember or_end more) (ends : (below : List Symbol) → Behind (more ∷ below) (kinds_of (close ∷ [])) below)
    (goes : (ks : List WordKind) (below to : List Symbol) → Behind (or_end ∷ below) ks to → Behind (more ∷ below) (token.Comma ∷ ks) to) where
  more_stepped : (vs : List Value) → Each IsStepped vs → all_true (map is_membered vs) ≡ true → (below : List Symbol) → Behind (more ∷ below) (kinds_of (more_said (map words_of_value vs) ++ close ∷ [])) below
  more_stepped [] each h below = ends below
  more_stepped (v ∷ vs) each h below =
      let p = and_parts (is_membered v) (all_true (map is_membered vs)) h in
      let rest : List Said = more_said (map words_of_value vs) in
      goes (kinds_of ((words_of_value v ++ rest) ++ close ∷ [])) below below
      (ap (λ l. steps (or_end ∷ below) (kinds_of l)) (append_assoc (words_of_value v) rest (close ∷ []))
      ∙ kinds_then (words_of_value v) (rest ++ close ∷ []) (or_end ∷ below) (more ∷ below) below (begins (kinds_of (words_of_value v)) below (each.0 p.0 (more ∷ below))) (more_stepped vs each.1 p.1 below))

  -- the first member, from symbols that take it as a member
  first_stepped : (from : List Symbol) (v : Value) (vs : List Value) → Each IsStepped (v ∷ vs) → all_true (map is_membered (v ∷ vs)) ≡ true → (below : List Symbol)
      → (Behind (symbol.Value ∷ more ∷ below) (kinds_of (words_of_value v)) (more ∷ below) → Behind from (kinds_of (words_of_value v)) (more ∷ below))
      → Behind from (kinds_of (listed_said (map words_of_value (v ∷ vs)) ++ close ∷ [])) below
  first_stepped from v vs each h below first =
      let p = and_parts (is_membered v) (all_true (map is_membered vs)) h in
      let rest : List Said = more_said (map words_of_value vs) in
      ap (λ l. steps from (kinds_of l)) (append_assoc (words_of_value v) rest (close ∷ []))
      ∙ kinds_then (words_of_value v) (rest ++ close ∷ []) from (more ∷ below) below (first (each.0 p.0 (more ∷ below))) (more_stepped vs each.1 p.1 below)

tuple_stepped : (vs : List Value) → Each IsStepped vs → IsStepped (value.Tuple vs)
tuple_stepped [] each h below = let no : false ≡ true = sym (fold.of_tuple Bool Bool membered_step membered_item []) ∙ h in absurd cc
tuple_stepped (v ∷ vs) each h below =
    let p : all_true (map is_membered (v ∷ vs)) ≡ true = sym (fold.of_tuple Bool Bool membered_step membered_item (v ∷ vs)) ∙ h in
    ap (λ l. steps (symbol.Value ∷ below) (kinds_of l)) (fold.of_tuple (List Said) (List Said) said_step said_item (v ∷ vs))
    ∙ first_stepped symbol.MembersOrEnd symbol.MoreMembers close_paren begins_tuple (λ b. refl) (λ ks b to e. e) (symbol.Value ∷ symbol.MoreMembers ∷ below) v vs each p below (λ e. e)

array_stepped : (vs : List Value) → Each IsStepped vs → IsStepped (value.Array vs)
array_stepped vs each h below =
    ap (λ l. steps (symbol.Value ∷ below) (kinds_of l)) (fold.of_array (List Said) (List Said) said_step said_item vs)
    ∙ members vs each (sym (fold.of_array Bool Bool membered_step membered_item vs) ∙ h)
  where
    members : (vs : List Value) → Each IsStepped vs → all_true (map is_membered vs) ≡ true → Behind (symbol.ElementsOrEnd ∷ below) (kinds_of (listed_said (map words_of_value vs) ++ close_bracket ∷ [])) below
    members [] each h = refl
    members (v ∷ vs) each h = first_stepped symbol.ElementsOrEnd symbol.MoreElements close_bracket begins_array (λ b. refl) (λ ks b to e. e) (symbol.ElementsOrEnd ∷ below) v vs each h below (begins_array (kinds_of (words_of_value v)) below)

-- the type of an entry, up to its key
abbrev ToKey : List Symbol → List Symbol
ToKey below = symbol.EntryKey ∷ symbol.Equals ∷ symbol.Value ∷ front true below

abbrev BeforeKey : Bool → List Symbol → List Symbol
BeforeKey true below = symbol.MaybeBrackets ∷ ToKey below
BeforeKey false below = ToKey below

type_stepped : (t : DictType) (b : Bool) (below : List Symbol) → (p : Bool) × Behind (front b below) (kinds_of (dict_type_said t)) (BeforeKey p below)
type_stepped (dict_type.Plain t) b below = by t.array b
  where
    other : (b : Bool) → steps (front b below) (kinds_of (name_said (element_name t.element) ∷ [])) ≡ Some (BeforeKey true below)
    other true = ap (λ (k : Keyword). steps (front true below) (token.Word k ∷ [])) (type_word t.element)
    other false = ap (λ (k : Keyword). steps (front false below) (token.Word k ∷ [])) (type_word t.element)

    by : (a b : Bool) → (p : Bool) × Behind (front b below) (kinds_of (name_said (element_name t.element) ∷ (if a then open_bracket ∷ close_bracket ∷ [] else []))) (BeforeKey p below)
    by true b = (false, kinds_then (name_said (element_name t.element) ∷ []) (open_bracket ∷ close_bracket ∷ []) (front b below) (BeforeKey true below) (ToKey below) (other b) refl)
    by false b = (true, other b)
type_stepped dict_type.Dictionary true below = (false, refl)
type_stepped dict_type.Dictionary false below = (false, refl)

key_stepped : (k : List ℕ) (p : Bool) (below : List Symbol) → Behind (BeforeKey p below) (kinds_of (key_said k ∷ equals ∷ [])) (symbol.Value ∷ front true below)
key_stepped k p below = by (is_plain_key k) p
  where
    by : (n p : Bool) → Behind (BeforeKey p below) (kinds_of ((if n then name_said k else string_said (quoted k)) ∷ equals ∷ [])) (symbol.Value ∷ front true below)
    by true true = refl
    by true false = refl
    by false true = refl
    by false false = refl

item_stepped : (k : List ℕ) (t : DictType) (v : Value) → IsStepped v → IsSteppedItem (record { key = k; ty = t; value = v })
item_stepped k t v stepped h b below =
    let i : DictItem = record { key = k; ty = t; value = v } in
    let typed = type_stepped t b below in
    let m : is_membered v ≡ true = sym (fold.of_item Bool Bool membered_step membered_item i) ∙ h in
    ap (λ l. steps (front b below) (kinds_of l)) (fold.of_item (List Said) (List Said) said_step said_item i)
    ∙ kinds_then (dict_type_said t) (key_said k ∷ equals ∷ words_of_value v) (front b below) (BeforeKey typed.0 below) (front true below) typed.1
    (kinds_then (key_said k ∷ equals ∷ []) (words_of_value v) (BeforeKey typed.0 below) (symbol.Value ∷ front true below) (front true below) (key_stepped k typed.0 below) (stepped m (front true below)))

entries_stepped : (items : List DictItem) → Each IsSteppedItem items → all_true (map is_membered_item items) ≡ true → (b : Bool) (below : List Symbol)
    → Behind (front b (symbol.CloseBrace ∷ below)) (kinds_of (entries_said (map words_of_item items) ++ close_brace ∷ [])) below
entries_stepped [] each h true below = refl
entries_stepped [] each h false below = refl
entries_stepped (i ∷ is) each h b below =
    let p = and_parts (is_membered_item i) (all_true (map is_membered_item is)) h in
    let rest : List Said = entries_said (map words_of_item is) in
    ap (λ l. steps (front b (symbol.CloseBrace ∷ below)) (kinds_of l)) (append_assoc (words_of_item i) rest (close_brace ∷ []))
    ∙ kinds_then (words_of_item i) (rest ++ close_brace ∷ []) (front b (symbol.CloseBrace ∷ below)) (front true (symbol.CloseBrace ∷ below)) below (each.0 p.0 b (symbol.CloseBrace ∷ below)) (entries_stepped is each.1 p.1 true below)

dict_stepped : (items : List DictItem) → Each IsSteppedItem items → IsStepped (value.Dict items)
dict_stepped items each h below =
    ap (λ l. steps (symbol.Value ∷ below) (kinds_of l)) (fold.of_dict (List Said) (List Said) said_step said_item items)
    ∙ entries_stepped items each (sym (fold.of_dict Bool Bool membered_step membered_item items) ∙ h) false below

-- a value of one word
leaf : (v : Value) (w : Said) → words_of_value v ≡ w ∷ [] → ((below : List Symbol) → Behind (symbol.Value ∷ below) (kinds_of (w ∷ [])) below) → IsStepped v
leaf v w e goes h below = ap (λ l. steps (symbol.Value ∷ below) (kinds_of l)) e ∙ goes below

pub value_stepped : (v : Value) → is_membered v ≡ true → (below : List Symbol) → Behind (symbol.Value ∷ below) (kinds_of (words_of_value v)) below
value_stepped = by_cases IsStepped IsSteppedItem (record {
  bool = λ b. leaf (value.Bool b) _ (fold.of_bool (List Said) (List Said) said_step said_item b) (λ below. refl);
  whole = λ n. leaf (value.Whole n) _ (fold.of_whole (List Said) (List Said) said_step said_item n) (λ below. refl);
  number = λ x. leaf (value.Number x) _ (fold.of_number (List Said) (List Said) said_step said_item x) (λ below. refl);
  time = λ t. leaf (value.Time t) _ (fold.of_time (List Said) (List Said) said_step said_item t) (λ below. refl);
  text = λ t. leaf (value.Text t) _ (fold.of_text (List Said) (List Said) said_step said_item t) (λ below. refl);
  asset = λ t. leaf (value.Asset t) _ (fold.of_asset (List Said) (List Said) said_step said_item t) (λ below. refl);
  path = λ t. leaf (value.PathText t) _ (fold.of_path (List Said) (List Said) said_step said_item t) (λ below. refl);
  word = λ t. leaf (value.Word t) _ (fold.of_word (List Said) (List Said) said_step said_item t) (λ below. refl);
  block = leaf value.Block _ (fold.of_block (List Said) (List Said) said_step said_item) (λ below. refl);
  tuple = tuple_stepped;
  array = array_stepped;
  dict = dict_stepped;
  item = item_stepped;
})
