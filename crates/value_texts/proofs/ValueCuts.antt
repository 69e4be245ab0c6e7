-- The canonical text of a value is the tokens of the value.
use Rattle.std.proofs.Common.{◌≡◌, ◌∙◌, ℕ, ◌+◌, ◌&&◌, Bool, true, false, List, [], ◌∷◌, ◌++◌, append_assoc, append-nil, length, map, ap, sym, refl}
use Rattle.std.specs.Prelude.{if◌then◌else◌, codes, ℤ}
use Rattle.std.specs.Str.{is_utf8}
use Rattle.std.proofs.lemmas.Bool.{and_parts}
use Rattle.usd_names.specs.Names.{is_name}
use Rattle.sdf_values.specs.Proper.{all_true}
use Rattle.sdf_values.specs.Print.{print, print_step, print_item, listed, more_listed, lines, deeper, dict_type_text, key_text, blanks}
use Rattle.sdf_values.specs.TypeNames.{type_text, element_name}
use Rattle.sdf_values.specs.declared.decimal.Num.{Num}
use Rattle.sdf_values.specs.declared.type_name.ElementType.{ElementType}
use Rattle.sdf_values.specs.declared.type_name.TypeName.{TypeName}
use Rattle.sdf_values.specs.declared.value.DictType.{DictType}
use Rattle.sdf_values.specs.declared.value.DictType.TheVariants as dict_type
use Rattle.sdf_values.specs.declared.value.DictItem.{DictItem, fold-DictItem}
use Rattle.sdf_values.specs.declared.value.Value.{Value}
use Rattle.sdf_values.specs.declared.value.Value.TheOpen.{Value-F}
use Rattle.sdf_values.specs.declared.value.Value.TheVariants as value
use Rattle.sdf_values.proofs.Values.{Each, by_cases}
use Rattle.value_texts.specs.Cuts.{Said, IsCut}
use Rattle.value_texts.specs.Follows.{may_follow, ends_name, is_border}
use Rattle.value_texts.specs.Writable.{writable_step, writable_item, is_writable, is_writable_item}
use Rattle.value_texts.specs.ValueWords.{name_said, said_step, said_item, words_of_value, words_of_item, more_said, listed_said, entries_said, type_said, dict_type_said, key_said, comma, equals, open_paren, close_paren, open_bracket, close_bracket, open_brace, close_brace}
use Rattle.value_texts.proofs.Pieces.{both_cut, nothing_cut}
use Rattle.value_texts.proofs.Borders.{border_name, border_number, border_string, border_asset}
use Rattle.value_texts.proofs.TypeTexts.{type_is_text, type_is_name, type_is_word}
use Rattle.value_texts.proofs.TokenCuts as cut
use Rattle.value_texts.proofs.TokenCuts.{recut}
use Rattle.sdf_values.proofs.Values as fold

abbrev Texts : Type 0
Texts = ℕ → List ℕ

abbrev item_text : DictItem → ℕ → List ℕ
item_text = fold-DictItem Texts Texts print_step print_item

-- what is to be shown of a value, and of an entry
abbrev pub IsSaid : Value → Type 0
IsSaid v = is_writable v ≡ true → (indent at : ℕ) (rest : List ℕ) → may_follow rest ≡ true → IsCut at (print v indent) (words_of_value v) rest

abbrev pub IsSaidItem : DictItem → Type 0
IsSaidItem item = is_writable_item item ≡ true → (indent at : ℕ) (rest : List ℕ) → may_follow rest ≡ true → IsCut at (item_text item indent) (words_of_item item) rest

-- a value whose texts are these
of_level : (v : Value) (l : Value-F Texts Texts) (w : Value-F (List Said) (List Said)) (b : Value-F Bool Bool) → print v ≡ print_step l → words_of_value v ≡ said_step w → is_writable v ≡ writable_step b
    → (writable_step b ≡ true → (indent at : ℕ) (rest : List ℕ) → may_follow rest ≡ true → IsCut at (print_step l indent) (said_step w) rest) → IsSaid v
of_level v l w b e f g c = λ is indent at rest h. recut at (print_step l indent) (print v indent) (said_step w) (words_of_value v) rest (sym (ap (λ t. t indent) e)) (sym f) (c (sym g ∙ is) indent at rest h)

-- a list between brackets: what follows a member begins with a comma or is the closing bracket
abbrev Closing : ℕ → Said → Type 0
Closing close said = (at : ℕ) (rest : List ℕ) → IsCut at (close ∷ []) (said ∷ []) rest

more_follow : (close indent : ℕ) (vs : List Value) (rest : List ℕ) → is_border close ≡ true → may_follow ((more_listed (map print vs) indent ++ close ∷ []) ++ rest) ≡ true
more_follow close indent [] rest h = h
more_follow close indent (v ∷ vs) rest h = refl

more_cut : (close : ℕ) (said : Said) → is_border close ≡ true → Closing close said → (vs : List Value) → Each IsSaid vs → all_true (map is_writable vs) ≡ true → (indent at : ℕ) (rest : List ℕ)
    → IsCut at (more_listed (map print vs) indent ++ close ∷ []) (more_said (map words_of_value vs) ++ said ∷ []) rest
more_cut close said h c [] each is indent at rest = c at rest
more_cut close said h c (v ∷ vs) each is indent at rest =
    let p = and_parts (is_writable v) (all_true (map is_writable vs)) is in
    let more : List ℕ = more_listed (map print vs) indent ++ close ∷ [] in
    let words : List Said = more_said (map words_of_value vs) ++ said ∷ [] in
    recut at (44 ∷ 32 ∷ (print v indent ++ more)) (more_listed (map print (v ∷ vs)) indent ++ close ∷ []) (comma ∷ (words_of_value v ++ words)) (more_said (map words_of_value (v ∷ vs)) ++ said ∷ []) rest
    (ap (λ t. 44 ∷ 32 ∷ t) (sym (append_assoc (print v indent) (more_listed (map print vs) indent) (close ∷ []))))
    (ap (λ t. comma ∷ t) (sym (append_assoc (words_of_value v) (more_said (map words_of_value vs)) (said ∷ []))))
    (both_cut at (codes ",") (32 ∷ (print v indent ++ more)) (comma ∷ []) (words_of_value v ++ words) rest (cut.comma_cut at ((32 ∷ (print v indent ++ more)) ++ rest))
    (both_cut (at + 1) (codes " ") (print v indent ++ more) [] (words_of_value v ++ words) rest (cut.space_cut (at + 1) ((print v indent ++ more) ++ rest))
    (both_cut (at + 1 + 1) (print v indent) more (words_of_value v) words rest (each.0 p.0 indent (at + 1 + 1) (more ++ rest) (more_follow close indent vs rest h))
    (more_cut close said h c vs each.1 p.1 indent (at + 1 + 1 + length (print v indent)) rest))))

listed_cut : (close : ℕ) (said : Said) → is_border close ≡ true → Closing close said → (vs : List Value) → Each IsSaid vs → all_true (map is_writable vs) ≡ true → (indent at : ℕ) (rest : List ℕ)
    → IsCut at (listed (map print vs) indent ++ close ∷ []) (listed_said (map words_of_value vs) ++ said ∷ []) rest
listed_cut close said h c [] each is indent at rest = c at rest
listed_cut close said h c (v ∷ vs) each is indent at rest =
    let p = and_parts (is_writable v) (all_true (map is_writable vs)) is in
    let more : List ℕ = more_listed (map print vs) indent ++ close ∷ [] in
    let words : List Said = more_said (map words_of_value vs) ++ said ∷ [] in
    recut at (print v indent ++ more) (listed (map print (v ∷ vs)) indent ++ close ∷ []) (words_of_value v ++ words) (listed_said (map words_of_value (v ∷ vs)) ++ said ∷ []) rest
    (sym (append_assoc (print v indent) (more_listed (map print vs) indent) (close ∷ [])))
    (sym (append_assoc (words_of_value v) (more_said (map words_of_value vs)) (said ∷ [])))
    (both_cut at (print v indent) more (words_of_value v) words rest (each.0 p.0 indent at (more ++ rest) (more_follow close indent vs rest h))
    (more_cut close said h c vs each.1 p.1 indent (at + length (print v indent)) rest))

said_tuple : (vs : List Value) → Each IsSaid vs → IsSaid (value.Tuple vs)
said_tuple vs each =
    of_level (value.Tuple vs) (Value-F.Tuple (map print vs)) (Value-F.Tuple (map words_of_value vs)) (Value-F.Tuple (map is_writable vs))
    (fold.of_tuple Texts Texts print_step print_item vs) (fold.of_tuple (List Said) (List Said) said_step said_item vs) (fold.of_tuple Bool Bool writable_step writable_item vs)
    (λ is indent at rest h. both_cut at (codes "(") (listed (map print vs) indent ++ codes ")") (open_paren ∷ []) (listed_said (map words_of_value vs) ++ close_paren ∷ []) rest
    (cut.open_paren_cut at _) (listed_cut 41 close_paren refl cut.close_paren_cut vs each is indent (at + 1) rest))

said_array : (vs : List Value) → Each IsSaid vs → IsSaid (value.Array vs)
said_array vs each =
    of_level (value.Array vs) (Value-F.Array (map print vs)) (Value-F.Array (map words_of_value vs)) (Value-F.Array (map is_writable vs))
    (fold.of_array Texts Texts print_step print_item vs) (fold.of_array (List Said) (List Said) said_step said_item vs) (fold.of_array Bool Bool writable_step writable_item vs)
    (λ is indent at rest h. both_cut at (codes "[") (listed (map print vs) indent ++ codes "]") (open_bracket ∷ []) (listed_said (map words_of_value vs) ++ close_bracket ∷ []) rest
    (cut.open_bracket_cut at _) (listed_cut 93 close_bracket refl cut.close_bracket_cut vs each is indent (at + 1) rest))

-- the entries of a dictionary
abbrev lines_of : List DictItem → ℕ → List ℕ
lines_of items indent = lines (map item_text items) indent

one_line : (b f l : List ℕ) → ((b ++ f) ++ codes "\n") ++ l ≡ b ++ (f ++ 10 ∷ l)
one_line b f l = append_assoc (b ++ f) (codes "\n") l ∙ append_assoc b f (10 ∷ l)

lines_cut : (items : List DictItem) → Each IsSaidItem items → all_true (map is_writable_item items) ≡ true → (indent at : ℕ) (rest : List ℕ) → IsCut at (lines_of items indent) (entries_said (map words_of_item items)) rest
lines_cut [] each is indent at rest = nothing_cut at rest
lines_cut (item ∷ items) each is indent at rest =
    let p = and_parts (is_writable_item item) (all_true (map is_writable_item items)) is in
    let text : List ℕ = item_text item indent in
    let more : List ℕ = lines_of items indent in
    let words : List Said = entries_said (map words_of_item items) in
    recut at (blanks indent ++ (text ++ 10 ∷ more)) (lines_of (item ∷ items) indent) (words_of_item item ++ words) (words_of_item item ++ words) rest (sym (one_line (blanks indent) text more)) refl
    (both_cut at (blanks indent) (text ++ 10 ∷ more) [] (words_of_item item ++ words) rest (cut.blanks_cut indent at ((text ++ 10 ∷ more) ++ rest))
    (both_cut (at + length (blanks indent)) text (10 ∷ more) (words_of_item item) words rest (each.0 p.0 indent (at + length (blanks indent)) ((10 ∷ more) ++ rest) refl)
    (both_cut (at + length (blanks indent) + length text) (codes "\n") more [] words rest (cut.line_feed_cut (at + length (blanks indent) + length text) (more ++ rest))
    (lines_cut items each.1 p.1 indent (at + length (blanks indent) + length text + 1) rest))))

dict_parts : (l b : List ℕ) → ((codes "{\n" ++ l) ++ b) ++ codes "}" ≡ 123 ∷ 10 ∷ (l ++ (b ++ codes "}"))
dict_parts l b = ap (λ t. 123 ∷ 10 ∷ t) (append_assoc l b (codes "}"))

said_dict_before : (items : List DictItem) → Each IsSaidItem items → is_writable (value.Dict items) ≡ true → (indent at : ℕ) (rest : List ℕ) → IsCut at (print (value.Dict items) indent) (words_of_value (value.Dict items)) rest
said_dict_before items each is indent at rest =
    let inner : List ℕ = lines_of items (deeper indent) in
    let words : List Said = entries_said (map words_of_item items) in
    let good : all_true (map is_writable_item items) ≡ true = sym (fold.of_dict Bool Bool writable_step writable_item items) ∙ is in
    recut at (123 ∷ 10 ∷ (inner ++ (blanks indent ++ codes "}"))) (print (value.Dict items) indent) (open_brace ∷ (words ++ close_brace ∷ [])) (words_of_value (value.Dict items)) rest
    (sym (ap (λ f. f indent) (fold.of_dict Texts Texts print_step print_item items) ∙ dict_parts inner (blanks indent))) (sym (fold.of_dict (List Said) (List Said) said_step said_item items))
    (both_cut at (codes "{") (10 ∷ (inner ++ (blanks indent ++ codes "}"))) (open_brace ∷ []) (words ++ close_brace ∷ []) rest (cut.open_brace_cut at _)
    (both_cut (at + 1) (codes "\n") (inner ++ (blanks indent ++ codes "}")) [] (words ++ close_brace ∷ []) rest (cut.line_feed_cut (at + 1) _)
    (both_cut (at + 1 + 1) inner (blanks indent ++ codes "}") words (close_brace ∷ []) rest (lines_cut items each good (deeper indent) (at + 1 + 1) ((blanks indent ++ codes "}") ++ rest))
    (both_cut (at + 1 + 1 + length inner) (blanks indent) (codes "}") [] (close_brace ∷ []) rest (cut.blanks_cut indent (at + 1 + 1 + length inner) (125 ∷ rest))
    (cut.close_brace_cut (at + 1 + 1 + length inner + length (blanks indent)) rest)))))

said_dict : (items : List DictItem) → Each IsSaidItem items → IsSaid (value.Dict items)
said_dict items each is indent at rest h = said_dict_before items each is indent at rest

-- the type of an entry
element_cut : (at : ℕ) (e : ElementType) (rest : List ℕ) → ends_name rest ≡ true → IsCut at (element_name e) (name_said (element_name e) ∷ []) rest
element_cut at e rest h = cut.name_cut at (element_name e) rest (type_is_text e) (type_is_name e) (type_is_word e) h

type_cut : (at : ℕ) (t : TypeName) (rest : List ℕ) → may_follow rest ≡ true → IsCut at (type_text t) (type_said t) rest
type_cut at t rest h = test t.array
  where
    test : (b : Bool) → IsCut at (element_name t.element ++ (if b then codes "[]" else [])) (name_said (element_name t.element) ∷ (if b then open_bracket ∷ close_bracket ∷ [] else [])) rest
    test true =
        both_cut at (element_name t.element) (codes "[]") (name_said (element_name t.element) ∷ []) (open_bracket ∷ close_bracket ∷ []) rest
        (element_cut at t.element (codes "[]" ++ rest) (border_name (codes "[]" ++ rest) refl))
        (both_cut (at + length (element_name t.element)) (codes "[") (codes "]") (open_bracket ∷ []) (close_bracket ∷ []) rest (cut.open_bracket_cut (at + length (element_name t.element)) (codes "]" ++ rest))
        (cut.close_bracket_cut (at + length (element_name t.element) + 1) rest))
    test false = recut at (element_name t.element) (element_name t.element ++ []) (name_said (element_name t.element) ∷ []) (name_said (element_name t.element) ∷ []) rest (sym (append-nil (element_name t.element))) refl
        (element_cut at t.element rest (border_name rest h))

dict_type_cut : (at : ℕ) (t : DictType) (rest : List ℕ) → may_follow rest ≡ true → IsCut at (dict_type_text t) (dict_type_said t) rest
dict_type_cut at (dict_type.Plain t) rest h = type_cut at t rest h
dict_type_cut at dict_type.Dictionary rest h = cut.dictionary_cut at rest (border_name rest h)

item_parts : (t k v : List ℕ) → (((t ++ codes " ") ++ k) ++ codes " = ") ++ v ≡ t ++ (32 ∷ (k ++ (32 ∷ 61 ∷ 32 ∷ v)))
item_parts t k v = append_assoc ((t ++ codes " ") ++ k) (codes " = ") v ∙ append_assoc (t ++ codes " ") k (32 ∷ 61 ∷ 32 ∷ v) ∙ append_assoc t (codes " ") (k ++ (32 ∷ 61 ∷ 32 ∷ v))

entry_cut : (k : List ℕ) (t : DictType) (v : Value) → IsSaid v → (is_utf8 k && is_writable v) ≡ true → (indent at : ℕ) (rest : List ℕ) → may_follow rest ≡ true
    → IsCut at (print_item (record { key = k; ty = t; value = print v }) indent) (said_item (record { key = k; ty = t; value = words_of_value v })) rest
entry_cut k t v said is indent at rest h =
    let p = and_parts (is_utf8 k) (is_writable v) is in
    let text : List ℕ = print v indent in
    let behind : List ℕ = 32 ∷ 61 ∷ 32 ∷ text in
    let ty : List ℕ = dict_type_text t in
    let key : List ℕ = key_text k in
    recut at (ty ++ (32 ∷ (key ++ behind))) (print_item (record { key = k; ty = t; value = print v }) indent) (dict_type_said t ++ (key_said k ∷ equals ∷ words_of_value v)) (said_item (record { key = k; ty = t; value = words_of_value v })) rest
    (sym (item_parts ty key text)) refl
    (both_cut at ty (32 ∷ (key ++ behind)) (dict_type_said t) (key_said k ∷ equals ∷ words_of_value v) rest (dict_type_cut at t ((32 ∷ (key ++ behind)) ++ rest) refl)
    (both_cut (at + length ty) (codes " ") (key ++ behind) [] (key_said k ∷ equals ∷ words_of_value v) rest (cut.space_cut (at + length ty) ((key ++ behind) ++ rest))
    (both_cut (at + length ty + 1) key behind (key_said k ∷ []) (equals ∷ words_of_value v) rest
    (cut.key_cut (at + length ty + 1) k (behind ++ rest) p.0 (border_name (behind ++ rest) refl) refl)
    (both_cut (at + length ty + 1 + length key) (codes " ") (61 ∷ 32 ∷ text) [] (equals ∷ words_of_value v) rest (cut.space_cut (at + length ty + 1 + length key) ((61 ∷ 32 ∷ text) ++ rest))
    (both_cut (at + length ty + 1 + length key + 1) (codes "=") (32 ∷ text) (equals ∷ []) (words_of_value v) rest (cut.equals_cut (at + length ty + 1 + length key + 1) ((32 ∷ text) ++ rest))
    (both_cut (at + length ty + 1 + length key + 1 + 1) (codes " ") text [] (words_of_value v) rest (cut.space_cut (at + length ty + 1 + length key + 1 + 1) (text ++ rest))
    (said p.1 indent (at + length ty + 1 + length key + 1 + 1 + 1) rest h)))))))

said_entry : (k : List ℕ) (t : DictType) (v : Value) → IsSaid v → IsSaidItem (record { key = k; ty = t; value = v })
said_entry k t v said is indent at rest h =
    let item : DictItem = record { key = k; ty = t; value = v } in
    recut at (print_item (record { key = k; ty = t; value = print v }) indent) (item_text item indent) (said_item (record { key = k; ty = t; value = words_of_value v })) (words_of_item item) rest
    (sym (ap (λ f. f indent) (fold.of_item Texts Texts print_step print_item item))) (sym (fold.of_item (List Said) (List Said) said_step said_item item))
    (entry_cut k t v said (sym (fold.of_item Bool Bool writable_step writable_item item) ∙ is) indent at rest h)

-- values of one token
said_bool : (b : Bool) → IsSaid (value.Bool b)
said_bool b =
    of_level (value.Bool b) (Value-F.Bool b) (Value-F.Bool b) (Value-F.Bool b) (fold.of_bool Texts Texts print_step print_item b) (fold.of_bool (List Said) (List Said) said_step said_item b)
    (fold.of_bool Bool Bool writable_step writable_item b) (test b)
  where
    test : (b : Bool) → true ≡ true → (indent at : ℕ) (rest : List ℕ) → may_follow rest ≡ true → IsCut at (print_step (Value-F.Bool b) indent) (said_step (Value-F.Bool b)) rest
    test true is indent at rest h = cut.true_cut at rest (border_name rest h)
    test false is indent at rest h = cut.false_cut at rest (border_name rest h)

said_whole : (n : ℤ) → IsSaid (value.Whole n)
said_whole n =
    of_level (value.Whole n) (Value-F.Whole n) (Value-F.Whole n) (Value-F.Whole n) (fold.of_whole Texts Texts print_step print_item n) (fold.of_whole (List Said) (List Said) said_step said_item n)
    (fold.of_whole Bool Bool writable_step writable_item n) (λ is indent at rest h. cut.whole_cut at n rest is (border_number rest h))

said_number : (x : Num) → IsSaid (value.Number x)
said_number x =
    of_level (value.Number x) (Value-F.Number x) (Value-F.Number x) (Value-F.Number x) (fold.of_number Texts Texts print_step print_item x) (fold.of_number (List Said) (List Said) said_step said_item x)
    (fold.of_number Bool Bool writable_step writable_item x) (λ is indent at rest h. cut.number_cut at x rest is (border_name rest h) (border_number rest h))

said_time : (t : ℤ) → IsSaid (value.Time t)
said_time t =
    of_level (value.Time t) (Value-F.Time t) (Value-F.Time t) (Value-F.Time t) (fold.of_time Texts Texts print_step print_item t) (fold.of_time (List Said) (List Said) said_step said_item t)
    (fold.of_time Bool Bool writable_step writable_item t) (λ is indent at rest h. cut.time_cut at t rest is (border_number rest h))

said_text : (t : List ℕ) → IsSaid (value.Text t)
said_text t =
    of_level (value.Text t) (Value-F.Text t) (Value-F.Text t) (Value-F.Text t) (fold.of_text Texts Texts print_step print_item t) (fold.of_text (List Said) (List Said) said_step said_item t)
    (fold.of_text Bool Bool writable_step writable_item t) (λ is indent at rest h. cut.string_cut at t rest (border_string rest h))

said_asset : (t : List ℕ) → IsSaid (value.Asset t)
said_asset t =
    of_level (value.Asset t) (Value-F.Asset t) (Value-F.Asset t) (Value-F.Asset t) (fold.of_asset Texts Texts print_step print_item t) (fold.of_asset (List Said) (List Said) said_step said_item t)
    (fold.of_asset Bool Bool writable_step writable_item t) (λ is indent at rest h. cut.asset_cut at t rest is (border_asset rest h))

said_path : (t : List ℕ) → IsSaid (value.PathText t)
said_path t =
    of_level (value.PathText t) (Value-F.PathText t) (Value-F.PathText t) (Value-F.PathText t) (fold.of_path Texts Texts print_step print_item t) (fold.of_path (List Said) (List Said) said_step said_item t)
    (fold.of_path Bool Bool writable_step writable_item t) (λ is indent at rest h. cut.path_cut at t rest is)

said_word : (t : List ℕ) → IsSaid (value.Word t)
said_word t =
    of_level (value.Word t) (Value-F.Word t) (Value-F.Word t) (Value-F.Word t) (fold.of_word Texts Texts print_step print_item t) (fold.of_word (List Said) (List Said) said_step said_item t)
    (fold.of_word Bool Bool writable_step writable_item t) (λ is indent at rest h. let p = and_parts (is_utf8 t) (is_name t) is in cut.word_cut at t rest p.0 p.1 (border_name rest h))

said_block : IsSaid value.Block
said_block =
    of_level value.Block Value-F.Block Value-F.Block Value-F.Block (fold.of_block Texts Texts print_step print_item) (fold.of_block (List Said) (List Said) said_step said_item)
    (fold.of_block Bool Bool writable_step writable_item) (λ is indent at rest h. cut.none_cut at rest (border_name rest h))

-- what is printed of a value is its tokens
pub value_cut : (v : Value) → is_writable v ≡ true → (indent at : ℕ) (rest : List ℕ) → may_follow rest ≡ true → IsCut at (print v indent) (words_of_value v) rest
value_cut = by_cases IsSaid IsSaidItem (record {
  bool = said_bool;
  whole = said_whole;
  number = said_number;
  time = said_time;
  text = said_text;
  asset = said_asset;
  path = said_path;
  word = said_word;
  block = said_block;
  tuple = said_tuple;
  array = said_array;
  dict = said_dict;
  item = said_entry;
})

each_said : (items : List DictItem) → Each IsSaidItem items
each_said [] = tt
each_said (i ∷ is) = (said_entry i.key i.ty i.value (value_cut i.value), each_said is)

-- behind a dictionary anything may follow
pub dict_cut : (items : List DictItem) → is_writable (value.Dict items) ≡ true → (indent at : ℕ) (rest : List ℕ) → IsCut at (print (value.Dict items) indent) (words_of_value (value.Dict items)) rest
dict_cut items is indent at rest = said_dict_before items (each_said items) is indent at rest
