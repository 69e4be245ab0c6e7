-- The canonical text of a value is the words of the value.
use Rattle.std.proofs.Common.{◌≡◌, ◌∙◌, ℕ, ◌+◌, ◌&&◌, ◌||◌, ◌==◌, not, Bool, true, false, List, [], ◌∷◌, ◌++◌, append_assoc, length, length-append, arith, map, Option, ap, sym, refl, subst}
use Rattle.std.specs.Prelude.{if◌then◌else◌}
use Rattle.std.specs.List.{list_all}
use Rattle.std.proofs.lemmas.List.{map-append}
use Rattle.std.proofs.lemmas.List.Folds.{list_all-append}
use Rattle.std.proofs.lemmas.Bool.{and_parts, not-true}
use Rattle.sdf_values.specs.Print.{print, quoted, is_plain_key}
use Rattle.sdf_values.specs.TypeNames.{element_name}
use Rattle.sdf_values.specs.declared.value.DictType.{DictType}
use Rattle.sdf_values.specs.declared.value.DictType.TheVariants as dict_type
use Rattle.sdf_values.specs.declared.value.DictItem.{DictItem}
use Rattle.sdf_values.specs.declared.value.Value.{Value}
use Rattle.sdf_values.proofs.Values.{Each, by_cases}
use Rattle.usda_lexer.specs.declared.token.LexFault.{LexFault}
use Rattle.usda_lexer.specs.Words.{Word as Token, lexing_from}
use Rattle.usda_words.specs.Words.{Word, kind_of, is_dot, if_joined, kind_behind, word_at, behind, words_behind, words_in}
use Rattle.usda_words.specs.declared.word.Before.{Before}
use Rattle.value_texts.specs.Cuts.{Said, said_of, IsCut}
use Rattle.value_texts.specs.Words.{told_of, as_word, is_no_dot, IsWorded}
use Rattle.value_texts.specs.Follows.{may_follow}
use Rattle.value_texts.specs.Writable.{is_writable}
use Rattle.value_texts.specs.ValueWords.{name_said, string_said, words_of_value, words_of_item, said_step, said_item, more_said, listed_said, entries_said, dict_type_said, key_said, close_paren, open_bracket, close_bracket, close_brace, equals}
use Rattle.sdf_values.proofs.Values as fold
use Rattle.value_texts.proofs.ValueCuts.{value_cut}

-- no `.` among these
abbrev pub NoDots : List Said → Type 0
NoDots said = list_all is_no_dot said ≡ true

plain_kind : (b : Before) (t : Token) → b.is_dot ≡ false → is_dot (kind_of t.kind t.text) ≡ false → kind_behind b t.start (kind_of t.kind t.text) ≡ kind_of t.kind t.text
plain_kind b t h k = ap (λ x. if_joined ((x || is_dot (kind_of t.kind t.text)) && not (t.start == b.end)) (kind_of t.kind t.text)) h ∙ ap (λ x. if_joined (x && not (t.start == b.end)) (kind_of t.kind t.text)) k

-- the words of tokens among which is no `.`, and of those behind them
record AreWorded (b : Before) (ts more : List Token) (f : Option LexFault) : Type 0 where
  words : List Word
  told : map told_of words ≡ map as_word (map said_of ts)
  last : Before
  plain : last.is_dot ≡ false
  worded : words_behind b (ts ++ more) f ≡ words ++ words_behind last more f

are_worded : (b : Before) (ts more : List Token) (f : Option LexFault) → b.is_dot ≡ false → NoDots (map said_of ts) → AreWorded b ts more f
are_worded b [] more f h n = record { words = []; told = refl; last = b; plain = h; worded = refl }
are_worded b (t ∷ ts) more f h n =
    let p = and_parts (is_no_dot (said_of t)) (list_all is_no_dot (map said_of ts)) n in
    let k : is_dot (kind_of t.kind t.text) ≡ false = not-true (is_dot (kind_of t.kind t.text)) p.0 in
    let rest = are_worded (behind t) ts more f k p.1 in
    record {
      words = word_at b t ∷ rest.words;
      told = ap (λ x. record { kind = x; token = t.kind; text = t.text; too_long = false } ∷ map told_of rest.words) (plain_kind b t h k) ∙ ap (λ l. as_word (said_of t) ∷ l) rest.told;
      last = rest.last;
      plain = rest.plain;
      worded = ap (λ l. word_at b t ∷ l) rest.worded;
    }

-- a text that is cut into tokens among which is no `.` is cut into their words
pub cut_worded : (at : ℕ) (b : Before) (text : List ℕ) (said : List Said) (rest : List ℕ) → b.is_dot ≡ false → NoDots said → IsCut at text said rest → IsWorded at b text said rest
cut_worded at b text said rest h n cut =
    let l = lexing_from 0 (at + length text) rest in
    let w = are_worded b cut.words l.words l.fault h (subst NoDots (sym cut.spelled) n) in
    record { words = w.words; told = w.told ∙ ap (map as_word) cut.spelled; last = w.last; no_dot = w.plain; worded = ap (words_in b) cut.lexed ∙ w.worded }

-- the tokens of values have no `.` among them
abbrev Dotless : Value → Type 0
Dotless v = NoDots (words_of_value v)

abbrev DotlessItem : DictItem → Type 0
DotlessItem i = NoDots (words_of_item i)

two : (a b : List Said) → NoDots a → NoDots b → NoDots (a ++ b)
two a b h k = list_all-append is_no_dot a b ∙ ap (λ x. x && list_all is_no_dot b) h ∙ k

more_dotless : (vs : List Value) → Each Dotless vs → (close : Said) → is_no_dot close ≡ true → NoDots (more_said (map words_of_value vs) ++ close ∷ [])
more_dotless [] each close h = ap (λ b. b && true) h
more_dotless (v ∷ vs) each close h =
    ap (list_all is_no_dot) (append_assoc (words_of_value v) (more_said (map words_of_value vs)) (close ∷ []))
    ∙ two (words_of_value v) (more_said (map words_of_value vs) ++ close ∷ []) each.0 (more_dotless vs each.1 close h)

listed_dotless : (vs : List Value) → Each Dotless vs → (close : Said) → is_no_dot close ≡ true → NoDots (listed_said (map words_of_value vs) ++ close ∷ [])
listed_dotless [] each close h = ap (λ b. b && true) h
listed_dotless (v ∷ vs) each close h =
    ap (list_all is_no_dot) (append_assoc (words_of_value v) (more_said (map words_of_value vs)) (close ∷ []))
    ∙ two (words_of_value v) (more_said (map words_of_value vs) ++ close ∷ []) each.0 (more_dotless vs each.1 close h)

entries_dotless : (items : List DictItem) → Each DotlessItem items → NoDots (entries_said (map words_of_item items) ++ close_brace ∷ [])
entries_dotless [] each = refl
entries_dotless (i ∷ is) each =
    ap (list_all is_no_dot) (append_assoc (words_of_item i) (entries_said (map words_of_item is)) (close_brace ∷ []))
    ∙ two (words_of_item i) (entries_said (map words_of_item is) ++ close_brace ∷ []) each.0 (entries_dotless is each.1)

type_dotless : (t : DictType) → NoDots (dict_type_said t)
type_dotless (dict_type.Plain t) = test t.array
  where
    test : (b : Bool) → NoDots (name_said (element_name t.element) ∷ (if b then open_bracket ∷ close_bracket ∷ [] else []))
    test true = refl
    test false = refl
type_dotless dict_type.Dictionary = refl

key_dotless : (k : List ℕ) (ws : List Said) → NoDots ws → NoDots (key_said k ∷ equals ∷ ws)
key_dotless k ws h = test (is_plain_key k)
  where
    test : (b : Bool) → NoDots ((if b then name_said k else string_said (quoted k)) ∷ equals ∷ ws)
    test true = h
    test false = h

item_dotless : (k : List ℕ) (t : DictType) (v : Value) → Dotless v → DotlessItem (record { key = k; ty = t; value = v })
item_dotless k t v h =
    ap (list_all is_no_dot) (fold.of_item (List Said) (List Said) said_step said_item (record { key = k; ty = t; value = v }))
    ∙ two (dict_type_said t) (key_said k ∷ equals ∷ words_of_value v) (type_dotless t) (key_dotless k (words_of_value v) h)

pub value_dotless : (v : Value) → Dotless v
value_dotless = by_cases Dotless DotlessItem (record {
  bool = λ b. ap (list_all is_no_dot) (fold.of_bool (List Said) (List Said) said_step said_item b);
  whole = λ n. ap (list_all is_no_dot) (fold.of_whole (List Said) (List Said) said_step said_item n);
  number = λ x. ap (list_all is_no_dot) (fold.of_number (List Said) (List Said) said_step said_item x);
  time = λ t. ap (list_all is_no_dot) (fold.of_time (List Said) (List Said) said_step said_item t);
  text = λ t. ap (list_all is_no_dot) (fold.of_text (List Said) (List Said) said_step said_item t);
  asset = λ t. ap (list_all is_no_dot) (fold.of_asset (List Said) (List Said) said_step said_item t);
  path = λ t. ap (list_all is_no_dot) (fold.of_path (List Said) (List Said) said_step said_item t);
  word = λ t. ap (list_all is_no_dot) (fold.of_word (List Said) (List Said) said_step said_item t);
  block = ap (list_all is_no_dot) (fold.of_block (List Said) (List Said) said_step said_item);
  tuple = λ vs each. ap (list_all is_no_dot) (fold.of_tuple (List Said) (List Said) said_step said_item vs) ∙ listed_dotless vs each close_paren refl;
  array = λ vs each. ap (list_all is_no_dot) (fold.of_array (List Said) (List Said) said_step said_item vs) ∙ listed_dotless vs each close_bracket refl;
  dict = λ items each. ap (list_all is_no_dot) (fold.of_dict (List Said) (List Said) said_step said_item items) ∙ entries_dotless items each;
  item = item_dotless;
})

pub value_worded : (v : Value) → is_writable v ≡ true → (indent at : ℕ) (before : Before) (rest : List ℕ) → before.is_dot ≡ false → may_follow rest ≡ true → IsWorded at before (print v indent) (words_of_value v) rest
value_worded v w indent at b rest h follows = cut_worded at b (print v indent) (words_of_value v) rest h (value_dotless v) (value_cut v w indent at rest follows)

-- one text behind another, as words
pub both_worded : (at : ℕ) (b : Before) (s t : List ℕ) (x y : List Said) (rest : List ℕ) → IsWorded at b s x (t ++ rest) → ((c : Before) → c.is_dot ≡ false → IsWorded (at + length s) c t y rest)
    → IsWorded at b (s ++ t) (x ++ y) rest
both_worded at b s t x y rest front more =
    let back = more front.last front.no_dot in
    record {
      words = front.words ++ back.words;
      told = map-append told_of front.words back.words ∙ ap (λ l. l ++ map told_of back.words) front.told ∙ ap (λ l. map as_word x ++ l) back.told ∙ sym (map-append as_word x y);
      last = back.last;
      no_dot = back.no_dot;
      worded = ap (λ u. words_in b (lexing_from 0 at u)) (append_assoc s t rest) ∙ front.worded ∙ ap (λ l. front.words ++ l) back.worded
          ∙ sym (append_assoc front.words back.words (words_in back.last (lexing_from 0 (at + length s + length t) rest)))
          ∙ ap (λ n. (front.words ++ back.words) ++ words_in back.last (lexing_from 0 n rest)) (let e : at + length s + length t ≡ at + length (s ++ t) = omega (arith, length-append s t) in e);
    }
