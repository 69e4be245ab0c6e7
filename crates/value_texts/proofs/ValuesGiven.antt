-- The tokens of a value put it into a draft.
use Rattle.std.proofs.Common.{◌≡◌, ◌∙◌, ℕ, Bool, true, List, [], ◌∷◌, ◌++◌, ap, sym, refl}
use Rattle.std.specs.Prelude.{codes}
use Rattle.sdf_values.specs.Print.{num_text, time_text, whole_text, quoted, asset_text}
use Rattle.sdf_values.specs.declared.value.Value.{Value}
use Rattle.sdf_values.specs.declared.value.Value.TheOpen.{Value-F}
use Rattle.sdf_values.specs.declared.value.Value.TheVariants as value
use Rattle.sdf_values.proofs.Values.{by_cases}
use Rattle.usda_values.specs.declared.level.Bracket.TheVariants as bracket
use Rattle.usda_values.specs.declared.shape.Shape.{Shape}
use Rattle.usda_values.specs.declared.draft.ValueDraft.{ValueDraft}
use Rattle.usda_values.specs.Drafts.{act_value, put_act, is_statement}
use Rattle.usda_values.specs.Scalars.{token_value}
use Rattle.value_texts.specs.Cuts.{Said}
use Rattle.value_texts.specs.Acts.{acts}
use Rattle.value_texts.specs.Writable.{is_writable, writable_step, writable_item}
use Rattle.value_texts.specs.ValueWords.{words_of_value, said_step, said_item, name_said, number_said, string_said, asset_said, path_said}
use Rattle.value_texts.specs.Readable.{Reading, is_read_as, reading_step, reading_item}
use Rattle.sdf_values.proofs.Values as fold
use Rattle.value_texts.proofs.Leaves.{Gives, bool_text, bool_gives, number_gives, time_gives, text_gives, asset_gives, path_gives, word_gives, block_gives}
use Rattle.value_texts.proofs.WholeLeaves.{whole_gives}
use Rattle.value_texts.proofs.Given.{ClosesNone, leaf_given, IsGiven}
use Rattle.value_texts.proofs.ListsGiven.{tuple_given, array_given}
use Rattle.value_texts.proofs.DictsGiven.{IsGivenItem, item_given, dict_given}

-- a token that is no mark closes nothing
name_none : (t : List ℕ) → ClosesNone (name_said t).kind
name_none t bracket.Statement = refl
name_none t bracket.Tuple = refl
name_none t bracket.Array = refl
name_none t bracket.Dict = refl

number_none : (t : List ℕ) → ClosesNone (number_said t).kind
number_none t bracket.Statement = refl
number_none t bracket.Tuple = refl
number_none t bracket.Array = refl
number_none t bracket.Dict = refl

pub string_none : (t : List ℕ) → ClosesNone (string_said t).kind
string_none t bracket.Statement = refl
string_none t bracket.Tuple = refl
string_none t bracket.Array = refl
string_none t bracket.Dict = refl

asset_none : (t : List ℕ) → ClosesNone (asset_said t).kind
asset_none t bracket.Statement = refl
asset_none t bracket.Tuple = refl
asset_none t bracket.Array = refl
asset_none t bracket.Dict = refl

path_none : (t : List ℕ) → ClosesNone (path_said t).kind
path_none t bracket.Statement = refl
path_none t bracket.Tuple = refl
path_none t bracket.Array = refl
path_none t bracket.Dict = refl

-- a value of one token
leaf : (v : Value) (w : Said) (l : Value-F Reading (List ℕ × Bool)) (m : Value-F Bool Bool) → words_of_value v ≡ w ∷ [] → is_read_as v ≡ reading_step l → is_writable v ≡ writable_step m → ClosesNone w.kind
    → ((d : ValueDraft) → act_value w.kind w.text d ≡ put_act (token_value w.kind w.text) d)
    → (writable_step m ≡ true → (shape : Shape) (s : Bool) → reading_step l shape s ≡ true → Gives w.kind w.text shape s v) → IsGiven v
leaf v w l m words reads writes none puts gives d h room good read deep =
    ap (λ x. acts x d) words
    ∙ leaf_given w v d h room none (puts d) (gives (sym writes ∙ good) d.level.item (is_statement d.level.bracket) (sym (ap (λ f. f d.level.item (is_statement d.level.bracket)) reads) ∙ read))

pub value_given : (v : Value) → IsGiven v
value_given = by_cases IsGiven IsGivenItem (record {
  bool = λ b. leaf (value.Bool b) (name_said (bool_text b)) (Value-F.Bool b) (Value-F.Bool b) (fold.of_bool (List Said) (List Said) said_step said_item b)
      (fold.of_bool Reading (List ℕ × Bool) reading_step reading_item b) (fold.of_bool Bool Bool writable_step writable_item b) (name_none (bool_text b)) (λ d. refl) (λ w. bool_gives b);
  whole = λ n. leaf (value.Whole n) (number_said (whole_text n)) (Value-F.Whole n) (Value-F.Whole n) (fold.of_whole (List Said) (List Said) said_step said_item n)
      (fold.of_whole Reading (List ℕ × Bool) reading_step reading_item n) (fold.of_whole Bool Bool writable_step writable_item n) (number_none (whole_text n)) (λ d. refl) (whole_gives n);
  number = λ x. leaf (value.Number x) (number_said (num_text x)) (Value-F.Number x) (Value-F.Number x) (fold.of_number (List Said) (List Said) said_step said_item x)
      (fold.of_number Reading (List ℕ × Bool) reading_step reading_item x) (fold.of_number Bool Bool writable_step writable_item x) (number_none (num_text x)) (λ d. refl) (number_gives x);
  time = λ t. leaf (value.Time t) (number_said (time_text t)) (Value-F.Time t) (Value-F.Time t) (fold.of_time (List Said) (List Said) said_step said_item t)
      (fold.of_time Reading (List ℕ × Bool) reading_step reading_item t) (fold.of_time Bool Bool writable_step writable_item t) (number_none (time_text t)) (λ d. refl) (time_gives t);
  text = λ t. leaf (value.Text t) (string_said (quoted t)) (Value-F.Text t) (Value-F.Text t) (fold.of_text (List Said) (List Said) said_step said_item t)
      (fold.of_text Reading (List ℕ × Bool) reading_step reading_item t) (fold.of_text Bool Bool writable_step writable_item t) (string_none (quoted t)) (λ d. refl) (text_gives t);
  asset = λ t. leaf (value.Asset t) (asset_said (asset_text t)) (Value-F.Asset t) (Value-F.Asset t) (fold.of_asset (List Said) (List Said) said_step said_item t)
      (fold.of_asset Reading (List ℕ × Bool) reading_step reading_item t) (fold.of_asset Bool Bool writable_step writable_item t) (asset_none (asset_text t)) (λ d. refl) (λ w. asset_gives t);
  path = λ t. leaf (value.PathText t) (path_said (codes "<" ++ t ++ codes ">")) (Value-F.PathText t) (Value-F.PathText t) (fold.of_path (List Said) (List Said) said_step said_item t)
      (fold.of_path Reading (List ℕ × Bool) reading_step reading_item t) (fold.of_path Bool Bool writable_step writable_item t) (path_none (codes "<" ++ t ++ codes ">")) (λ d. refl) (λ w. path_gives t);
  word = λ t. leaf (value.Word t) (name_said t) (Value-F.Word t) (Value-F.Word t) (fold.of_word (List Said) (List Said) said_step said_item t)
      (fold.of_word Reading (List ℕ × Bool) reading_step reading_item t) (fold.of_word Bool Bool writable_step writable_item t) (name_none t) (λ d. refl) (λ w. word_gives t);
  block = leaf value.Block (name_said (codes "None")) Value-F.Block Value-F.Block (fold.of_block (List Said) (List Said) said_step said_item)
      (fold.of_block Reading (List ℕ × Bool) reading_step reading_item) (fold.of_block Bool Bool writable_step writable_item) (name_none (codes "None")) (λ d. refl) (λ w. block_gives);
  tuple = tuple_given;
  array = array_given;
  dict = dict_given;
  item = item_given;
})
