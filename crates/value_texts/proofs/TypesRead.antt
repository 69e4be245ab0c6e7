-- What is read where a type is expected: the values of the type, and directly behind `=` the block.
use Rattle.std.proofs.Common.{◌≡◌, ◌∙◌, ℕ, suc, ◌&&◌, ◌||◌, ◌==◌, not, Bool, true, false, List, [], ◌∷◌, length, map, Option, Some, None, ap, sym, refl}
use Rattle.sdf_values.specs.Conforms.{is_element, holds, holds_step, item_step, is_block, is_block_step, is_block_item, conforms, all_hold, are_members, members_of, one}
use Rattle.sdf_values.specs.declared.type_name.ElementType.{ElementType}
use Rattle.sdf_values.specs.declared.type_name.TypeName.{TypeName}
use Rattle.sdf_values.specs.declared.value.DictItem.{fold-DictItem}
use Rattle.sdf_values.specs.declared.value.Value.{Value}
use Rattle.sdf_values.specs.declared.value.Value.TheOpen.{Value-F}
use Rattle.sdf_values.specs.declared.value.Value.TheVariants as value
use Rattle.sdf_values.proofs.Values.{Each, by_cases}
use Rattle.usda_values.specs.declared.shape.Shape.TheVariants.{Typed}
use Rattle.value_texts.specs.Readable.{Reading, is_read_as, reading_step, reading_item, typed}
use Rattle.sdf_values.proofs.Values as fold

abbrev Test : Type 0
Test = TypeName → Bool

abbrev Agrees : Value → Type 0
Agrees v = (t : TypeName) (s : Bool) → is_read_as v (Typed t) s ≡ ((s && is_block v) || holds v t)

-- a value that is no block
leaf : (v : Value) (l : Value-F Reading (List ℕ × Bool)) (h : Value-F Test Test) (b : Value-F Bool Bool) → is_read_as v ≡ reading_step l → holds v ≡ holds_step h → is_block v ≡ is_block_step b
    → ((t : TypeName) (s : Bool) → reading_step l (Typed t) s ≡ ((s && is_block_step b) || holds_step h t)) → Agrees v
leaf v l h b reads is block same t s =
    ap (λ f. f (Typed t) s) reads ∙ same t s ∙ ap (λ x. (s && x) || holds_step h t) (sym block) ∙ ap (λ f. (s && is_block v) || f t) (sym is)

one_agrees : (v : Value) → Agrees v → (t : TypeName) → typed (is_read_as v) t ≡ holds v t
one_agrees v h t = h t false

all_agree : (vs : List Value) → Each Agrees vs → (t : TypeName) → all_hold (map typed (map is_read_as vs)) t ≡ all_hold (map holds vs) t
all_agree [] each t = refl
all_agree (v ∷ vs) each t = ap (λ b. b && all_hold (map typed (map is_read_as vs)) t) (one_agrees v each.0 t) ∙ ap (λ b. holds v t && b) (all_agree vs each.1 t)

same_length : (vs : List Value) → length (map typed (map is_read_as vs)) ≡ length (map holds vs)
same_length [] = refl
same_length (v ∷ vs) = ap suc (same_length vs)

members_agree : (vs : List Value) → Each Agrees vs → (o : Option (ElementType × ℕ)) → are_members o (map typed (map is_read_as vs)) ≡ are_members o (map holds vs)
members_agree vs each None = refl
members_agree vs each (Some m) =
    ap (λ n. (n == m.1) && all_hold (map typed (map is_read_as vs)) (one m.0)) (same_length vs) ∙ ap (λ b. (length (map holds vs) == m.1) && b) (all_agree vs each (one m.0))

tuple_agrees : (vs : List Value) → Each Agrees vs → Agrees (value.Tuple vs)
tuple_agrees vs each =
    leaf (value.Tuple vs) (Value-F.Tuple (map is_read_as vs)) (Value-F.Tuple (map holds vs)) (Value-F.Tuple (map is_block vs))
    (fold.of_tuple Reading (List ℕ × Bool) reading_step reading_item vs) (fold.of_tuple Test Test holds_step item_step vs) (fold.of_tuple Bool Bool is_block_step is_block_item vs)
    (λ t s. ap (λ b. (s && false) || (not t.array && b)) (members_agree vs each (members_of t.element)))

array_agrees : (vs : List Value) → Each Agrees vs → Agrees (value.Array vs)
array_agrees vs each =
    leaf (value.Array vs) (Value-F.Array (map is_read_as vs)) (Value-F.Array (map holds vs)) (Value-F.Array (map is_block vs))
    (fold.of_array Reading (List ℕ × Bool) reading_step reading_item vs) (fold.of_array Test Test holds_step item_step vs) (fold.of_array Bool Bool is_block_step is_block_item vs)
    (λ t s. ap (λ b. (s && false) || (t.array && b)) (all_agree vs each (one t.element)))

no_dict : (s a : Bool) (e : ElementType) (cs : List Test) → ((s && false) || false) ≡ ((s && false) || (not a && is_element (Value-F.Dict cs) e))
no_dict s a e cs = ap (λ b. (s && false) || b) (sym (none a e))
  where
    none : (a : Bool) (e : ElementType) → (not a && is_element (Value-F.Dict cs) e) ≡ false
    none true e = refl
    none false _ = refl

no_block : (s a : Bool) (e : ElementType) → ((s && true) || false) ≡ ((s && true) || (not a && is_element Value-F.Block e))
no_block s a e = ap (λ b. (s && true) || b) (sym (none a e))
  where
    none : (a : Bool) (e : ElementType) → (not a && is_element Value-F.Block e) ≡ false
    none true e = refl
    none false _ = refl

agrees : (v : Value) → Agrees v
agrees = by_cases Agrees (λ i. Unit {0}) (record {
  bool = λ b. leaf (value.Bool b) (Value-F.Bool b) (Value-F.Bool b) (Value-F.Bool b) (fold.of_bool Reading (List ℕ × Bool) reading_step reading_item b) (fold.of_bool Test Test holds_step item_step b) (fold.of_bool Bool Bool is_block_step is_block_item b) (λ t s. refl);
  whole = λ n. leaf (value.Whole n) (Value-F.Whole n) (Value-F.Whole n) (Value-F.Whole n) (fold.of_whole Reading (List ℕ × Bool) reading_step reading_item n) (fold.of_whole Test Test holds_step item_step n) (fold.of_whole Bool Bool is_block_step is_block_item n) (λ t s. refl);
  number = λ x. leaf (value.Number x) (Value-F.Number x) (Value-F.Number x) (Value-F.Number x) (fold.of_number Reading (List ℕ × Bool) reading_step reading_item x) (fold.of_number Test Test holds_step item_step x) (fold.of_number Bool Bool is_block_step is_block_item x) (λ t s. refl);
  time = λ x. leaf (value.Time x) (Value-F.Time x) (Value-F.Time x) (Value-F.Time x) (fold.of_time Reading (List ℕ × Bool) reading_step reading_item x) (fold.of_time Test Test holds_step item_step x) (fold.of_time Bool Bool is_block_step is_block_item x) (λ t s. refl);
  text = λ x. leaf (value.Text x) (Value-F.Text x) (Value-F.Text x) (Value-F.Text x) (fold.of_text Reading (List ℕ × Bool) reading_step reading_item x) (fold.of_text Test Test holds_step item_step x) (fold.of_text Bool Bool is_block_step is_block_item x) (λ t s. refl);
  asset = λ x. leaf (value.Asset x) (Value-F.Asset x) (Value-F.Asset x) (Value-F.Asset x) (fold.of_asset Reading (List ℕ × Bool) reading_step reading_item x) (fold.of_asset Test Test holds_step item_step x) (fold.of_asset Bool Bool is_block_step is_block_item x) (λ t s. refl);
  path = λ x. leaf (value.PathText x) (Value-F.PathText x) (Value-F.PathText x) (Value-F.PathText x) (fold.of_path Reading (List ℕ × Bool) reading_step reading_item x) (fold.of_path Test Test holds_step item_step x) (fold.of_path Bool Bool is_block_step is_block_item x) (λ t s. refl);
  word = λ x. leaf (value.Word x) (Value-F.Word x) (Value-F.Word x) (Value-F.Word x) (fold.of_word Reading (List ℕ × Bool) reading_step reading_item x) (fold.of_word Test Test holds_step item_step x) (fold.of_word Bool Bool is_block_step is_block_item x) (λ t s. refl);
  block = leaf value.Block Value-F.Block Value-F.Block Value-F.Block (fold.of_block Reading (List ℕ × Bool) reading_step reading_item) (fold.of_block Test Test holds_step item_step) (fold.of_block Bool Bool is_block_step is_block_item) (λ t s. no_block s t.array t.element);
  tuple = tuple_agrees;
  array = array_agrees;
  dict = λ items each. leaf (value.Dict items) (Value-F.Dict (map (fold-DictItem Reading (List ℕ × Bool) reading_step reading_item) items)) (Value-F.Dict (map (fold-DictItem Test Test holds_step item_step) items)) (Value-F.Dict (map (fold-DictItem Bool Bool is_block_step is_block_item) items)) (fold.of_dict Reading (List ℕ × Bool) reading_step reading_item items) (fold.of_dict Test Test holds_step item_step items) (fold.of_dict Bool Bool is_block_step is_block_item items) (λ t s. no_dict s t.array t.element (map (fold-DictItem Test Test holds_step item_step) items));
  item = λ k t v h. tt;
})

pub types_read : (v : Value) (t : TypeName) → is_read_as v (Typed t) true ≡ conforms v t
types_read v t = agrees v t true
