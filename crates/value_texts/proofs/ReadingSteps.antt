-- What is read of each value, level by level.
use Rattle.std.proofs.Common.{◌≡◌, ℕ, Bool, List, map, ap}
use Rattle.std.specs.Prelude.{ℤ}
use Rattle.sdf_values.specs.declared.decimal.Num.{Num}
use Rattle.sdf_values.specs.declared.value.DictItem.{DictItem}
use Rattle.sdf_values.specs.declared.value.Value.{Value}
use Rattle.sdf_values.specs.declared.value.Value.TheOpen.{Value-F}
use Rattle.sdf_values.specs.declared.value.Value.TheVariants as value
use Rattle.usda_values.specs.declared.shape.Shape.{Shape}
use Rattle.value_texts.specs.Readable.{Reading, is_read_as, is_read_entry, reading_step, reading_item}
use Rattle.sdf_values.proofs.Values as fold

pub reads_bool : (b : Bool) (shape : Shape) (s : Bool) → is_read_as (value.Bool b) shape s ≡ reading_step (Value-F.Bool b) shape s
reads_bool b shape s = ap (λ f. f shape s) (fold.of_bool Reading (List ℕ × Bool) reading_step reading_item b)

pub reads_whole : (n : ℤ) (shape : Shape) (s : Bool) → is_read_as (value.Whole n) shape s ≡ reading_step (Value-F.Whole n) shape s
reads_whole n shape s = ap (λ f. f shape s) (fold.of_whole Reading (List ℕ × Bool) reading_step reading_item n)

pub reads_number : (x : Num) (shape : Shape) (s : Bool) → is_read_as (value.Number x) shape s ≡ reading_step (Value-F.Number x) shape s
reads_number x shape s = ap (λ f. f shape s) (fold.of_number Reading (List ℕ × Bool) reading_step reading_item x)

pub reads_time : (t : ℤ) (shape : Shape) (s : Bool) → is_read_as (value.Time t) shape s ≡ reading_step (Value-F.Time t) shape s
reads_time t shape s = ap (λ f. f shape s) (fold.of_time Reading (List ℕ × Bool) reading_step reading_item t)

pub reads_text : (t : List ℕ) (shape : Shape) (s : Bool) → is_read_as (value.Text t) shape s ≡ reading_step (Value-F.Text t) shape s
reads_text t shape s = ap (λ f. f shape s) (fold.of_text Reading (List ℕ × Bool) reading_step reading_item t)

pub reads_asset : (t : List ℕ) (shape : Shape) (s : Bool) → is_read_as (value.Asset t) shape s ≡ reading_step (Value-F.Asset t) shape s
reads_asset t shape s = ap (λ f. f shape s) (fold.of_asset Reading (List ℕ × Bool) reading_step reading_item t)

pub reads_path : (t : List ℕ) (shape : Shape) (s : Bool) → is_read_as (value.PathText t) shape s ≡ reading_step (Value-F.PathText t) shape s
reads_path t shape s = ap (λ f. f shape s) (fold.of_path Reading (List ℕ × Bool) reading_step reading_item t)

pub reads_word : (t : List ℕ) (shape : Shape) (s : Bool) → is_read_as (value.Word t) shape s ≡ reading_step (Value-F.Word t) shape s
reads_word t shape s = ap (λ f. f shape s) (fold.of_word Reading (List ℕ × Bool) reading_step reading_item t)

pub reads_tuple : (vs : List Value) (shape : Shape) (s : Bool) → is_read_as (value.Tuple vs) shape s ≡ reading_step (Value-F.Tuple (map is_read_as vs)) shape s
reads_tuple vs shape s = ap (λ f. f shape s) (fold.of_tuple Reading (List ℕ × Bool) reading_step reading_item vs)

pub reads_array : (vs : List Value) (shape : Shape) (s : Bool) → is_read_as (value.Array vs) shape s ≡ reading_step (Value-F.Array (map is_read_as vs)) shape s
reads_array vs shape s = ap (λ f. f shape s) (fold.of_array Reading (List ℕ × Bool) reading_step reading_item vs)

pub reads_dict : (items : List DictItem) (shape : Shape) (s : Bool) → is_read_as (value.Dict items) shape s ≡ reading_step (Value-F.Dict (map is_read_entry items)) shape s
reads_dict items shape s = ap (λ f. f shape s) (fold.of_dict Reading (List ℕ × Bool) reading_step reading_item items)

pub reads_block : (shape : Shape) (s : Bool) → is_read_as value.Block shape s ≡ reading_step Value-F.Block shape s
reads_block shape s = ap (λ f. f shape s) (fold.of_block Reading (List ℕ × Bool) reading_step reading_item)
