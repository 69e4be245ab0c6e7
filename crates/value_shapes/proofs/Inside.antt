-- What stands inside a tuple or an array is told by the value.
use Rattle.std.proofs.Common.{◌≡◌, ◌∙◌, List, [], ◌∷◌, map, ap, sym, refl}
use Rattle.sdf_values.specs.declared.value.DictItem.{DictItem, fold-DictItem}
use Rattle.sdf_values.specs.declared.value.Value.{Value, fold-Value}
use Rattle.sdf_values.specs.declared.value.Value.TheOpen.{Value-F, DictItem-F}
use Rattle.sdf_values.specs.declared.value.Value.TheVariants as value
use Rattle.sdf_values.proofs.Values.{Each, by_cases}
use Rattle.sdf_values.proofs.Values as fold

-- a value again, and its members
record Opened : Type 0 where
  pub again : Value
  pub members : List Value

abbrev all_again : List Opened → List Value
all_again [] = []
all_again (o ∷ os) = o.again ∷ all_again os

abbrev alone : Value → Opened
alone v = record { again = v; members = [] }

abbrev open_step : Value-F Opened DictItem → Opened
open_step (Value-F.Bool b) = alone (value.Bool b)
open_step (Value-F.Whole n) = alone (value.Whole n)
open_step (Value-F.Number x) = alone (value.Number x)
open_step (Value-F.Time t) = alone (value.Time t)
open_step (Value-F.Text s) = alone (value.Text s)
open_step (Value-F.Asset s) = alone (value.Asset s)
open_step (Value-F.PathText s) = alone (value.PathText s)
open_step (Value-F.Word s) = alone (value.Word s)
open_step (Value-F.Tuple os) = record { again = value.Tuple (all_again os); members = all_again os }
open_step (Value-F.Array os) = record { again = value.Array (all_again os); members = all_again os }
open_step (Value-F.Dict items) = alone (value.Dict items)
open_step Value-F.Block = alone value.Block

abbrev open_item : DictItem-F Opened DictItem → DictItem
open_item item = record { key = item.key; ty = item.ty; value = item.value.again }

abbrev opened : Value → Opened
opened = fold-Value Opened DictItem open_step open_item

abbrev item_again : DictItem → DictItem
item_again = fold-DictItem Opened DictItem open_step open_item

abbrev IsAgain : Value → Type 0
IsAgain v = (opened v).again ≡ v

abbrev IsItemAgain : DictItem → Type 0
IsItemAgain item = item_again item ≡ item

each_again : (vs : List Value) → Each IsAgain vs → all_again (map opened vs) ≡ vs
each_again [] each = refl
each_again (v ∷ vs) each = ap (λ x. x ∷ all_again (map opened vs)) each.0 ∙ ap (λ l. v ∷ l) (each_again vs each.1)

each_item : (items : List DictItem) → Each IsItemAgain items → map item_again items ≡ items
each_item [] each = refl
each_item (i ∷ items) each = ap (λ x. x ∷ map item_again items) each.0 ∙ ap (λ l. i ∷ l) (each_item items each.1)

abbrev again_of : Opened → Value
again_of o = o.again

abbrev members_in : Opened → List Value
members_in o = o.members

again : (v : Value) → IsAgain v
again = by_cases IsAgain IsItemAgain (record {
  bool = λ b. ap again_of (fold.of_bool Opened DictItem open_step open_item b);
  whole = λ n. ap again_of (fold.of_whole Opened DictItem open_step open_item n);
  number = λ x. ap again_of (fold.of_number Opened DictItem open_step open_item x);
  time = λ t. ap again_of (fold.of_time Opened DictItem open_step open_item t);
  text = λ s. ap again_of (fold.of_text Opened DictItem open_step open_item s);
  asset = λ s. ap again_of (fold.of_asset Opened DictItem open_step open_item s);
  path = λ s. ap again_of (fold.of_path Opened DictItem open_step open_item s);
  word = λ s. ap again_of (fold.of_word Opened DictItem open_step open_item s);
  block = ap again_of (fold.of_block Opened DictItem open_step open_item);
  tuple = λ vs each. ap again_of (fold.of_tuple Opened DictItem open_step open_item vs) ∙ ap value.Tuple (each_again vs each);
  array = λ vs each. ap again_of (fold.of_array Opened DictItem open_step open_item vs) ∙ ap value.Array (each_again vs each);
  dict = λ items each. ap again_of (fold.of_dict Opened DictItem open_step open_item items) ∙ ap value.Dict (each_item items each);
  item = λ k t v h. fold.of_item Opened DictItem open_step open_item (record { key = k; ty = t; value = v }) ∙ ap (λ x. record { key = k; ty = t; value = x }) h;
})

all_of : (vs : List Value) → Each IsAgain vs
all_of [] = tt
all_of (v ∷ vs) = (again v, all_of vs)

tuple_members : (vs : List Value) → (opened (value.Tuple vs)).members ≡ vs
tuple_members vs = ap members_in (fold.of_tuple Opened DictItem open_step open_item vs) ∙ each_again vs (all_of vs)

array_members : (vs : List Value) → (opened (value.Array vs)).members ≡ vs
array_members vs = ap members_in (fold.of_array Opened DictItem open_step open_item vs) ∙ each_again vs (all_of vs)

-- equal tuples have equal members, and so have equal arrays
pub one_tuple : (vs us : List Value) → value.Tuple vs ≡ value.Tuple us → vs ≡ us
one_tuple vs us e = sym (tuple_members vs) ∙ ap (λ v. (opened v).members) e ∙ tuple_members us

pub one_array : (vs us : List Value) → value.Array vs ≡ value.Array us → vs ≡ us
one_array vs us e = sym (array_members vs) ∙ ap (λ v. (opened v).members) e ∙ array_members us
