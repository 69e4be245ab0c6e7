-- The laws, of a value as a whole: the block stands for a value of any type.
use Rattle.std.proofs.Common.{◌≡◌, ◌∙◌, ◌||◌, Bool, true, false, Ok, ap, sym, refl, subst}
use Rattle.std.proofs.lemmas.Bool.{or_right}
use Rattle.sdf_values.specs.Conforms.{holds, is_block, is_block_step, is_block_item, conforms}
use Rattle.sdf_values.specs.declared.type_name.TypeName.{TypeName}
use Rattle.sdf_values.specs.declared.value.Value.{Value}
use Rattle.sdf_values.specs.declared.value.Value.TheVariants as value
use Rattle.sdf_values.proofs.Values.{by_cases}
use Rattle.usda_values.specs.Shaping.{take_shape, take_shape_step}
use Rattle.value_shapes.specs.Held.{is_held}
use Rattle.value_shapes.specs.Meanings.{SameMeaning, itself}
use Rattle.sdf_values.proofs.Values as fold
use Rattle.value_shapes.proofs.Elements.{Fits}
use Rattle.value_shapes.proofs.Taken.{fits}
use Rattle.value_shapes.proofs.Kept.{kept}

pub block_is : is_block value.Block ≡ true
block_is = fold.of_block Bool Bool is_block_step is_block_item

-- a value of the type or the block, and of the meaning, with numbers as a program holds them where those of the first are
pub record FitsWhole (t : TypeName) (v w : Value) : Type 0 where
  pub of_type : conforms w t ≡ true
  pub same : SameMeaning v w
  pub held : is_held v ≡ true → is_held w ≡ true

fits_whole : (t : TypeName) (v w : Value) → Fits t v w → FitsWhole t v w
fits_whole t v w k = record { of_type = or_right (is_block w) (holds w t) k.of_type; same = k.same; held = k.held }

block_taken : (t : TypeName) (w : Value) → value.Block ≡ w → FitsWhole t value.Block w
block_taken t w e = subst (λ x. FitsWhole t value.Block x) e (record { of_type = ap (λ b. b || holds value.Block t) block_is; same = itself value.Block; held = λ h. h })

step_fits : (t : TypeName) (v w : Value) → take_shape_step v t ≡ Ok w → FitsWhole t v w
step_fits t value.Block w h = block_taken t w cc
step_fits t v w h = fits_whole t v w (fits v t w h)

-- what is taken is of the type and means the same
pub shape_fits : (t : TypeName) (v w : Value) → take_shape t v ≡ Ok w → FitsWhole t v w
unfolding take_shape
shape_fits t v w h = step_fits t v w h

-- a value that is no block and is one of the type
abbrev IsKeptWhole : Value → Type 0
IsKeptWhole v = (t : TypeName) → conforms v t ≡ true → take_shape_step v t ≡ Ok v

no_block : (v : Value) → is_block v ≡ false → (t : TypeName) → conforms v t ≡ true → holds v t ≡ true
no_block v none t h = sym (ap (λ b. b || holds v t) none) ∙ h

step_kept : (v : Value) → IsKeptWhole v
step_kept = by_cases IsKeptWhole (λ i. Unit {0}) (record {
  bool = λ b t h. kept (value.Bool b) t (no_block (value.Bool b) (fold.of_bool Bool Bool is_block_step is_block_item b) t h);
  whole = λ n t h. kept (value.Whole n) t (no_block (value.Whole n) (fold.of_whole Bool Bool is_block_step is_block_item n) t h);
  number = λ x t h. kept (value.Number x) t (no_block (value.Number x) (fold.of_number Bool Bool is_block_step is_block_item x) t h);
  time = λ x t h. kept (value.Time x) t (no_block (value.Time x) (fold.of_time Bool Bool is_block_step is_block_item x) t h);
  text = λ s t h. kept (value.Text s) t (no_block (value.Text s) (fold.of_text Bool Bool is_block_step is_block_item s) t h);
  asset = λ s t h. kept (value.Asset s) t (no_block (value.Asset s) (fold.of_asset Bool Bool is_block_step is_block_item s) t h);
  path = λ s t h. kept (value.PathText s) t (no_block (value.PathText s) (fold.of_path Bool Bool is_block_step is_block_item s) t h);
  word = λ s t h. kept (value.Word s) t (no_block (value.Word s) (fold.of_word Bool Bool is_block_step is_block_item s) t h);
  block = λ t h. refl;
  tuple = λ vs each t h. kept (value.Tuple vs) t (no_block (value.Tuple vs) (fold.of_tuple Bool Bool is_block_step is_block_item vs) t h);
  array = λ vs each t h. kept (value.Array vs) t (no_block (value.Array vs) (fold.of_array Bool Bool is_block_step is_block_item vs) t h);
  dict = λ items each t h. kept (value.Dict items) t (no_block (value.Dict items) (fold.of_dict Bool Bool is_block_step is_block_item items) t h);
  item = λ k t v h. tt;
})

-- what is of the type already is taken as it is
pub shape_kept : (t : TypeName) (v : Value) → conforms v t ≡ true → take_shape t v ≡ Ok v
unfolding take_shape
shape_kept t v h = step_kept v t h
