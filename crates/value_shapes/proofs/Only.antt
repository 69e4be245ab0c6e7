-- The laws on the one value of the type that means the same.
use Rattle.std.proofs.Common.{◌≡◌, true, Ok, Err, ap, sym, refl, subst}
use Rattle.sdf_values.specs.Conforms.{conforms}
use Rattle.sdf_values.specs.declared.refusal.RefusalKind.{RefusalKind}
use Rattle.sdf_values.specs.declared.type_name.TypeName.{TypeName}
use Rattle.sdf_values.specs.declared.value.Value.{Value}
use Rattle.sdf_values.specs.declared.value.Value.TheVariants as value
use Rattle.usda_values.specs.Shaping.{Taking, take_shape, take_shape_step, take_step, take_item, taken}
use Rattle.value_shapes.specs.Held.{is_held}
use Rattle.value_shapes.specs.Meanings.{SameMeaning, itself, whole_as_number, whole_as_time, number_as_time, number_as_truth, word_as_truth, tuple, array}
use Rattle.sdf_values.proofs.Values as fold
use Rattle.value_shapes.proofs.Taken.{fits}
use Rattle.value_shapes.proofs.Completes.{found}
use Rattle.value_shapes.proofs.Whole.{shape_kept}

-- the block alone means the block
only_block : (v w : Value) → SameMeaning v w → w ≡ value.Block → v ≡ value.Block
only_block v w (itself _) e = e
only_block v w (whole_as_number n d k) e = absurd cc
only_block v w (whole_as_time n u k) e = absurd cc
only_block v w (number_as_time d u k) e = absurd cc
only_block v w (number_as_truth b) e = absurd cc
only_block v w (word_as_truth b) e = absurd cc
only_block v w (tuple vs ws k) e = absurd cc
only_block v w (array vs ws k) e = absurd cc

no_taken_block : (t : TypeName) (w : Value) → taken value.Block t ≡ Ok w → ⊥
no_taken_block t w h = let e = ap (λ f. f t) (fold.of_block Taking Taking take_step take_item) in cc

taken_shape : (t : TypeName) (v w : Value) → taken v t ≡ Ok w → take_shape_step v t ≡ Ok w
taken_shape t value.Block w h = absurd (no_taken_block t w h)
taken_shape t v w h = h

step_found : (t : TypeName) (v w : Value) → SameMeaning v w → is_held v ≡ true → is_held w ≡ true → take_shape_step w t ≡ Ok w → take_shape_step v t ≡ Ok w
step_found t v value.Block k hv hw h = subst (λ x. take_shape_step x t ≡ Ok value.Block) (sym (only_block v value.Block k refl)) refl
step_found t v w k hv hw h = taken_shape t v w (found v w k hv hw t (fits w t w h).of_type)

pub shape_found : (t : TypeName) (v w : Value) → is_held v ≡ true → is_held w ≡ true → SameMeaning v w → conforms w t ≡ true → take_shape t v ≡ Ok w
unfolding take_shape
shape_found t v w hv hw k is = step_found t v w k hv hw (shape_kept t w is)

pub shape_refused : (t : TypeName) (v w : Value) (k : RefusalKind) → take_shape t v ≡ Err k → is_held v ≡ true → is_held w ≡ true → SameMeaning v w → conforms w t ≡ true → ⊥
shape_refused t v w k refused hv hw same is = let e = shape_found t v w hv hw same is in cc

pub one_shape : (t : TypeName) (v w u : Value) → is_held v ≡ true → is_held w ≡ true → is_held u ≡ true → SameMeaning v w → SameMeaning v u → conforms w t ≡ true → conforms u t ≡ true → w ≡ u
one_shape t v w u hv hw hu k l is isu = let e = shape_found t v w hv hw k is in let f = shape_found t v u hv hu l isu in cc
