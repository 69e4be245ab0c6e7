-- What holds of the value that a call answers.
use Rattle.std.proofs.Common.{◌≡◌, length, true, Result, Ok, Err}
use Rattle.std.specs.Prelude.{IfOk}
use Rattle.sdf_values.specs.Conforms.{conforms}
use Rattle.sdf_values.specs.declared.type_name.TypeName.{TypeName}
use Rattle.sdf_values.specs.declared.value.Value.{Value}
use Rattle.usda_values.specs.Shaping.{AnswersShape, take_shape}
use Rattle.usda_values.specs.declared.fault.ValueFault.{ValueFault}
use Rattle.usda_values.specs.declared.fault.ValueFault.TheVariants.{Refused, NoMemory}
use Rattle.usda_lexer.specs.Words.{Lexer, left}
use Rattle.usda_values.specs.Drafts.{draft_of}
use Rattle.usda_values.specs.Reads.{AnswersRead}
use Rattle.usda_values.specs.declared.level.Place.TheVariants as place
use Rattle.usda_values.specs.declared.shape.Shape.TheVariants.{Typed}
use Rattle.value_shapes.specs.Held.{is_held}
use Rattle.value_shapes.specs.Laws.{GivesOnly}
use Rattle.value_shapes.specs.Meanings.{SameMeaning}
use Rattle.value_shapes.proofs.Only.{shape_found, shape_refused}
use Rattle.value_shapes.proofs.TypedReading.{typed_read}
use Rattle.value_shapes.proofs.Whole.{shape_fits, shape_kept}

pub answer_of_the_type : (r : Result Value ValueFault) (t : TypeName) (v : Value) → AnswersShape r (take_shape t v) → IfOk r (λ w. conforms w t ≡ true)
answer_of_the_type (Ok w) t v h = (shape_fits t v w h).of_type
answer_of_the_type (Err e) t v h = tt

pub answer_of_the_meaning : (r : Result Value ValueFault) (t : TypeName) (v : Value) → AnswersShape r (take_shape t v) → IfOk r (λ w. SameMeaning v w)
answer_of_the_meaning (Ok w) t v h = (shape_fits t v w h).same
answer_of_the_meaning (Err e) t v h = tt

pub answer_kept : (r : Result Value ValueFault) (t : TypeName) (v : Value) → AnswersShape r (take_shape t v) → conforms v t ≡ true → IfOk r (λ w. w ≡ v)
answer_kept (Ok w) t v h is = let k = shape_kept t v is in cc
answer_kept (Err e) t v h is = tt

pub answer_only : (r : Result Value ValueFault) (t : TypeName) (v w : Value) → AnswersShape r (take_shape t v) → is_held v ≡ true → is_held w ≡ true → SameMeaning v w → conforms w t ≡ true → GivesOnly r w
answer_only (Ok u) t v w h hv hw same is = let k = shape_found t v w hv hw same is in cc
answer_only (Err (Refused kind at)) t v w h hv hw same is = shape_refused t v w kind h.0 hv hw same is
answer_only (Err NoMemory) t v w h hv hw same is = tt

-- what is read as one of the type
pub answer_read : (r : Result Value ValueFault) (t : TypeName) (old new : Lexer) → AnswersRead r (draft_of place.Value (Typed t)) old new → IfOk r (λ w. conforms w t ≡ true)
answer_read (Ok w) t old new h = typed_read t (left old).words (left old).fault (length old.source) w (left new) h
answer_read (Err e) t old new h = tt
