-- Values: what is expected of one, its tokens, and where it goes when it is complete.
use Rattle.std.specs.Prelude.{ℕ, ℤ, Bool, true, false, List, Option, Some, None, Result, Ok, Err, if◌then◌else◌}
use Rattle.sdf_values.specs.declared.decimal.Num.{Num}
use Rattle.sdf_values.specs.declared.refusal.RefusalKind.{RefusalKind}
use Rattle.sdf_values.specs.declared.refusal.RefusalKind.TheVariants.{NumberTooLong, TimeRange}
use Rattle.sdf_values.specs.declared.type_name.TypeName.{TypeName}
use Rattle.sdf_values.specs.declared.value.Value.{Value}
use Rattle.usda_lexer.specs.Meanings.{number_of}
pub use Rattle.usda_values.specs.Scalars.{finite_time}
use Rattle.usda_values.specs.declared.shape.Shape.{Shape}
use Rattle.usda_values.specs.declared.shape.Shape.TheVariants.{Untyped, Typed}
use Rattle.usda_words.specs.Words.{Word}
use Rattle.usda_fields.specs.Keys.{rule_shape}
use Rattle.usda_fields.specs.Owners.{value_act}
use Rattle.usda_fields.specs.Variants.{selections_act}
use Rattle.usda_fields.specs.declared.keys.KeyRule.{KeyRule}
use Rattle.usda_statements.specs.OpenValues.{no_value, is_open, opened, given, value_in}
use Rattle.usda_statements.specs.PropertyDrafts.{with_default, with_sample, meta_act}
use Rattle.usda_fields.specs.declared.owner.OwnerDraft.{OwnerDraft}
use Rattle.usda_statements.specs.declared.property.PropertyDraft.{PropertyDraft}
use Rattle.usda_statements.specs.declared.open_value.OpenValue.{OpenValue}
use Rattle.usda_drafts.specs.Refusals.{Acted, refused, then_with}
use Rattle.usda_drafts.specs.declared.aim.Goal.{Goal}
use Rattle.usda_drafts.specs.declared.aim.Goal.TheVariants as goal
use Rattle.usda_drafts.specs.declared.draft.Draft.{Draft}

-- ---- what the next value is for

-- where the next value goes, and what is expected of it
abbrev pub aimed : Goal → Shape → Draft → Draft
aimed g shape d = record d { aim = record d.aim { goal = g; shape = shape } }

-- a key of metadata, of the owner or of the property in hand
unfoldable pub aimed_at_key : Goal → List ℕ → KeyRule → Draft → Draft
aimed_at_key g key rule d = record d { aim = record d.aim { goal = g; shape = rule_shape rule; key = key } }

-- what the type of the property in hand expects
unfoldable pub shape_of : Option TypeName → Shape
shape_of None = Untyped
shape_of (Some ty) = Typed ty

-- a default is of the type of its attribute
unfoldable pub aimed_at_default : Draft → Draft
aimed_at_default d = aimed goal.Default (shape_of d.property.ty) d

-- the value of a sample is of the type of its attribute
abbrev pub aimed_at_sample : ℤ → Draft → Draft
aimed_at_sample time d = record d { aim = record d.aim { goal = goal.Sample; shape = shape_of d.property.ty; time = time } }

-- the time of a sample; one that is out of range or has more than 18 decimals is refused
abbrev pub in_range : Option ℤ → Result ℤ RefusalKind
in_range None = Err TimeRange
in_range (Some t) = Ok t

-- the time of a number; one that is too long is refused before it is asked whether it is a time
unfoldable pub time_of_number : Option Num → Result ℤ RefusalKind
time_of_number None = Err NumberTooLong
time_of_number (Some x) = in_range (finite_time x)

-- the time of a sample
unfoldable pub time_act : List ℕ → ℕ → Draft → Acted
time_act text at d = then_with at (time_of_number (number_of text)) (λ time. aimed_at_sample time d)

-- ---- tokens of a value

-- the value is a dictionary of selected variants
unfoldable pub is_selections : Goal → Bool
is_selections goal.Variants = true
is_selections g = false

-- the draft with this said of its innermost owner
abbrev pub with_said : Draft → OwnerDraft → Draft
with_said d said = record d { owner = record d.owner { said = said } }

-- the draft with this property in hand
abbrev pub with_property : Draft → PropertyDraft → Draft
with_property d p = record d { property = p }

-- where a complete value goes
unfoldable pub completed : Goal → Value → ℕ → Draft → Acted
completed goal.Nothing v at d = Ok d
completed goal.OwnerKey v at d = then_with at (value_act d.aim.key v d.owner.said) (with_said d)
completed goal.Variants v at d = Ok (with_said d (selections_act v d.owner.said))
completed goal.PropertyKey v at d = then_with at (meta_act d.aim.key v d.property) (with_property d)
completed goal.Default v at d = Ok (with_property d (with_default v d.property))
completed goal.Sample v at d = Ok (with_property d (with_sample d.aim.time v d.property))

-- a value goes where it belongs once it is complete
abbrev pub after_token : Result OpenValue RefusalKind → ℕ → Draft → Acted
after_token (Err k) at d = Err (refused k at)
after_token (Ok v) at d = if is_open v then Ok (record d { value = v }) else completed d.aim.goal (value_in v) at (record d { value = no_value })

-- a token of the open value
unfoldable pub token_act : Word → Draft → Acted
token_act w d = after_token (given d.owner.said.base w.token w.text d.value) w.start d

-- a value is open, of which the aim says what is expected; that of `variants` is a dictionary of strings
abbrev pub with_value_begun : Draft → Draft
with_value_begun d = record d { value = opened d.aim.shape (is_selections d.aim.goal) }

-- the first token of a value
unfoldable pub first_act : Word → Draft → Acted
first_act w d = token_act w (with_value_begun d)
