-- The value that is being read, if one is: each token of it goes to its draft, and a path in it is first put behind its owner's.
use Rattle.std.specs.Prelude.{ℕ, Bool, true, false, not, List, Option, Some, None, Result, Ok, Err}
use Rattle.sdf_paths.specs.declared.element.Element.{Element}
use Rattle.sdf_values.specs.declared.refusal.RefusalKind.{RefusalKind}
use Rattle.sdf_values.specs.declared.refusal.RefusalKind.TheVariants.{Syntax}
use Rattle.sdf_values.specs.declared.value.Value.{Value}
use Rattle.usda_lexer.specs.declared.token.TokenKind.{TokenKind}
use Rattle.usda_lexer.specs.declared.token.TokenKind.TheVariants as form
use Rattle.usda_lexer.specs.Meanings.{path_text}
use Rattle.usda_values.specs.declared.level.Place.TheVariants as place
use Rattle.usda_values.specs.declared.shape.Shape.{Shape}
use Rattle.usda_values.specs.declared.shape.Shape.TheVariants.{Untyped}
use Rattle.usda_values.specs.declared.draft.ValueDraft.{ValueDraft}
use Rattle.usda_values.specs.Drafts.{Acted, draft_of, value_act, value_of, is_complete}
use Rattle.usda_fields.specs.Variants.{token_act}
use Rattle.usda_lists.specs.Paths.{absolute_from}
use Rattle.usda_statements.specs.declared.open_value.OpenValue.{OpenValue}

-- no value is open
abbrev pub no_draft : ValueDraft
no_draft = draft_of place.Complete Untyped

-- no value is open, and no selections are expected
abbrev pub no_value : OpenValue
no_value = record { draft = no_draft; only_strings = false }

-- the value is not read to its end
abbrev pub is_open : OpenValue → Bool
is_open v = not (is_complete v.draft)

-- a value of which this is expected, or a dictionary of selections
abbrev pub opened : Shape → Bool → OpenValue
opened shape only_strings = record { draft = draft_of place.Value shape; only_strings = only_strings }

-- a token of the value; the entries of a dictionary of selections are strings
abbrev pub given_token : Bool → TokenKind → List ℕ → ValueDraft → Acted
given_token true k text d = token_act k text d
given_token false k text d = value_act k text d

-- a path of the value, once it is put behind its owner's; one that is no path there is refused
abbrev pub given_path : Bool → Option (List ℕ) → ValueDraft → Acted
given_path only_strings None d = Err Syntax
given_path only_strings (Some token) d = given_token only_strings form.Path token d

-- the same, where this is the plain path of the prim that owns the statement: a path is put behind it first
abbrev pub given_in : List Element → Bool → TokenKind → List ℕ → ValueDraft → Acted
given_in base only_strings form.Path text d = given_path only_strings (absolute_from base (path_text text)) d
given_in base only_strings k text d = given_token only_strings k text d

-- the open value behind a token, or the refusal of the token
abbrev pub with_draft : OpenValue → Acted → Result OpenValue RefusalKind
with_draft v (Err k) = Err k
with_draft v (Ok d) = Ok (record v { draft = d })

-- what a token makes of the open value
abbrev pub given : List Element → TokenKind → List ℕ → OpenValue → Result OpenValue RefusalKind
given base k text v = with_draft v (given_in base v.only_strings k text v.draft)

-- the value that was read to its end
abbrev pub value_in : OpenValue → Value
value_in v = value_of v.draft
