-- The variants that an owner selects: a dictionary of strings, one for each set.
use Rattle.std.specs.Prelude.{ℕ, Bool, true, false, if◌then◌else◌, List, [], ◌∷◌, Option, Some, None, Result, Ok, Err}
use Rattle.sdf_paths.specs.Order.{text_cmp}
use Rattle.sdf_values.specs.declared.refusal.RefusalKind.{RefusalKind}
use Rattle.sdf_values.specs.declared.refusal.RefusalKind.TheVariants.{ValueShape, DuplicateSpec}
use Rattle.sdf_values.specs.declared.type_name.ElementType.{ElementType}
use Rattle.sdf_values.specs.declared.type_name.ElementType.TheVariants as element
use Rattle.sdf_values.specs.declared.value.DictItem.{DictItem}
use Rattle.sdf_values.specs.declared.value.DictType.{DictType}
use Rattle.sdf_values.specs.declared.value.DictType.TheVariants.{Plain, Dictionary}
use Rattle.sdf_values.specs.declared.value.Value.{Value, fold-Value}
use Rattle.sdf_values.specs.declared.value.Value.TheOpen.{Value-F, DictItem-F}
use Rattle.spec_properties.specs.Entries.{SelectionEntries}
use Rattle.spec_tables.specs.Tables.{with_key}
use Rattle.usda_lexer.specs.declared.token.TokenKind.{TokenKind}
use Rattle.usda_values.specs.Drafts as drafts
use Rattle.usda_values.specs.declared.draft.ValueDraft.{ValueDraft}
use Rattle.usda_values.specs.declared.level.Place.{Place}
use Rattle.usda_values.specs.declared.level.Place.TheVariants as place
use Rattle.usda_lists.specs.Acts.{and_then}
use Rattle.usda_fields.specs.Owners.{Acted}
use Rattle.usda_fields.specs.declared.owner.OwnerDraft.{OwnerDraft}

-- a type has been read, and no key behind it
abbrev pub is_behind_type : Place → Bool
is_behind_type place.BehindType = true
is_behind_type place.TypeEnd = true
is_behind_type place.Key = true
is_behind_type p = false

-- the type `string`; `token` is another type
abbrev pub is_string_element : ElementType → Bool
is_string_element element.String = true
is_string_element e = false

-- the type `string`; arrays of strings are another type
abbrev pub is_string : DictType → Bool
is_string Dictionary = false
is_string (Plain t) = if t.array then false else is_string_element t.element

-- no other type than `string` may stand there
abbrev pub of_strings : ValueDraft → Result ValueDraft RefusalKind
of_strings d = if is_behind_type d.place then (if is_string d.level.ty then Ok d else Err ValueShape) else Ok d

-- a token of the dictionary
abbrev pub token_act : TokenKind → List ℕ → ValueDraft → Result ValueDraft RefusalKind
token_act kind text d = and_then (drafts.value_act kind text d) of_strings

-- what a value says of variants: the text that it is, and the sets and variants of its entries
pub record Said : Type 0 where
  pub text : Option (List ℕ)
  pub entries : List (List ℕ × Option (List ℕ))

-- a string says the text that it is, a dictionary its entries, and any other value nothing
abbrev pub said_step : Value-F Said (List ℕ × Option (List ℕ)) → Said
said_step (Value-F.Text text) = record { text = Some text; entries = [] }
said_step (Value-F.Dict entries) = record { text = None; entries = entries }
said_step v = record { text = None; entries = [] }

-- the set of an entry, and its variant where the value is a string
abbrev pub said_item : DictItem-F Said (List ℕ × Option (List ℕ)) → List ℕ × Option (List ℕ)
said_item item = (item.key, item.value.text)

-- what a whole value says of variants
abbrev pub said : Value → Said
said v = fold-Value Said (List ℕ × Option (List ℕ)) said_step said_item v

-- the variant of a set; where the value of the entry is no string, nothing is selected
abbrev pub with_selection : List ℕ → Option (List ℕ) → SelectionEntries → SelectionEntries
with_selection set None selections = selections
with_selection set (Some variant) selections = with_key text_cmp set variant selections

-- the selections of all entries, one for each set
abbrev pub with_selections : List (List ℕ × Option (List ℕ)) → SelectionEntries → SelectionEntries
with_selections [] selections = selections
with_selections (e ∷ entries) selections = with_selections entries (with_selection e.0 e.1 selections)

-- the selections of the whole dictionary
abbrev pub selections_of : Value → SelectionEntries
selections_of v = with_selections (said v).entries []

-- the set and the variant of an entry
abbrev pub entry_of : DictItem → List ℕ × Option (List ℕ)
entry_of item = (item.key, (said item.value).text)

-- the word `variants`
abbrev pub variants_act : OwnerDraft → Acted
variants_act d = if d.given.variants then Err DuplicateSpec else Ok (record d { given = record d.given { variants = true } })

-- the owner selects what the whole dictionary says
abbrev pub selections_act : Value → OwnerDraft → OwnerDraft
selections_act v d = record d { spec = record d.spec { arcs = record d.spec.arcs { selections = selections_of v } } }
