-- Statements of a prim or a variant on its properties, and its orders of names.
use Rattle.std.specs.Prelude.{ℕ, List, Ok, Err}
use Rattle.sdf_values.specs.declared.refusal.RefusalKind.TheVariants.{Spline}
use Rattle.usda_grammar.specs.declared.kinds.WordKind.{WordKind}
use Rattle.usda_grammar.specs.declared.kinds.WordKind.TheVariants as token
use Rattle.usda_grammar.specs.declared.kinds.Keyword.TheVariants as word
use Rattle.usda_lists.specs.Edits.{edit_of}
use Rattle.usda_lists.specs.declared.edit.ListEdit.TheVariants.{Explicit}
use Rattle.usda_statements.specs.Headings.{begun, with_custom, with_variability, as_relationship, with_type, with_brackets}
use Rattle.usda_statements.specs.PropertyDrafts.{default_act, samples_act, list_act}
use Rattle.usda_statements.specs.declared.heading.Heading.{Heading}
use Rattle.usda_statements.specs.declared.property.PropertyDraft.{PropertyDraft}
use Rattle.usda_words.specs.Words.{Word}
use Rattle.usda_drafts.specs.Refusals.{Acted, refused, then_with}
use Rattle.usda_drafts.specs.Owners.{property_for, with_place}
use Rattle.usda_drafts.specs.Prims.{specifier_act, with_statement_over}
use Rattle.usda_drafts.specs.Values.{aimed_at_default, time_act, with_property}
use Rattle.usda_drafts.specs.Metadata.{order_act}
use Rattle.usda_drafts.specs.declared.draft.OpenList.TheVariants as open_list
use Rattle.usda_drafts.specs.declared.draft.Draft.{Draft}

-- ---- the words before a property's name

-- the words before a property's name say this so far
abbrev pub headed : Heading → Draft → Draft
headed h d = record d { heading = h }

-- the type of an attribute; a word that names none is refused
unfoldable pub type_act : Word → Draft → Acted
type_act w d = then_with w.start (with_type w.text d.heading) (λ h. headed h d)

-- `rel`, or a type
unfoldable pub after_variability_act : WordKind → Word → Draft → Acted
after_variability_act (token.Word word.Rel) w d = Ok (headed (as_relationship d.heading) d)
after_variability_act k w d = type_act w d

-- the same, or `uniform` or `varying`
unfoldable pub after_custom_act : WordKind → Word → Draft → Acted
after_custom_act (token.Word word.Variability) w d = Ok (headed (with_variability w.text d.heading) d)
after_custom_act k w d = after_variability_act k w d

-- the same, or `custom`
unfoldable pub after_edit_act : WordKind → Word → Draft → Acted
after_edit_act (token.Word word.Custom) w d = Ok (headed (with_custom d.heading) d)
after_edit_act k w d = after_custom_act k w d

-- the same, or a field of names
unfoldable pub after_reorder_act : WordKind → Word → Draft → Acted
after_reorder_act (token.Word word.OrderedField) w d = order_act w d
after_reorder_act k w d = after_edit_act k w d

-- the first word of a statement: of a prim, a variant set, an order or edit of a list, or else of a property
unfoldable pub statement_act : WordKind → Word → Draft → Acted
statement_act (token.Word word.Specifier) w d = specifier_act w.text d
statement_act (token.Word word.VariantSet) w d = Ok d
statement_act (token.Word word.Edit) w d = Ok (headed (begun (edit_of w.text)) d)
statement_act (token.Word word.Reorder) w d = Ok (headed (begun (edit_of w.text)) d)
statement_act k w d = after_edit_act k w (headed (begun Explicit) d)

-- the first word of a statement: the one before is over
unfoldable pub body_act : Word → Draft → Acted
body_act w d = statement_act w.kind w (with_statement_over d)

-- brackets behind the type
unfoldable pub brackets_act : Draft → Acted
brackets_act d = Ok (headed (with_brackets d.heading) d)

-- ---- the name, and what stands behind it. Where one of a kind stands twice, the refusal is at the later name.

-- this property is in hand, and has its place among the properties of its owner
abbrev pub with_name : List ℕ → ℕ → Draft → PropertyDraft → Draft
with_name name at d p = record d { owner = with_place name d.owner; property = p; name_at = at }

-- the name of a property; a further statement on it is of the same kind and type
unfoldable pub name_act : Word → Draft → Acted
name_act w d = then_with w.start (property_for d.heading w.text d.owner) (with_name w.text w.start d)

-- a default, which an attribute has once
unfoldable pub default_begun : Draft → Acted
default_begun d = then_with d.name_at (default_act d.property) (λ p. aimed_at_default (with_property d p))

-- the samples, which an attribute has once
unfoldable pub samples_begun : Draft → Acted
samples_begun d = then_with d.name_at (samples_act d.property) (with_property d)

-- a list of connections or targets: the explicit one, or one for each edit word, and each once
unfoldable pub list_begun : Draft → Acted
list_begun d = then_with d.name_at (list_act d.property) (λ p. record (with_property d p) { list = open_list.Property })

-- the `=` of a default; metadata, samples and connections need none
unfoldable pub tail_act : WordKind → Draft → Acted
tail_act token.Equals d = default_begun d
tail_act k d = Ok d

-- the word behind the `.`
unfoldable pub dot_act : WordKind → ℕ → Draft → Acted
dot_act (token.Word word.TimeSamples) at d = samples_begun d
dot_act (token.Word word.Connect) at d = list_begun d
dot_act k at d = Err (refused Spline at)

-- the time of a sample, or the end of the samples
unfoldable pub sample_act : WordKind → Word → Draft → Acted
sample_act token.Number w d = time_act w.text w.start d
sample_act k w d = Ok d
