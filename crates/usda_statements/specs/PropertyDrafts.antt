-- A property to which statements add: what is said of it so far, and what may be said once and was.
use Rattle.std.specs.Prelude.{ℕ, ℤ, Bool, true, false, not, ◌&&◌, ◌||◌, ◌==◌, List, [], ◌∷◌, Option, Some, None, is_some, Result, Ok, Err, if◌then◌else◌}
use Rattle.std.specs.Cmp.Lexicographic.{pointwise}
use Rattle.std.specs.Ordering.{int_cmp}
use Rattle.sdf_paths.specs.declared.element.Element.{Element}
use Rattle.sdf_values.specs.TypeNames.{element_name}
use Rattle.sdf_values.specs.declared.refusal.RefusalKind.{RefusalKind}
use Rattle.sdf_values.specs.declared.refusal.RefusalKind.TheVariants.{Syntax, DuplicateSpec}
use Rattle.sdf_values.specs.declared.type_name.TypeName.{TypeName}
use Rattle.sdf_values.specs.declared.value.Value.{Value}
use Rattle.list_ops.specs.Blank.{no_edits}
use Rattle.spec_properties.specs.Entries.{MetaEntries}
use Rattle.spec_tables.specs.Tables.{with_key}
use Rattle.spec_properties.specs.declared.property.Property.{Property}
use Rattle.spec_properties.specs.declared.property.Property.TheVariants.{Attr, Rel}
use Rattle.usda_fields.specs.Keys.{key_act, value_act, comment_act}
use Rattle.usda_fields.specs.declared.keys.KeyRule.{KeyRule}
use Rattle.usda_lexer.specs.Meanings.{path_text}
use Rattle.usda_lists.specs.Acts.{and_then}
use Rattle.usda_lists.specs.Paths.{target_from}
use Rattle.usda_lists.specs.References.{same_path}
use Rattle.usda_lists.specs.Edits.{none_given, give}
use Rattle.usda_lists.specs.Lists.{open_list, push_item, close_list}
use Rattle.usda_lists.specs.declared.edit.ListEdit.TheVariants.{Explicit}
use Rattle.usda_statements.specs.declared.heading.Heading.{Heading}
use Rattle.usda_statements.specs.declared.property.PropertyMarks.{PropertyMarks}
use Rattle.usda_statements.specs.declared.property.PropertyDraft.{PropertyDraft}

-- no samples and no list have been given
abbrev pub no_marks : PropertyMarks
no_marks = record { sampled = false; lists = none_given }

-- no property is in hand
abbrev pub no_property : PropertyDraft
no_property = record { name = []; edit = Explicit; ty = None; custom = false; uniform = false; default = None; samples = []; paths = no_edits; meta = []; marks = no_marks }

-- the name is not empty
abbrev pub is_named : List ℕ → Bool
is_named [] = false
is_named (c ∷ cs) = true

-- a property is in hand: no property has the empty name
abbrev pub is_in_hand : PropertyDraft → Bool
is_in_hand p = is_named p.name

-- the first statement on a property
abbrev pub new_property : Heading → List ℕ → PropertyDraft
new_property h name = record no_property { name = name; edit = h.edit; ty = h.ty; custom = h.custom; uniform = h.uniform }

-- two types are one: each has one name
abbrev pub same_type : TypeName → TypeName → Bool
same_type a b = pointwise ◌==◌ (element_name a.element) (element_name b.element) && (if a.array then b.array else not b.array)

-- the words before the name say an attribute of this type
abbrev pub is_attribute_of : TypeName → Option TypeName → Bool
is_attribute_of t None = false
is_attribute_of t (Some u) = same_type t u

-- A further statement on a property, which was this so far: it has to be of the same kind and type. Flags hold where one
-- statement says so.
abbrev pub joined_to : Heading → PropertyMarks → Property → Result PropertyDraft RefusalKind
joined_to h marks (Attr name ty custom uniform default samples connections meta) =
    if is_attribute_of ty h.ty
    then Ok (record { name = name; edit = h.edit; ty = Some ty; custom = custom || h.custom; uniform = uniform || h.uniform; default = default; samples = samples; paths = connections; meta = meta; marks = marks })
    else Err DuplicateSpec
joined_to h marks (Rel name custom targets meta) =
    if is_some h.ty
    then Err DuplicateSpec
    else Ok (record { name = name; edit = h.edit; ty = None; custom = custom || h.custom; uniform = false; default = None; samples = []; paths = targets; meta = meta; marks = marks })

-- a statement on the property of a name, of which nothing is said so far, or this
abbrev pub joined : Heading → List ℕ → PropertyMarks → Option Property → Result PropertyDraft RefusalKind
joined h name marks None = Ok (new_property h name)
joined h name marks (Some p) = joined_to h marks p

-- with a type it is an attribute, without one a relationship
abbrev pub property_of_type : Option TypeName → PropertyDraft → Property
property_of_type (Some ty) p = Attr p.name ty p.custom p.uniform p.default p.samples p.paths p.meta
property_of_type None p = Rel p.name p.custom p.paths p.meta

-- the property that the statements make
abbrev pub property_of : PropertyDraft → Property
property_of p = property_of_type p.ty p

-- the property behind a token, or the kind of its refusal
abbrev pub Acted : Type 0
Acted = Result PropertyDraft RefusalKind

-- the `=` of a default
abbrev pub default_act : PropertyDraft → Acted
default_act p = if is_some p.default then Err DuplicateSpec else Ok p

-- the attribute with this default
abbrev pub with_default : Value → PropertyDraft → PropertyDraft
with_default v p = record p { default = Some v }

-- the word `timeSamples`
abbrev pub samples_act : PropertyDraft → Acted
samples_act p = if p.marks.sampled then Err DuplicateSpec else Ok (record p { marks = record p.marks { sampled = true } })

-- a later sample of the same time replaces the earlier
abbrev pub with_sample : ℤ → Value → PropertyDraft → PropertyDraft
with_sample time v p = record p { samples = with_key int_cmp time v p.samples }

-- a list of targets or of connections is given, by the edit word of the statement
abbrev pub list_act : PropertyDraft → Acted
list_act p = and_then (give p.edit p.marks.lists) (λ lists. Ok (record p { paths = open_list p.edit p.paths; marks = record p.marks { lists = lists } }))

-- one target or connection more; a text that is no path is refused
abbrev pub with_path : Option (List Element) → PropertyDraft → Acted
with_path None p = Err Syntax
with_path (Some path) p = Ok (record p { paths = push_item p.edit path p.paths })

-- a path token, whose selections are dropped
abbrev pub path_act : List Element → List ℕ → PropertyDraft → Acted
path_act base token p = with_path (target_from base (path_text token)) p

-- repeats after the first are dropped
abbrev pub with_list_closed : PropertyDraft → PropertyDraft
with_list_closed p = record p { paths = close_list same_path p.edit p.paths }

-- ---- metadata

-- the property with this metadata
abbrev pub with_meta : MetaEntries → PropertyDraft → PropertyDraft
with_meta meta p = record p { meta = meta }

-- a string that stands alone
abbrev pub meta_comment_act : List ℕ → PropertyDraft → Acted
meta_comment_act token p = and_then (comment_act token p.meta) (λ meta. Ok (with_meta meta p))

-- a key, before its value
abbrev pub meta_key_act : List ℕ → PropertyDraft → Result KeyRule RefusalKind
meta_key_act key p = key_act key p.meta

-- the whole value of a key
abbrev pub meta_act : List ℕ → Value → PropertyDraft → Acted
meta_act key v p = and_then (value_act key v p.meta) (λ meta. Ok (with_meta meta p))
