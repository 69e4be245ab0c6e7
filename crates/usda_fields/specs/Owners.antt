-- What a prim or a variant says, as far as it is read.
use Rattle.std.specs.Prelude.{ℕ, true, false, ◌==◌, if◌then◌else◌, List, [], ◌∷◌, ◌++◌, codes, Result, Ok, Err}
use Rattle.std.specs.Cmp.Lexicographic.{pointwise}
use Rattle.sdf_paths.specs.Paths.{plain}
use Rattle.sdf_paths.specs.declared.element.Element.{Element}
use Rattle.sdf_values.specs.declared.refusal.RefusalKind.{RefusalKind}
use Rattle.sdf_values.specs.declared.refusal.RefusalKind.TheVariants.{DuplicateSpec}
use Rattle.sdf_values.specs.declared.value.Value.{Value}
use Rattle.spec_parts.specs.Blank.{blank_spec}
use Rattle.spec_parts.specs.declared.items.Specifier.{Specifier}
use Rattle.spec_properties.specs.Entries.{MetaEntries}
use Rattle.usda_lists.specs.Acts.{and_then}
use Rattle.usda_lists.specs.Edits.{none_given}
use Rattle.usda_fields.specs.Keys as keys
use Rattle.usda_fields.specs.Names.{text_of}
use Rattle.usda_fields.specs.declared.keys.KeyRule.{KeyRule}
use Rattle.usda_fields.specs.declared.owner.OrderWord.{OrderWord}
use Rattle.usda_fields.specs.declared.owner.OrderWord.TheVariants.{NameChildren, PropertyNames}
use Rattle.usda_fields.specs.declared.owner.OwnerMarks.{OwnerMarks}
use Rattle.usda_fields.specs.declared.owner.OwnerDraft.{OwnerDraft}

-- no list, no selections and no order have been given
abbrev pub no_marks : OwnerMarks
no_marks = record {
  inherits = none_given;
  specializes = none_given;
  references = none_given;
  payloads = none_given;
  variant_sets = none_given;
  api_schemas = none_given;
  clip_sets = none_given;
  variants = false;
  child_order = false;
  property_order = false;
}

-- an owner of which nothing is read yet
abbrev pub owner_at : List Element → Specifier → OwnerDraft
owner_at path specifier = record { path = path; base = plain path; spec = blank_spec specifier; given = no_marks }

-- the owner behind a token, or the kind of its refusal
abbrev pub Acted : Type 0
Acted = Result OwnerDraft RefusalKind

-- ---- metadata

-- the owner with this metadata
abbrev pub with_meta : MetaEntries → OwnerDraft → OwnerDraft
with_meta meta d = record d { spec = record d.spec { body = record d.spec.body { meta = meta } } }

-- a key of the owner, before its value
abbrev pub key_act : List ℕ → OwnerDraft → Result KeyRule RefusalKind
key_act key d = keys.key_act key d.spec.body.meta

-- the whole value of a key of the owner
abbrev pub value_act : List ℕ → Value → OwnerDraft → Acted
value_act key v d = and_then (keys.value_act key v d.spec.body.meta) (λ meta. Ok (with_meta meta d))

-- a string that stands alone among the metadata of the owner
abbrev pub comment_act : List ℕ → OwnerDraft → Acted
comment_act token d = and_then (keys.comment_act token d.spec.body.meta) (λ meta. Ok (with_meta meta d))

-- ---- the orders of children and of properties, in which repeats stay

-- `nameChildren`, or else `properties`
abbrev pub order_word : List ℕ → OrderWord
order_word word = if pointwise ◌==◌ word (codes "nameChildren") then NameChildren else PropertyNames

-- a statement of this word
abbrev pub order_act : OrderWord → OwnerDraft → Acted
order_act NameChildren d = if d.given.child_order then Err DuplicateSpec else Ok (record d { given = record d.given { child_order = true } })
order_act PropertyNames d = if d.given.property_order then Err DuplicateSpec else Ok (record d { given = record d.given { property_order = true } })

-- one name more in an order
abbrev pub push_ordered : OrderWord → List ℕ → OwnerDraft → OwnerDraft
push_ordered NameChildren name d = record d { spec = record d.spec { body = record d.spec.body { child_order = d.spec.body.child_order ++ name ∷ [] } } }
push_ordered PropertyNames name d = record d { spec = record d.spec { body = record d.spec.body { property_order = d.spec.body.property_order ++ name ∷ [] } } }

-- a name of such a statement, which may be any text
abbrev pub ordered_act : OrderWord → List ℕ → OwnerDraft → Acted
ordered_act word token d = and_then (text_of token) (λ name. Ok (push_ordered word name d))
