-- The keys of metadata: what each expects, and where its value goes.
use Rattle.std.specs.Prelude.{ℕ, Bool, false, ◌==◌, ◌||◌, if◌then◌else◌, List, length, slice_get, ◌-◌, codes, Option, Some, None, Result, Ok, Err}
use Rattle.std.specs.Option.{is_some}
use Rattle.std.specs.Cmp.Lexicographic.{pointwise}
use Rattle.sdf_paths.specs.Order.{text_cmp}
use Rattle.sdf_paths.specs.Paths.{is_prim_name}
use Rattle.sdf_paths.specs.declared.element.Element.{Element}
use Rattle.sdf_values.specs.Conforms.{one}
use Rattle.sdf_values.specs.declared.refusal.RefusalKind.{RefusalKind}
use Rattle.sdf_values.specs.declared.refusal.RefusalKind.TheVariants as refusal
use Rattle.sdf_values.specs.declared.type_name.ElementType.TheVariants as element
use Rattle.sdf_values.specs.declared.value.Value.{Value}
use Rattle.sdf_values.specs.declared.value.Value.TheVariants as value
use Rattle.spec_properties.specs.Entries.{MetaEntries}
use Rattle.spec_tables.specs.Tables.{at_key, with_key}
use Rattle.usd_names.specs.Names.{is_identifier}
use Rattle.usda_values.specs.declared.shape.Shape.{Shape}
use Rattle.usda_values.specs.declared.shape.Shape.TheVariants.{Metadata, Typed}
use Rattle.usda_lists.specs.Acts.{and_then}
use Rattle.usda_lists.specs.Paths.{path_of}
use Rattle.usda_fields.specs.Names.{text_of}
use Rattle.usda_fields.specs.declared.keys.KeyRule.{KeyRule}
use Rattle.usda_fields.specs.declared.keys.KeyRule.TheVariants.{Relocates, Comment, Boolean, DefaultPrim, Free}

-- the key of a string that stands alone
abbrev pub comment_key : List ℕ
comment_key = codes "comment"

-- the keys whose values are `true`, `false`, 1 or 0
abbrev pub is_boolean_key : List ℕ → Bool
is_boolean_key key = pointwise ◌==◌ key (codes "active") || (pointwise ◌==◌ key (codes "hidden") || pointwise ◌==◌ key (codes "instanceable"))

-- the rule of a key; it is the same in the head of a layer, on prims and variants, and on properties
abbrev pub key_rule : List ℕ → KeyRule
key_rule key =
    if pointwise ◌==◌ key (codes "relocates") then Relocates
    else if pointwise ◌==◌ key (codes "comment") then Comment
    else if is_boolean_key key then Boolean
    else if pointwise ◌==◌ key (codes "defaultPrim") then DefaultPrim
    else Free

-- what the tokens of the value are to be
abbrev pub rule_shape : KeyRule → Shape
rule_shape Relocates = Metadata
rule_shape Comment = Typed (one element.String)
rule_shape Boolean = Typed (one element.Bool)
rule_shape DefaultPrim = Typed (one element.String)
rule_shape Free = Metadata

-- the path of a prim: its last element is a prim's name
abbrev pub ends_in_prim : Option Element → Bool
ends_in_prim None = false
ends_in_prim (Some e) = is_prim_name e

-- what was read is the path of a prim; `/` is none
abbrev pub is_prim_path : Option (List Element) → Bool
is_prim_path None = false
is_prim_path (Some path) = ends_in_prim (slice_get path (length path - 1))

-- an identifier, or the path of a prim from the root down, whether the prim is there or not
abbrev pub is_default_prim : List ℕ → Bool
is_default_prim text = is_identifier text || is_prim_path (path_of text)

-- the value of `defaultPrim`; a text that is neither an identifier nor the path of a prim from the root down is refused
abbrev pub judged_prim : List ℕ → Result Value RefusalKind
judged_prim text = if is_default_prim text then Ok (value.Text text) else Err refusal.ValueShape

-- the whole value, where the key takes it
abbrev pub judged : KeyRule → Value → Result Value RefusalKind
judged Comment (value.Text text) = Ok (value.Text text)
judged Boolean (value.Bool b) = Ok (value.Bool b)
judged DefaultPrim (value.Text text) = judged_prim text
judged Free v = Ok v
judged rule v = Err refusal.ValueShape

-- ---- the metadata of an owner

-- the key stands among those of the owner
abbrev pub has_key : List ℕ → MetaEntries → Bool
has_key key meta = is_some (at_key text_cmp key meta)

-- `relocates` is refused before it is asked whether the key stands twice
abbrev pub unless_taken : Bool → KeyRule → Result KeyRule RefusalKind
unless_taken taken Relocates = Err refusal.Relocates
unless_taken taken rule = if taken then Err refusal.DuplicateSpec else Ok rule

-- a key, before its value
abbrev pub key_act : List ℕ → MetaEntries → Result KeyRule RefusalKind
key_act key meta = unless_taken (has_key key meta) (key_rule key)

-- the whole value of a key
abbrev pub value_act : List ℕ → Value → MetaEntries → Result MetaEntries RefusalKind
value_act key v meta = and_then (judged (key_rule key) v) (λ v. Ok (with_key text_cmp key v meta))

-- a string that stands alone is the value of the key `comment`
abbrev pub comment_act : List ℕ → MetaEntries → Result MetaEntries RefusalKind
comment_act token meta =
    and_then (text_of token) (λ text. if has_key comment_key meta then Err refusal.DuplicateSpec else Ok (with_key text_cmp comment_key (value.Text text) meta))
