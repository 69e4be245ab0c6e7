-- Lines of metadata, selections, orders and load rules.
use Rattle.std.specs.Prelude.{ℕ, Bool, ◌||◌, if◌then◌else◌, List, [], codes, Option, Some, None}
use Rattle.edit_batches.specs.declared.op.Op.TheVariants as op
use Rattle.usd_names.specs.Names.{is_identifier}
use Rattle.usda_lists.specs.References.{same_text}
use Rattle.usda_fields.specs.declared.owner.OrderWord.{OrderWord}
use Rattle.usda_fields.specs.declared.owner.OrderWord.TheVariants.{NameChildren, PropertyNames}
use Rattle.script_words.specs.Answers.{◌>>=◌}
use Rattle.script_words.specs.Lists.{list_in, texts_of}
use Rattle.script_words.specs.declared.items.ListItems.TheVariants.{Texts}
use Rattle.script_words.specs.declared.place.ListPlace.TheVariants as place
use Rattle.script_words.specs.Values.{value_in}
use Rattle.script_words.specs.Words.{name_at, text_at, path_at, behind_word}
use Rattle.script_lines.specs.Places.{target_at, prim_base, changed}
use Rattle.script_lines.specs.declared.line.Line.{Line}
use Rattle.script_lines.specs.declared.line.Line.TheVariants.{Change}

-- ---- metadata

-- the word of a field whose items are paths
abbrev pub is_path_field : List ℕ → Bool
is_path_field word = same_text word (codes "inherits") || same_text word (codes "specializes")

-- the word of a field whose items are references
abbrev pub is_reference_field : List ℕ → Bool
is_reference_field word = same_text word (codes "references") || same_text word (codes "payload")

-- the word of a field whose items are texts
abbrev pub is_text_field : List ℕ → Bool
is_text_field word = same_text word (codes "variantSets") || (same_text word (codes "apiSchemas") || same_text word (codes "clipSets"))

-- words that a layer's text gives another meaning, so that they are no keys
unfoldable pub is_no_key : List ℕ → Bool
is_no_key word =
    is_path_field word || (is_reference_field word || (is_text_field word
    || (same_text word (codes "variants") || (same_text word (codes "subLayers") || same_text word (codes "relocates")))))

-- a key and what stands behind it
unfoldable pub key_at : List ℕ → Option (List ℕ × List ℕ)
key_at bytes = name_at bytes >>= λ n. if is_no_key n.0 then None else Some n

-- `meta`: a layer, a path, a key, `=` and a value
unfoldable pub meta_line : List ℕ → Option Line
meta_line bytes =
    target_at bytes >>= λ t. key_at t.2 >>= λ key. behind_word (codes "=") key.1 >>= λ rest. value_in (prim_base t.1) rest >>= λ value.
    Some (Change (op.SetMeta t.0 t.1 key.0 value))

-- `unmeta`: a layer, a path and any name
unfoldable pub unmeta_line : List ℕ → Option Line
unmeta_line bytes = target_at bytes >>= λ t. name_at t.2 >>= λ key. changed (op.ClearMeta t.0 t.1 key.0) key.1

-- ---- selections

-- the name of a variant set and what stands behind it
unfoldable pub set_at : List ℕ → Option (List ℕ × List ℕ)
set_at bytes = name_at bytes >>= λ n. if is_identifier n.0 then Some n else None

-- `select`: a layer, a path, a variant set, `=` and a variant
unfoldable pub select_line : List ℕ → Option Line
select_line bytes =
    target_at bytes >>= λ t. set_at t.2 >>= λ set. behind_word (codes "=") set.1 >>= λ rest. text_at rest >>= λ variant.
    changed (op.Select t.0 t.1 set.0 variant.0) variant.1

-- `unselect`: a layer, a path and a variant set
unfoldable pub unselect_line : List ℕ → Option Line
unselect_line bytes = target_at bytes >>= λ t. set_at t.2 >>= λ set. changed (op.Unselect t.0 t.1 set.0) set.1

-- ---- orders

-- `nameChildren` orders children, `properties` properties, and no other word orders
unfoldable pub order_of : List ℕ → Option OrderWord
order_of word = if same_text word (codes "nameChildren") then Some NameChildren else if same_text word (codes "properties") then Some PropertyNames else None

-- names in brackets, in which repeats stay
unfoldable pub names_in : List ℕ → Option (List (List ℕ))
names_in bytes = list_in [] place.Bracket (Texts []) bytes >>= λ list. texts_of list

-- `order`: a layer, a path, what is ordered, `=` and names
unfoldable pub order_line : List ℕ → Option Line
order_line bytes =
    target_at bytes >>= λ t. name_at t.2 >>= λ n. order_of n.0 >>= λ word. behind_word (codes "=") n.1 >>= λ rest. names_in rest >>= λ names.
    Some (Change (op.SetOrder t.0 t.1 word names))

-- ---- load rules

-- `load`: a path
unfoldable pub load_line : List ℕ → Option Line
load_line bytes = path_at bytes >>= λ p. changed (op.Load p.0) p.1

-- `unload`: a path
unfoldable pub unload_line : List ℕ → Option Line
unload_line bytes = path_at bytes >>= λ p. changed (op.Unload p.0) p.1

-- `unrule`: a path
unfoldable pub unrule_line : List ℕ → Option Line
unrule_line bytes = path_at bytes >>= λ p. changed (op.Unrule p.0) p.1
