-- Lines that add and remove layers, prims, variants and properties.
use Rattle.std.specs.Prelude.{ℕ, Bool, true, false, ◌==◌, if◌then◌else◌, List, codes, Option, Some, None}
use Rattle.std.specs.Cmp.Lexicographic.{pointwise}
use Rattle.edit_batches.specs.declared.op.Op.TheVariants as op
use Rattle.sdf_values.specs.TypeNames.{find_element}
use Rattle.sdf_values.specs.declared.type_name.ElementType.{ElementType}
use Rattle.sdf_values.specs.declared.type_name.TypeName.{TypeName}
use Rattle.sdf_values.specs.declared.type_name.TheConstants.{ELEMENTS}
use Rattle.spec_parts.specs.declared.items.Specifier.{Specifier}
use Rattle.spec_parts.specs.declared.items.Specifier.TheVariants.{Def, Over, Class}
use Rattle.script_words.specs.Answers.{◌>>=◌}
use Rattle.script_words.specs.Words.{name_at, text_at, layer_at, is_end, behind_word, flag_at}
use Rattle.script_lines.specs.Places.{target_at, changed}
use Rattle.script_lines.specs.declared.line.Line.{Line}

-- a new layer of this name, with the text that stands behind it, or none
unfoldable pub new_layer_of : List ℕ → List ℕ → Option Line
new_layer_of layer bytes = if is_end bytes then changed (op.NewLayer layer None) bytes else (text_at bytes >>= λ t. changed (op.NewLayer layer (Some t.0)) t.1)

-- `newlayer`: a layer, and its text or none
unfoldable pub new_layer_line : List ℕ → Option Line
new_layer_line bytes = layer_at bytes >>= λ l. new_layer_of l.0 l.1

-- the specifier of a word; any word but these three is none
unfoldable pub specifier_of : List ℕ → Option Specifier
specifier_of word =
    if pointwise ◌==◌ word (codes "def") then Some Def
    else if pointwise ◌==◌ word (codes "over") then Some Over
    else if pointwise ◌==◌ word (codes "class") then Some Class
    else None

-- a type of a prim or none, and what stands behind it
unfoldable pub prim_type_at : List ℕ → Option (Option (List ℕ) × List ℕ)
prim_type_at bytes = if is_end bytes then Some (None, bytes) else (name_at bytes >>= λ n. Some (Some n.0, n.1))

-- `spec`: a specifier, a layer, a path, and a type or none
unfoldable pub spec_line : List ℕ → Option Line
spec_line bytes =
    name_at bytes >>= λ w. specifier_of w.0 >>= λ specifier. target_at w.1 >>= λ t. prim_type_at t.2 >>= λ ty.
    changed (op.AddPrim t.0 t.1 specifier ty.0) ty.1

-- `variant`: a layer and a path
unfoldable pub variant_line : List ℕ → Option Line
variant_line bytes = target_at bytes >>= λ t. changed (op.AddVariant t.0 t.1) t.2

-- the type of such elements, or of arrays of them, where the element is known
abbrev pub type_of : Bool → Option ElementType → Option TypeName
type_of array None = None
type_of array (Some e) = Some (record { element = e; array = array })

-- whether a pair of brackets stands in front, and what stands behind it
unfoldable pub brackets_at : List ℕ → Option (Bool × List ℕ)
brackets_at bytes = elim (behind_word (codes "[") bytes) [
  | None ↦ Some (false, bytes)
  | Some inside ↦ behind_word (codes "]") inside >>= λ rest. Some (true, rest)
]

-- a type of attributes, if what is written is one, and what stands behind it
unfoldable pub type_at : List ℕ → Option (Option TypeName × List ℕ)
type_at bytes = name_at bytes >>= λ n. brackets_at n.1 >>= λ b. Some (type_of b.0 (find_element ELEMENTS n.0), b.1)

-- `attr`: a layer, a path, a type, and `custom` and `uniform` or not
unfoldable pub attribute_line : List ℕ → Option Line
attribute_line bytes =
    target_at bytes >>= λ t. type_at t.2 >>= λ ty.
    let custom = flag_at (codes "custom") ty.1 in let uniform = flag_at (codes "uniform") custom.1 in
    changed (op.AddAttribute t.0 t.1 ty.0 custom.0 uniform.0) uniform.1

-- `rel`: a layer, a path, and `custom` or not
unfoldable pub relationship_line : List ℕ → Option Line
relationship_line bytes = target_at bytes >>= λ t. let custom = flag_at (codes "custom") t.2 in changed (op.AddRelationship t.0 t.1 custom.0) custom.1

-- `remove`: a layer and a path
unfoldable pub remove_line : List ℕ → Option Line
remove_line bytes = target_at bytes >>= λ t. changed (op.Remove t.0 t.1) t.2
