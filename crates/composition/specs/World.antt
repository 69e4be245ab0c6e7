-- A world of layers, as composition sees it: by look-ups alone.
-- docs/COMPOSITION.md, 'The world'.
pub use Rattle.prim_view.specs.declared.stack_name.StackName.{StackName}
pub use Rattle.prim_view.specs.declared.stack_name.StackName.TheVariants.{Root, Asset}
use Rattle.std.specs.Prelude.{◌==◌, ℤ, pos, negsuc, int_le, Bool, true, false, List, [], ◌∷◌, Option, Some, None}
use Rattle.spec_properties.specs.Entries.{MetaEntries}
use Rattle.spec_parts.specs.declared.items.Refusal.{Refusal}
use Rattle.spec_parts.specs.declared.items.SubLayer.{SubLayer}
use Rattle.spec_parts.specs.declared.spec.Spec.{Spec}
use Rattle.sdf_paths.specs.Reader.{path_of}
use Rattle.sdf_values.specs.Scales.{Offset}
pub use Rattle.sdf_values.specs.Scales.{identity}
use Rattle.composition.specs.Texts.{Text, same_text, first_of, both}
use Rattle.composition.specs.Paths.{Path, up, levels_of}

-- a scale from 1 to a million, an offset within a thousand million of 0
abbrev pub in_range : Offset → Bool
in_range a = both (int_le (negsuc 999999999) a.offset) (both (int_le a.offset (pos 1000000000)) (both (int_le (pos 1) a.scale) (int_le a.scale (pos 1000000))))

-- the numbers are one
abbrev pub same_number : ℤ → ℤ → Bool
same_number a b = both (int_le a b) (int_le b a)

-- the offsets are one: the same shift of times and the same scale
abbrev pub same_offset : Offset → Offset → Bool
same_offset a b = both (same_number a.offset b.offset) (same_number a.scale b.scale)

-- a layer's head, without the names of its root prims
pub record LayerHead : Type 0 where
  pub sublayers : List SubLayer
  pub default_prim : Option Text
  pub meta : MetaEntries

-- the names of a layer's root prims, and the reorder of them
pub record RootNames : Type 0 where
  pub names : List Text
  pub order : List Text

-- what composition sees of a layer's name without looking at specs: a layer, none, or one that was refused
pub data Heading : Type 0 where
  headed : LayerHead → Heading
  no_layer : Heading
  refused : Refusal → Heading

-- The names of the root and the session layer, and what stands in the world: at each name of a layer its heading and the names of
-- its root prims, at each path of a layer its spec, and at each path of the stage its load rule.
pub record World : Type 0 where
  pub root : Text
  pub session : Option Text
  pub heading : Text → Heading
  pub roots : Text → Option RootNames
  pub spec : Text → Path → Option Spec
  pub rule : Path → Option Bool

-- the stacks have one name
abbrev pub same_stack : StackName → StackName → Bool
same_stack Root Root = true
same_stack Root (Asset b) = false
same_stack (Asset a) Root = false
same_stack (Asset a) (Asset b) = same_text a b

-- the layer that a stack is named for
abbrev pub first_layer : World → StackName → Text
first_layer w Root = w.root
first_layer w (Asset name) = name

-- the stack of a layer's name: without a session layer the root's name means `Root`
abbrev pub stack_of : World → Text → StackName
stack_of w name = elim w.session [
  | Some s ↦ Asset name
  | None ↦ elim (same_text name w.root) [ true ↦ Root | false ↦ Asset name ]
]

-- what a load rule says; without one a prim is loaded
abbrev pub rule_or_loaded : Option Bool → Bool
rule_or_loaded (Some b) = b
rule_or_loaded None = true

-- the nearest rule on the prim or an ancestor decides; without one it is loaded
abbrev pub is_loaded : World → Path → Bool
is_loaded w p = rule_or_loaded (first_of (λ j. w.rule (up p j)) (levels_of p))

-- the text begins with `/`
abbrev pub is_absolute : Text → Bool
is_absolute [] = false
is_absolute (c ∷ t) = c == 47

-- what a default prim's text names: an absolute path, or a root prim by its name
abbrev pub default_target : Text → Option Path
default_target text = elim (is_absolute text) [ true ↦ path_of text | false ↦ path_of (47 ∷ text) ]
