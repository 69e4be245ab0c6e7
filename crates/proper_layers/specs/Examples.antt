-- Layers that are proper, and some that are not.
use Rattle.std.specs.Prelude.{ℕ, true, false, List, [], ◌∷◌, codes, Some}
use Rattle.sdf_paths.specs.declared.element.Element.TheVariants.{Prim, Property, Selection}
use Rattle.sdf_specs.specs.Layers.{LayerTable}
use Rattle.sdf_values.specs.Conforms.{one}
use Rattle.sdf_values.specs.declared.type_name.ElementType.TheVariants.{String}
use Rattle.sdf_values.specs.declared.value.Value.{Value}
use Rattle.sdf_values.specs.declared.value.Value.TheVariants as value
use Rattle.spec_parts.specs.Blank.{blank_body, blank_head, blank_spec, no_edits}
use Rattle.spec_parts.specs.declared.items.Specifier.TheVariants.{Over}
use Rattle.spec_parts.specs.declared.spec.Spec.{Spec}
use Rattle.spec_properties.specs.declared.property.Property.TheVariants.{Attr}
use Rattle.usda_reader.specs.Texts.{IsText}
use Rattle.layer_texts.specs.Examples.{small}
use Rattle.text_checks.specs.Examples.{other_bytes}
use Rattle.proper_layers.specs.Proper.{IsProper}

-- over "A" { variantSet "s" = { } }
abbrev pub hollow_spec : Spec
hollow_spec = record (blank_spec Over) { body = record (blank_body Over) { variant_names = record { set = codes "s"; variants = [] } ∷ [] } }

-- a layer of one prim
abbrev pub of_prim : Spec → LayerTable
of_prim spec = record { head = record blank_head { root_names = codes "A" ∷ [] }; specs = (Prim (codes "A") ∷ [], spec) ∷ [] }

-- a layer of this one prim
abbrev pub hollow : LayerTable
hollow = of_prim hollow_spec

-- a text that says it
abbrev pub hollow_text : List ℕ
hollow_text = codes "#usda 1.0\n\nover \"A\"\n{\n    variantSet \"s\" = {\n    }\n}\n"

-- the same layer with other names of root prims
abbrev pub naming : List (List ℕ) → LayerTable
naming names = record hollow { head = record blank_head { root_names = names } }

-- a variant without its prim
abbrev pub orphan : LayerTable
orphan = record { head = blank_head; specs = (Prim (codes "A") ∷ Selection (codes "s") (codes "x") ∷ [], blank_spec Over) ∷ [] }

-- a spec at a property's path
abbrev pub misplaced : LayerTable
misplaced = record hollow { specs = (Prim (codes "A") ∷ [], hollow_spec) ∷ (Prim (codes "A") ∷ Property (codes "p") ∷ [], blank_spec Over) ∷ [] }

-- a prim with one attribute of strings, `p`, that has this default
abbrev pub having : Value → LayerTable
having v = of_prim (record (blank_spec Over) { body = record (blank_body Over) { properties = Attr (codes "p") (one String) false false (Some v) [] no_edits [] ∷ [] } })

-- a prim with one key
abbrev pub saying : List ℕ → Value → LayerTable
saying key v = of_prim (record (blank_spec Over) { body = record (blank_body Over) { meta = (key, v) ∷ [] } })

-- the key is an edit word
abbrev pub adding : LayerTable
adding = saying (codes "add") (value.Word (codes "x"))

-- a text that says it
abbrev pub adding_text : List ℕ
adding_text = codes "#usda 1.0\n\nover \"A\" (\n    add = x\n)\n{\n}\n"

-- layers that are proper, one with an empty variant set and one with an edit word as a key among them, and layers that are not
pub record ProperExamples : Type 0 where
  pub small_proper : IsProper small
  pub hollow_proper : IsProper hollow
  pub hollow_said : IsText hollow_text hollow
  pub adding_proper : IsProper adding
  pub adding_said : IsText adding_text adding
  -- names and paths
  pub missing_name : IsProper (naming []) → ⊥
  pub name_twice : IsProper (naming (codes "A" ∷ codes "A" ∷ [])) → ⊥
  pub name_without_spec : IsProper (naming (codes "A" ∷ codes "B" ∷ [])) → ⊥
  pub no_owner : IsProper orphan → ⊥
  pub no_place : IsProper misplaced → ⊥
  -- a default of another type, a path that is not from the root down, and a sublayer whose name is not UTF-8
  pub other_type : IsProper (having (value.Bool true)) → ⊥
  pub path_below : IsProper (saying (codes "k") (value.PathText (codes "B"))) → ⊥
  pub no_utf8 : IsProper other_bytes → ⊥
