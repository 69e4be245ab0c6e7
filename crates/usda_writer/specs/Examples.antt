-- Layers and their texts: forms of lists, sublayers, relationships and variant sets, and two of connections.
use Rattle.std.specs.Prelude.{◌≡◌, ℕ, ℤ, pos, negsuc, true, false, List, [], ◌∷◌, ◌++◌, codes, Some, None}
use Rattle.sdf_paths.specs.declared.element.Element.TheVariants as path
use Rattle.sdf_values.specs.Conforms.{one}
use Rattle.sdf_values.specs.declared.decimal.Num.TheVariants.{Finite}
use Rattle.sdf_values.specs.declared.type_name.ElementType.TheVariants as element
use Rattle.sdf_values.specs.declared.value.Value.{Value}
use Rattle.sdf_values.specs.declared.value.Value.TheVariants as value
use Rattle.spec_parts.specs.Blank.{blank_arcs, blank_body, blank_head, blank_spec, no_edits}
use Rattle.sdf_specs.specs.Layers.{LayerTable}
use Rattle.spec_parts.specs.declared.items.Specifier.TheVariants.{Over, Class}
use Rattle.spec_properties.specs.declared.property.Property.TheVariants.{Attr, Rel}
use Rattle.usda_writer.specs.Canonical.{canonical}

-- the number `digits * 10^exp`
abbrev pub real : ℤ → ℤ → Value
real digits exp = value.Number (Finite (record { digits = digits; exp = exp }))

-- a layer that says nothing
abbrev pub empty_layer : LayerTable
empty_layer = record { head = blank_head; specs = [] }

-- forms of lists, sublayers, relationships and variants, and two of connections; texts of values are told by the crate of values
abbrev pub forms : LayerTable
forms = record {
  head = record blank_head {
    sublayers = record { asset = codes "a.usda"; offset = record { offset = pos 10; scale = pos 2 } } ∷ record { asset = codes "b@c"; offset = record { offset = pos 0; scale = pos 1 } } ∷ [];
    root_names = codes "A" ∷ [];
    root_order = codes "B" ∷ codes "A" ∷ [];
  };
  specs = (
    path.Prim (codes "A") ∷ [],
    record {
      arcs = record blank_arcs {
        inherits = record no_edits { explicit = Some [] };
        specializes = record no_edits { appended = (path.Prim (codes "S") ∷ []) ∷ [] };
        references = record no_edits {
          deleted = record { asset = None; path = None; offset = record { offset = pos 0; scale = pos 1 } } ∷ [];
          prepended = record { asset = Some (codes "r.usda"); path = Some (path.Prim (codes "R") ∷ []); offset = record { offset = negsuc 0; scale = pos 1 } } ∷ [];
        };
        payloads = record no_edits { explicit = Some (record { asset = None; path = Some (path.Prim (codes "P") ∷ []); offset = record { offset = pos 0; scale = pos 1 } } ∷ []) };
        variant_sets = record no_edits { added = codes "s" ∷ [] };
      };
      body = record (blank_body Class) {
        api_schemas = record no_edits { ordered = codes "T" ∷ codes "U" ∷ [] };
        child_order = codes "k" ∷ [];
        property_order = codes "r" ∷ [];
        properties =
            Attr (codes "x") (one element.Int) true true None []
            (record no_edits { explicit = Some ((path.Prim (codes "A") ∷ path.Property (codes "y") ∷ []) ∷ []) }) []
            ∷ Attr (codes "y") (one element.Int) false false None [] (record no_edits { deleted = (path.Prim (codes "A") ∷ path.Property (codes "x") ∷ []) ∷ [] }) []
            ∷ Rel (codes "r") true (record no_edits { explicit = Some [] }) []
            ∷ Rel (codes "q") false (record no_edits { added = (path.Prim (codes "A") ∷ []) ∷ [] }) []
            ∷ [];
        variant_names = record { set = codes "s"; variants = codes "x" ∷ codes ".y" ∷ [] } ∷ record { set = codes "t"; variants = [] } ∷ [];
      };
    },
  )
      ∷ (path.Prim (codes "A") ∷ path.Selection (codes "s") (codes ".y") ∷ [], blank_spec Over)
      ∷ (path.Prim (codes "A") ∷ path.Selection (codes "s") (codes "x") ∷ [], record (blank_spec Over) { body = record (blank_body Over) { children = codes "k" ∷ [] } })
      ∷ (path.Prim (codes "A") ∷ path.Selection (codes "s") (codes "x") ∷ path.Prim (codes "k") ∷ [], blank_spec Over)
      ∷ [];
}

-- the canonical text of these forms
abbrev pub forms_text : List ℕ
forms_text =
    codes "#usda 1.0\n(\n    subLayers = [@a.usda@ (offset = 10; scale = 2), @@@b@c@@@]\n)\n"
    ++ codes "\nreorder rootPrims = [\"B\", \"A\"]\n"
    ++ codes "\nclass \"A\" (\n    reorder apiSchemas = [\"T\", \"U\"]\n    inherits = None\n    add variantSets = [\"s\"]\n"
    ++ codes "    delete references = [<>]\n    prepend references = [@r.usda@</R> (offset = -1; scale = 1)]\n"
    ++ codes "    payload = [</P>]\n    append specializes = [</S>]\n)\n{\n"
    ++ codes "    reorder nameChildren = [\"k\"]\n    reorder properties = [\"r\"]\n"
    ++ codes "    custom uniform int x\n    int x.connect = [</A.y>]\n"
    ++ codes "    int y\n    delete int y.connect = [</A.x>]\n    custom rel r = None\n    rel q\n    add rel q = [</A>]\n"
    ++ codes "    variantSet \"s\" = {\n        \"x\" {\n\n            over \"k\"\n            {\n            }\n        }\n        \".y\" {\n        }\n    }\n"
    ++ codes "    variantSet \"t\" = {\n    }\n}\n"

-- a layer that says nothing is the first line alone; the forms are their text
pub record AreWritten : Type 0 where
  pub empty : canonical empty_layer ≡ codes "#usda 1.0\n"
  pub each_form : canonical forms ≡ forms_text
