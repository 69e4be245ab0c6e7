-- A world for the order of properties, and for `custom` and `uniform`.
--   root.usda: (subLayers = [@w.usda@])
--              over "A" { reorder properties = ["c", "a"]  int a  uniform int b  int c  rel r  rel s }
--   w.usda:    def "A" { custom uniform int a  int b  custom float c  custom rel r  custom int s }
use Rattle.std.specs.Prelude.{codes, pos, Bool, true, false, [], ◌∷◌, None}
use Rattle.spec_parts.specs.Blank.{blank_body, blank_spec, no_edits}
use Rattle.spec_parts.specs.declared.items.Specifier.TheVariants.{Def, Over}
use Rattle.spec_properties.specs.declared.property.Property.{Property}
use Rattle.spec_properties.specs.declared.property.Property.TheVariants.{Attr, Rel}
use Rattle.sdf_values.specs.declared.type_name.ElementType.TheVariants as element
use Rattle.sdf_values.specs.declared.type_name.Precision.TheVariants as precision
use Rattle.sdf_values.specs.declared.type_name.TypeName.{TypeName}
use Rattle.composition.specs.Texts.{Text}
use Rattle.composition.specs.World.{World}
use Rattle.composition_worlds.specs.Listed.{listed_world}
use Rattle.composition_worlds.specs.Short.{prims, int, layer, layer_over, sublayer}

abbrev attribute : Text → TypeName → Bool → Bool → Property
attribute name ty custom uniform = Attr name ty custom uniform None [] no_edits []

abbrev relationship : Text → Bool → Property
relationship name custom = Rel name custom no_edits []

abbrev pub world : World
world = listed_world (codes "root.usda") None ((
  codes "root.usda",
  layer_over (sublayer (codes "w.usda") (pos 1)) (codes "A" ∷ []) ((
    prims (codes "A" ∷ []),
    record (blank_spec Over) {
      body = record (blank_body Over) {
        properties =
            attribute (codes "a") int false false
            ∷ attribute (codes "b") int false true
            ∷ attribute (codes "c") int false false
            ∷ relationship (codes "r") false
            ∷ relationship (codes "s") false
            ∷ [];
        property_order = codes "c" ∷ codes "a" ∷ [];
      };
    },
  )
      ∷ []),
)
    ∷ (
      codes "w.usda",
      layer (codes "A" ∷ []) ((
        prims (codes "A" ∷ []),
        record (blank_spec Def) {
          body = record (blank_body Def) {
            properties =
                attribute (codes "a") int true true
                ∷ attribute (codes "b") int false false
                ∷ attribute (codes "c") (record { element = element.Real precision.Float; array = false }) true false
                ∷ relationship (codes "r") true
                ∷ attribute (codes "s") int true false
                ∷ [];
          };
        },
      )
          ∷ []),
    )
    ∷ [])
