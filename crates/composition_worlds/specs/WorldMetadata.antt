-- A world for metadata and lists of schemas.
--   root.usda: (subLayers = [@w.usda@])
--              over "A" (
--                  customData = { int a = 1 dictionary d = { int x = 1 } }
--                  kind = "component"
--                  note = { int a = 1 }
--                  delete apiSchemas = ["A"]
--                  prepend apiSchemas = ["C"]
--                  clipSets = []
--              ) {}
--              over "B" (append apiSchemas = ["E"]) {}
--              over "C" {}
--   w.usda:    def "A" (
--                  "the weaker"
--                  customData = { string a = "w" int b = 3 dictionary d = { int x = 2 int y = 2 } }
--                  kind = "group"
--                  note = "a text"
--                  apiSchemas = ["A", "B", "C"]
--                  clipSets = ["k"]
--              ) {}
use Rattle.std.specs.Prelude.{codes, ℤ, pos, false, List, [], ◌∷◌, None}
use Rattle.spec_parts.specs.Blank.{blank_body, blank_spec, no_edits}
use Rattle.spec_parts.specs.declared.items.Specifier.TheVariants.{Def, Over}
use Rattle.sdf_values.specs.declared.type_name.ElementType.TheVariants as element
use Rattle.sdf_values.specs.declared.value.DictItem.{DictItem}
use Rattle.sdf_values.specs.declared.value.DictType.TheVariants as dict_type
use Rattle.sdf_values.specs.declared.value.Value.TheVariants as value
use Rattle.composition.specs.Texts.{Text}
use Rattle.composition.specs.World.{World}
use Rattle.composition_worlds.specs.Listed.{listed_world}
use Rattle.composition_worlds.specs.Short.{prims, only, int, layer, layer_over, sublayer}

-- an entry of a dictionary: a whole number, a text, or entries
abbrev pub number_entry : Text → ℤ → DictItem
number_entry key n = record { key = key; ty = dict_type.Plain int; value = value.Whole n }

abbrev pub text_entry : Text → Text → DictItem
text_entry key t = record { key = key; ty = dict_type.Plain (record { element = element.String; array = false }); value = value.Text t }

abbrev pub inner_entry : Text → List DictItem → DictItem
inner_entry key items = record { key = key; ty = dict_type.Dictionary; value = value.Dict items }

abbrev pub world : World
world = listed_world (codes "root.usda") None ((
  codes "root.usda",
  layer_over (sublayer (codes "w.usda") (pos 1)) (codes "A" ∷ codes "B" ∷ codes "C" ∷ []) ((
    prims (codes "A" ∷ []),
    record (blank_spec Over) {
      body = record (blank_body Over) {
        meta =
            (codes "customData", value.Dict (number_entry (codes "a") (pos 1) ∷ inner_entry (codes "d") (number_entry (codes "x") (pos 1) ∷ []) ∷ []))
            ∷ (codes "kind", value.Text (codes "component"))
            ∷ (codes "note", value.Dict (number_entry (codes "a") (pos 1) ∷ []))
            ∷ [];
        api_schemas = record no_edits { deleted = codes "A" ∷ []; prepended = codes "C" ∷ [] };
        clip_sets = only [];
      };
    },
  )
      ∷ (prims (codes "B" ∷ []), record (blank_spec Over) { body = record (blank_body Over) { api_schemas = record no_edits { appended = codes "E" ∷ [] } } })
      ∷ (prims (codes "C" ∷ []), blank_spec Over)
      ∷ []),
)
    ∷ (
      codes "w.usda",
      layer (codes "A" ∷ []) ((
        prims (codes "A" ∷ []),
        record (blank_spec Def) {
          body = record (blank_body Def) {
            meta =
                (codes "comment", value.Text (codes "the weaker"))
                ∷ (
                  codes "customData",
                  value.Dict (
                      text_entry (codes "a") (codes "w")
                      ∷ number_entry (codes "b") (pos 3)
                      ∷ inner_entry (codes "d") (number_entry (codes "x") (pos 2) ∷ number_entry (codes "y") (pos 2) ∷ [])
                      ∷ []),
                )
                ∷ (codes "kind", value.Text (codes "group"))
                ∷ (codes "note", value.Text (codes "a text"))
                ∷ [];
            api_schemas = only (codes "A" ∷ codes "B" ∷ codes "C" ∷ []);
            clip_sets = only (codes "k" ∷ []);
          };
        },
      )
          ∷ []),
    )
    ∷ [])
