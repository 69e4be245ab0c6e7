-- Layers and their words, and names that are no words.
use Rattle.std.specs.Prelude.{◌≡◌, ℕ, pos, negsuc, true, false, ◌^◌, List, [], ◌∷◌, codes, map, Some, None}
use Rattle.sdf_paths.specs.declared.element.Element.TheVariants as path
use Rattle.sdf_values.specs.declared.type_name.ElementType.TheVariants as element
use Rattle.sdf_values.specs.declared.value.Value.TheVariants as value
use Rattle.spec_properties.specs.declared.property.Property.{Property}
use Rattle.spec_properties.specs.declared.property.Property.TheVariants.{Attr, Rel}
use Rattle.spec_parts.specs.Blank.{blank_arcs, blank_body, blank_head, blank_spec, no_edits}
use Rattle.spec_parts.specs.declared.items.Specifier.TheVariants.{Def, Over}
use Rattle.sdf_specs.specs.Layers.{LayerTable}
use Rattle.usda_grammar.specs.declared.kinds.Keyword.TheVariants as keyword
use Rattle.usda_grammar.specs.declared.kinds.WordKind.TheVariants as kind
use Rattle.usda_words.specs.Words.{words_of}
use Rattle.usda_writer.specs.Examples.{forms}
use Rattle.value_texts.specs.Cuts.{Said}
use Rattle.value_texts.specs.ValueWords.{name_said, number_said, string_said, asset_said, path_said, open_paren, close_paren, open_bracket, close_bracket, open_brace, close_brace, comma, semicolon, equals, dot}
use Rattle.value_texts.specs.Words.{as_word}
use Rattle.layer_texts.specs.PropertyWords.{colon, property_words}
use Rattle.layer_texts.specs.LayerWords.{layer_words}
use Rattle.layer_texts.specs.Writable.{is_word, is_writable_target, is_writable_property, is_writable_layer}

abbrev pub name : List ℕ → Said
name = name_said

abbrev pub string : List ℕ → Said
string = string_said

-- def T "A" (..) { .. }, with a variant set
abbrev pub small : LayerTable
small = record {
  head = record blank_head {
    sublayers = record { asset = codes "s"; offset = record { offset = pos 0; scale = pos 1 } } ∷ [];
    root_names = codes "A" ∷ [];
    root_order = codes "A" ∷ codes "B" ∷ [];
  };
  specs = (
    path.Prim (codes "A") ∷ [],
    record {
      arcs = record blank_arcs {
        inherits = record no_edits { explicit = Some [] };
        references = record no_edits { prepended = record { asset = Some (codes "a"); path = Some (path.Prim (codes "R") ∷ []); offset = record { offset = negsuc 0; scale = pos 1 } } ∷ [] };
      };
      body = record (blank_body Def) {
        type_name = Some (codes "T");
        properties = Rel (codes "r") true (record no_edits { explicit = Some ((path.Prim (codes "A") ∷ []) ∷ []) }) [] ∷ [];
        variant_names = record { set = codes "s"; variants = codes ".x" ∷ [] } ∷ [];
      };
    },
  )
      ∷ (path.Prim (codes "A") ∷ path.Selection (codes "s") (codes ".x") ∷ [], blank_spec Over)
      ∷ [];
}

-- the words of its canonical text, whose first line has none
abbrev pub small_words : List Said
small_words =
    open_paren ∷ name (codes "subLayers") ∷ equals ∷ open_bracket ∷ asset_said (codes "@s@") ∷ close_bracket ∷ close_paren
    ∷ name (codes "reorder") ∷ name (codes "rootPrims") ∷ equals ∷ open_bracket ∷ string (codes "\"A\"") ∷ comma ∷ string (codes "\"B\"") ∷ close_bracket
    ∷ name (codes "def") ∷ name (codes "T") ∷ string (codes "\"A\"") ∷ open_paren
    ∷ name (codes "inherits") ∷ equals ∷ name (codes "None")
    ∷ name (codes "prepend") ∷ name (codes "references") ∷ equals ∷ open_bracket ∷ asset_said (codes "@a@") ∷ path_said (codes "</R>")
    ∷ open_paren ∷ name (codes "offset") ∷ equals ∷ number_said (codes "-1") ∷ semicolon ∷ name (codes "scale") ∷ equals ∷ number_said (codes "1") ∷ close_paren ∷ close_bracket
    ∷ close_paren ∷ open_brace
    ∷ name (codes "custom") ∷ name (codes "rel") ∷ name (codes "r") ∷ equals ∷ open_bracket ∷ path_said (codes "</A>") ∷ close_bracket
    ∷ name (codes "variantSet") ∷ string (codes "\"s\"") ∷ equals ∷ open_brace ∷ string (codes "\".x\"") ∷ open_brace ∷ close_brace ∷ close_brace
    ∷ close_brace ∷ []

-- an attribute with a sample, a connection and metadata
abbrev pub attribute : Property
attribute =
    Attr (codes "x") (record { element = element.Int; array = true }) false true None ((pos (10 ^ 18), value.Block) ∷ [])
    (record no_edits { appended = (path.Prim (codes "A") ∷ path.Property (codes "y") ∷ []) ∷ [] })
    ((codes "comment", value.Text (codes "c")) ∷ (codes "doc", value.Word (codes "w")) ∷ [])

-- its declaration with metadata, its samples, and its connections
abbrev pub attribute_said : List Said
attribute_said =
    name (codes "uniform") ∷ name (codes "int") ∷ open_bracket ∷ close_bracket ∷ name (codes "x") ∷ open_paren ∷ string (codes "\"c\"") ∷ name (codes "doc") ∷ equals ∷ name (codes "w") ∷ close_paren
    ∷ name (codes "int") ∷ open_bracket ∷ close_bracket ∷ name (codes "x") ∷ dot ∷ name (codes "timeSamples") ∷ equals ∷ open_brace
    ∷ number_said (codes "1") ∷ colon ∷ name (codes "None") ∷ comma ∷ close_brace
    ∷ name (codes "append") ∷ name (codes "int") ∷ open_bracket ∷ close_bracket ∷ name (codes "x") ∷ dot ∷ name (codes "connect") ∷ equals ∷ open_bracket ∷ path_said (codes "</A.y>") ∷ close_bracket ∷ []

-- a relationship of this name that says nothing else
abbrev pub named : List ℕ → Property
named t = Rel t false no_edits []

-- the words of the layer and of the attribute, and which layers, properties and paths can be written
pub record AreTold : Type 0 where
  pub layer : layer_words small ≡ small_words
  pub property : property_words attribute ≡ attribute_said
  -- the forms of the writer's examples can be written
  pub small_written : is_writable_layer small ≡ true
  pub forms_written : is_writable_layer forms ≡ true
  -- a colon joins names, and a keyword is a name
  pub joined_name : is_writable_property (named (codes "a:b")) ≡ true
  pub keyword_name : is_writable_property (named (codes "custom")) ≡ true
  -- `inf` is a number to the tokens and no property's name: its line would not be the words that are meant
  pub number_name : is_writable_property (named (codes "inf")) ≡ false
  pub meant : map (λ w. (as_word w).kind) (property_words (named (codes "inf"))) ≡ kind.Word keyword.Rel ∷ kind.Word keyword.Other ∷ []
  pub read : map (λ w. w.kind) (words_of (codes "rel inf\n")) ≡ kind.Word keyword.Rel ∷ kind.Number ∷ []
  -- a type's name that is none
  pub blank_name : is_word (codes "a b") ≡ false
  pub closed_path : is_writable_target (path.Prim (codes "a>b") ∷ []) ≡ false
