-- Texts of layers: what they say, and where they are refused first.
use Rattle.std.specs.Prelude.{ℕ, pos, false, List, [], ◌∷◌, ◌++◌, codes, Some}
use Rattle.sdf_paths.specs.declared.element.Element.TheVariants.{Prim, Property}
use Rattle.sdf_specs.specs.Layers.{LayerTable}
use Rattle.sdf_values.specs.declared.refusal.RefusalKind.{RefusalKind}
use Rattle.sdf_values.specs.declared.refusal.RefusalKind.TheVariants.{Crate, Package, NotUtf8, BadHeader, Syntax, NumberTooLong, UnknownType, ValueShape, TimeRange, DuplicateSpec, Relocates, Spline, ReferenceData}
use Rattle.sdf_values.specs.declared.type_name.ElementType.TheVariants as element
use Rattle.sdf_values.specs.declared.value.Value.TheVariants as value
use Rattle.spec_parts.specs.Blank.{blank_arcs, blank_body, blank_head, blank_spec, no_edits}
use Rattle.spec_parts.specs.declared.items.Specifier.TheVariants.{Def, Class}
use Rattle.spec_properties.specs.declared.property.Property.TheVariants.{Attr, Rel}
use Rattle.usda_reader.specs.Texts.{IsText, IsRefusedFirst}

-- the first line, and then these
abbrev pub with_header : List ℕ → List ℕ
with_header text = codes "#usda 1.0\n" ++ text

-- a text is refused first so, at this line and column
abbrev pub IsRefusedAt : List ℕ → RefusalKind → ℕ → ℕ → Type 0
IsRefusedAt text kind line column = IsRefusedFirst text (record { kind = kind; line = line; column = column })

-- nothing
abbrev pub empty : LayerTable
empty = record { head = blank_head; specs = [] }

-- def "A" { int x = 1 }
abbrev pub one_attribute : LayerTable
one_attribute = record {
  head = record blank_head { root_names = codes "A" ∷ [] };
  specs = (
    Prim (codes "A") ∷ [],
    record (blank_spec Def) { body = record (blank_body Def) { properties = Attr (codes "x") (record { element = element.Int; array = false }) false false (Some (value.Whole (pos 1))) [] no_edits [] ∷ [] } },
  ) ∷ [];
}

-- def "A" ( inherits = </B> ) { rel r = </A.x> }, and class "B" { }
abbrev pub related : LayerTable
related = record {
  head = record blank_head { root_names = codes "A" ∷ codes "B" ∷ [] };
  specs = (
    Prim (codes "A") ∷ [],
    record {
      arcs = record blank_arcs { inherits = record no_edits { explicit = Some ((Prim (codes "B") ∷ []) ∷ []) } };
      body = record (blank_body Def) { properties = Rel (codes "r") false (record no_edits { explicit = Some ((Prim (codes "A") ∷ Property (codes "x") ∷ []) ∷ []) }) [] ∷ [] };
    },
  )
      ∷ (Prim (codes "B") ∷ [], blank_spec Class)
      ∷ [];
}

-- what is judged of the bytes before the first token
pub record ChecksAreTold : Type 0 where
  pub header : IsRefusedAt (codes "#usda 2.0\n") BadHeader 1 1
  pub no_header : IsRefusedAt [] BadHeader 1 1
  -- the first line has nothing but blanks behind the version
  pub comment : IsRefusedAt (codes "#usda 1.0 # a layer\n") BadHeader 1 1
  pub binary : IsRefusedAt (codes "PXR-USDC") Crate 1 1
  pub archive : IsRefusedAt (80 ∷ 75 ∷ 3 ∷ 4 ∷ []) Package 1 1
  -- a byte that no UTF-8 has, whatever else is wrong
  pub bytes : IsRefusedAt (codes "#usda 2.0\ndef def\n " ++ 255 ∷ []) NotUtf8 3 2

-- what is refused at a token, or at the end
pub record TokensAreTold : Type 0 where
  -- a brace that is not closed, at the end of the text
  pub open_prim : IsRefusedAt (with_header (codes "def \"A\" {\n")) Syntax 3 1
  -- a prim has its name in quotes: `A` is a type
  pub bare_name : IsRefusedAt (with_header (codes "def A { }")) Syntax 2 7
  pub bad_name : IsRefusedAt (with_header (codes "def \"a:b\" { }")) Syntax 2 5
  pub unclosed : IsRefusedAt (with_header (codes "def \"A")) Syntax 2 5
  -- the later of two prims of one name, though nothing is wrong with it
  pub prim_twice : IsRefusedAt (with_header (codes "def \"A\" { }\ndef \"A\" { }")) DuplicateSpec 3 5
  pub type : IsRefusedAt (with_header (codes "def \"A\" { integer x }")) UnknownType 2 11
  pub shape : IsRefusedAt (with_header (codes "def \"A\" { int x = 1.5 }")) ValueShape 2 19
  -- a default that is given twice, at the later name
  pub default_twice : IsRefusedAt (with_header (codes "def \"A\" { int x = 1\nint x = 1 }")) DuplicateSpec 3 5
  pub other_type : IsRefusedAt (with_header (codes "def \"A\" { int x\nfloat x }")) DuplicateSpec 3 7
  -- edits do not go with an explicit list of the same field, at the later field
  pub list_beside : IsRefusedAt (with_header (codes "def \"A\" ( references = @a@ prepend references = @b@ ) { }")) Syntax 2 36
  pub long_number : IsRefusedAt (with_header (codes "def \"A\" { float x = 1e401 }")) NumberTooLong 2 21
  pub time : IsRefusedAt (with_header (codes "def \"A\" { int x.timeSamples = { 1e13: 1 } }")) TimeRange 2 33
  -- what is in the grammar and in no layer
  pub spline : IsRefusedAt (with_header (codes "def \"A\" { int x.spline }")) Spline 2 17
  pub reference_data : IsRefusedAt (with_header (codes "def \"A\" ( references = @a@ (shift = 1) ) { }")) ReferenceData 2 29
  pub relocates : IsRefusedAt (with_header (codes "( relocates = { } )")) Relocates 2 3
  -- of two faults the first, whatever comes later
  pub first : IsRefusedAt (with_header (codes "def \"A\" { integer x } def")) UnknownType 2 11

pub record LayersAreTold : Type 0 where
  pub nothing : IsText (with_header []) empty
  -- comments and a `;` say nothing
  pub attribute : IsText (with_header (codes "def \"A\" { int x = 1; } # A\n")) one_attribute
  -- a path that does not begin with `/` is one from the prim of its statement
  pub relations : IsText (with_header (codes "def \"A\" ( inherits = <../B> ) { rel r = <.x> }\nclass \"B\" { }")) related

pub record AreTold : Type 0 where
  pub checks : ChecksAreTold
  pub tokens : TokensAreTold
  pub layers : LayersAreTold
