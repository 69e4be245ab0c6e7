-- Texts of layers with what they say, or where they are refused first.
use Rattle.std.proofs.Common.{◌≡◌, ℕ, List, [], ◌∷◌, ◌++◌, Ok, Err, refl}
use Rattle.std.specs.Prelude.{codes}
use Rattle.sdf_specs.specs.Layers.{LayerTable}
use Rattle.sdf_values.specs.declared.refusal.RefusalKind.TheVariants.{BadHeader, Crate, DuplicateSpec, NotUtf8, NumberTooLong, Package, ReferenceData, Relocates, Spline, Syntax, TimeRange, UnknownType, ValueShape}
use Rattle.spec_parts.specs.declared.items.Refusal.{Refusal}
use Rattle.usda_reader.proofs.Exact.{reads}
use Rattle.usda_reader.specs.Reading.{read}
use Rattle.usda_reader.specs.Texts.{IsText, IsRefusedFirst}
use Rattle.usda_reader.specs.declared.fault.LayerFault.TheVariants.{Refused}
use Rattle.text_examples.specs.Refusals.{with_header, IsRefusedAt, empty, one_attribute, related, ChecksAreTold, TokensAreTold, LayersAreTold, AreTold}
use Rattle.text_examples.proofs.Computing.{of_texts}

refused : (bytes : List ℕ) (refusal : Refusal) → read bytes ≡ Err refusal → IsRefusedFirst bytes refusal
refused bytes refusal e = reads bytes (Err (Refused refusal)) e

says : (bytes : List ℕ) (layer : LayerTable) → read bytes ≡ Ok layer → IsText bytes layer
says bytes layer e = reads bytes (Ok layer) e

header_refused : IsRefusedAt (codes "#usda 2.0\n") BadHeader 1 1
unfolding of_texts
header_refused = refused (codes "#usda 2.0\n") (record { kind = BadHeader; line = 1; column = 1 }) refl

no_header_refused : IsRefusedAt [] BadHeader 1 1
unfolding of_texts
no_header_refused = refused [] (record { kind = BadHeader; line = 1; column = 1 }) refl

comment_refused : IsRefusedAt (codes "#usda 1.0 # a layer\n") BadHeader 1 1
unfolding of_texts
comment_refused = refused (codes "#usda 1.0 # a layer\n") (record { kind = BadHeader; line = 1; column = 1 }) refl

binary_refused : IsRefusedAt (codes "PXR-USDC") Crate 1 1
unfolding of_texts
binary_refused = refused (codes "PXR-USDC") (record { kind = Crate; line = 1; column = 1 }) refl

archive_refused : IsRefusedAt (80 ∷ 75 ∷ 3 ∷ 4 ∷ []) Package 1 1
unfolding of_texts
archive_refused = refused (80 ∷ 75 ∷ 3 ∷ 4 ∷ []) (record { kind = Package; line = 1; column = 1 }) refl

bytes_refused : IsRefusedAt (codes "#usda 2.0\ndef def\n " ++ 255 ∷ []) NotUtf8 3 2
unfolding of_texts
bytes_refused = refused (codes "#usda 2.0\ndef def\n " ++ 255 ∷ []) (record { kind = NotUtf8; line = 3; column = 2 }) refl

open_prim_refused : IsRefusedAt (with_header (codes "def \"A\" {\n")) Syntax 3 1
unfolding of_texts
open_prim_refused = refused (with_header (codes "def \"A\" {\n")) (record { kind = Syntax; line = 3; column = 1 }) refl

bare_name_refused : IsRefusedAt (with_header (codes "def A { }")) Syntax 2 7
unfolding of_texts
bare_name_refused = refused (with_header (codes "def A { }")) (record { kind = Syntax; line = 2; column = 7 }) refl

bad_name_refused : IsRefusedAt (with_header (codes "def \"a:b\" { }")) Syntax 2 5
unfolding of_texts
bad_name_refused = refused (with_header (codes "def \"a:b\" { }")) (record { kind = Syntax; line = 2; column = 5 }) refl

unclosed_refused : IsRefusedAt (with_header (codes "def \"A")) Syntax 2 5
unfolding of_texts
unclosed_refused = refused (with_header (codes "def \"A")) (record { kind = Syntax; line = 2; column = 5 }) refl

prim_twice_refused : IsRefusedAt (with_header (codes "def \"A\" { }\ndef \"A\" { }")) DuplicateSpec 3 5
unfolding of_texts
prim_twice_refused = refused (with_header (codes "def \"A\" { }\ndef \"A\" { }")) (record { kind = DuplicateSpec; line = 3; column = 5 }) refl

type_refused : IsRefusedAt (with_header (codes "def \"A\" { integer x }")) UnknownType 2 11
unfolding of_texts
type_refused = refused (with_header (codes "def \"A\" { integer x }")) (record { kind = UnknownType; line = 2; column = 11 }) refl

shape_refused : IsRefusedAt (with_header (codes "def \"A\" { int x = 1.5 }")) ValueShape 2 19
unfolding of_texts
shape_refused = refused (with_header (codes "def \"A\" { int x = 1.5 }")) (record { kind = ValueShape; line = 2; column = 19 }) refl

default_twice_refused : IsRefusedAt (with_header (codes "def \"A\" { int x = 1\nint x = 1 }")) DuplicateSpec 3 5
unfolding of_texts
default_twice_refused = refused (with_header (codes "def \"A\" { int x = 1\nint x = 1 }")) (record { kind = DuplicateSpec; line = 3; column = 5 }) refl

other_type_refused : IsRefusedAt (with_header (codes "def \"A\" { int x\nfloat x }")) DuplicateSpec 3 7
unfolding of_texts
other_type_refused = refused (with_header (codes "def \"A\" { int x\nfloat x }")) (record { kind = DuplicateSpec; line = 3; column = 7 }) refl

list_beside_refused : IsRefusedAt (with_header (codes "def \"A\" ( references = @a@ prepend references = @b@ ) { }")) Syntax 2 36
unfolding of_texts
list_beside_refused = refused (with_header (codes "def \"A\" ( references = @a@ prepend references = @b@ ) { }")) (record { kind = Syntax; line = 2; column = 36 }) refl

long_number_refused : IsRefusedAt (with_header (codes "def \"A\" { float x = 1e401 }")) NumberTooLong 2 21
unfolding of_texts
long_number_refused = refused (with_header (codes "def \"A\" { float x = 1e401 }")) (record { kind = NumberTooLong; line = 2; column = 21 }) refl

time_refused : IsRefusedAt (with_header (codes "def \"A\" { int x.timeSamples = { 1e13: 1 } }")) TimeRange 2 33
unfolding of_texts
time_refused = refused (with_header (codes "def \"A\" { int x.timeSamples = { 1e13: 1 } }")) (record { kind = TimeRange; line = 2; column = 33 }) refl

spline_refused : IsRefusedAt (with_header (codes "def \"A\" { int x.spline }")) Spline 2 17
unfolding of_texts
spline_refused = refused (with_header (codes "def \"A\" { int x.spline }")) (record { kind = Spline; line = 2; column = 17 }) refl

reference_data_refused : IsRefusedAt (with_header (codes "def \"A\" ( references = @a@ (shift = 1) ) { }")) ReferenceData 2 29
unfolding of_texts
reference_data_refused = refused (with_header (codes "def \"A\" ( references = @a@ (shift = 1) ) { }")) (record { kind = ReferenceData; line = 2; column = 29 }) refl

relocates_refused : IsRefusedAt (with_header (codes "( relocates = { } )")) Relocates 2 3
unfolding of_texts
relocates_refused = refused (with_header (codes "( relocates = { } )")) (record { kind = Relocates; line = 2; column = 3 }) refl

first_refused : IsRefusedAt (with_header (codes "def \"A\" { integer x } def")) UnknownType 2 11
unfolding of_texts
first_refused = refused (with_header (codes "def \"A\" { integer x } def")) (record { kind = UnknownType; line = 2; column = 11 }) refl

nothing_said : IsText (with_header []) empty
unfolding of_texts
nothing_said = says (with_header []) empty refl

attribute_said : IsText (with_header (codes "def \"A\" { int x = 1; } # A\n")) one_attribute
unfolding of_texts
attribute_said = says (with_header (codes "def \"A\" { int x = 1; } # A\n")) one_attribute refl

relations_said : IsText (with_header (codes "def \"A\" ( inherits = <../B> ) { rel r = <.x> }\nclass \"B\" { }")) related
unfolding of_texts
relations_said = says (with_header (codes "def \"A\" ( inherits = <../B> ) { rel r = <.x> }\nclass \"B\" { }")) related refl

checks : ChecksAreTold
checks = record {
  header = header_refused;
  no_header = no_header_refused;
  comment = comment_refused;
  binary = binary_refused;
  archive = archive_refused;
  bytes = bytes_refused;
}

tokens : TokensAreTold
tokens = record {
  open_prim = open_prim_refused;
  bare_name = bare_name_refused;
  bad_name = bad_name_refused;
  unclosed = unclosed_refused;
  prim_twice = prim_twice_refused;
  type = type_refused;
  shape = shape_refused;
  default_twice = default_twice_refused;
  other_type = other_type_refused;
  list_beside = list_beside_refused;
  long_number = long_number_refused;
  time = time_refused;
  spline = spline_refused;
  reference_data = reference_data_refused;
  relocates = relocates_refused;
  first = first_refused;
}

layers : LayersAreTold
layers = record {
  nothing = nothing_said;
  attribute = attribute_said;
  relations = relations_said;
}

pub are_told : AreTold
are_told = record { checks = checks; tokens = tokens; layers = layers }
