-- A value of a type that was printed is read where the type is expected.
use Rattle.std.proofs.Common.{◌≡◌, ◌∙◌, ℕ, ◌+◌, true, List, ◌++◌, length, arith}
use Rattle.sdf_values.specs.Conforms.{conforms}
use Rattle.sdf_values.specs.Print.{print}
use Rattle.sdf_values.specs.declared.type_name.TypeName.{TypeName}
use Rattle.sdf_values.specs.declared.value.Value.{Value}
use Rattle.usda_lexer.specs.Words.{lexing_from}
use Rattle.usda_values.specs.Drafts.{draft_of}
use Rattle.usda_values.specs.Reads.{got, reads}
use Rattle.usda_values.specs.declared.level.Place.TheVariants as place
use Rattle.usda_values.specs.declared.shape.Shape.TheVariants.{Typed}
use Rattle.value_texts.specs.Follows.{may_follow}
use Rattle.value_texts.specs.Writable.{is_writable}
use Rattle.value_texts.proofs.TypedDepth.{typed_depth}
use Rattle.value_texts.proofs.TypesRead.{types_read}
use Rattle.value_texts.proofs.ValueReads.{value_read}

pub typed_read : (v : Value) (t : TypeName) (indent at end : ℕ) (rest : List ℕ) → is_writable v ≡ true → conforms v t ≡ true → may_follow rest ≡ true
    → reads (lexing_from 0 at (print v indent ++ rest)).words (lexing_from 0 at (print v indent ++ rest)).fault end (draft_of place.Value (Typed t))
    ≡ got v (lexing_from 0 (at + length (print v indent)) rest)
typed_read v t indent at end rest w is follows = value_read v (Typed t) indent at end rest w (types_read v t ∙ is) (omega (arith, typed_depth v t is)) follows
