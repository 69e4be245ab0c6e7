-- What the words before a property's name say: the edit word, the flags, and the type, or `rel`.
use Rattle.std.specs.Prelude.{ℕ, Bool, true, false, ◌==◌, List, Option, Some, None, Result, Ok, Err, codes}
use Rattle.std.specs.Cmp.Lexicographic.{pointwise}
pub use Rattle.sdf_values.specs.Conforms.{one as one_of}
use Rattle.sdf_values.specs.TypeNames.{find_element}
use Rattle.sdf_values.specs.declared.refusal.RefusalKind.{RefusalKind}
use Rattle.sdf_values.specs.declared.refusal.RefusalKind.TheVariants.{UnknownType}
use Rattle.sdf_values.specs.declared.type_name.ElementType.{ElementType}
use Rattle.sdf_values.specs.declared.type_name.TheConstants.{ELEMENTS}
use Rattle.sdf_values.specs.declared.type_name.TypeName.{TypeName}
use Rattle.usda_lists.specs.declared.edit.ListEdit.{ListEdit}
use Rattle.usda_statements.specs.declared.heading.Heading.{Heading}

-- a statement that begins with this edit word, or with none
abbrev pub begun : ListEdit → Heading
begun edit = record { edit = edit; custom = false; uniform = false; ty = None }

-- the word `custom`
abbrev pub with_custom : Heading → Heading
with_custom h = record h { custom = true }

-- the word is `uniform`
abbrev pub is_uniform_word : List ℕ → Bool
is_uniform_word word = pointwise ◌==◌ word (codes "uniform")

-- `varying` says what holds anyway
abbrev pub with_variability : List ℕ → Heading → Heading
with_variability word h = record h { uniform = is_uniform_word word }

-- the word `rel`: a relationship has no type
abbrev pub as_relationship : Heading → Heading
as_relationship h = record h { ty = None }

-- a word that names no type is refused
abbrev pub of_element : Option ElementType → Heading → Result Heading RefusalKind
of_element None h = Err UnknownType
of_element (Some e) h = Ok (record h { ty = Some (one_of e) })

-- the word of an attribute's type
abbrev pub with_type : List ℕ → Heading → Result Heading RefusalKind
with_type word h = of_element (find_element ELEMENTS word) h

-- the type as one of arrays
abbrev pub array_of : Option TypeName → Option TypeName
array_of None = None
array_of (Some t) = Some (record { element = t.element; array = true })

-- brackets behind the type
abbrev pub with_brackets : Heading → Heading
with_brackets h = record h { ty = array_of h.ty }
