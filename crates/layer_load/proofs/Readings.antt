-- Each map of files has one reading.
use Rattle.std.proofs.Common.{inl, inr, refl, ℕ, List, take, Option, Some, None}
use Rattle.asset_names.specs.Anchoring.{kind_of}
use Rattle.asset_names.specs.declared.name.NameKind.{NameKind}
use Rattle.asset_names.specs.declared.name.NameKind.TheVariants as kind
use Rattle.io_edges.specs.Edges.{most}
use Rattle.layer_set.specs.declared.held.Held.{Held}
use Rattle.layer_set.specs.declared.held.Held.TheVariants.{Present, Absent, Broken}
use Rattle.sdf_values.specs.declared.refusal.RefusalKind.TheVariants.{Crate, Package}
use Rattle.usda_reader.specs.Laws.{TextsHaveOneAnswer}
use Rattle.usda_reader.specs.Texts.{HaveOneAnswer}
use Rattle.layer_load.specs.Files.{Files, Says, Holds, Stands, unread}
use Rattle.layer_load.specs.Laws.{HaveOneReading}
use Rattle.layer_load.proofs.Reading.{one_stands}

some_said : (bytes : List ℕ) → HaveOneAnswer bytes → (h : Held) × Says bytes h
some_said bytes law = elim law.some [ inl (layer, is) ↦ (Present layer, is) | inr (refusal, is) ↦ (Broken refusal, is) ]

some_holds : TextsHaveOneAnswer → (file : Option (List ℕ)) → (h : Held) × Holds file h
some_holds law None = (Absent, refl)
some_holds law (Some bytes) = some_said (take most bytes) (law (take most bytes))

some_stands : TextsHaveOneAnswer → (k : NameKind) (file : Option (List ℕ)) → (h : Held) × Stands k file h
some_stands law kind.Plain file = some_holds law file
some_stands law kind.Crate file = (unread Crate, refl)
some_stands law kind.Package file = (unread Package, refl)

pub one_reading : TextsHaveOneAnswer → (files : Files) → HaveOneReading files
one_reading law files = record {
  held = λ name. (some_stands law (kind_of name) (files name)).0;
  read = record { stands = λ name. (some_stands law (kind_of name) (files name)).1 };
  one = λ other read name. one_stands law (kind_of name) (files name) (other name) (some_stands law (kind_of name) (files name)).0 (read.stands name) (some_stands law (kind_of name) (files name)).1;
}
