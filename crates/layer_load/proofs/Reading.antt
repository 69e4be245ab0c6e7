-- What stands at a name by the files is one.
use Rattle.std.proofs.Common.{◌≡◌, ◌∙◌, sym, ap, ℕ, List, take, Option, Some, None}
use Rattle.asset_names.specs.declared.name.NameKind.{NameKind}
use Rattle.asset_names.specs.declared.name.NameKind.TheVariants as kind
use Rattle.io_edges.specs.Edges.{most}
use Rattle.layer_set.specs.declared.held.Held.{Held}
use Rattle.layer_set.specs.declared.held.Held.TheVariants.{Present, Absent, Broken}
use Rattle.usda_reader.specs.Laws.{TextsHaveOneAnswer}
use Rattle.usda_reader.specs.Texts.{HaveOneAnswer}
use Rattle.layer_load.specs.Files.{Says, Holds, Stands}

one_said : (bytes : List ℕ) → HaveOneAnswer bytes → (a b : Held) → Says bytes a → Says bytes b → a ≡ b
one_said bytes law (Present a) (Present b) s t = ap Present (law.one_layer a b s t)
one_said bytes law (Present a) Absent s t = absurd t
one_said bytes law (Present a) (Broken q) s t = absurd (law.not_both a q s t)
one_said bytes law Absent b s t = absurd s
one_said bytes law (Broken r) (Present b) s t = absurd (law.not_both b r t s)
one_said bytes law (Broken r) Absent s t = absurd t
one_said bytes law (Broken r) (Broken q) s t = ap Broken (law.one_refusal r q s t)

one_holds : TextsHaveOneAnswer → (file : Option (List ℕ)) (a b : Held) → Holds file a → Holds file b → a ≡ b
one_holds law None a b s t = s ∙ sym t
one_holds law (Some bytes) a b s t = one_said (take most bytes) (law (take most bytes)) a b s t

pub one_stands : TextsHaveOneAnswer → (k : NameKind) (file : Option (List ℕ)) (a b : Held) → Stands k file a → Stands k file b → a ≡ b
one_stands law kind.Plain file a b s t = one_holds law file a b s t
one_stands law kind.Crate file a b s t = s ∙ sym t
one_stands law kind.Package file a b s t = s ∙ sym t
