-- Lines that ask something of the stage that was published last.
use Rattle.std.specs.Prelude.{◌*◌, ◌^◌, ℕ, pos, negsuc, List, [], ◌∷◌, codes}
use Rattle.script_lines.specs.declared.line.Line.TheVariants.{Ask}
use Rattle.sdf_paths.specs.declared.element.Element.{Element}
use Rattle.sdf_paths.specs.declared.element.Element.TheVariants.{Prim, Property, Selection}
use Rattle.stage_questions.specs.declared.question.Question.{Question}
use Rattle.stage_questions.specs.declared.question.Question.TheVariants as question
use Rattle.line_examples.specs.Lines.{Says, IsBad}

-- the line asks this
abbrev pub Asks : List ℕ → Question → Type 0
Asks text q = Says text (Ask q)

-- /A.x
abbrev pub a_x : List Element
a_x = Prim (codes "A") ∷ Property (codes "x") ∷ []

pub record QuestionsAreTold : Type 0 where
  -- a time in units of 10^-18, as the stage keeps it: 2.5, and -10^-18
  pub value : Asks (codes "value /A.x 2.5") (question.Value a_x (pos (25 * 10 ^ 17)))
  pub least_step : Asks (codes "value /A.x -1e-18") (question.Value a_x (negsuc 0))
  pub default : Asks (codes "default /A.x") (question.Default a_x)
  -- a property's name may be joined by colons
  pub samples : Asks (codes "samples /A.xformOp:translate") (question.Samples (Prim (codes "A") ∷ Property (codes "xformOp:translate") ∷ []))
  pub targets : Asks (codes "targets /A.r") (question.Targets (Prim (codes "A") ∷ Property (codes "r") ∷ []))
  -- `/` is a prim, and any path may be asked for, though the stage has no variants
  pub root_sites : Asks (codes "sites /") (question.Sites [])
  pub children : Asks (codes "children /A{s=v}B") (question.Children (Prim (codes "A") ∷ Selection (codes "s") (codes "v") ∷ Prim (codes "B") ∷ []))
  pub faults : Asks (codes "faults /A # and why") (question.Faults (Prim (codes "A") ∷ []))
  pub flatten : Asks (codes "flatten") question.Flatten

pub record BadQuestionsAreTold : Type 0 where
  -- a time is missing, is no finite number, or has more than 18 decimals
  pub no_time : IsBad (codes "value /A.x")
  pub infinite_time : IsBad (codes "value /A.x inf")
  pub fine_time : IsBad (codes "value /A.x 1e-19")
  -- a word too many: `default` has no time
  pub more : IsBad (codes "default /A.x 1")
  -- values are those of a property, and not of a prim
  pub prim : IsBad (codes "default /A")
  -- a path begins with `/`, is a path, and has no brackets
  pub relative : IsBad (codes "children A")
  pub no_path : IsBad (codes "children /A//B")
  pub brackets : IsBad (codes "children </A>")
  -- a blank ends a path
  pub blank : IsBad (codes "children /A /B")

pub record AreTold : Type 0 where
  pub questions : QuestionsAreTold
  pub bad_questions : BadQuestionsAreTold
