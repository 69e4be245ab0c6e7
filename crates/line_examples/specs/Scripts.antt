-- Scripts of a few lines, with the steps that they ask for. A step has the number of the line that ends it.
use Rattle.std.specs.Prelude.{◌≡◌, ℕ, List, [], ◌∷◌, codes}
use Rattle.edit_batches.specs.declared.op.Op.TheVariants as op
use Rattle.session_script.specs.Reading.{Steps, ended, refused, step, steps_of}
use Rattle.session_script.specs.declared.faults.ScriptKind.TheVariants.{BadLine, Unfinished}
use Rattle.session_script.specs.declared.steps.Step.TheVariants as steps
use Rattle.stage_questions.specs.declared.question.Question.TheVariants as question
use Rattle.line_examples.specs.Operations.{a}

-- the script asks for these steps
abbrev pub Asks : List ℕ → Steps → Type 0
Asks text answer = steps_of text ≡ answer

pub record ScriptsAreTold : Type 0 where
  pub nothing : Asks [] ended
  -- a blank line counts, and the last line may have no line feed
  pub question : Asks (codes "publish\n\nsites /") (step 1 steps.Publish (step 3 (steps.Ask (question.Sites [])) ended))
  -- a batch is a step of the line with its `commit`
  pub batch : Asks (codes "begin\nunload /A\nload /A\ncommit\n") (step 4 (steps.Batch (op.Unload a ∷ op.Load a ∷ [])) ended)
  pub empty_batch : Asks (codes "begin\n# nothing\ncommit") (step 3 (steps.Batch []) ended)
  pub opened : Asks (codes "open @n.usda@") (step 1 (steps.OpenLayer (codes "n.usda")) ended)

pub record RefusalsAreTold : Type 0 where
  -- the steps before a refused line are asked for, and none behind it
  pub bad_line : Asks (codes "publish\nundo\npublish") (step 1 steps.Publish (refused 2 BadLine))
  -- operations stand in a batch, and nothing else does
  pub outside : Asks (codes "unload /A\n") (refused 1 BadLine)
  pub question_inside : Asks (codes "begin\nsites /\n") (refused 2 BadLine)
  pub begin_twice : Asks (codes "begin\nbegin\n") (refused 2 BadLine)
  pub only_commit : Asks (codes "commit") (refused 1 BadLine)
  -- a batch without its end, at the number behind the last line
  pub unfinished : Asks (codes "begin\nunload /A\n") (refused 3 Unfinished)

pub record AreTold : Type 0 where
  pub scripts : ScriptsAreTold
  pub refusals : RefusalsAreTold
