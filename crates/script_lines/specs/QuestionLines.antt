-- Lines that ask.
use Rattle.std.specs.Prelude.{ℕ, if◌then◌else◌, List, Option, Some, None}
use Rattle.sdf_paths.specs.Paths.{is_property}
use Rattle.sdf_paths.specs.declared.element.Element.{Element}
pub use Rattle.usda_values.specs.Scalars.{finite_time as time_in}
use Rattle.stage_questions.specs.declared.question.Question.{Question}
use Rattle.stage_questions.specs.declared.question.Question.TheVariants as question
use Rattle.script_words.specs.Answers.{◌>>=◌}
use Rattle.script_words.specs.Words.{path_at, number_at, ended}
use Rattle.script_lines.specs.declared.line.Line.{Line}
use Rattle.script_lines.specs.declared.line.Line.TheVariants.{Ask}

-- the path of a property, and the bytes behind it
unfoldable pub property_at : List ℕ → Option (List Element × List ℕ)
property_at bytes = path_at bytes >>= λ p. if is_property p.0 then Some p else None

-- a question, where nothing follows
unfoldable pub asked : Question → List ℕ → Option Line
asked q bytes = ended (Ask q) bytes

-- `value`: a property and a time
unfoldable pub value_line : List ℕ → Option Line
value_line bytes = property_at bytes >>= λ p. number_at p.1 >>= λ n. time_in n.0 >>= λ time. asked (question.Value p.0 time) n.1

-- `default`: a property
unfoldable pub default_line : List ℕ → Option Line
default_line bytes = property_at bytes >>= λ p. asked (question.Default p.0) p.1

-- `samples`: a property
unfoldable pub samples_line : List ℕ → Option Line
samples_line bytes = property_at bytes >>= λ p. asked (question.Samples p.0) p.1

-- `targets`: a property
unfoldable pub targets_line : List ℕ → Option Line
targets_line bytes = property_at bytes >>= λ p. asked (question.Targets p.0) p.1

-- `children`: any path
unfoldable pub children_line : List ℕ → Option Line
children_line bytes = path_at bytes >>= λ p. asked (question.Children p.0) p.1

-- `faults`: any path
unfoldable pub faults_line : List ℕ → Option Line
faults_line bytes = path_at bytes >>= λ p. asked (question.Faults p.0) p.1

-- `sites`: any path
unfoldable pub sites_line : List ℕ → Option Line
sites_line bytes = path_at bytes >>= λ p. asked (question.Sites p.0) p.1
