-- Questions on a stage as they are written, and their answers.
use Rattle.std.specs.Prelude.{ℤ, List, [], ◌++◌, length, codes, unwrap_or}
use Rattle.std.specs.Fmt.{decimal}
use Rattle.flatten.specs.Flattened.{flat_layer}
use Rattle.sdf_paths.specs.Paths.{printed, owner, last_name}
use Rattle.sdf_paths.specs.declared.element.Element.{Element}
use Rattle.sdf_values.specs.Print.{time_text}
use Rattle.stage_query.specs.Answers.{Stage, value_answer, default_answer, samples_answer, targets_answer, children_answer, view_answer}
use Rattle.stage_query.specs.declared.answer.Answer.{Answer}
use Rattle.stage_query.specs.declared.answer.Answer.TheVariants.{Is, NoPrim, NoProperty, NoValue, Blocked}
use Rattle.usda_writer.specs.Canonical.{canonical}
use Rattle.usda_writer.specs.Texts.{Text}
use Rattle.stage_questions.specs.Texts.{value_text, samples_text, paths_text, names_text, faults_text, sites_text}
use Rattle.stage_questions.specs.declared.question.Question.{Question}
use Rattle.stage_questions.specs.declared.question.Question.TheVariants as question

-- ---- questions

-- the word of a question, and the path that it is asked of
abbrev pub asked_of : Text → List Element → Text
asked_of word path = word ++ printed path

-- a question in its one spelling
abbrev pub question_text : Question → Text
question_text (question.Value path time) = asked_of (codes "value ") path ++ codes " " ++ time_text time
question_text (question.Default path) = asked_of (codes "default ") path
question_text (question.Samples path) = asked_of (codes "samples ") path
question_text (question.Targets path) = asked_of (codes "targets ") path
question_text (question.Children path) = asked_of (codes "children ") path
question_text (question.Faults path) = asked_of (codes "faults ") path
question_text (question.Sites path) = asked_of (codes "sites ") path
question_text question.Flatten = codes "flatten"

-- ---- answers

-- what there is, or why there is nothing
abbrev pub answer_text : {T : Type 0} → (T → Text) → Answer T → Text
answer_text shown (Is x) = shown x
answer_text shown NoPrim = codes "NoPrim"
answer_text shown NoProperty = codes "NoProperty"
answer_text shown NoValue = codes "NoValue"
answer_text shown Blocked = codes "Blocked"

-- why there is nothing
abbrev pub absent_text : {T : Type 0} → Answer T → Text
absent_text answer = answer_text (λ x. []) answer

-- the name of the property of a path
abbrev pub property_name : List Element → Text
property_name path = unwrap_or (last_name path) []

-- the value of a property at a time, asked of the prim that owns it
abbrev pub value_told : List Element → ℤ → Stage → Text
value_told path time stage = answer_text value_text (value_answer (owner path) (property_name path) time stage)

-- the default of a property
abbrev pub default_told : List Element → Stage → Text
default_told path stage = answer_text value_text (default_answer (owner path) (property_name path) stage)

-- the samples of a property
abbrev pub samples_told : List Element → Stage → Text
samples_told path stage = answer_text samples_text (samples_answer (owner path) (property_name path) stage)

-- the targets or connections of a property
abbrev pub targets_told : List Element → Stage → Text
targets_told path stage = answer_text paths_text (targets_answer (owner path) (property_name path) stage)

-- the names of the children of a prim
abbrev pub children_told : List Element → Stage → Text
children_told path stage = answer_text names_text (children_answer path stage)

-- the faults of a prim
abbrev pub faults_told : List Element → Stage → Text
faults_told path stage = answer_text faults_text (view_answer path stage)

-- the sites of a prim that have a spec, in a world with this root layer
abbrev pub sites_told : Text → List Element → Stage → Text
sites_told root path stage = answer_text (sites_text root) (view_answer path stage)

-- a text as a line
abbrev pub line_of : Text → Text
line_of t = t ++ codes "\n"

-- the text of the flattened layer of a stage
unfoldable pub flat_text : Stage → Text
flat_text stage = canonical (flat_layer stage)

-- a text behind its length, on lines of its own
abbrev pub measured : Text → Text
measured text = decimal (length text) ++ codes " bytes\n" ++ text

-- The answer to a question on a stage of a world with this root layer. The text of a flattened layer ends its last line itself.
abbrev pub answer : Text → Stage → Question → Text
answer root stage (question.Value path time) = line_of (value_told path time stage)
answer root stage (question.Default path) = line_of (default_told path stage)
answer root stage (question.Samples path) = line_of (samples_told path stage)
answer root stage (question.Targets path) = line_of (targets_told path stage)
answer root stage (question.Children path) = line_of (children_told path stage)
answer root stage (question.Faults path) = line_of (faults_told path stage)
answer root stage (question.Sites path) = line_of (sites_told root path stage)
answer root stage question.Flatten = measured (flat_text stage)

-- a question with its answer
abbrev pub answer_line : Text → Stage → Question → Text
answer_line root stage q = question_text q ++ codes ": " ++ answer root stage q
