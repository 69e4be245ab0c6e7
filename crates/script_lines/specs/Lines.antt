-- What a line of a script says.
use Rattle.std.specs.Prelude.{ℕ, Bool, false, ◌==◌, ◌||◌, if◌then◌else◌, List, [], ◌∷◌, drop, codes, Option, Some, None}
use Rattle.std.specs.List.{prefix_len}
use Rattle.std.specs.Str.{is_utf8}
use Rattle.stage_questions.specs.declared.question.Question.TheVariants as question
use Rattle.usda_lexer.specs.Blanks.{is_blank, begins}
use Rattle.usda_lexer.specs.Words.{Lexer, left}
use Rattle.usda_lexer.specs.declared.token.LexFault.{LexFault}
use Rattle.usda_lexer.specs.declared.token.LexFault.TheVariants.{Unclosed}
use Rattle.script_words.specs.Answers.{◌>>=◌}
use Rattle.script_words.specs.Words.{lexer_of, no_word, name_at, layer_at, ended}
use Rattle.usda_lists.specs.References.{same_text}
use Rattle.script_lines.specs.MetaLines.{meta_line, unmeta_line, select_line, unselect_line, order_line, load_line, unload_line, unrule_line}
use Rattle.script_lines.specs.FieldLines.{list_line, sublayers_line}
use Rattle.script_lines.specs.QuestionLines.{asked, value_line, default_line, samples_line, targets_line, children_line, faults_line, sites_line}
use Rattle.script_lines.specs.SpecLines.{new_layer_line, spec_line, variant_line, attribute_line, relationship_line, remove_line}
use Rattle.script_lines.specs.ValueLines.{set_line, clear_line, sample_line, unsample_line}
use Rattle.script_lines.specs.declared.line.Line.{Line}
use Rattle.script_lines.specs.declared.line.Line.TheVariants.{Blank, Begin, Commit, Open, Publish}

-- ---- the choice by the first word; these bytes stand behind it

-- `open`: a layer
unfoldable pub open_line : List ℕ → Option Line
open_line bytes = layer_at bytes >>= λ l. ended (Open l.0) l.1

-- lines of lists, selections, orders, sublayers and load rules; any other word begins no line
unfoldable pub field_worded : List ℕ → List ℕ → Option Line
field_worded word bytes =
    if same_text word (codes "list") then list_line bytes
    else if same_text word (codes "select") then select_line bytes
    else if same_text word (codes "unselect") then unselect_line bytes
    else if same_text word (codes "order") then order_line bytes
    else if same_text word (codes "sublayers") then sublayers_line bytes
    else if same_text word (codes "load") then load_line bytes
    else if same_text word (codes "unload") then unload_line bytes
    else if same_text word (codes "unrule") then unrule_line bytes
    else None

-- lines of values and metadata, or one of those above
unfoldable pub value_worded : List ℕ → List ℕ → Option Line
value_worded word bytes =
    if same_text word (codes "set") then set_line bytes
    else if same_text word (codes "clear") then clear_line bytes
    else if same_text word (codes "sample") then sample_line bytes
    else if same_text word (codes "unsample") then unsample_line bytes
    else if same_text word (codes "meta") then meta_line bytes
    else if same_text word (codes "unmeta") then unmeta_line bytes
    else field_worded word bytes

-- lines that add and remove layers, prims, variants and properties, or one of those above
unfoldable pub spec_worded : List ℕ → List ℕ → Option Line
spec_worded word bytes =
    if same_text word (codes "newlayer") then new_layer_line bytes
    else if same_text word (codes "spec") then spec_line bytes
    else if same_text word (codes "variant") then variant_line bytes
    else if same_text word (codes "attr") then attribute_line bytes
    else if same_text word (codes "rel") then relationship_line bytes
    else if same_text word (codes "remove") then remove_line bytes
    else value_worded word bytes

-- lines that ask, or one that is an operation
unfoldable pub question_worded : List ℕ → List ℕ → Option Line
question_worded word bytes =
    if same_text word (codes "value") then value_line bytes
    else if same_text word (codes "default") then default_line bytes
    else if same_text word (codes "samples") then samples_line bytes
    else if same_text word (codes "targets") then targets_line bytes
    else if same_text word (codes "children") then children_line bytes
    else if same_text word (codes "faults") then faults_line bytes
    else if same_text word (codes "sites") then sites_line bytes
    else if same_text word (codes "flatten") then asked question.Flatten bytes
    else spec_worded word bytes

-- `begin`, `commit` and `publish`, behind which nothing stands, `open`, or a question or an operation
unfoldable pub worded : List ℕ → List ℕ → Option Line
worded word bytes =
    if same_text word (codes "begin") then ended Begin bytes
    else if same_text word (codes "commit") then ended Commit bytes
    else if same_text word (codes "publish") then ended Publish bytes
    else if same_text word (codes "open") then open_line bytes
    else question_worded word bytes

-- ---- blank lines and comments

-- whether a byte, before these, begins a comment: `#`, `//` or `/*`
abbrev pub begins_comment : ℕ → List ℕ → Bool
begins_comment c cs = (c == 35) || (if c == 47 then begins 47 cs || begins 42 cs else false)

-- a comment is not closed, and it begins at the first byte
abbrev pub is_at_front : Option LexFault → Bool
is_at_front (Some (Unclosed at)) = at == 0
is_at_front fault = false

-- a comment in front that has no end
unfoldable pub is_open_comment : Lexer → Bool
is_open_comment t = if no_word (left t).words then is_at_front (left t).fault else false

-- a line that begins with a comment is passed over whole, unless the comment has no end on the line
unfoldable pub comment_line : List ℕ → Option Line
comment_line bytes = lexer_of bytes >>= λ t. if is_open_comment t then None else Some Blank

-- a line that begins with a word
unfoldable pub word_line : List ℕ → Option Line
word_line bytes = name_at bytes >>= λ n. worded n.0 n.1

-- a line without the blanks in front
unfoldable pub line_from : List ℕ → Option Line
line_from [] = Some Blank
line_from (c ∷ cs) = if begins_comment c cs then comment_line (c ∷ cs) else word_line (c ∷ cs)

-- how many blanks stand in front
abbrev pub blanks_len : List ℕ → ℕ
blanks_len bytes = prefix_len is_blank bytes

-- what a line says; nothing where it is no line of a script
unfoldable pub line_of : List ℕ → Option Line
line_of bytes = if is_utf8 bytes then line_from (drop (blanks_len bytes) bytes) else None
