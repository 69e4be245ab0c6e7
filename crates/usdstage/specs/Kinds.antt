-- What is wrong with a line of a script, in a word.
use Rattle.std.specs.Prelude.{ℕ, List, codes}
use Rattle.session_script.specs.declared.faults.ScriptKind.{ScriptKind}
use Rattle.session_script.specs.declared.faults.ScriptKind.TheVariants.{BadLine, Unfinished, TooLong}

-- the word on standard error for what is wrong with a line
abbrev pub kind_text : ScriptKind → List ℕ
kind_text BadLine = codes "BadLine"
kind_text Unfinished = codes "Unfinished"
kind_text TooLong = codes "TooLong"
