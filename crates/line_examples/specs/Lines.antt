-- Lines that stand alone: blanks, comments, and the words that begin and end batches, open a layer and publish.
use Rattle.std.specs.Prelude.{◌≡◌, ℕ, List, [], ◌∷◌, ◌++◌, codes, Some, None}
use Rattle.script_lines.specs.Lines.{line_of}
use Rattle.script_lines.specs.declared.line.Line.{Line}
use Rattle.script_lines.specs.declared.line.Line.TheVariants.{Blank, Begin, Commit, Open, Publish}

-- the line says this
abbrev pub Says : List ℕ → Line → Type 0
Says text line = line_of text ≡ Some line

-- the line is none of a script
abbrev pub IsBad : List ℕ → Type 0
IsBad text = line_of text ≡ None

pub record BlanksAreTold : Type 0 where
  -- an empty line, and one of blanks alone
  pub empty : Says [] Blank
  pub blanks : Says (codes " \t ") Blank
  -- each kind of comment, to the end of the line or to its own end
  pub hash : Says (codes "  # set @root.usda@ /A.x 2") Blank
  pub slashes : Says (codes "// moved") Blank
  pub block : Says (codes "/* moved */") Blank
  -- a line that begins with a comment asks for nothing, whatever stands behind the comment
  pub behind_a_comment : Says (codes "/* moved */ commit") Blank

pub record WordsAreTold : Type 0 where
  pub begin : Says (codes "begin") Begin
  -- a line ends with a line feed or not, and with a carriage return as other systems write it
  pub with_feed : Says (codes "begin\n") Begin
  pub with_return : Says (codes "begin\r\n") Begin
  -- blanks stand in front, and a comment behind
  pub commit : Says (codes "  commit  # the first batch") Commit
  pub publish : Says (codes "publish") Publish
  -- the layer is named from the working folder, and by the one name that it has there
  pub opened : Says (codes "open @./sets//a/../n.usda@") (Open (codes "sets/n.usda"))
  -- an asset with an `@` in it stands between three
  pub opened_tripled : Says (codes "open @@@a@b.usda@@@") (Open (codes "a@b.usda"))

pub record BadLinesAreTold : Type 0 where
  -- a word with which no line begins, and one that only begins like one
  pub word : IsBad (codes "undo")
  pub longer_word : IsBad (codes "commits")
  pub capital : IsBad (codes "Begin")
  -- a word too many
  pub begin_more : IsBad (codes "begin now")
  pub publish_more : IsBad (codes "publish 1")
  -- a line begins with a name, and with nothing else
  pub path : IsBad (codes "/A.x")
  pub string : IsBad (codes "\"commit\"")
  -- a comment that is not closed on its line, in front and behind
  pub open_comment : IsBad (codes "/* moved")
  pub open_comment_behind : IsBad (codes "commit /* moved")
  -- `open` wants an asset, and one that is not empty
  pub no_asset : IsBad (codes "open")
  pub empty_asset : IsBad (codes "open @@")
  pub string_asset : IsBad (codes "open \"n.usda\"")
  -- bytes that are not UTF-8, though they stand in a comment
  pub not_utf8 : IsBad (codes "commit # " ++ 255 ∷ [])

pub record AreTold : Type 0 where
  pub blanks : BlanksAreTold
  pub words : WordsAreTold
  pub bad_lines : BadLinesAreTold
