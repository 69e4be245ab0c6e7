-- What holds of every map of files.
use Rattle.std.specs.Prelude.{◌≡◌}
use Rattle.composition.specs.Texts.{Text}
use Rattle.layer_set.specs.declared.held.Held.{Held}
use Rattle.layer_load.specs.Files.{Files, AreRead}

-- at each name one thing stands, and no other
pub record HaveOneReading (files : Files) : Type 0 where
  pub held : Text → Held
  pub read : AreRead files held
  pub one : (other : Text → Held) → AreRead files other → (name : Text) → other name ≡ held name

-- what stands at the names of layers is a function of the files, whatever these are
abbrev pub FilesHaveOneReading : Type 0
FilesHaveOneReading = (files : Files) → HaveOneReading files
