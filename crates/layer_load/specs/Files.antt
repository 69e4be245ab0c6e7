-- What stands at names of layers, by the bytes of their files.
use Rattle.std.specs.Prelude.{◌≡◌, ℕ, List, length, take, Option, Some, None}
use Rattle.asset_names.specs.Anchoring.{kind_of}
use Rattle.asset_names.specs.declared.name.NameKind.{NameKind}
use Rattle.asset_names.specs.declared.name.NameKind.TheVariants as kind
use Rattle.composition.specs.Texts.{Text}
use Rattle.io_edges.specs.Edges.{most}
use Rattle.layer_set.specs.declared.held.Held.{Held}
use Rattle.layer_set.specs.declared.held.Held.TheVariants.{Present, Absent, Broken}
use Rattle.sdf_values.specs.declared.refusal.RefusalKind.{RefusalKind}
use Rattle.sdf_values.specs.declared.refusal.RefusalKind.TheVariants.{Crate, Package}
use Rattle.usda_reader.specs.Texts.{IsText, IsRefusedFirst}

-- the bytes of each name that has a file
abbrev pub Files : Type 0
Files = Text → Option (List ℕ)

-- what bytes say: the layer that they are a text of, or their first refusal
abbrev pub Says : List ℕ → Held → Type 0
Says bytes (Present layer) = IsText bytes layer
Says bytes Absent = ⊥
Says bytes (Broken refusal) = IsRefusedFirst bytes refusal

-- what a file holds; of a file that is too long no more is taken than shows it
abbrev pub Holds : Option (List ℕ) → Held → Type 0
Holds None held = held ≡ Absent
Holds (Some bytes) held = Says (take most bytes) held

-- the layer of a kind that is not read, refused at its first byte
abbrev pub unread : RefusalKind → Held
unread k = Broken (record { kind = k; line = 1; column = 1 })

-- what a file holds; a crate or a package is refused by its name, and its file is not read
abbrev pub Stands : NameKind → Option (List ℕ) → Held → Type 0
Stands kind.Plain file held = Holds file held
Stands kind.Crate file held = held ≡ unread Crate
Stands kind.Package file held = held ≡ unread Package

-- what stands at a name
abbrev pub StandsAt : Files → Text → Held → Type 0
StandsAt files name held = Stands (kind_of name) (files name) held

-- how many bytes of a file are taken
abbrev pub size_of : Option (List ℕ) → ℕ
size_of None = 0
size_of (Some bytes) = length (take most bytes)

-- how many bytes are fetched for a name of a kind: none for a crate or a package
abbrev pub taken_of : NameKind → Option (List ℕ) → ℕ
taken_of kind.Plain file = size_of file
taken_of kind.Crate file = 0
taken_of kind.Package file = 0

-- how many bytes are fetched for a name
abbrev pub taken_at : Files → Text → ℕ
taken_at files name = taken_of (kind_of name) (files name)

-- this is what stands at each name
pub record AreRead (files : Files) (held : Text → Held) : Type 0 where
  pub stands : (name : Text) → StandsAt files name (held name)

-- the files are those that are told; where none are told, they may be any
abbrev pub Fit : Option Files → Files → Type 0
Fit None files = Unit {0}
Fit (Some told) files = files ≡ told

-- the same of the file of one name
abbrev pub FitsAt : Option Files → Text → Option (List ℕ) → Type 0
FitsAt None name file = Unit {0}
FitsAt (Some told) name file = file ≡ told name
