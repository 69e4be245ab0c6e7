-- Which names are asked for while a world is opened.
use Rattle.std.specs.Prelude.{◌≡◌, true, List, [], ◌∷◌, Option}
use Rattle.std.specs.List.{list_any}
use Rattle.asset_names.specs.Anchoring.{kind_of}
use Rattle.asset_names.specs.declared.name.NameKind.TheVariants as kind
use Rattle.composition.specs.Texts.{Text, same_text}
use Rattle.io_edges.specs.Edges.{Asks}
use Rattle.layer_set.specs.declared.held.Held.{Held}
use Rattle.layer_stack.specs.Visiting.{AreApart}
use Rattle.layer_load.specs.Closure.{IsMet}
use Rattle.layer_load.specs.Files.{Files, AreRead}

-- a name that has its turn is asked for or not; only one whose file is read is
abbrev pub IsAsking : Text → List Text → Type 0
IsAsking name [] = Unit {0}
IsAsking name (n ∷ []) = (n ≡ name) × (kind_of name ≡ kind.Plain)
IsAsking name (n ∷ m ∷ ms) = ⊥

-- no name is asked for but this one, and this one only where its file is read
pub record AsksInTurn (before after : Option (List Text)) (name : Text) : Type 0 where
  pub asked : List Text
  pub asks : Asks before after asked
  pub only : IsAsking name asked

-- No name is asked for but those that are met in an opening of this root and this session layer. Each is asked for once at most, and
-- none whose file is not read.
pub record AsksMet (files : Files) (root : Text) (session : Option Text) (before after : Option (List Text)) : Type 0 where
  pub asked : List Text
  pub asks : Asks before after asked
  pub once : AreApart asked
  pub plain : (name : Text) → list_any (same_text name) asked ≡ true → kind_of name ≡ kind.Plain
  pub met : (held : Text → Held) → AreRead files held → (name : Text) → list_any (same_text name) asked ≡ true → IsMet held root session name
