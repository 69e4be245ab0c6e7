-- The owners of statements: each has a path, and its relative paths are taken from that path without selections.
use Rattle.std.specs.Prelude.{◌≡◌, List, [], ◌∷◌, Ok}
use Rattle.sdf_paths.specs.Paths.{IsPath, plain}
use Rattle.sdf_paths.specs.declared.element.Element.{Element}
use Rattle.usda_drafts.specs.Acts.{act}
use Rattle.usda_drafts.specs.Drafts.{blank}
use Rattle.usda_drafts.specs.declared.draft.Draft.{Draft}
use Rattle.usda_drafts.specs.declared.owner.Owner.{Owner}
use Rattle.usda_grammar.specs.declared.symbols.Symbol.{Symbol}
use Rattle.usda_words.specs.Words.{Word}

-- the path of an owner, and the one from which its relative paths are taken
pub record IsPlaced (path base : List Element) : Type 0 where
  pub formed : IsPath path
  pub simple : base ≡ plain path

-- each owner has a path
abbrev pub AreAllPlaced : List Owner → Type 0
AreAllPlaced [] = Unit {0}
AreAllPlaced (o ∷ os) = IsPlaced o.said.path o.said.base × AreAllPlaced os

-- the innermost owner has, and each one outside it
abbrev pub ArePlaced : Draft → Type 0
ArePlaced d = IsPlaced d.owner.said.path d.owner.said.base × AreAllPlaced d.outer

-- Before the first word, and behind each one, the owners have paths, and those from which relative paths are taken are paths too.
pub record OwnersHavePaths : Type 0 where
  pub begins : ArePlaced blank
  pub kept : (s : Symbol) (w : Word) (d next : Draft) → ArePlaced d → act s w d ≡ Ok next → ArePlaced next
  pub base : (d : Draft) → ArePlaced d → IsPath d.owner.said.base
