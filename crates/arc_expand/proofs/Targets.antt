-- The path that a default prim names, by how its text begins.
use Rattle.std.proofs.Common.{◌≡◌, ap, sym, Bool, true, false, ◌∷◌, Option}
use Rattle.sdf_paths.specs.Reader.{path_of}
use Rattle.composition.specs.Paths.{Path}
use Rattle.composition.specs.Texts.{Text}
use Rattle.composition.specs.World.{is_absolute, default_target}

module _ (text : Text) where
  abbrev by_slash : Bool → Option Path
  by_slash b = elim b as (λ _. Option Path) [ true ↦ path_of text | false ↦ path_of (47 ∷ text) ]

  pub absolute_target : is_absolute text ≡ true → path_of text ≡ default_target text
  absolute_target is = sym (ap by_slash is)

  pub named_target : is_absolute text ≡ false → path_of (47 ∷ text) ≡ default_target text
  named_target is = sym (ap by_slash is)
