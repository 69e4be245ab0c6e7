-- The names of layers that an opened world has.
use Rattle.std.specs.Prelude.{◌≡◌, ◌⊎◌, true, List, [], ◌∷◌, Option, Some}
use Rattle.std.specs.Option.{is_some}
use Rattle.composition.specs.Assets.{anchor}
use Rattle.composition.specs.Texts.{Text}
use Rattle.layer_set.specs.Named.{at_name}
use Rattle.layer_set.specs.Worlds.{WorldData}
use Rattle.layer_set.specs.declared.held.Held.{Held}
use Rattle.layer_load.specs.Opening.{assets_of}

-- one of these assets has this name in the layer
abbrev pub Give : Text → Text → List Text → Type 0
Give layer name [] = ⊥
Give layer name (asset ∷ assets) = (anchor layer asset ≡ Some name) ⊎ Give layer name assets

-- A name is the root's or the session's, or is named by the layer that stands at such a name, and so on.
pub data IsMet (held : Text → Held) (root : Text) (session : Option Text) : Text → Type 0 where
  as_root : IsMet held root session root
  as_session : (name : Text) → session ≡ Some name → IsMet held root session name
  as_named : (layer name : Text) → IsMet held root session layer → Give layer name (assets_of (held layer)) → IsMet held root session name

-- a world has what stands at these names, at no other, and no load rules
pub record IsClosed (held : Text → Held) (root : Text) (session : Option Text) (world : WorldData) : Type 0 where
  pub of_root : world.root ≡ root
  pub of_session : world.session ≡ session
  pub there : (name : Text) → IsMet held root session name → at_name name world.layers ≡ Some (held name)
  pub only : (name : Text) → is_some (at_name name world.layers) ≡ true → IsMet held root session name
  pub no_rules : world.rules ≡ []
