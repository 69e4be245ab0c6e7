-- A world that is opened name by name.
use Rattle.std.specs.Prelude.{ℕ, zero, suc, ◌+◌, ◌||◌, nat_lt, Bool, true, false, List, [], ◌∷◌, fold, slice_get, Option, Some, None, Result, Ok, Err}
use Rattle.composition.specs.Assets.{anchor}
use Rattle.composition.specs.Texts.{Text, same_text}
use Rattle.layer_set.specs.Named.{with_name}
use Rattle.layer_set.specs.Worlds.{WorldData}
use Rattle.layer_set.specs.declared.held.Held.{Held}
use Rattle.layer_set.specs.declared.held.Held.TheVariants.{Present, Absent, Broken}
use Rattle.layer_stack.specs.Meant.{noted}
use Rattle.spec_parts.specs.declared.items.Refusal.{Refusal}
use Rattle.layer_load.specs.Assets.{assets_of_layer}
use Rattle.layer_load.specs.declared.fault.LoadFault.{LoadFault}
use Rattle.layer_load.specs.declared.fault.LoadFault.TheVariants.{RootRefused, WorldTooLarge}
use Rattle.layer_load.specs.declared.load.Loaded.{Loaded}

-- as many names as may have their turn
abbrev pub most_names : ℕ
most_names = 4096

-- as many bytes as may be fetched in all
abbrev pub most_bytes : ℕ
most_bytes = 268435456

-- the names in the order in which they were met, each once; what was found at those that had their turn; the bytes fetched so far
pub record Opening : Type 0 where
  pub names : List Text
  pub world : WorldData
  pub bytes : ℕ

-- the name that an asset has in a layer, if it has one
abbrev pub with_anchored : List Text → Option Text → List Text
with_anchored names None = names
with_anchored names (Some name) = noted names name

-- the names with that of an asset, as the layer that names it anchors it
abbrev pub with_asset : Text → List Text → Text → List Text
with_asset layer names asset = with_anchored names (anchor layer asset)

-- the assets that a layer names; one that is absent or refused names none
abbrev pub assets_of : Held → List Text
assets_of (Present layer) = assets_of_layer layer
assets_of Absent = []
assets_of (Broken refusal) = []

-- the names of what a layer names behind those that are there
abbrev pub with_assets : List Text → Text → Held → List Text
with_assets names layer held = fold (with_asset layer) names (assets_of held)

-- the name is that of the session layer, if there is one
abbrev pub is_session : Option Text → Text → Bool
is_session None name = false
is_session (Some session) name = same_text name session

-- the root and the session layer have to be there
abbrev pub is_needed : WorldData → Text → Bool
is_needed world name = same_text name world.root || is_session world.session name

-- why a layer that has to be there is not: it is absent, or its refusal
abbrev pub refusal_of : Held → Option (Option Refusal)
refusal_of (Present layer) = None
refusal_of Absent = Some None
refusal_of (Broken refusal) = Some (Some refusal)

-- a layer that need not be there ends no opening
abbrev pub if_needed : Bool → Held → Option (Option Refusal)
if_needed true held = refusal_of held
if_needed false held = None

-- what an opening ends with: the world with the bytes that were fetched, or why there is none
abbrev pub Ending : Type 0
Ending = Result Loaded LoadFault

-- what stands at a name, and the names of what it names; the bytes are then this many
abbrev pub with_held : Opening → Text → Held → ℕ → Opening
with_held s name held total = record {
  names = with_assets s.names name held;
  world = record s.world { layers = with_name name held s.world.layers };
  bytes = total;
}

module _ (go : Opening → Ending) where
  -- a root or session layer that is not there ends the opening; else what stands at the name is kept
  abbrev pub unless_refused : Opening → Text → Held → ℕ → Option (Option Refusal) → Ending
  unless_refused s name held total (Some refusal) = Err (RootRefused name refusal)
  unless_refused s name held total None = go (with_held s name held total)

  -- the root and the session layer have to be there
  abbrev pub judged : Opening → Text → Held → ℕ → Ending
  judged s name held total = unless_refused s name held total (if_needed (is_needed s.world name) held)

  -- too many bytes in all end the opening, whatever the layer is
  abbrev pub unless_large : Opening → Text → Held → ℕ → Bool → Ending
  unless_large s name held total true = Err WorldTooLarge
  unless_large s name held total false = judged s name held total

  -- A name has its turn, and the opening goes on. The bytes in all are judged first, and then whether a layer that has to be there is.
  unfoldable pub taken : Opening → Text → Held → ℕ → Ending
  taken s name held size = unless_large s name held (s.bytes + size) (nat_lt most_bytes (s.bytes + size))

-- the world of an opening, and how many bytes were fetched for it
abbrev pub loaded : Opening → Loaded
loaded s = record { world = s.world; bytes = s.bytes }

-- the end, unless one more name has its turn
abbrev pub by_turn : (Text → Ending) → Opening → Option Text → Ending
by_turn turn s None = Ok (loaded s)
by_turn turn s (Some name) = turn name

-- the names of the root and the session layer
abbrev pub first_names : Text → Option Text → List Text
first_names root None = root ∷ []
first_names root (Some session) = noted (root ∷ []) session

-- an opening at its begin: the names of root and session layer are met, nothing is fetched, and there are no load rules
abbrev pub begun : Text → Option Text → Opening
begun root session = record {
  names = first_names root session;
  world = record { root = root; session = session; layers = []; rules = [] };
  bytes = 0;
}

module _ (held : Text → Held) (size : Text → ℕ) where
  -- so many names may have their turn, the first of them being the one at this place
  unfoldable pub opened_from : ℕ → ℕ → Opening → Ending
  opened_from zero place s = by_turn (λ name. Err WorldTooLarge) s (slice_get s.names place)
  opened_from (suc left) place s = by_turn (λ name. taken (opened_from left (place + 1)) s name (held name) (size name)) s (slice_get s.names place)

  -- What an opening of this root and this session layer ends with, where so many names may have their turn. `held` is what stands at
  -- each name, `size` how many bytes are fetched for it.
  unfoldable pub opened : ℕ → Text → Option Text → Ending
  opened names root session = opened_from names 0 (begun root session)
