-- Sets of keys among which are all that may have changed.
use Rattle.std.specs.Prelude.{◌≡◌, ◌⊎◌, ℕ, true, is_some, List, [], ◌∷◌}
use Rattle.std.specs.List.{All, Contains}
use Rattle.sdf_paths.specs.Paths.{has_prefix}
use Rattle.sdf_paths.specs.declared.element.Element.{Element}
use Rattle.layer_set.specs.Worlds.{WorldData, spec_of}
use Rattle.layer_set.specs.declared.held.Held.{Held}
use Rattle.layer_set.specs.declared.key.Key.{Key}
use Rattle.layer_set.specs.declared.key.Key.TheVariants.{Arcs, Body}
use Rattle.edit_batches.specs.declared.op.Op.{Op}
use Rattle.layer_changes.specs.Changed.{IsChangedKey}
use Rattle.layer_changes.specs.Parts.{is_in, parts_of}
use Rattle.layer_changes.specs.declared.part.Part.{Part}

-- both keys of a spec are there
abbrev pub HasSpec : List Key → List ℕ → List Element → Type 0
HasSpec keys name path = Contains keys (Arcs name path) × Contains keys (Body name path)

-- the keys of all specs at a path and below it are there
abbrev pub HasTree : List Key → Held → List ℕ → List Element → Type 0
HasTree keys held name front = (path : List Element) → has_prefix front path ≡ true → is_some (spec_of held path) ≡ true → HasSpec keys name path

-- each key of a part is there if its value differs
abbrev pub Names : WorldData → WorldData → List Key → Part → Type 0
Names w v keys part = (key : Key) → is_in part key ≡ true → IsChangedKey w v key → Contains keys key

-- each key of a part of an operation is there if its value differs
abbrev pub NamesBatch : WorldData → WorldData → List Key → List Op → Type 0
NamesBatch w v keys ops = All (λ op. All (Names w v keys) (parts_of op)) ops

-- those of the items of which something holds, in their order
abbrev pub Keeps : {K : Type 0} → (K → Type 0) → List K → List K → Type 0
Keeps {K} P [] kept = kept ≡ []
Keeps {K} P (k ∷ ks) kept = (P k × ((rest : List K) × (kept ≡ k ∷ rest) × Keeps P ks rest)) ⊎ (¬ (P k) × Keeps P ks kept)
