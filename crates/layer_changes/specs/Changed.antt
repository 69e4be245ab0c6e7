-- The keys that an edit from one world to another changes.
-- docs/EDITS.md, 'Keys'.
use Rattle.std.specs.Prelude.{◌≡◌, List}
use Rattle.std.specs.List.{All, Contains}
use Rattle.std.specs.List.Sorted.{IsStrictlySortedBy}
use Rattle.composition.specs.Keys.{IsChanged}
use Rattle.key_sets.specs.Order.{key_cmp}
use Rattle.layer_set.specs.LookUps.{look_ups, key_of, stands_at}
use Rattle.layer_set.specs.Worlds.{WorldData}
use Rattle.layer_set.specs.declared.key.Key.{Key}

-- what stands at the key differs between the two worlds
abbrev pub IsChangedKey : WorldData → WorldData → Key → Type 0
IsChangedKey w v key = IsChanged (look_ups w) (look_ups v) (key_of key)

-- Exactly the keys whose values differ between the two worlds, each once, in the order of keys. What is not listed is the same in both.
pub record AreChanged (w v : WorldData) (keys : List Key) : Type 0 where
  pub only : All (IsChangedKey w v) keys
  pub kept : (key : Key) → ¬ (Contains keys key) → stands_at w key ≡ stands_at v key
  pub all : (key : Key) → IsChangedKey w v key → Contains keys key
  pub ordered : IsStrictlySortedBy key_cmp keys
