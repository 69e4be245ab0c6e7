-- The keys that are told are exactly those that a batch changes.
use Rattle.std.proofs.Common.{◌≡◌, List, Ok}
use Rattle.std.specs.List.{All, Contains}
use Rattle.std.specs.List.Sorted.{IsStrictlySortedBy}
use Rattle.std.proofs.lemmas.List.Elements.{All-weaker, All-contains}
use Rattle.layer_set.specs.Worlds.{WorldData}
use Rattle.layer_set.specs.declared.key.Key.{Key}
use Rattle.edit_batches.specs.declared.op.Op.{Op}
use Rattle.layer_apply.specs.Edits.{edit}
use Rattle.layer_set.specs.LookUps.{look_ups, key_of}
use Rattle.key_sets.specs.Order.{key_cmp}
use Rattle.agreeing_worlds.proofs.Stable.{unchanged}
use Rattle.layer_changes.specs.Changed.{IsChangedKey, AreChanged}
use Rattle.layer_changes.specs.Covering.{Names, NamesBatch, Keeps}
use Rattle.layer_changes.specs.Parts.{parts_of}
use Rattle.layer_changes.specs.declared.part.Part.{Part}
use Rattle.layer_changes.proofs.Batches.{changed_named}
use Rattle.layer_changes.proofs.Keys.{all_kept, kept_has, still_sorted}

pub batch_named : (w v : WorldData) (keys : List Key) (parts : List Part) (ops : List Op) → All (λ op. All (Contains parts) (parts_of op)) ops → All (Names w v keys) parts → NamesBatch w v keys ops
batch_named w v keys parts ops has names =
    All-weaker (λ (op : Op). All (Contains parts) (parts_of op)) (λ (op : Op). All (Names w v keys) (parts_of op))
    (λ op had. All-weaker (Contains parts) (Names w v keys) (λ part there. All-contains (Names w v keys) parts part names there) (parts_of op) had) ops has

pub are_changed : (w v : WorldData) (ops : List Op) (keys kept : List Key) → edit w ops ≡ Ok v → NamesBatch w v keys ops → IsStrictlySortedBy key_cmp keys → Keeps (IsChangedKey w v) keys kept
    → AreChanged w v kept
are_changed w v ops keys kept made names sorted keeps = record {
  only = all_kept (IsChangedKey w v) keys kept keeps;
  kept = λ key none. unchanged (look_ups w) (look_ups v) (key_of key) (λ changed. none (all key changed));
  all = all;
  ordered = still_sorted (IsChangedKey w v) key_cmp keys kept keeps sorted;
}
  where
    all : (key : Key) → IsChangedKey w v key → Contains kept key
    all key changed = kept_has (IsChangedKey w v) keys kept keeps key changed (changed_named w v keys key changed ops names made)
