-- Every key that a batch changes is of a part of one of its operations.
use Rattle.std.proofs.Common.{◌≡◌, ◌∙◌, sym, ap, refl, ℕ, suc, Bool, true, false, ◌||◌, List, [], ◌∷◌, Ok, Err}
use Rattle.std.specs.List.{list_any, All, Contains}
use Rattle.std.proofs.lemmas.List.Elements.{All-head, All-tail}
use Rattle.layer_set.specs.LookUps.{stands_at}
use Rattle.layer_set.specs.Worlds.{WorldData}
use Rattle.layer_set.specs.declared.key.Key.{Key}
use Rattle.layer_edit.specs.Outcomes.{Made}
use Rattle.edit_batches.specs.declared.op.Op.{Op}
use Rattle.layer_apply.specs.Edits.{edited, proceed, edit_from, edit}
use Rattle.layer_changes.specs.Changed.{IsChangedKey}
use Rattle.layer_changes.specs.Covering.{Names, NamesBatch}
use Rattle.layer_changes.specs.Parts.{is_in, is_among, parts_of}
use Rattle.layer_changes.specs.declared.part.Part.{Part}
use Rattle.layer_changes.proofs.Worlds.{op_left}
use Rattle.composition.proofs.Tests.{by_test}

first_false : (a b : Bool) → (a || b) ≡ false → a ≡ false
first_false true b h = h
first_false false b h = refl

second_false : (a b : Bool) → (a || b) ≡ false → b ≡ false
second_false true b h = absurd cc
second_false false b h = h

-- the key is of a part of one of the operations
abbrev is_named : List Op → Key → Bool
is_named ops k = list_any (λ o. is_among (parts_of o) k) ops

module _ (k : Key) (v : WorldData) where
  left_from : (ops : List Op) (number : ℕ) (w : WorldData) → is_named ops k ≡ false → edit_from number ops w ≡ Ok v → stands_at v k ≡ stands_at w k
  left_from [] number w out h = let e : w ≡ v = cc in ap (λ (u : WorldData). stands_at u k) (sym e)
  left_from (o ∷ ops) number w out h = by_made (λ u. left_from ops (suc number) u) (edited o w) refl h
    where
      by_made : ((u : WorldData) → is_named ops k ≡ false → edit_from (suc number) ops u ≡ Ok v → stands_at v k ≡ stands_at u k) → (made : Made WorldData) → edited o w ≡ made
          → proceed number (edit_from (suc number) ops) made ≡ Ok v → stands_at v k ≡ stands_at w k
      by_made rest (Ok u) is after =
          rest u (second_false (is_among (parts_of o) k) (is_named ops k) out) after
          ∙ op_left o w u k (first_false (is_among (parts_of o) k) (is_named ops k) out) is
      by_made rest (Err fault) is after = absurd cc

  -- a key that no operation names is left
  pub edit_left : (ops : List Op) (w : WorldData) → is_named ops k ≡ false → edit w ops ≡ Ok v → stands_at v k ≡ stands_at w k
  unfolding edit
  edit_left ops w out h = left_from ops 1 w out h

module _ (w v : WorldData) (keys : List Key) (k : Key) (changed : IsChangedKey w v k) where
  of_part : (parts : List Part) → All (Names w v keys) parts → is_among parts k ≡ true → Contains keys k
  of_part [] all h = absurd cc
  of_part (part ∷ parts) all h =
      by_test (is_in part k)
      (λ on. All-head (Names w v keys) part parts all k on changed)
      (λ off. of_part parts (All-tail (Names w v keys) part parts all) (sym (ap (λ (b : Bool). b || is_among parts k) off) ∙ h))

  of_op : (ops : List Op) → NamesBatch w v keys ops → is_named ops k ≡ true → Contains keys k
  of_op [] all h = absurd cc
  of_op (o ∷ ops) all h =
      by_test (is_among (parts_of o) k)
      (λ on. of_part (parts_of o) (All-head (λ (p : Op). All (Names w v keys) (parts_of p)) o ops all) on)
      (λ off. of_op ops (All-tail (λ (p : Op). All (Names w v keys) (parts_of p)) o ops all) (sym (ap (λ (b : Bool). b || is_named ops k) off) ∙ h))

  -- a key that a batch changes is among the keys that it names
  pub changed_named : (ops : List Op) → NamesBatch w v keys ops → edit w ops ≡ Ok v → Contains keys k
  changed_named ops all h =
      by_test (is_named ops k)
      (λ on. of_op ops all on)
      (λ off. absurd (changed (sym (edit_left k v ops w off h))))
