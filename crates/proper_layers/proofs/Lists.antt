-- Lists whose items pass a test.
use Rattle.std.proofs.Common.{◌≡◌, Bool, true, false, ◌&&◌, List, [], ◌∷◌, Option, Some, None, ap, refl, subst, sym}
use Rattle.std.specs.List.{list_all}
use Rattle.list_ops.specs.declared.op.ListOp.{ListOp}
use Rattle.layer_texts.specs.Writable.{none_or, are_writable_edits, is_writable_list}
use Rattle.layer_reads.specs.Kept.{AreEditsKept, IsKeptBy, IsListKept}
use Rattle.value_texts.specs.Each.{AreAll}

pub both : (a b : Bool) → a ≡ true → b ≡ true → a && b ≡ true
both true b h k = k
both false b h k = absurd cc

module _ {T : Type 0} (W : T → Type 0) (w : T → Bool) (so : (x : T) → W x → w x ≡ true) where
  pub all_pass : (xs : List T) → AreAll W xs → list_all w xs ≡ true
  all_pass [] all = refl
  all_pass (x ∷ xs) all = both (w x) (list_all w xs) (so x all.0) (all_pass xs all.1)

  module _ (same : T → T → Bool) where
    edits_pass : (op : ListOp T) → AreEditsKept same W op → are_writable_edits w op ≡ true
    edits_pass op k =
        both (list_all w op.deleted) _ (all_pass op.deleted k.deleted.each)
        (both (list_all w op.added) _ (all_pass op.added k.added.each)
        (both (list_all w op.prepended) _ (all_pass op.prepended k.prepended.each)
        (both (list_all w op.appended) _ (all_pass op.appended k.appended.each) (all_pass op.ordered k.ordered.each))))

    by_kind : (o : Option (List T)) (op : ListOp T) → IsKeptBy same W o op → is_writable_list w op ≡ true
    by_kind None op k = both (none_or (list_all w) op.explicit) (are_writable_edits w op) (ap (none_or (list_all w)) k.inexplicit) (edits_pass op k)
    by_kind (Some xs) op k = subst (λ o. is_writable_list w o ≡ true) (sym k.alone) (both (list_all w xs) true (all_pass xs k.items.each) refl)

    -- the lists of a field
    pub list_passes : (op : ListOp T) → IsListKept same W op → is_writable_list w op ≡ true
    list_passes op k = by_kind op.explicit op k
