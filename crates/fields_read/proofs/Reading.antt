-- A list that is read: it is begun, gets items, its last item is changed, and it ends, wherever in an owner it stands.
use Rattle.std.proofs.Common.{◌≡◌, ◌≤◌, ◌∙◌, ℕ, suc, Bool, true, List, [], ◌∷◌, ◌++◌, Option, Some, None, Result, Ok, Err, length, refl, ap, sym, subst, arith}
use Rattle.std.specs.Option.{option_map}
use Rattle.list_ops.specs.ListEdits.{firsts}
use Rattle.list_ops.specs.declared.op.ListOp.{ListOp}
use Rattle.sdf_values.specs.declared.refusal.RefusalKind.{RefusalKind}
use Rattle.usda_fields.specs.declared.owner.OwnerDraft.{OwnerDraft}
use Rattle.usda_grammar.specs.declared.kinds.Keyword.{Keyword}
use Rattle.usda_lists.specs.Acts.{and_then}
use Rattle.usda_lists.specs.Edits.{give, is_given}
use Rattle.usda_lists.specs.Lists.{list_at, with_list, push_item, close_list, amend_last, amend_list}
use Rattle.usda_lists.specs.declared.edit.GivenLists.{GivenLists}
use Rattle.usda_lists.specs.declared.edit.ListEdit.{ListEdit}
use Rattle.value_texts.specs.Each.{AreAll}
use Rattle.value_texts.proofs.EachOf.{all_push}
use Rattle.layer_reads.proofs.FieldLists.{list_again, list_back}
use Rattle.fields_read.specs.Lists.{IsSoundList, IsAtMost, HasItems}
use Rattle.fields_read.specs.Sound.{IsSaid}
use Rattle.fields_read.proofs.Items.{Keeps, amend_keeps, amend_length, few_stay, firsts_kept, more_push}
use Rattle.fields_read.proofs.Edits.{begun_given, list_begun, list_replaced}

-- Where the lists of a field stand in an owner, by what reads and what replaces them, and what is marked of them.
pub record IsPlace (is_name : Keyword → Bool) {T : Type 0} (same : T → T → Bool) (W : T → Type 0) (at : OwnerDraft → ListOp T) (put : ListOp T → OwnerDraft → OwnerDraft) (marks : OwnerDraft → GivenLists) : Type 0 where
  pub at_put : (op : ListOp T) (d : OwnerDraft) → at (put op d) ≡ op
  pub put_put : (op other : ListOp T) (d : OwnerDraft) → put other (put op d) ≡ put other d
  pub put_at : (d : OwnerDraft) → put (at d) d ≡ d
  pub marks_put : (op : ListOp T) (d : OwnerDraft) → marks (put op d) ≡ marks d
  pub said_put : (op : ListOp T) (d : OwnerDraft) → IsSaid is_name d → IsSoundList same W (marks d) op → IsSaid is_name (put op d)
  pub sound_at : (d : OwnerDraft) → IsSaid is_name d → IsSoundList same W (marks d) (at d)

module _ (is_name : Keyword → Bool) {T : Type 0} (same : T → T → Bool) (W : T → Type 0) (at : OwnerDraft → ListOp T) (put : ListOp T → OwnerDraft → OwnerDraft) (marks : OwnerDraft → GivenLists) where
  -- a list that is open there
  pub record Reads (edit : ListEdit) (most : Option ℕ) (d : OwnerDraft) : Type 0 where
    pub given : is_given edit (marks d) ≡ true
    pub items : HasItems W edit most (at d)
    pub closed : IsSaid is_name (put (close_list same edit (at d)) d)

  module _ (place : IsPlace is_name same W at put marks) where
    -- the items of a list that was put there
    items_so : (edit : ListEdit) (most : Option ℕ) (xs : List T) (op : ListOp T) → AreAll W xs → IsAtMost most (length xs) → HasItems W edit most (with_list edit xs op)
    items_so edit most xs op all few =
        let is : xs ≡ list_at edit (with_list edit xs op) = sym (list_back edit xs op) in
        record {
          there = ap (λ l. with_list edit l (with_list edit xs op)) (list_back edit xs op) ∙ list_again edit xs xs op;
          each = subst (AreAll W) is all;
          few = subst (λ l. IsAtMost most (length l)) is few;
        }

    -- the list of these items, closed
    closing : (edit : ListEdit) (xs : List T) (op : ListOp T) (d : OwnerDraft)
        → put (close_list same edit (at (put (with_list edit xs op) d))) (put (with_list edit xs op) d) ≡ put (with_list edit (firsts same xs) op) d
    closing edit xs op d =
        let new : ListOp T = with_list edit xs op in
        ap (λ o. put (close_list same edit o) (put new d)) (place.at_put new d)
        ∙ place.put_put new (close_list same edit new) d
        ∙ ap (λ l. put (with_list edit (firsts same l) new) d) (list_back edit xs op)
        ∙ ap (λ o. put o d) (list_again edit xs (firsts same xs) op)

    reads_so : (edit : ListEdit) (most : Option ℕ) (xs : List T) (op : ListOp T) (d : OwnerDraft) → is_given edit (marks d) ≡ true → AreAll W xs → IsAtMost most (length xs)
        → IsSaid is_name (put (with_list edit (firsts same xs) op) d) → Reads edit most (put (with_list edit xs op) d)
    reads_so edit most xs op d given all few said = record {
      given = subst (λ g. is_given edit g ≡ true) (sym (place.marks_put (with_list edit xs op) d)) given;
      items = subst (HasItems W edit most) (sym (place.at_put (with_list edit xs op) d)) (items_so edit most xs op all few);
      closed = subst (IsSaid is_name) (sym (closing edit xs op d)) said;
    }

    -- other items in place of those that the list has
    other_items : (edit : ListEdit) (xs ys : List T) (op : ListOp T) (d : OwnerDraft) → is_given edit (marks d) ≡ true → AreAll W ys
        → IsSaid is_name (put (with_list edit xs op) d) → IsSaid is_name (put (with_list edit (firsts same ys) op) d)
    other_items edit xs ys op d given all said =
        let old : ListOp T = with_list edit xs op in
        let new : ListOp T = with_list edit (firsts same ys) op in
        let marked : marks (put old d) ≡ marks d = place.marks_put old d in
        let was : IsSoundList same W (marks (put old d)) old = subst (IsSoundList same W (marks (put old d))) (place.at_put old d) (place.sound_at (put old d) said) in
        let still : is_given edit (marks (put old d)) ≡ true = subst (λ g. is_given edit g ≡ true) (sym marked) given in
        let is : IsSoundList same W (marks (put old d)) (with_list edit (firsts same ys) old) = list_replaced same W edit (marks (put old d)) (firsts same ys) old still (firsts_kept same W ys all) was in
        let so : IsSoundList same W (marks (put old d)) new = subst (IsSoundList same W (marks (put old d))) (list_again edit xs (firsts same ys) op) is in
        subst (IsSaid is_name) (place.put_put old new d) (place.said_put new (put old d) said so)

    replaced : (edit : ListEdit) (most next : Option ℕ) (xs : List T) (d : OwnerDraft) → Reads edit most d → AreAll W xs → IsAtMost next (length xs) → Reads edit next (put (with_list edit xs (at d)) d)
    replaced edit most next xs d r all few =
        reads_so edit next xs (at d) d r.given all few (other_items edit (firsts same (list_at edit (at d))) xs (at d) d r.given all r.closed)

    -- ---- what a text does

    begins : (edit : ListEdit) (d : OwnerDraft) → is_given edit (marks d) ≡ true → IsSaid is_name (put (with_list edit [] (at d)) d) → Reads edit (Some 0) (put (with_list edit [] (at d)) d)
    begins edit d given said = reads_so edit (Some 0) [] (at d) d given tt (omega arith) said

    -- the word of a field opens a list, which is marked
    pub opens : (edit : ListEdit) (given : GivenLists) (d next : OwnerDraft) → give edit (marks d) ≡ Ok given → marks next ≡ given → at next ≡ at d → IsSaid is_name d
        → ((op : ListOp T) → IsSoundList same W given op → IsSaid is_name (put op next)) → Reads edit (Some 0) (put (with_list edit [] (at next)) next)
    opens edit given d next h marked as_before said more =
        begins edit next (subst (λ g. is_given edit g ≡ true) (sym marked) (begun_given edit (marks d) given h))
        (more (with_list edit [] (at next)) (list_begun same W edit (marks d) given (at next) h (subst (IsSoundList same W (marks d)) (sym as_before) (place.sound_at d said))))

    pub unbounded : (edit : ListEdit) (most : Option ℕ) (d : OwnerDraft) → Reads edit most d → Reads edit None d
    unbounded edit most d r = record { given = r.given; items = record { there = r.items.there; each = r.items.each; few = tt }; closed = r.closed }

    pub pushes : (edit : ListEdit) (most : Option ℕ) (x : T) (d : OwnerDraft) → Reads edit most d → W x → Reads edit (option_map suc most) (put (push_item edit x (at d)) d)
    pushes edit most x d r h =
        let xs : List T = list_at edit (at d) in
        replaced edit most (option_map suc most) (xs ++ x ∷ []) d r (all_push W xs x r.items.each h) (more_push most xs x r.items.few)

    pub amends : (edit : ListEdit) (most : Option ℕ) (change : T → Result T RefusalKind) (op : ListOp T) (d : OwnerDraft) → Keeps W change → Reads edit most d
        → amend_list edit (amend_last change) (at d) ≡ Ok op → Reads edit most (put op d)
    amends edit most change op d keeps r h = by (amend_last change (list_at edit (at d))) refl h
      where
        by : (o : Result (List T) RefusalKind) → amend_last change (list_at edit (at d)) ≡ o → and_then o (λ items. Ok (with_list edit items (at d))) ≡ Ok op → Reads edit most (put op d)
        by (Ok xs) e g =
            let is : with_list edit xs (at d) ≡ op = cc in
            let few : IsAtMost most (length xs) = subst (IsAtMost most) (sym (amend_length change (list_at edit (at d)) xs e)) r.items.few in
            subst (λ o. Reads edit most (put o d)) is (replaced edit most most xs d r (amend_keeps W change keeps (list_at edit (at d)) xs r.items.each e) few)
        by (Err k) e g = absurd cc

    pub ends_alone : (edit : ListEdit) (most : ℕ) (d : OwnerDraft) → most ≤ 1 → Reads edit (Some most) d → IsSaid is_name d
    ends_alone edit most d one r =
        let same_list : close_list same edit (at d) ≡ at d = ap (λ l. with_list edit l (at d)) (few_stay same most (list_at edit (at d)) one r.items.few) ∙ r.items.there in
        subst (IsSaid is_name) (ap (λ o. put o d) same_list ∙ place.put_at d) r.closed
