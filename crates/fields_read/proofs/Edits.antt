-- The lists of a field where one of them is begun, or replaced by another.
use Rattle.std.proofs.Common.{◌≡◌, ◌∙◌, Bool, true, false, ◌||◌, List, [], Option, Some, None, Ok, Err, refl, ap, sym, subst}
use Rattle.std.specs.Prelude.{is_some, if◌then◌else◌}
use Rattle.std.proofs.lemmas.Bool.{or_parts}
use Rattle.list_ops.specs.Blank.{no_edits}
use Rattle.list_ops.specs.declared.op.ListOp.{ListOp}
use Rattle.sdf_values.specs.declared.refusal.RefusalKind.TheVariants.{Syntax, DuplicateSpec}
use Rattle.usda_lists.specs.Edits.{clashes, give, has_edits, is_given, with_given}
use Rattle.usda_lists.specs.Lists.{items_or_none, list_at, with_list}
use Rattle.usda_lists.specs.declared.edit.GivenLists.{GivenLists}
use Rattle.usda_lists.specs.declared.edit.ListEdit.{ListEdit}
use Rattle.usda_lists.specs.declared.edit.ListEdit.TheVariants.{Explicit, Delete, Add, Prepend, Append, Reorder}
use Rattle.layer_reads.specs.Kept.{AreKept, IsListKept, IsKeptBy}
use Rattle.fields_read.specs.Lists.{IsSoundList}

-- ---- one list in place of another

module _ {T : Type 0} where
  -- what holds of the list that is put there, and of each list before, holds of each list behind
  pub list_with : (P : List T → Type 0) (edit other : ListEdit) (xs : List T) (op : ListOp T) → P xs → P (list_at other op) → P (list_at other (with_list edit xs op))
  list_with P Explicit Explicit xs op p q = p
  list_with P Delete Delete xs op p q = p
  list_with P Add Add xs op p q = p
  list_with P Prepend Prepend xs op p q = p
  list_with P Append Append xs op p q = p
  list_with P Reorder Reorder xs op p q = p
  list_with P edit other xs op p q = q

  -- a list that was not given stays as it was where a given one is replaced
  pub ungiven_with : (edit other : ListEdit) (given : GivenLists) (xs : List T) (op : ListOp T) → is_given edit given ≡ true → is_given other given ≡ false
      → list_at other op ≡ [] → list_at other (with_list edit xs op) ≡ []
  ungiven_with Explicit Explicit given xs op g n e = absurd cc
  ungiven_with Delete Delete given xs op g n e = absurd cc
  ungiven_with Add Add given xs op g n e = absurd cc
  ungiven_with Prepend Prepend given xs op g n e = absurd cc
  ungiven_with Append Append given xs op g n e = absurd cc
  ungiven_with Reorder Reorder given xs op g n e = absurd cc
  ungiven_with edit other given xs op g n e = e

explicit_with : {T : Type 0} (edit : ListEdit) (given : GivenLists) (xs : List T) (op : ListOp T) → is_given edit given ≡ true → is_some op.explicit ≡ given.explicit
    → is_some (with_list edit xs op).explicit ≡ given.explicit
explicit_with Explicit given xs op g e = sym g
explicit_with Delete given xs op g e = e
explicit_with Add given xs op g e = e
explicit_with Prepend given xs op g e = e
explicit_with Append given xs op g e = e
explicit_with Reorder given xs op g e = e

-- a list that is given may be replaced by one whose items are proper, each once
pub list_replaced : {T : Type 0} (same : T → T → Bool) (W : T → Type 0) (edit : ListEdit) (given : GivenLists) (xs : List T) (op : ListOp T)
    → is_given edit given ≡ true → AreKept same W xs → IsSoundList same W given op → IsSoundList same W given (with_list edit xs op)
list_replaced same W edit given xs op g kept sound = record {
  kept = λ other. list_with (AreKept same W) edit other xs op kept (sound.kept other);
  ungiven = λ other n. ungiven_with edit other given xs op g n (sound.ungiven other n);
  explicit = explicit_with edit given xs op g sound.explicit;
  alone = sound.alone;
}

-- ---- a list more

-- what is marked besides stays so
pub still_ungiven : (edit other : ListEdit) (given : GivenLists) → is_given other (with_given edit given) ≡ false → is_given other given ≡ false
still_ungiven Explicit Explicit given h = absurd cc
still_ungiven Delete Delete given h = absurd cc
still_ungiven Add Add given h = absurd cc
still_ungiven Prepend Prepend given h = absurd cc
still_ungiven Append Append given h = absurd cc
still_ungiven Reorder Reorder given h = absurd cc
still_ungiven edit other given h = h

pub now_given : (edit : ListEdit) (given : GivenLists) → is_given edit (with_given edit given) ≡ true
now_given Explicit given = refl
now_given Delete given = refl
now_given Add given = refl
now_given Prepend given = refl
now_given Append given = refl
now_given Reorder given = refl

marked_so : {T : Type 0} (edit : ListEdit) (given : GivenLists) (op : ListOp T) → is_some op.explicit ≡ given.explicit → is_some (with_list edit [] op).explicit ≡ (with_given edit given).explicit
marked_so Explicit given op e = refl
marked_so Delete given op e = e
marked_so Add given op e = e
marked_so Prepend given op e = e
marked_so Append given op e = e
marked_so Reorder given op e = e

-- an edit has no explicit list beside it
no_explicit : (given : GivenLists) (B : Type 0) → given.explicit ≡ false → given.explicit ≡ true → B
no_explicit given B n h = absurd cc

pub alone_so : (edit : ListEdit) (given : GivenLists) → clashes edit given ≡ false → (with_given edit given).explicit ≡ true → has_edits (with_given edit given) ≡ false
alone_so Explicit given n h = n
alone_so Delete given n h = no_explicit given (has_edits (with_given Delete given) ≡ false) n h
alone_so Add given n h = no_explicit given (has_edits (with_given Add given) ≡ false) n h
alone_so Prepend given n h = no_explicit given (has_edits (with_given Prepend given) ≡ false) n h
alone_so Append given n h = no_explicit given (has_edits (with_given Append given) ≡ false) n h
alone_so Reorder given n h = no_explicit given (has_edits (with_given Reorder given) ≡ false) n h

-- a list is given that does not clash with those before it, and which marks there are then
pub record IsBegun (edit : ListEdit) (given next : GivenLists) : Type 0 where
  pub apart : clashes edit given ≡ false
  pub marked : next ≡ with_given edit given

pub give_begins : (edit : ListEdit) (given next : GivenLists) → give edit given ≡ Ok next → IsBegun edit given next
give_begins edit given next h = by (clashes edit given) refl h
  where
    new : (b : Bool) → clashes edit given ≡ false → (if b then Err DuplicateSpec else Ok (with_given edit given)) ≡ Ok next → IsBegun edit given next
    new true n g = absurd cc
    new false n g = record { apart = n; marked = cc }

    by : (b : Bool) → clashes edit given ≡ b → (if b then Err Syntax else if is_given edit given then Err DuplicateSpec else Ok (with_given edit given)) ≡ Ok next → IsBegun edit given next
    by true e g = absurd cc
    by false e g = new (is_given edit given) e g

module _ {T : Type 0} (same : T → T → Bool) (W : T → Type 0) where
  none_kept : AreKept same W []
  none_kept = record { each = tt; once = refl }

  begun_so : (edit : ListEdit) (given : GivenLists) (op : ListOp T) → clashes edit given ≡ false → IsSoundList same W given op → IsSoundList same W (with_given edit given) (with_list edit [] op)
  begun_so edit given op n sound = record {
    kept = λ other. list_with (AreKept same W) edit other [] op none_kept (sound.kept other);
    ungiven = λ other h. list_with (λ xs. xs ≡ []) edit other [] op refl (sound.ungiven other (still_ungiven edit other given h));
    explicit = marked_so edit given op sound.explicit;
    alone = alone_so edit given n;
  }

  -- a list that may be given is begun without items
  pub list_begun : (edit : ListEdit) (given next : GivenLists) (op : ListOp T) → give edit given ≡ Ok next → IsSoundList same W given op → IsSoundList same W next (with_list edit [] op)
  list_begun edit given next op h sound =
      let begun = give_begins edit given next h in
      subst (λ g. IsSoundList same W g (with_list edit [] op)) (sym begun.marked) (begun_so edit given op begun.apart sound)

pub begun_given : (edit : ListEdit) (given next : GivenLists) → give edit given ≡ Ok next → is_given edit next ≡ true
begun_given edit given next h = subst (λ g. is_given edit g ≡ true) (sym (give_begins edit given next h).marked) (now_given edit given)

-- ---- the lists, once they are read

-- no edit is given beside an explicit list, so none has items
pub explicit_alone : {T : Type 0} (given : GivenLists) (op : ListOp T) (xs : List T) → op.explicit ≡ Some xs → has_edits given ≡ false
    → ((edit : ListEdit) → is_given edit given ≡ false → list_at edit op ≡ []) → op ≡ record no_edits { explicit = Some xs }
explicit_alone given op xs some none ungiven =
    let p = or_parts given.deleted (given.added || (given.prepended || (given.appended || given.ordered))) none in
    let q = or_parts given.added (given.prepended || (given.appended || given.ordered)) p.1 in
    let r = or_parts given.prepended (given.appended || given.ordered) q.1 in
    let s = or_parts given.appended given.ordered r.1 in
    let deleted : op.deleted ≡ [] = ungiven Delete p.0 in
    let added : op.added ≡ [] = ungiven Add q.0 in
    let prepended : op.prepended ≡ [] = ungiven Prepend r.0 in
    let appended : op.appended ≡ [] = ungiven Append s.0 in
    let ordered : op.ordered ≡ [] = ungiven Reorder s.1 in
    λ i. record { explicit = some i; deleted = deleted i; added = added i; prepended = prepended i; appended = appended i; ordered = ordered i }

module _ {T : Type 0} (same : T → T → Bool) (W : T → Type 0) where
  -- either an explicit list alone, or edits alone
  pub lists_kept : (op : ListOp T) → ((edit : ListEdit) → AreKept same W (list_at edit op)) → ((xs : List T) → op.explicit ≡ Some xs → op ≡ record no_edits { explicit = Some xs }) → IsListKept same W op
  lists_kept op kept alone = by op.explicit refl
    where
      by : (o : Option (List T)) → op.explicit ≡ o → IsKeptBy same W o op
      by None e = record { inexplicit = e; deleted = kept Delete; added = kept Add; prepended = kept Prepend; appended = kept Append; ordered = kept Reorder }
      by (Some xs) e = record { alone = alone xs e; items = subst (AreKept same W) (ap items_or_none e) (kept Explicit) }

  pub list_kept : (given : GivenLists) (op : ListOp T) → IsSoundList same W given op → IsListKept same W op
  list_kept given op sound = lists_kept op sound.kept (λ xs some. explicit_alone given op xs some (sound.alone (sym sound.explicit ∙ ap is_some some)) sound.ungiven)
