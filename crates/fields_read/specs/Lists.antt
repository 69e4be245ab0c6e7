-- The lists of a field, all of them, and one that is open.
use Rattle.std.specs.Prelude.{◌≡◌, ◌≤◌, ℕ, Bool, true, false, [], Option, Some, None, is_some, length}
use Rattle.list_ops.specs.declared.op.ListOp.{ListOp}
use Rattle.usda_lists.specs.Edits.{is_given, has_edits}
use Rattle.usda_lists.specs.Lists.{list_at, with_list}
use Rattle.usda_lists.specs.declared.edit.GivenLists.{GivenLists}
use Rattle.usda_lists.specs.declared.edit.ListEdit.{ListEdit}
use Rattle.layer_reads.specs.Kept.{AreKept}
use Rattle.value_texts.specs.Each.{AreAll}

-- The lists of a field, of which those that were given are marked: the items of each are proper, and each stands once in it. A list
-- that was not given has no items, and an explicit list was given without edits.
pub record IsSoundList {T : Type 0} (same : T → T → Bool) (W : T → Type 0) (given : GivenLists) (op : ListOp T) : Type 0 where
  pub kept : (edit : ListEdit) → AreKept same W (list_at edit op)
  pub ungiven : (edit : ListEdit) → is_given edit given ≡ false → list_at edit op ≡ []
  pub explicit : is_some op.explicit ≡ given.explicit
  pub alone : given.explicit ≡ true → has_edits given ≡ false

-- so many items are no more than the most that there may be
abbrev pub IsAtMost : Option ℕ → ℕ → Type 0
IsAtMost None n = Unit {0}
IsAtMost (Some most) n = n ≤ most

-- the list is there, where it is the explicit one too, and so are its items: each is proper, and there are no more than the most
pub record HasItems {T : Type 0} (W : T → Type 0) (edit : ListEdit) (most : Option ℕ) (op : ListOp T) : Type 0 where
  pub there : with_list edit (list_at edit op) op ≡ op
  pub each : AreAll W (list_at edit op)
  pub few : IsAtMost most (length (list_at edit op))
