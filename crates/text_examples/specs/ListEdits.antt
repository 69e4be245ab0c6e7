-- What list edits make of lists, whose items are letters here.
use Rattle.std.specs.Prelude.{◌≡◌, ◌==◌, ℕ, List, [], ◌∷◌, codes, Some}
use Rattle.list_ops.specs.Blank.{no_edits}
use Rattle.list_ops.specs.ListEdits.{applied, folded, reordered}
use Rattle.list_ops.specs.declared.op.ListOp.{ListOp}

-- this opinion makes of the first list the second
abbrev pub Makes : ListOp ℕ → List ℕ → List ℕ → Type 0
Makes op before after = applied ◌==◌ op before ≡ after

-- these opinions, the weakest first, make this list
abbrev pub Fold : List (ListOp ℕ) → List ℕ → Type 0
Fold ops list = folded ◌==◌ ops ≡ list

abbrev pub sets : List ℕ → ListOp ℕ
sets items = record no_edits { explicit = Some items }

abbrev pub deletes : List ℕ → ListOp ℕ
deletes items = record no_edits { deleted = items }

abbrev pub adds : List ℕ → ListOp ℕ
adds items = record no_edits { added = items }

abbrev pub prepends : List ℕ → ListOp ℕ
prepends items = record no_edits { prepended = items }

abbrev pub appends : List ℕ → ListOp ℕ
appends items = record no_edits { appended = items }

abbrev pub reorders : List ℕ → ListOp ℕ
reorders items = record no_edits { ordered = items }

-- one edit alone
pub record EditsAreTold : Type 0 where
  pub deleted : Makes (deletes (codes "bx")) (codes "abc") (codes "ac")
  -- add leaves what is there at its place
  pub added : Makes (adds (codes "bx")) (codes "abc") (codes "abcx")
  -- prepend and append move what is there, in the order of the edit
  pub prepended : Makes (prepends (codes "cx")) (codes "abc") (codes "cxab")
  pub appended : Makes (appends (codes "xa")) (codes "abc") (codes "bcxa")
  pub explicit : Makes (sets (codes "xb")) (codes "abc") (codes "xb")
  pub explicit_empty : Makes (sets []) (codes "abc") []
  -- an explicit list stands alone, whatever edits are with it
  pub explicit_alone : Makes (record no_edits { explicit = Some (codes "a"); deleted = codes "a"; appended = codes "b" }) [] (codes "a")

-- of equal items the first is kept, in the list and in each list of an opinion, before all else
pub record RepeatsAreTold : Type 0 where
  pub list : Makes no_edits (codes "aba") (codes "ab")
  pub explicit : Makes (sets (codes "xyx")) [] (codes "xy")
  pub prepended : Makes (prepends (codes "xyx")) (codes "aba") (codes "xyab")
  pub appended : Makes (appends (codes "xyx")) (codes "aba") (codes "abxy")
  pub ordered : Makes (reorders (codes "bab")) (codes "aba") (codes "ba")

-- delete, add, prepend, append and reorder, in this order
pub record OrderIsTold : Type 0 where
  pub delete_add : Makes (record no_edits { deleted = codes "a"; added = codes "a" }) (codes "abc") (codes "bca")
  pub delete_prepend : Makes (record no_edits { deleted = codes "c"; prepended = codes "c" }) (codes "abc") (codes "cab")
  pub add_prepend : Makes (record no_edits { added = codes "x"; prepended = codes "x" }) (codes "abc") (codes "xabc")
  pub prepend_append : Makes (record no_edits { prepended = codes "x"; appended = codes "x" }) (codes "abc") (codes "abcx")
  pub append_reorder : Makes (record no_edits { appended = codes "x"; ordered = codes "xa" }) (codes "abc") (codes "xabc")

pub record ReordersAreTold : Type 0 where
  -- a listed item takes along those behind it that are not listed: `abc` and `def` change places
  pub groups : Makes (reorders (codes "da")) (codes "abcdef") (codes "defabc")
  -- what stands before the first group stays in front
  pub front : Makes (reorders (codes "db")) (codes "abcde") (codes "adebc")
  -- listed items that are absent order nothing
  pub absent : Makes (reorders (codes "xcyb")) (codes "abc") (codes "acb")
  pub none_listed : Makes (reorders (codes "xy")) (codes "abc") (codes "abc")
  -- the same as a call of its own
  pub alone : reordered ◌==◌ (codes "cac") (codes "abac") ≡ codes "cab"

pub record FoldsAreTold : Type 0 where
  pub nothing : Fold [] []
  -- an explicit opinion drops what weaker ones say, and stronger edits go on from it
  pub stronger_explicit : Fold (appends (codes "c") ∷ sets (codes "ab") ∷ []) (codes "ab")
  pub weaker_explicit : Fold (sets (codes "ab") ∷ record no_edits { deleted = codes "a"; appended = codes "c" } ∷ []) (codes "bc")
  -- what the stronger opinion prepends stands before what the weaker one does, and what it appends behind
  pub prepends_twice : Fold (prepends (codes "ab") ∷ prepends (codes "c") ∷ []) (codes "cab")
  pub appends_twice : Fold (appends (codes "ab") ∷ appends (codes "c") ∷ []) (codes "abc")
  -- a delete takes out what weaker opinions gave, and nothing that stronger ones give
  pub stronger_delete : Fold (prepends (codes "ab") ∷ deletes (codes "a") ∷ []) (codes "b")
  pub weaker_delete : Fold (deletes (codes "a") ∷ adds (codes "a") ∷ []) (codes "a")

pub record AreTold : Type 0 where
  pub edits : EditsAreTold
  pub repeats : RepeatsAreTold
  pub order : OrderIsTold
  pub reorders : ReordersAreTold
  pub folds : FoldsAreTold
