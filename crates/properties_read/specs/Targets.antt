-- The targets of a relationship, or the connections of an attribute, while their lists are read.
use Rattle.std.specs.Prelude.{◌≡◌, true, false, List, [], None}
use Rattle.list_ops.specs.declared.op.ListOp.{ListOp}
use Rattle.sdf_paths.specs.declared.element.Element.{Element}
use Rattle.usda_lists.specs.Edits.{has_edits, is_given}
use Rattle.usda_lists.specs.Lists.{list_at, with_list}
use Rattle.usda_lists.specs.References.{same_path}
use Rattle.usda_lists.specs.declared.edit.GivenLists.{GivenLists}
use Rattle.usda_lists.specs.declared.edit.ListEdit.{ListEdit}
use Rattle.layer_reads.specs.Kept.{AreKept}
use Rattle.value_returns.specs.Proper.{IsProperTarget}
use Rattle.value_texts.specs.Each.{AreAll}

-- How far the list that a statement gives is read: no list is open, or one is of which nothing stands there yet, or one between its
-- brackets.
pub data Reading : Type 0 where
  closed : Reading
  begun : Reading
  bracketed : Reading

-- an explicit list does not go with edits
abbrev pub IsApart : GivenLists → Type 0
IsApart g = g.explicit ≡ true → has_edits g ≡ false

-- paths without selections, each once
abbrev pub AreTargets : List (List Element) → Type 0
AreTargets paths = AreKept same_path IsProperTarget paths

-- Lists of which these were given, the explicit one or edits: the others say nothing, and in each list each path stands once.
pub record AreGiven (g : GivenLists) (op : ListOp (List Element)) : Type 0 where
  pub apart : IsApart g
  pub inexplicit : g.explicit ≡ false → op.explicit ≡ None
  pub absent : (edit : ListEdit) → is_given edit g ≡ false → list_at edit op ≡ []
  pub kept : (edit : ListEdit) → AreTargets (list_at edit op)

-- the same, where the list of this edit word, or the explicit one, was given last and has no path
pub record IsBegun (edit : ListEdit) (g : GivenLists) (op : ListOp (List Element)) : Type 0 where
  pub given : is_given edit g ≡ true
  pub all : AreGiven g op
  pub empty : list_at edit op ≡ []

-- the same, where that list has paths without selections, of which one may stand twice until its bracket closes
pub record IsBracketed (edit : ListEdit) (g : GivenLists) (op : ListOp (List Element)) : Type 0 where
  pub given : is_given edit g ≡ true
  pub others : AreGiven g (with_list edit [] op)
  pub paths : AreAll IsProperTarget (list_at edit op)

-- the lists of a property, of which one is read so far
abbrev pub AreLists : Reading → ListEdit → GivenLists → ListOp (List Element) → Type 0
AreLists closed edit g op = AreGiven g op
AreLists begun edit g op = IsBegun edit g op
AreLists bracketed edit g op = IsBracketed edit g op
