-- The lists of one field: an explicit one, or one for each edit word.
use Rattle.std.specs.Prelude.{ℕ, Bool, true, false, ◌==◌, ◌||◌, if◌then◌else◌, List, codes, Result, Ok, Err}
use Rattle.std.specs.Cmp.Lexicographic.{pointwise}
use Rattle.sdf_values.specs.declared.refusal.RefusalKind.{RefusalKind}
use Rattle.sdf_values.specs.declared.refusal.RefusalKind.TheVariants.{Syntax, DuplicateSpec}
use Rattle.usda_lists.specs.declared.edit.ListEdit.{ListEdit}
use Rattle.usda_lists.specs.declared.edit.ListEdit.TheVariants.{Explicit, Delete, Add, Prepend, Append, Reorder}
use Rattle.usda_lists.specs.declared.edit.GivenLists.{GivenLists}

-- the edit of a word; any other word is none, and the list is explicit
abbrev pub edit_of : List ℕ → ListEdit
edit_of word =
    if pointwise ◌==◌ word (codes "delete") then Delete
    else if pointwise ◌==◌ word (codes "add") then Add
    else if pointwise ◌==◌ word (codes "prepend") then Prepend
    else if pointwise ◌==◌ word (codes "append") then Append
    else if pointwise ◌==◌ word (codes "reorder") then Reorder
    else Explicit

-- no list of the field has been given
abbrev pub none_given : GivenLists
none_given = record { explicit = false; deleted = false; added = false; prepended = false; appended = false; ordered = false }

-- a list with an edit word was given
abbrev pub has_edits : GivenLists → Bool
has_edits g = g.deleted || (g.added || (g.prepended || (g.appended || g.ordered)))

-- an explicit list does not go with edits
abbrev pub clashes : ListEdit → GivenLists → Bool
clashes Explicit g = has_edits g
clashes edit g = g.explicit

-- the list of this edit word, or the explicit one, was given
abbrev pub is_given : ListEdit → GivenLists → Bool
is_given Explicit g = g.explicit
is_given Delete g = g.deleted
is_given Add g = g.added
is_given Prepend g = g.prepended
is_given Append g = g.appended
is_given Reorder g = g.ordered

-- the list of this edit word, or the explicit one, is given as well
abbrev pub with_given : ListEdit → GivenLists → GivenLists
with_given Explicit g = record g { explicit = true }
with_given Delete g = record g { deleted = true }
with_given Add g = record g { added = true }
with_given Prepend g = record g { prepended = true }
with_given Append g = record g { appended = true }
with_given Reorder g = record g { ordered = true }

-- one list more, which may be empty
abbrev pub give : ListEdit → GivenLists → Result GivenLists RefusalKind
give edit g = if clashes edit g then Err Syntax else if is_given edit g then Err DuplicateSpec else Ok (with_given edit g)
