-- Lists of targets or connections, one of which is given, read and closed.
use Rattle.std.proofs.Common.{◌≡◌, ◌∙◌, sym, ap, refl, subst, Bool, true, false, List, [], ◌∷◌, ◌++◌, Some, None, Ok}
use Rattle.list_ops.specs.Blank.{no_edits}
use Rattle.list_ops.specs.ListEdits.{firsts}
use Rattle.list_ops.specs.declared.op.ListOp.{ListOp}
use Rattle.sdf_paths.specs.declared.element.Element.{Element}
use Rattle.usda_lists.specs.Edits.{none_given, clashes, is_given, with_given, give}
use Rattle.usda_lists.specs.Lists.{list_at, with_list, open_list, push_item, close_list}
use Rattle.usda_lists.specs.References.{same_path}
use Rattle.usda_lists.specs.declared.edit.GivenLists.{GivenLists}
use Rattle.usda_lists.specs.declared.edit.ListEdit.{ListEdit}
use Rattle.usda_lists.specs.declared.edit.ListEdit.TheVariants.{Explicit, Delete, Add, Prepend, Append, Reorder}
use Rattle.layer_reads.proofs.FieldLists.{list_again, list_back}
use Rattle.value_returns.specs.Proper.{IsProperTarget, AreProperTargets}
use Rattle.value_texts.specs.Each.{AreAll}
use Rattle.value_texts.proofs.EachOf.{all_push}
use Rattle.properties_read.specs.Targets.{IsApart, AreTargets, AreGiven, IsBegun, IsBracketed}
use Rattle.fields_read.proofs.Edits.{list_with, ungiven_with, still_ungiven, now_given, alone_so, give_begins, explicit_alone, lists_kept}
use Rattle.fields_read.proofs.Items.{firsts_kept}

abbrev Path : Type 0
Path = List Element

-- ---- lists of paths

pub no_targets : AreTargets []
no_targets = record { each = tt; once = refl }

pub one_target : (path : Path) → IsProperTarget path → AreTargets (path ∷ [])
one_target path t = record { each = (t, tt); once = refl }

-- ---- one list of the opinion

explicit_stays : {T : Type 0} (edit : ListEdit) (xs : List T) (op : ListOp T) (g : GivenLists) → is_given edit g ≡ true → g.explicit ≡ false → (with_list edit xs op).explicit ≡ op.explicit
explicit_stays Explicit xs op g given none = absurd cc
explicit_stays Delete xs op g given none = refl
explicit_stays Add xs op g given none = refl
explicit_stays Prepend xs op g given none = refl
explicit_stays Append xs op g given none = refl
explicit_stays Reorder xs op g given none = refl

-- a list that was given, with other paths
pub given_with : (edit : ListEdit) (paths : List Path) (g : GivenLists) (op : ListOp Path) → is_given edit g ≡ true → AreTargets paths → AreGiven g op → AreGiven g (with_list edit paths op)
given_with edit paths g op given targets all = record {
  apart = all.apart;
  inexplicit = λ none. explicit_stays edit paths op g given none ∙ all.inexplicit none;
  absent = λ other none. ungiven_with edit other g paths op given none (all.absent other none);
  kept = λ other. list_with AreTargets edit other paths op targets (all.kept other);
}

-- ---- a list is given

pub none_apart : IsApart none_given
none_apart h = absurd cc

-- nothing was given
pub blank_given : (g : GivenLists) → IsApart g → AreGiven g no_edits
blank_given g apart = record { apart = apart; inexplicit = λ h. refl; absent = λ edit h. by edit; kept = λ edit. subst AreTargets (sym (by edit)) no_targets }
  where
    by : (edit : ListEdit) → list_at edit (no_edits {T = Path}) ≡ []
    by Explicit = refl
    by Delete = refl
    by Add = refl
    by Prepend = refl
    by Append = refl
    by Reorder = refl

explicit_before : (edit : ListEdit) (g : GivenLists) → (with_given edit g).explicit ≡ false → g.explicit ≡ false
explicit_before Explicit g h = absurd cc
explicit_before Delete g h = h
explicit_before Add g h = h
explicit_before Prepend g h = h
explicit_before Append g h = h
explicit_before Reorder g h = h

given_more : (edit : ListEdit) (g : GivenLists) (op : ListOp Path) → clashes edit g ≡ false → AreGiven g op → AreGiven (with_given edit g) op
given_more edit g op free all = record {
  apart = alone_so edit g free;
  inexplicit = λ none. all.inexplicit (explicit_before edit g none);
  absent = λ other none. all.absent other (still_ungiven edit other g none);
  kept = all.kept;
}

pub list_given : (edit : ListEdit) (g next : GivenLists) (op : ListOp Path) → give edit g ≡ Ok next → AreGiven g op → IsBegun edit next (open_list edit op)
list_given edit g next op h all =
    let is = give_begins edit g next h in
    subst (λ n. IsBegun edit n (open_list edit op)) (sym is.marked)
    (record {
      given = now_given edit g;
      all = given_with edit [] (with_given edit g) op (now_given edit g) no_targets (given_more edit g op is.apart all);
      empty = list_back edit [] op;
    })

-- ---- paths

-- one path without brackets
pub path_given : (edit : ListEdit) (g : GivenLists) (op : ListOp Path) (path : Path) → IsProperTarget path → IsBegun edit g op → AreGiven g (push_item edit path op)
path_given edit g op path t b =
    subst (λ xs. AreGiven g (with_list edit xs op)) (sym (ap (λ xs. xs ++ path ∷ []) b.empty)) (given_with edit (path ∷ []) g op b.given (one_target path t) b.all)

-- the bracket of a list opens
pub list_opens : (edit : ListEdit) (g : GivenLists) (op : ListOp Path) → IsBegun edit g op → IsBracketed edit g op
list_opens edit g op b = record {
  given = b.given;
  others = given_with edit [] g op b.given no_targets b.all;
  paths = subst (AreAll IsProperTarget) (sym b.empty) tt;
}

-- a path between the brackets
pub path_more : (edit : ListEdit) (g : GivenLists) (op : ListOp Path) (path : Path) → IsProperTarget path → IsBracketed edit g op → IsBracketed edit g (push_item edit path op)
path_more edit g op path t b = record {
  given = b.given;
  others = subst (AreGiven g) (sym (list_again edit (list_at edit op ++ path ∷ []) [] op)) b.others;
  paths = subst (AreAll IsProperTarget) (sym (list_back edit (list_at edit op ++ path ∷ []) op)) (all_push IsProperTarget (list_at edit op) path b.paths t);
}

-- the bracket closes
pub list_closes : (edit : ListEdit) (g : GivenLists) (op : ListOp Path) → IsBracketed edit g op → AreGiven g (close_list same_path edit op)
list_closes edit g op b =
    subst (AreGiven g) (list_again edit [] (firsts same_path (list_at edit op)) op)
    (given_with edit (firsts same_path (list_at edit op)) g (with_list edit [] op) b.given (firsts_kept same_path IsProperTarget (list_at edit op) b.paths) b.others)

-- ---- the lists of a property

-- the lists that were given are an explicit one alone, or edits alone
pub lists_proper : (g : GivenLists) (op : ListOp Path) → AreGiven g op → AreProperTargets op
lists_proper g op all = lists_kept same_path IsProperTarget op all.kept (λ xs some. explicit_alone g op xs some (all.apart (was_given g.explicit xs refl some)) all.absent)
  where
    was_given : (b : Bool) (xs : List Path) → g.explicit ≡ b → op.explicit ≡ Some xs → g.explicit ≡ true
    was_given true xs h e = h
    was_given false xs h e = absurd (let none : op.explicit ≡ None = all.inexplicit h in cc)
