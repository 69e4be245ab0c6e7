-- The lists of edits, one behind the other, of whatever has them.
use Rattle.std.proofs.Common.{◌≡◌, ℕ, Bool, true, false, List, [], ◌∷◌, ◌++◌, Ok, sym, refl, subst}
use Rattle.std.specs.Prelude.{codes, None}
use Rattle.list_ops.specs.Blank.{no_edits}
use Rattle.list_ops.specs.declared.op.ListOp.{ListOp}
use Rattle.usda_grammar.specs.declared.symbols.Symbol.{Symbol}
use Rattle.usda_lists.specs.Edits.{give, none_given}
use Rattle.usda_lists.specs.Lists.{with_list}
use Rattle.usda_lists.specs.declared.edit.GivenLists.{GivenLists}
use Rattle.usda_lists.specs.declared.edit.ListEdit.{ListEdit}
use Rattle.usda_lists.specs.declared.edit.ListEdit.TheVariants.{Explicit, Delete, Add, Prepend, Append, Reorder}
use Rattle.usda_drafts.specs.declared.draft.Draft.{Draft}
use Rattle.value_texts.specs.Cuts.{Said}
use Rattle.layer_texts.specs.FieldWords.{edit_words, edits_words}
use Rattle.layer_texts.specs.ListWords.{word}
use Rattle.layer_reads.specs.Items.{AreItems}
use Rattle.layer_reads.specs.Kept.{AreKept, AreEditsKept, has_items, lists_of}
use Rattle.layer_reads.proofs.Items.{no_items, items_both}

-- the word of an edit; none of the explicit list
abbrev pub word_of : ListEdit → List ℕ
word_of Explicit = []
word_of Delete = codes "delete"
word_of Add = codes "add"
word_of Prepend = codes "prepend"
word_of Append = codes "append"
word_of Reorder = codes "reorder"

abbrev pub is_edit : ListEdit → Bool
is_edit Explicit = false
is_edit edit = true

-- whether the list of an edit was given
abbrev pub marked : ListEdit → Bool → GivenLists → GivenLists
marked Explicit b g = record g { explicit = b }
marked Delete b g = record g { deleted = b }
marked Add b g = record g { added = b }
marked Prepend b g = record g { prepended = b }
marked Append b g = record g { appended = b }
marked Reorder b g = record g { ordered = b }

-- `Says` is a draft in which these lists are said, of which these were given
module _ {T : Type 0} (s : Symbol) (name : List Said) (g : T → List Said) (same : T → T → Bool) (W : T → Type 0) (Says : ListOp T → GivenLists → Draft → Type 0)
    (one_list : (edit : ListEdit) → is_edit edit ≡ true → (op : ListOp T) (m : GivenLists) (x : T) (xs : List T) → give edit m ≡ Ok (marked edit true m) → AreKept same W (x ∷ xs)
    → AreItems s (edit_words (word (word_of edit)) name g (x ∷ xs)) (Says op m) (Says (with_list edit (x ∷ xs) op) (marked edit true m))) where
  one_edit : (edit : ListEdit) → is_edit edit ≡ true → (op : ListOp T) (m : GivenLists) (xs : List T) → with_list edit [] op ≡ op → marked edit false m ≡ m → give edit m ≡ Ok (marked edit true m) → AreKept same W xs
      → AreItems s (edit_words (word (word_of edit)) name g xs) (Says op m) (Says (with_list edit xs op) (marked edit (has_items xs) m))
  one_edit edit is op m [] none unmarked given kept =
      no_items s (Says op m) (Says (with_list edit [] op) (marked edit false m)) (λ d h. subst (λ o. Says o (marked edit false m) d) (sym none) (subst (λ n. Says op n d) (sym unmarked) h))
  one_edit edit is op m (x ∷ xs) none unmarked given kept = one_list edit is op m x xs given kept

  pub edits_items : (op : ListOp T) → AreEditsKept same W op → AreItems s (edits_words name g op) (Says no_edits none_given) (Says (record op { explicit = None }) (record (lists_of op) { explicit = false }))
  edits_items op h =
      let o1 : ListOp T = with_list Delete op.deleted no_edits in
      let o2 : ListOp T = with_list Add op.added o1 in
      let o3 : ListOp T = with_list Prepend op.prepended o2 in
      let o4 : ListOp T = with_list Append op.appended o3 in
      let o5 : ListOp T = with_list Reorder op.ordered o4 in
      let m1 : GivenLists = marked Delete (has_items op.deleted) none_given in
      let m2 : GivenLists = marked Add (has_items op.added) m1 in
      let m3 : GivenLists = marked Prepend (has_items op.prepended) m2 in
      let m4 : GivenLists = marked Append (has_items op.appended) m3 in
      let m5 : GivenLists = marked Reorder (has_items op.ordered) m4 in
      let w1 : List Said = edit_words (word (codes "delete")) name g op.deleted in
      let w2 : List Said = edit_words (word (codes "add")) name g op.added in
      let w3 : List Said = edit_words (word (codes "prepend")) name g op.prepended in
      let w4 : List Said = edit_words (word (codes "append")) name g op.appended in
      let w5 : List Said = edit_words (word (codes "reorder")) name g op.ordered in
      items_both s (w1 ++ w2 ++ w3 ++ w4) w5 (Says no_edits none_given) (Says o4 m4) (Says o5 m5)
      (items_both s (w1 ++ w2 ++ w3) w4 (Says no_edits none_given) (Says o3 m3) (Says o4 m4)
      (items_both s (w1 ++ w2) w3 (Says no_edits none_given) (Says o2 m2) (Says o3 m3)
      (items_both s w1 w2 (Says no_edits none_given) (Says o1 m1) (Says o2 m2) (one_edit Delete refl no_edits none_given op.deleted refl refl refl h.deleted) (one_edit Add refl o1 m1 op.added refl refl refl h.added))
      (one_edit Prepend refl o2 m2 op.prepended refl refl refl h.prepended)) (one_edit Append refl o3 m3 op.appended refl refl refl h.appended)) (one_edit Reorder refl o4 m4 op.ordered refl refl refl h.ordered)
