-- Lists of strings and of paths of a field.
use Rattle.std.proofs.Common.{◌≡◌, ◌∙◌, ℕ, Bool, true, false, List, [], ◌∷◌, ◌++◌, Some, Ok, Err, Result, ap, sym, refl, subst}
use Rattle.std.specs.Prelude.{if◌then◌else◌}
use Rattle.std.specs.Str.{is_utf8}
use Rattle.list_ops.specs.ListEdits.{firsts}
use Rattle.list_ops.specs.declared.op.ListOp.{ListOp}
use Rattle.sdf_paths.specs.declared.element.Element.{Element}
use Rattle.sdf_values.specs.Print.{quoted}
use Rattle.sdf_values.specs.declared.refusal.RefusalKind.{RefusalKind}
use Rattle.sdf_values.specs.declared.refusal.RefusalKind.TheVariants.{NumberTooLong}
use Rattle.usda_fields.specs.Fields.{close_field, texts_at, with_texts, paths_at, with_paths, push_path}
use Rattle.usda_fields.specs.Names.{if_utf8}
use Rattle.usda_fields.specs.declared.field.ListField.{ListField}
use Rattle.usda_fields.specs.declared.field.ListField.TheVariants.{Paths, Texts}
use Rattle.usda_fields.specs.declared.field.PathField.{PathField}
use Rattle.usda_fields.specs.declared.field.PathField.TheVariants.{Inherits, Specializes}
use Rattle.usda_fields.specs.declared.field.TextField.{TextField}
use Rattle.usda_fields.specs.declared.field.TextField.TheVariants.{VariantSets, ApiSchemas, ClipSets}
use Rattle.usda_fields.specs.declared.owner.OwnerDraft.{OwnerDraft}
use Rattle.usda_grammar.specs.declared.symbols.Symbol.{Symbol}
use Rattle.usda_grammar.specs.declared.symbols.Symbol.TheVariants as symbol
use Rattle.usda_grammar.specs.Machine.{step}
use Rattle.usda_lists.specs.Acts.{and_then}
use Rattle.usda_lists.specs.Lists.{list_at, with_list, push_item, close_list}
use Rattle.usda_lists.specs.References.{same_text, same_path}
use Rattle.usda_lists.specs.declared.edit.ListEdit.{ListEdit}
use Rattle.usda_lists.specs.declared.edit.ListEdit.TheVariants.{Explicit, Delete, Add, Prepend, Append, Reorder}
use Rattle.usda_statements.specs.OpenValues.{is_open}
use Rattle.usda_words.specs.Words.{Word}
use Rattle.usda_writer.specs.Texts.{path_text as path_token}
use Rattle.usda_drafts.specs.Acts.{act, bodies_act, prims_act}
use Rattle.usda_drafts.specs.Lists.{in_list_act, string_act, list_path_act, end_act}
use Rattle.usda_drafts.specs.Refusals.{refused, then_with}
use Rattle.usda_drafts.specs.Values.{token_act, with_said}
use Rattle.usda_drafts.specs.declared.draft.Draft.{Draft}
use Rattle.usda_drafts.specs.declared.draft.OpenList.TheVariants as open_list
use Rattle.value_texts.specs.Cuts.{Said}
use Rattle.value_texts.specs.ValueWords.{comma, open_bracket, close_bracket, string_said, path_said}
use Rattle.value_texts.specs.Words.{Told, told_of, as_word}
use Rattle.value_texts.proofs.StringTokens.{string_means}
use Rattle.value_texts.specs.Each.{AreAll}
use Rattle.layer_texts.specs.ListWords.{bracketed_words, string_words, path_words}
use Rattle.layer_reads.specs.FieldLists.{with_field_list, IsPathHere}
use Rattle.layer_reads.specs.Lists.{IsListRead, IsString}
use Rattle.layer_reads.specs.Taking.{AreTaken}
use Rattle.layer_reads.proofs.Lists.{bracketed_taken}
use Rattle.layer_reads.proofs.Taking.{taken_one}

-- a word where no value is open
pub plain_act : (s : Symbol) (w : Word) (x : Said) (d : Draft) → told_of w ≡ as_word x → is_open d.value ≡ false → act s w d ≡ bodies_act s w d
unfolding act
plain_act s w x d told shut =
    ap (λ (t : Told). if t.too_long then Err (refused NumberTooLong w.start) else if is_open d.value then token_act w d else bodies_act s w d) told
    ∙ ap (λ b. if b then token_act w d else bodies_act s w d) shut

-- the list of an edit that was put there
pub list_back : {T : Type 0} (edit : ListEdit) (xs : List T) (op : ListOp T) → list_at edit (with_list edit xs op) ≡ xs
list_back Explicit xs op = refl
list_back Delete xs op = refl
list_back Add xs op = refl
list_back Prepend xs op = refl
list_back Append xs op = refl
list_back Reorder xs op = refl

pub list_again : {T : Type 0} (edit : ListEdit) (xs ys : List T) (op : ListOp T) → with_list edit ys (with_list edit xs op) ≡ with_list edit ys op
list_again Explicit xs ys op = refl
list_again Delete xs ys op = refl
list_again Add xs ys op = refl
list_again Prepend xs ys op = refl
list_again Append xs ys op = refl
list_again Reorder xs ys op = refl

-- a field of lists of items of one word each
pub record IsField {T : Type 0} (from or_end more : Symbol) (field : ListField) (same : T → T → Bool) (at : OwnerDraft → ListOp T) (put : ListOp T → OwnerDraft → OwnerDraft) (x_said : T → Said) (W : List Element → T → Type 0) : Type 0 where
  pub at_put : (op : ListOp T) (s : OwnerDraft) → at (put op s) ≡ op
  pub put_put : (a b : ListOp T) (s : OwnerDraft) → put a (put b s) ≡ put a s
  pub base_put : (op : ListOp T) (s : OwnerDraft) → (put op s).base ≡ s.base
  pub closes : (edit : ListEdit) (s : OwnerDraft) → close_field field edit s ≡ put (close_list same edit (at s)) s
  pub from_act : (w : Word) (d : Draft) → bodies_act from w d ≡ in_list_act w.kind w d
  pub or_end_act : (w : Word) (d : Draft) → bodies_act or_end w d ≡ in_list_act w.kind w d
  pub more_act : (w : Word) (d : Draft) → bodies_act more w d ≡ in_list_act w.kind w d
  pub open_step : (below : List Symbol) → step (from ∷ below) (as_word open_bracket).kind ≡ Some (from, or_end ∷ below)
  pub comma_step : (below : List Symbol) → step (more ∷ below) (as_word comma).kind ≡ Some (more, or_end ∷ below)
  pub close_step : (below : List Symbol) → step (more ∷ below) (as_word close_bracket).kind ≡ Some (more, below)
  pub item_step : (x : T) (below : List Symbol) → step (or_end ∷ below) (as_word (x_said x)).kind ≡ Some (or_end, more ∷ below)
  pub item_act : (x : T) (w : Word) (d : Draft) → told_of w ≡ as_word (x_said x) → W d.owner.said.base x → d.list ≡ open_list.Field field
      → in_list_act (as_word (x_said x)).kind w d ≡ Ok (with_said d (put (push_item d.edit x (at d.owner.said)) d.owner.said))

module _ {T : Type 0} (from or_end more : Symbol) (field : ListField) (same : T → T → Bool) (at : OwnerDraft → ListOp T) (put : ListOp T → OwnerDraft → OwnerDraft) (x_said : T → Said) (W : List Element → T → Type 0) (f : IsField from or_end more field same at put x_said W) (d : Draft) (shut : is_open d.value ≡ false) (listed : d.list ≡ open_list.Field field) where
  abbrev Has : List T → Draft
  Has xs = with_field_list at put xs d

  pushed : (done : List T) (x : T) → put (push_item d.edit x (at (Has done).owner.said)) (Has done).owner.said ≡ (Has (done ++ x ∷ [])).owner.said
  pushed done x =
      let op : ListOp T = with_list d.edit done (at d.owner.said) in
      ap (λ (o : ListOp T). put (push_item d.edit x o) (put op d.owner.said)) (f.at_put op d.owner.said)
      ∙ f.put_put (push_item d.edit x op) op d.owner.said
      ∙ ap (λ l. put (with_list d.edit (l ++ x ∷ []) op) d.owner.said) (list_back d.edit done (at d.owner.said))
      ∙ ap (λ o. put o d.owner.said) (list_again d.edit done (done ++ x ∷ []) (at d.owner.said))

  closed : (done : List T) → close_field field d.edit (Has done).owner.said ≡ (Has (firsts same done)).owner.said
  closed done =
      let op : ListOp T = with_list d.edit done (at d.owner.said) in
      f.closes d.edit (put op d.owner.said)
      ∙ ap (λ (o : ListOp T). put (close_list same d.edit o) (put op d.owner.said)) (f.at_put op d.owner.said)
      ∙ f.put_put (close_list same d.edit op) op d.owner.said
      ∙ ap (λ l. put (with_list d.edit (firsts same l) op) d.owner.said) (list_back d.edit done (at d.owner.said))
      ∙ ap (λ o. put o d.owner.said) (list_again d.edit done (firsts same done) (at d.owner.said))

  mark_acted : (s : Symbol) → ((w : Word) (d : Draft) → bodies_act s w d ≡ in_list_act w.kind w d) → (x : Said) (w : Word) (done : List T) → told_of w ≡ as_word x → act s w (Has done) ≡ in_list_act (as_word x).kind w (Has done)
  mark_acted s acts x w done told = plain_act s w x (Has done) told shut ∙ acts w (Has done) ∙ ap (λ (t : Told). in_list_act t.kind w (Has done)) told

  ended : (w : Word) (done : List T) → in_list_act (as_word close_bracket).kind w (Has done) ≡ Ok (Has (firsts same done))
  unfolding in_list_act end_act
  ended w done = ap (λ l. end_act l (Has done)) listed ∙ ap (λ s. Ok (with_said (Has done) s)) (closed done)

  commas : (w : Word) (e : Draft) → in_list_act (as_word comma).kind w e ≡ Ok e
  unfolding in_list_act
  commas w e = refl

  brackets : (w : Word) (e : Draft) → in_list_act (as_word open_bracket).kind w e ≡ Ok e
  unfolding in_list_act
  brackets w e = refl

  is_read : IsListRead (λ x. x_said x ∷ []) (W d.owner.said.base) from or_end (λ x. more ∷ []) (λ e. e ≡ Has []) (λ done e. e ≡ Has done) (λ done e. e ≡ Has (firsts same done))
  is_read = record {
    opens = λ e h.
        subst (λ e. AreTaken (from ∷ []) e (open_bracket ∷ []) (or_end ∷ []) (λ e. e ≡ Has [])) (sym h)
        (taken_one (from ∷ []) (or_end ∷ []) from (Has []) open_bracket (λ e. e ≡ Has []) f.open_step (λ w told. (Has [], refl, mark_acted from f.from_act open_bracket w [] told ∙ brackets w (Has []))));
    item = λ done x e good h.
        subst (λ e. AreTaken (or_end ∷ []) e (x_said x ∷ []) (more ∷ []) (λ e. e ≡ Has (done ++ x ∷ []))) (sym h)
        (taken_one (or_end ∷ []) (more ∷ []) or_end (Has done) (x_said x) (λ e. e ≡ Has (done ++ x ∷ [])) (f.item_step x)
        (λ w told. (
          Has (done ++ x ∷ []),
          refl,
          mark_acted or_end f.or_end_act (x_said x) w done told
              ∙ f.item_act x w (Has done) told (subst (λ b. W b x) (sym (f.base_put (with_list d.edit done (at d.owner.said)) d.owner.said)) good) listed
              ∙ ap (λ s. Ok (with_said (Has done) s)) (pushed done x),
        )));
    parts = λ done x e h.
        subst (λ e. AreTaken (more ∷ []) e (comma ∷ []) (or_end ∷ []) (λ e. e ≡ Has done)) (sym h)
        (taken_one (more ∷ []) (or_end ∷ []) more (Has done) comma (λ e. e ≡ Has done) f.comma_step (λ w told. (Has done, refl, mark_acted more f.more_act comma w done told ∙ commas w (Has done))));
    ends = λ done x e h.
        subst (λ e. AreTaken (more ∷ []) e (close_bracket ∷ []) [] (λ e. e ≡ Has (firsts same done))) (sym h)
        (taken_one (more ∷ []) [] more (Has done) close_bracket (λ e. e ≡ Has (firsts same done)) f.close_step (λ w told. (Has (firsts same done), refl, mark_acted more f.more_act close_bracket w done told ∙ ended w done)));
  }

  pub field_taken : (x : T) (xs : List T) → AreAll (W d.owner.said.base) (x ∷ xs) → AreTaken (from ∷ []) (Has []) (bracketed_words (λ x. x_said x ∷ []) (x ∷ xs)) [] (λ e. e ≡ Has (firsts same (x ∷ xs)))
  field_taken x xs h = bracketed_taken (λ x. x_said x ∷ []) (W d.owner.said.base) from or_end (λ x. more ∷ []) (λ e. e ≡ Has []) (λ done e. e ≡ Has done) (λ done e. e ≡ Has (firsts same done)) is_read x xs (Has []) h refl

-- ---- strings

text_item : (field : TextField) (x : List ℕ) (w : Word) (d : Draft) → told_of w ≡ as_word (string_said (quoted x)) → IsString d.owner.said.base x → d.list ≡ open_list.Field (Texts field)
    → in_list_act (as_word (string_said (quoted x))).kind w d ≡ Ok (with_said d (with_texts field (push_item d.edit x (texts_at field d.owner.said)) d.owner.said))
unfolding in_list_act string_act
text_item field x w d told good listed =
    let push : List ℕ → Result OwnerDraft RefusalKind = λ t. Ok (with_texts field (push_item d.edit t (texts_at field d.owner.said)) d.owner.said) in
    ap (λ l. string_act l w d) listed
    ∙ ap (λ (t : Told). string_act (open_list.Field (Texts field)) (record w { text = t.text }) d) told
    ∙ ap (λ o. then_with w.start (and_then (if_utf8 o) push) (with_said d)) (string_means x good)

text_is : (field : TextField) → IsField symbol.StringList symbol.StringsOrEnd symbol.MoreStrings (Texts field) same_text (texts_at field) (with_texts field) (λ x. string_said (quoted x)) IsString
unfolding bodies_act prims_act
text_is field = record {
  at_put = at_put field;
  put_put = put_put field;
  base_put = base_put field;
  closes = λ edit s. refl;
  from_act = λ w d. refl;
  or_end_act = λ w d. refl;
  more_act = λ w d. refl;
  open_step = λ below. refl;
  comma_step = λ below. refl;
  close_step = λ below. refl;
  item_step = λ x below. refl;
  item_act = text_item field;
}
  where
    at_put : (field : TextField) (op : ListOp (List ℕ)) (s : OwnerDraft) → texts_at field (with_texts field op s) ≡ op
    at_put VariantSets op s = refl
    at_put ApiSchemas op s = refl
    at_put ClipSets op s = refl

    put_put : (field : TextField) (a b : ListOp (List ℕ)) (s : OwnerDraft) → with_texts field a (with_texts field b s) ≡ with_texts field a s
    put_put VariantSets a b s = refl
    put_put ApiSchemas a b s = refl
    put_put ClipSets a b s = refl

    base_put : (field : TextField) (op : ListOp (List ℕ)) (s : OwnerDraft) → (with_texts field op s).base ≡ s.base
    base_put VariantSets op s = refl
    base_put ApiSchemas op s = refl
    base_put ClipSets op s = refl

pub strings_taken : (field : TextField) (d : Draft) → is_open d.value ≡ false → d.list ≡ open_list.Field (Texts field) → (x : List ℕ) (xs : List (List ℕ)) → AreAll (λ t. is_utf8 t ≡ true) (x ∷ xs)
    → AreTaken (symbol.StringList ∷ []) (with_field_list (texts_at field) (with_texts field) [] d) (bracketed_words string_words (x ∷ xs)) [] (λ e. e ≡ with_field_list (texts_at field) (with_texts field) (firsts same_text (x ∷ xs)) d)
strings_taken field d shut listed x xs h =
    field_taken symbol.StringList symbol.StringsOrEnd symbol.MoreStrings (Texts field) same_text (texts_at field) (with_texts field) (λ x. string_said (quoted x)) IsString (text_is field) d shut listed x xs h

-- ---- paths

path_item : (field : PathField) (x : List Element) (w : Word) (d : Draft) → told_of w ≡ as_word (path_said (path_token x)) → IsPathHere d.owner.said.base x → d.list ≡ open_list.Field (Paths field)
    → in_list_act (as_word (path_said (path_token x))).kind w d ≡ Ok (with_said d (with_paths field (push_item d.edit x (paths_at field d.owner.said)) d.owner.said))
unfolding in_list_act list_path_act
path_item field x w d told good listed =
    ap (λ l. list_path_act l w d) listed
    ∙ ap (λ (t : Told). list_path_act (open_list.Field (Paths field)) (record w { text = t.text }) d) told
    ∙ ap (λ o. then_with w.start (push_path field d.edit o d.owner.said) (with_said d)) good

path_is : (field : PathField) → IsField symbol.PathList symbol.PathsOrEnd symbol.MorePaths (Paths field) same_path (paths_at field) (with_paths field) (λ x. path_said (path_token x)) IsPathHere
unfolding bodies_act prims_act
path_is field = record {
  at_put = at_put field;
  put_put = put_put field;
  base_put = base_put field;
  closes = λ edit s. refl;
  from_act = λ w d. refl;
  or_end_act = λ w d. refl;
  more_act = λ w d. refl;
  open_step = λ below. refl;
  comma_step = λ below. refl;
  close_step = λ below. refl;
  item_step = λ x below. refl;
  item_act = path_item field;
}
  where
    at_put : (field : PathField) (op : ListOp (List Element)) (s : OwnerDraft) → paths_at field (with_paths field op s) ≡ op
    at_put Inherits op s = refl
    at_put Specializes op s = refl

    put_put : (field : PathField) (a b : ListOp (List Element)) (s : OwnerDraft) → with_paths field a (with_paths field b s) ≡ with_paths field a s
    put_put Inherits a b s = refl
    put_put Specializes a b s = refl

    base_put : (field : PathField) (op : ListOp (List Element)) (s : OwnerDraft) → (with_paths field op s).base ≡ s.base
    base_put Inherits op s = refl
    base_put Specializes op s = refl

pub paths_taken : (field : PathField) (d : Draft) → is_open d.value ≡ false → d.list ≡ open_list.Field (Paths field) → (x : List Element) (xs : List (List Element)) → AreAll (IsPathHere d.owner.said.base) (x ∷ xs)
    → AreTaken (symbol.PathList ∷ []) (with_field_list (paths_at field) (with_paths field) [] d) (bracketed_words path_words (x ∷ xs)) [] (λ e. e ≡ with_field_list (paths_at field) (with_paths field) (firsts same_path (x ∷ xs)) d)
paths_taken field d shut listed x xs h =
    field_taken symbol.PathList symbol.PathsOrEnd symbol.MorePaths (Paths field) same_path (paths_at field) (with_paths field) (λ x. path_said (path_token x)) IsPathHere (path_is field) d shut listed x xs h
