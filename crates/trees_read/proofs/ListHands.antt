-- Words of lists: what is in hand of the list that is read.
use Rattle.std.proofs.Common.{◌≡◌, ℕ, Bool, true, false, not, ◌||◌, List, [], ◌∷◌, ◌++◌, Option, Some, None, Result, Ok, Err, sym, refl, subst}
use Rattle.std.specs.List.{IsDistinct}
use Rattle.list_ops.specs.ListEdits.{firsts}
use Rattle.sdf_paths.specs.declared.element.Element.{Element}
use Rattle.sdf_values.specs.declared.refusal.RefusalKind.{RefusalKind}
use Rattle.sdf_values.specs.declared.refusal.RefusalKind.TheVariants.{DuplicateSpec}
use Rattle.usda_drafts.specs.Bodies.{samples_begun, list_begun, dot_act}
use Rattle.usda_drafts.specs.Lists.{string_act, list_path_act, asset_act, lone_path_act, item_path_act, end_act, in_list_act, in_references_act, sublayer_act, number_act}
use Rattle.usda_drafts.specs.Metadata.{said_act, in_field, field_act, string_field_act, path_field_act, reference_field_act, edited_act, prim_item_act, sublayers_act, head_item_act}
use Rattle.usda_drafts.specs.Refusals.{refused, then_with}
use Rattle.usda_drafts.specs.Values.{with_said, with_property}
use Rattle.usda_drafts.specs.declared.draft.Draft.{Draft}
use Rattle.usda_drafts.specs.declared.draft.OpenList.{OpenList}
use Rattle.usda_drafts.specs.declared.draft.OpenList.TheVariants as open_list
use Rattle.usda_fields.specs.Fields as fields
use Rattle.usda_fields.specs.declared.field.ListField.{ListField}
use Rattle.usda_fields.specs.declared.field.ListField.TheVariants.{Paths, References, Texts}
use Rattle.usda_fields.specs.declared.owner.OwnerDraft.{OwnerDraft}
use Rattle.usda_grammar.specs.Table.{starts}
use Rattle.usda_grammar.specs.declared.kinds.Keyword.TheVariants as word
use Rattle.usda_grammar.specs.declared.kinds.WordKind.{WordKind}
use Rattle.usda_grammar.specs.declared.kinds.WordKind.TheVariants as token
use Rattle.usda_grammar.specs.declared.symbols.Symbol.{Symbol}
use Rattle.usda_grammar.specs.declared.symbols.Symbol.TheVariants as symbol
use Rattle.usda_lexer.specs.Meanings.{path_text}
use Rattle.usda_lists.specs.Acts.{and_then}
use Rattle.usda_lists.specs.Edits.{give}
use Rattle.usda_lists.specs.Lists.{list_at, with_list, open_list, push_item, amend_last}
use Rattle.usda_lists.specs.Paths.{target_from}
use Rattle.usda_lists.specs.References.{same_text, same_path, same_item, sublayer_number}
use Rattle.usda_lists.specs.declared.edit.ListEdit.{ListEdit}
use Rattle.usda_lists.specs.declared.edit.ListEdit.TheVariants.{Explicit}
use Rattle.usda_statements.specs.PropertyDrafts.{with_path, path_act}
use Rattle.usda_words.specs.Words.{Word}
use Rattle.trees_read.proofs.Fields.{IfMade, if_made}
use Rattle.trees_read.proofs.ListActs.{View, view_of, Rest, Quiet, Held, Busy, same_busy, then_known, then_any, comment_viewed, edit_viewed, variants_viewed, key_viewed, samples_viewed}
use Rattle.trees_read.proofs.ListFields.{Ops, ops_of, paths_op, items_op, texts_op, InHand, hand_known, hand_less, field_hand, path_hand, text_hand, asset_hand, lone_hand, item_path_hand, item_number_hand, closed_hand}
use Rattle.trees_read.proofs.ListMoves.{IsQuiet, quiet_made}
use Rattle.trees_read.proofs.ListOps.{OpOnce, but_of, at_with, but_with, once_at, firsts_distinct, Size, any, empty, short, Sized, pushed, is_known, sized_push, sized_once}
use Rattle.trees_read.proofs.ListRows.{Part, none, begun, brackets, sublayers, part, is_none, has_item, has_parts}

-- ---- how much is in hand

known_quiet : (s : Size) (d : Draft) → is_known s ≡ true → Busy s d → Quiet (view_of d)
known_quiet s d known b = by d.list b.held
  where
    by : (l : OpenList) → Held s l d.edit d.property.edit (view_of d) → Quiet (view_of d)
    by (open_list.Field f) h = record { rest = b.rest; fields = hand_known s f d.edit (ops_of d.owner.said.spec) known h.0; paths = h.1 }
    by open_list.Property h = record { rest = b.rest; fields = h.0; paths = once_at same_path d.property.edit d.property.paths h.1 (sized_once same_path s (list_at d.property.edit d.property.paths) known h.2) }
    by open_list.SubLayers h = record { rest = b.rest; fields = h.0; paths = h.1 }

pub empty_quiet : (d : Draft) → Busy empty d → Quiet (view_of d)
empty_quiet d b = known_quiet empty d refl b

pub short_quiet : (d : Draft) → Busy short d → Quiet (view_of d)
short_quiet d b = known_quiet short d refl b

held_less : (s : Size) (l : OpenList) (e p : ListEdit) (v : View) → Held s l e p v → Held any l e p v
held_less s (open_list.Field f) e p v h = (hand_less s f e v.ops h.0, h.1)
held_less s open_list.Property e p v h = (h.0, h.1, tt)
held_less s open_list.SubLayers e p v h = h

pub busy_less : (s : Size) (d : Draft) → Busy s d → Busy any d
busy_less s d b = record { rest = b.rest; held = held_less s d.list d.edit d.property.edit (view_of d) b.held }

-- the list that is open is this, and of it so much is known
record Open (s : Size) (l : OpenList) (d : Draft) : Type 0 where
  pub is : d.list ≡ l
  pub rest : Rest (view_of d)
  pub held : Held s l d.edit d.property.edit (view_of d)

opened : (s : Size) (d : Draft) → Busy s d → Open s d.list d
opened s d b = record { is = refl; rest = b.rest; held = b.held }

busy_of : (s : Size) (l : OpenList) (d : Draft) → Open s l d → Busy s d
busy_of s l d o = record { rest = o.rest; held = subst (λ x. Held s x d.edit d.property.edit (view_of d)) (sym o.is) o.held }

-- ---- an item more

sized_pushed : {T : Type 0} (same : T → T → Bool) (s : Size) (xs : List T) → Sized same s xs → Sized same (pushed s) xs
sized_pushed same any xs h = tt
sized_pushed same empty [] h = tt
sized_pushed same empty (x ∷ xs) h = absurd cc
sized_pushed same short xs h = tt

hand_pushed : (s : Size) (f : ListField) (edit : ListEdit) (o : Ops) → InHand s f edit o → InHand (pushed s) f edit o
hand_pushed s (Paths f) edit o h = record { others = h.others; but = h.but; size = sized_pushed same_path s (list_at edit (paths_op f o)) h.size }
hand_pushed s (References f) edit o h = record { others = h.others; but = h.but; size = sized_pushed same_item s (list_at edit (items_op f o)) h.size }
hand_pushed s (Texts f) edit o h = record { others = h.others; but = h.but; size = sized_pushed same_text s (list_at edit (texts_op f o)) h.size }

-- a word that adds nothing to the list that is open
same_hand : (s : Size) (l : OpenList) (d : Draft) → Open s l d → Busy (pushed s) d
same_hand s (open_list.Field f) d o = busy_of (pushed s) (open_list.Field f) d (record { is = o.is; rest = o.rest; held = (hand_pushed s f d.edit (ops_of d.owner.said.spec) o.held.0, o.held.1) })
same_hand s open_list.Property d o = busy_of (pushed s) open_list.Property d (record { is = o.is; rest = o.rest; held = (o.held.0, o.held.1, sized_pushed same_path s (list_at d.property.edit d.property.paths) o.held.2) })
same_hand s open_list.SubLayers d o = busy_of (pushed s) open_list.SubLayers d (record { is = o.is; rest = o.rest; held = o.held })

-- the owner of which this is said now has this list in hand
said_busy : (s : Size) (f : ListField) (d : Draft) (said : OwnerDraft) → d.list ≡ open_list.Field f → Rest (view_of d) → OpOnce same_path d.property.paths → InHand s f d.edit (ops_of said.spec) → Busy s (with_said d said)
said_busy s f d said is rest paths hand = busy_of s (open_list.Field f) (with_said d said) (record { is = is; rest = record { specs = rest.specs; outer = rest.outer; properties = rest.properties }; held = (hand, paths) })

said_hand : (t : Size) (f : ListField) (d : Draft) (at : ℕ) (r : Result OwnerDraft RefusalKind) → d.list ≡ open_list.Field f → Rest (view_of d) → OpOnce same_path d.property.paths → IfMade (λ n. InHand t f d.edit (ops_of n.spec)) r → IfMade (Busy t) (said_act at r d)
said_hand t f d at r is rest paths h = then_known (λ n. InHand t f d.edit (ops_of n.spec)) (Busy t) at r (with_said d) h (λ said hand. said_busy t f d said is rest paths hand)

string_hand : (s : Size) (l : OpenList) (w : Word) (d : Draft) → Open s l d → IfMade (Busy (pushed s)) (string_act l w d)
unfolding string_act
string_hand s (open_list.Field (Texts field)) w d o = said_hand (pushed s) (Texts field) d w.start (fields.text_act field d.edit w.text d.owner.said) o.is o.rest o.held.1 (text_hand s field d.edit w.text d.owner.said o.held.0)
string_hand s l w d o = same_hand s l d o

target_hand : (s : Size) (w : Word) (d : Draft) → Open s open_list.Property d → IfMade (Busy (pushed s)) (then_with w.start (path_act d.owner.said.base w.text d.property) (with_property d))
target_hand s w d o = by (target_from d.owner.said.base (path_text w.text))
  where
    by : (p : Option (List Element)) → IfMade (Busy (pushed s)) (then_with w.start (with_path p d.property) (with_property d))
    by None = tt
    by (Some path) =
        let edit : ListEdit = d.property.edit in
        let xs : List (List Element) = list_at edit d.property.paths in
        busy_of (pushed s) open_list.Property (with_property d (record d.property { paths = push_item edit path d.property.paths }))
        (record {
          is = o.is;
          rest = record { specs = o.rest.specs; outer = o.rest.outer; properties = o.rest.properties };
          held = (
            o.held.0,
            but_with same_path edit (xs ++ path ∷ []) d.property.paths o.held.1,
            subst (λ x. Sized same_path (pushed s) x) (sym (at_with same_path edit (xs ++ path ∷ []) d.property.paths)) (sized_push same_path s xs path o.held.2),
          );
        })

list_path_hand : (s : Size) (l : OpenList) (w : Word) (d : Draft) → Open s l d → IfMade (Busy (pushed s)) (list_path_act l w d)
unfolding list_path_act
list_path_hand s (open_list.Field (Paths field)) w d o = said_hand (pushed s) (Paths field) d w.start (fields.path_act field d.edit w.text d.owner.said) o.is o.rest o.held.1 (path_hand s field d.edit w.text d.owner.said o.held.0)
list_path_hand s open_list.Property w d o = target_hand s w d o
list_path_hand s l w d o = same_hand s l d o

asset_busy : (s : Size) (l : OpenList) (w : Word) (d : Draft) → Open s l d → IfMade (Busy (pushed s)) (asset_act l w d)
unfolding asset_act
asset_busy s (open_list.Field (References field)) w d o = said_busy (pushed s) (References field) d (fields.asset_act field d.edit w.text d.owner.said) o.is o.rest o.held.1 (asset_hand s field d.edit w.text d.owner.said o.held.0)
asset_busy s l w d o = same_hand s l d o

lone_path_hand : (s : Size) (l : OpenList) (w : Word) (d : Draft) → Open s l d → IfMade (Busy (pushed s)) (lone_path_act l w d)
unfolding lone_path_act
lone_path_hand s (open_list.Field (References field)) w d o = said_hand (pushed s) (References field) d w.start (fields.lone_path_act field d.edit w.text d.owner.said) o.is o.rest o.held.1 (lone_hand s field d.edit w.text d.owner.said o.held.0)
lone_path_hand s l w d o = same_hand s l d o

-- ---- the last item changed

pub item_path_busy : (s : Size) (w : Word) (d : Draft) → Busy s d → IfMade (Busy s) (item_path_act d.list w d)
unfolding item_path_act
item_path_busy s w d b = by d.list (opened s d b)
  where
    by : (l : OpenList) → Open s l d → IfMade (Busy s) (item_path_act l w d)
    by (open_list.Field (References field)) o = said_hand s (References field) d w.start (fields.item_path_act field d.edit w.text d.owner.said) o.is o.rest o.held.1 (item_path_hand s field d.edit w.text d.owner.said o.held.0)
    by l o = b

pub number_busy : (s : Size) (w : Word) (d : Draft) → Busy s d → IfMade (Busy s) (number_act d.list w d)
unfolding number_act
number_busy s w d b = by d.list (opened s d b)
  where
    by : (l : OpenList) → Open s l d → IfMade (Busy s) (number_act l w d)
    by (open_list.Field (References field)) o = said_hand s (References field) d w.start (fields.item_number_act field d.edit d.offset_key w.text d.owner.said) o.is o.rest o.held.1 (item_number_hand s field d.edit d.offset_key w.text d.owner.said o.held.0)
    by open_list.SubLayers o = then_any (Busy s) w.start (amend_last (sublayer_number d.offset_key w.text) d.sublayers) (λ subs. record d { sublayers = subs }) (λ subs. same_busy s d (record d { sublayers = subs }) (record { view = refl; list = refl; edit = refl; of_property = refl }) b)
    by l o = b

-- the sublayers are open
pub sub_path : (w : Word) (d : Draft) → d.list ≡ open_list.SubLayers → IfMade (λ next. (view_of next ≡ view_of d) × (next.list ≡ open_list.SubLayers)) (item_path_act d.list w d)
unfolding item_path_act
sub_path w d is = subst (λ l. IfMade (λ next. (view_of next ≡ view_of d) × (next.list ≡ open_list.SubLayers)) (item_path_act l w d)) (sym is) (refl, is)

pub sub_number : (w : Word) (d : Draft) → d.list ≡ open_list.SubLayers → IfMade (λ next. (view_of next ≡ view_of d) × (next.list ≡ open_list.SubLayers)) (number_act d.list w d)
unfolding number_act
sub_number w d is =
    subst (λ l. IfMade (λ next. (view_of next ≡ view_of d) × (next.list ≡ open_list.SubLayers)) (number_act l w d)) (sym is)
    (then_any (λ next. (view_of next ≡ view_of d) × (next.list ≡ open_list.SubLayers)) w.start (amend_last (sublayer_number d.offset_key w.text) d.sublayers) (λ subs. record d { sublayers = subs }) (λ subs. (refl, is)))

-- ---- the end of a list

end_hand : (l : OpenList) (d : Draft) → Open any l d → IsQuiet (end_act l d)
unfolding end_act
end_hand (open_list.Field field) d o = record { rest = record { specs = o.rest.specs; outer = o.rest.outer; properties = o.rest.properties }; fields = closed_hand field d.edit d.owner.said o.held.0; paths = o.held.1 }
end_hand open_list.Property d o =
    let edit : ListEdit = d.property.edit in
    let xs : List (List Element) = firsts same_path (list_at edit d.property.paths) in
    record {
      rest = record { specs = o.rest.specs; outer = o.rest.outer; properties = o.rest.properties };
      fields = o.held.0;
      paths = once_at same_path edit (with_list edit xs d.property.paths) (but_with same_path edit xs d.property.paths o.held.1)
          (subst (λ x. IsDistinct same_path x) (sym (at_with same_path edit xs d.property.paths)) (firsts_distinct same_path (list_at edit d.property.paths)));
    }
end_hand open_list.SubLayers d o = record { rest = o.rest; fields = o.held.0; paths = o.held.1 }

-- ---- what has been read of a list, by the symbols that are still to come

abbrev pub State : Part → Bool → Draft → Type 0
State none item d = Quiet (view_of d) × (item ≡ true → Busy short d)
State begun item d = Busy empty d
State brackets item d = Busy any d
State sublayers item d = Quiet (view_of d) × (d.list ≡ open_list.SubLayers)

-- behind the first word of a symbol that leaves these
abbrev pub Landed : Option (List Symbol) → Draft → Type 0
Landed None d = Unit {0}
Landed (Some rest) d = State (part rest) (has_item rest) d

pub nothing : {E : Type 0} (r : Result Draft E) → IfMade (λ n. Unit {0}) r
nothing (Ok d) = tt
nothing (Err e) = tt

pub weaker : {E : Type 0} (P Q : Draft → Type 0) (r : Result Draft E) → ((n : Draft) → P n → Q n) → IfMade P r → IfMade Q r
weaker P Q (Ok n) make h = make n h
weaker P Q (Err e) make h = tt

abbrev Bare : Draft → Type 0
Bare n = State none false n

bare : (n : Draft) → Quiet (view_of n) → Bare n
bare n q = (q, λ h. absurd cc)

quiet_bare : {E : Type 0} (r : Result Draft E) → IsQuiet r → IfMade Bare r
quiet_bare r h = weaker (λ n. Quiet (view_of n)) Bare r bare h

-- a word between brackets, or alone
pushed_bare : {E : Type 0} (r : Result Draft E) → IfMade (Busy short) r → IfMade Bare r
pushed_bare r h = weaker (Busy short) Bare r (λ n b. bare n (short_quiet n b)) h

pushed_item : {E : Type 0} (r : Result Draft E) → IfMade (Busy short) r → IfMade (State none true) r
pushed_item r h = weaker (Busy short) (State none true) r (λ n b. (short_quiet n b, λ t. b)) h

pub string_list : (k : WordKind) (w : Word) (d : Draft) → Busy empty d → IfMade (Landed (starts symbol.StringList k)) (in_list_act k w d)
unfolding in_list_act
string_list token.Quoted w d b = pushed_bare (string_act d.list w d) (string_hand empty d.list w d (opened empty d b))
string_list (token.Word word.NoneWord) w d b = bare d (empty_quiet d b)
string_list token.OpenBracket w d b = busy_less empty d b
string_list token.Path w d b = nothing (list_path_act d.list w d)
string_list token.CloseBracket w d b = nothing (end_act d.list d)
string_list k w d b = tt

pub path_list : (k : WordKind) (w : Word) (d : Draft) → Busy empty d → IfMade (Landed (starts symbol.PathList k)) (in_list_act k w d)
unfolding in_list_act
path_list token.Path w d b = pushed_bare (list_path_act d.list w d) (list_path_hand empty d.list w d (opened empty d b))
path_list (token.Word word.NoneWord) w d b = bare d (empty_quiet d b)
path_list token.OpenBracket w d b = busy_less empty d b
path_list token.Quoted w d b = nothing (string_act d.list w d)
path_list token.CloseBracket w d b = nothing (end_act d.list d)
path_list k w d b = tt

pub reference_list : (k : WordKind) (w : Word) (d : Draft) → Busy empty d → IfMade (Landed (starts symbol.ReferenceList k)) (in_references_act k w d)
unfolding in_references_act
reference_list token.Asset w d b = pushed_item (asset_act d.list w d) (asset_busy empty d.list w d (opened empty d b))
reference_list token.Path w d b = pushed_item (lone_path_act d.list w d) (lone_path_hand empty d.list w d (opened empty d b))
reference_list (token.Word word.NoneWord) w d b = bare d (empty_quiet d b)
reference_list token.OpenBracket w d b = busy_less empty d b
reference_list token.CloseBracket w d b = nothing (end_act d.list d)
reference_list k w d b = tt

pub strings_or_end : (k : WordKind) (w : Word) (d : Draft) → Busy any d → IfMade (Landed (starts symbol.StringsOrEnd k)) (in_list_act k w d)
unfolding in_list_act
strings_or_end token.Quoted w d b = string_hand any d.list w d (opened any d b)
strings_or_end token.CloseBracket w d b = quiet_bare (end_act d.list d) (end_hand d.list d (opened any d b))
strings_or_end token.Path w d b = nothing (list_path_act d.list w d)
strings_or_end k w d b = tt

pub more_strings : (k : WordKind) (w : Word) (d : Draft) → Busy any d → IfMade (Landed (starts symbol.MoreStrings k)) (in_list_act k w d)
unfolding in_list_act
more_strings token.Comma w d b = b
more_strings token.CloseBracket w d b = quiet_bare (end_act d.list d) (end_hand d.list d (opened any d b))
more_strings token.Quoted w d b = nothing (string_act d.list w d)
more_strings token.Path w d b = nothing (list_path_act d.list w d)
more_strings k w d b = tt

pub paths_or_end : (k : WordKind) (w : Word) (d : Draft) → Busy any d → IfMade (Landed (starts symbol.PathsOrEnd k)) (in_list_act k w d)
unfolding in_list_act
paths_or_end token.Path w d b = list_path_hand any d.list w d (opened any d b)
paths_or_end token.CloseBracket w d b = quiet_bare (end_act d.list d) (end_hand d.list d (opened any d b))
paths_or_end token.Quoted w d b = nothing (string_act d.list w d)
paths_or_end k w d b = tt

pub more_paths : (k : WordKind) (w : Word) (d : Draft) → Busy any d → IfMade (Landed (starts symbol.MorePaths k)) (in_list_act k w d)
unfolding in_list_act
more_paths token.Comma w d b = b
more_paths token.CloseBracket w d b = quiet_bare (end_act d.list d) (end_hand d.list d (opened any d b))
more_paths token.Quoted w d b = nothing (string_act d.list w d)
more_paths token.Path w d b = nothing (list_path_act d.list w d)
more_paths k w d b = tt

pub references_or_end : (k : WordKind) (w : Word) (d : Draft) → Busy any d → IfMade (Landed (starts symbol.ReferencesOrEnd k)) (in_references_act k w d)
unfolding in_references_act
references_or_end token.Asset w d b = asset_busy any d.list w d (opened any d b)
references_or_end token.Path w d b = lone_path_hand any d.list w d (opened any d b)
references_or_end token.CloseBracket w d b = quiet_bare (end_act d.list d) (end_hand d.list d (opened any d b))
references_or_end k w d b = tt

pub more_references : (k : WordKind) (w : Word) (d : Draft) → Busy any d → IfMade (Landed (starts symbol.MoreReferences k)) (in_references_act k w d)
unfolding in_references_act
more_references token.Comma w d b = b
more_references token.CloseBracket w d b = quiet_bare (end_act d.list d) (end_hand d.list d (opened any d b))
more_references token.Asset w d b = nothing (asset_act d.list w d)
more_references token.Path w d b = nothing (lone_path_act d.list w d)
more_references k w d b = tt

-- ---- a list begins

-- nothing of a list is left
abbrev is_bare : Option (List Symbol) → Bool
is_bare None = true
is_bare (Some rest) = not (has_parts rest)

quiet_state : (rest : List Symbol) (n : Draft) → not (has_parts rest) ≡ true → Quiet (view_of n) → State (part rest) (has_item rest) n
quiet_state rest n h q = by (part rest) (has_item rest) h
  where
    by : (p : Part) (b : Bool) → not (not (is_none p) || b) ≡ true → State p b n
    by none false e = bare n q
    by none true e = absurd cc
    by begun b e = absurd cc
    by brackets b e = absurd cc
    by sublayers b e = absurd cc

landed_quiet : {E : Type 0} (o : Option (List Symbol)) (r : Result Draft E) → is_bare o ≡ true → IsQuiet r → IfMade (Landed o) r
landed_quiet None r h q = nothing r
landed_quiet (Some rest) r h q = weaker (λ n. Quiet (view_of n)) (Landed (Some rest)) r (λ n g. quiet_state rest n h g) q

field_busy : (f : ListField) (edit : ListEdit) (at : ℕ) (d : Draft) → Quiet (view_of d) → IfMade (Busy empty) (field_act f edit at d)
unfolding field_act
field_busy f edit at d q =
    then_known (λ n. InHand empty f edit (ops_of n.spec)) (Busy empty) at (fields.field_act f edit d.owner.said) (in_field f edit d) (field_hand f edit d.owner.said q.fields)
    (λ said hand. record { rest = record { specs = q.rest.specs; outer = q.rest.outer; properties = q.rest.properties }; held = (hand, q.paths) })

string_field_busy : (edit : ListEdit) (w : Word) (d : Draft) → Quiet (view_of d) → IfMade (Busy empty) (string_field_act edit w d)
unfolding string_field_act
string_field_busy edit w d q = field_busy (Texts (fields.text_field w.text)) edit w.start d q

path_field_busy : (edit : ListEdit) (w : Word) (d : Draft) → Quiet (view_of d) → IfMade (Busy empty) (path_field_act edit w d)
unfolding path_field_act
path_field_busy edit w d q = field_busy (Paths (fields.path_field w.text)) edit w.start d q

reference_field_busy : (edit : ListEdit) (w : Word) (d : Draft) → Quiet (view_of d) → IfMade (Busy empty) (reference_field_act edit w d)
unfolding reference_field_act
reference_field_busy edit w d q = field_busy (References (fields.reference_field w.text)) edit w.start d q

property_list_busy : (d : Draft) → Quiet (view_of d) → IfMade (Busy empty) (list_begun d)
unfolding list_begun
property_list_busy d q = by (give d.property.edit d.property.marks.lists)
  where
    by : (r : Result _ RefusalKind) → IfMade (Busy empty) (then_with d.name_at (and_then r (λ lists. Ok (record d.property { paths = open_list d.property.edit d.property.paths; marks = record d.property.marks { lists = lists } }))) (λ p. record (with_property d p) { list = open_list.Property }))
    by (Ok lists) = record {
      rest = record { specs = q.rest.specs; outer = q.rest.outer; properties = q.rest.properties };
      held = (q.fields, but_with same_path d.property.edit [] d.property.paths (but_of same_path d.property.edit d.property.paths q.paths), at_with same_path d.property.edit [] d.property.paths);
    }
    by (Err k) = tt

pub head_items : (k : WordKind) (w : Word) (d : Draft) → Quiet (view_of d) → IfMade (Landed (starts symbol.HeadItems k)) (head_item_act k w d)
unfolding head_item_act sublayers_act
head_items token.Quoted w d q = landed_quiet (starts symbol.HeadItems token.Quoted) _ refl (quiet_made d _ (comment_viewed w d) q)
head_items (token.Word word.SubLayers) w d q =
    if_made (State sublayers false) d.has_sublayers (Err (refused DuplicateSpec w.start)) (Ok (record d { has_sublayers = true; list = open_list.SubLayers })) tt
    (record { rest = record { specs = q.rest.specs; outer = q.rest.outer; properties = q.rest.properties }; fields = q.fields; paths = q.paths }, refl)
head_items k w d q = landed_quiet (starts symbol.HeadItems k) _ refl (quiet_made d _ (key_viewed w.text w.start d) q)

pub prim_items : (k : WordKind) (w : Word) (d : Draft) → Quiet (view_of d) → IfMade (Landed (starts symbol.PrimMetadata k)) (prim_item_act k w d)
unfolding prim_item_act
prim_items token.Quoted w d q = landed_quiet (starts symbol.PrimMetadata token.Quoted) _ refl (quiet_made d _ (comment_viewed w d) q)
prim_items (token.Word word.Edit) w d q = landed_quiet (starts symbol.PrimMetadata (token.Word word.Edit)) _ refl (quiet_made d _ (edit_viewed w d) q)
prim_items (token.Word word.Reorder) w d q = landed_quiet (starts symbol.PrimMetadata (token.Word word.Reorder)) _ refl (quiet_made d _ (edit_viewed w d) q)
prim_items (token.Word word.Variants) w d q = landed_quiet (starts symbol.PrimMetadata (token.Word word.Variants)) _ refl (quiet_made d _ (variants_viewed w d) q)
prim_items (token.Word word.StringField) w d q = string_field_busy Explicit w d q
prim_items (token.Word word.PathField) w d q = path_field_busy Explicit w d q
prim_items (token.Word word.ReferenceField) w d q = reference_field_busy Explicit w d q
prim_items k w d q = landed_quiet (starts symbol.PrimMetadata k) _ refl (quiet_made d _ (key_viewed w.text w.start d) q)

pub edited_fields : (k : WordKind) (w : Word) (d : Draft) → Quiet (view_of d) → IfMade (Landed (starts symbol.EditedField k)) (edited_act k w d)
unfolding edited_act
edited_fields token.Equals w d q = landed_quiet (starts symbol.EditedField token.Equals) _ refl (quiet_made d _ (key_viewed d.word d.word_at d) q)
edited_fields (token.Word word.StringField) w d q = string_field_busy d.edit w d q
edited_fields (token.Word word.PathField) w d q = path_field_busy d.edit w d q
edited_fields (token.Word word.ReferenceField) w d q = reference_field_busy d.edit w d q
edited_fields k w d q = tt

pub targets : (k : WordKind) (d : Draft) → Quiet (view_of d) → IfMade (Landed (starts symbol.MaybeTargets k)) (list_begun d)
targets token.Equals d q = property_list_busy d q
targets k d q = nothing (list_begun d)

pub after_dot : (k : WordKind) (at : ℕ) (d : Draft) → Quiet (view_of d) → IfMade (Landed (starts symbol.AfterDot k)) (dot_act k at d)
unfolding dot_act
after_dot (token.Word word.TimeSamples) at d q = landed_quiet (starts symbol.AfterDot (token.Word word.TimeSamples)) _ refl (quiet_made d _ (samples_viewed d) q)
after_dot (token.Word word.Connect) at d q = property_list_busy d q
after_dot k at d q = tt

pub connect_words : (k : WordKind) (at : ℕ) (d : Draft) → Quiet (view_of d) → IfMade (Landed (starts symbol.ConnectWord k)) (dot_act k at d)
unfolding dot_act
connect_words (token.Word word.TimeSamples) at d q = nothing (samples_begun d)
connect_words (token.Word word.Connect) at d q = property_list_busy d q
connect_words k at d q = tt

-- ---- the sublayers

pub sublayers_or_end : (k : WordKind) (w : Word) (d : Draft) → Quiet (view_of d) → d.list ≡ open_list.SubLayers → IfMade (Landed (starts symbol.SubLayersOrEnd k)) (sublayer_act k w d)
unfolding sublayer_act
sublayers_or_end token.Asset w d q is = (q, is)
sublayers_or_end token.CloseBracket w d q is = bare d q
sublayers_or_end k w d q is = tt
