-- Each word keeps what has been read of the lists, and behind all words none is in the making.
use Rattle.std.proofs.Common.{◌≡◌, ◌∙◌, Bool, true, false, List, Some, Result, Ok, Err, sym, refl, subst}
use Rattle.sdf_paths.specs.declared.element.Element.{Element}
use Rattle.spec_parts.specs.declared.items.Specifier.TheVariants.{Over}
use Rattle.spec_parts.specs.declared.spec.Spec.{Spec}
use Rattle.text_syntax.proofs.Texts.{followed as values}
use Rattle.text_syntax.specs.Open.{Follows as ValueFollows}
use Rattle.text_syntax.proofs.Tokens.{acted_by}
use Rattle.usda_drafts.specs.Acts.{act, bodies_act, prims_act, layers_act}
use Rattle.usda_drafts.specs.Drafts.{blank, layer_by, layer_of}
use Rattle.usda_drafts.specs.Lists.{item_path_act, number_act, offset_key_act}
use Rattle.usda_drafts.specs.Owners.{owner_of}
use Rattle.usda_drafts.specs.Values.{token_act}
use Rattle.usda_drafts.specs.declared.draft.Draft.{Draft}
use Rattle.usda_drafts.specs.declared.draft.OpenList.TheVariants as open_list
use Rattle.usda_drafts.specs.declared.fault.Refused.{Refused}
use Rattle.usda_fields.specs.declared.field.ListField.TheVariants as list
use Rattle.usda_fields.specs.declared.field.PathField.TheVariants.{Inherits, Specializes}
use Rattle.usda_fields.specs.declared.field.ReferenceField.TheVariants.{References, Payload}
use Rattle.usda_fields.specs.declared.field.TextField.TheVariants.{VariantSets, ApiSchemas, ClipSets}
use Rattle.usda_grammar.specs.Machine.{step}
use Rattle.usda_grammar.specs.Table.{layer, starts}
use Rattle.usda_grammar.specs.declared.kinds.WordKind.{WordKind}
use Rattle.usda_grammar.specs.declared.kinds.WordKind.TheVariants as token
use Rattle.usda_grammar.specs.declared.symbols.Symbol.{Symbol}
use Rattle.usda_grammar.specs.declared.symbols.Symbol.TheVariants as symbol
use Rattle.usda_lists.specs.Offsets.{offset_key}
use Rattle.usda_lists.specs.References.{same_text, same_path, same_item}
use Rattle.usda_statements.specs.OpenValues.{is_open}
use Rattle.usda_words.specs.Words.{Word}
use Rattle.value_texts.specs.Following.{IsOfToken}
use Rattle.value_texts.specs.Each.{AreAll}
use Rattle.value_texts.proofs.EachOf.{all_so}
use Rattle.trees_read.specs.Lists.{AreItemsOnce, paths_of, AreListsMade, ListsAreClosed}
use Rattle.trees_read.specs.Stacks.{is_of_statement}
use Rattle.trees_read.proofs.Fields.{IfMade}
use Rattle.trees_read.proofs.Kept.{made_of, value_symbol}
use Rattle.trees_read.proofs.ListActs.{PropertyOnce, SpecOnce, view_of, Quiet, Busy, Same, same_busy, token_same, then_any}
use Rattle.trees_read.proofs.ListHands.{State, Landed, short_quiet, item_path_busy, number_busy, sub_path, sub_number, string_list, path_list, reference_list, strings_or_end, more_strings, paths_or_end, more_paths, references_or_end, more_references, head_items, prim_items, edited_fields, targets, after_dot, connect_words, sublayers_or_end}
use Rattle.trees_read.proofs.ListMoves.{bodies_quiet, blank_once, no_paths_once}
use Rattle.trees_read.proofs.ListOps.{short, empty, any, items_once}
use Rattle.trees_read.proofs.ListRows.{Part, none, begun, brackets, sublayers, part_of, part, is_none, is_of_item, has_item, is_light, are_on_top, begins_list}
use Rattle.trees_read.proofs.ListStacks.{NoParts, Listed, listed, is_the_none, done_parts}
use Rattle.trees_read.proofs.Runs.{IsAtEnd, holds_behind}

-- what has been read of the lists is what the symbols that are still to come say
record Follows (stack : List Symbol) (d : Draft) : Type 0 where
  pub value : ValueFollows stack d
  pub on_top : are_on_top stack ≡ true
  pub state : State (part stack) (has_item stack) d

-- ---- states

same_state : (p : Part) (item : Bool) (d next : Draft) → Same d next → State p item d → State p item next
same_state none item d next h s = (subst Quiet (sym h.view) s.0, λ t. same_busy short d next h (s.1 t))
same_state begun item d next h s = same_busy empty d next h s
same_state brackets item d next h s = same_busy any d next h s
same_state sublayers item d next h s = (subst Quiet (sym h.view) s.0, h.list ∙ s.1)

fewer_items : (p : Part) (a b : Bool) (d : Draft) → (b ≡ true → a ≡ true) → State p a d → State p b d
fewer_items none a b d h s = (s.0, λ t. s.1 (h t))
fewer_items begun a b d h s = s
fewer_items brackets a b d h s = s
fewer_items sublayers a b d h s = s

-- the same symbols of a list are still to come
light_state : (stack after : List Symbol) (next : Draft) → (part after ≡ part stack) × (has_item after ≡ true → has_item stack ≡ true) → State (part stack) (has_item stack) next → State (part after) (has_item after) next
light_state stack after next h s = subst (λ p. State p (has_item after) next) (sym h.0) (fewer_items (part stack) (has_item stack) (has_item after) next h.1 s)

bare_state : (after : List Symbol) (next : Draft) → NoParts after → Quiet (view_of next) → State (part after) (has_item after) next
bare_state after next n q = subst (λ p. State p (has_item after) next) (sym n.part_is) (subst (λ b. State none b next) (sym n.no_item) (q, λ h. absurd cc))

-- ---- symbols

value_apart : (s : Symbol) → is_of_statement s ≡ false → (begins_list s ≡ false) × (is_none (part_of s) ≡ true)
value_apart symbol.HeadItems h = absurd cc
value_apart symbol.PrimMetadata h = absurd cc
value_apart symbol.EditedField h = absurd cc
value_apart symbol.MaybeTargets h = absurd cc
value_apart symbol.AfterDot h = absurd cc
value_apart symbol.ConnectWord h = absurd cc
value_apart symbol.StringList h = absurd cc
value_apart symbol.StringsOrEnd h = absurd cc
value_apart symbol.MoreStrings h = absurd cc
value_apart symbol.PathList h = absurd cc
value_apart symbol.PathsOrEnd h = absurd cc
value_apart symbol.MorePaths h = absurd cc
value_apart symbol.ReferenceList h = absurd cc
value_apart symbol.ReferencesOrEnd h = absurd cc
value_apart symbol.MoreReferences h = absurd cc
value_apart symbol.SubLayerList h = absurd cc
value_apart symbol.SubLayersOrEnd h = absurd cc
value_apart symbol.MoreSubLayers h = absurd cc
value_apart s h = (refl, refl)

-- ---- light symbols

amended : {E : Type 0} (p : Part) (item : Bool) (d : Draft) (r : Result Draft E) → item ≡ true → ((d.list ≡ open_list.SubLayers) → IfMade (λ n. (view_of n ≡ view_of d) × (n.list ≡ open_list.SubLayers)) r)
    → (Busy short d → IfMade (Busy short) r) → (Busy empty d → IfMade (Busy empty) r) → (Busy any d → IfMade (Busy any) r) → State p item d → IfMade (State p item) r
amended none item d (Ok n) is sub one zero many s = let b : Busy short n = one (s.1 is) in (short_quiet n b, λ t. b)
amended begun item d (Ok n) is sub one zero many s = zero s
amended brackets item d (Ok n) is sub one zero many s = many s
amended sublayers item d (Ok n) is sub one zero many s = let h : (view_of n ≡ view_of d) × (n.list ≡ open_list.SubLayers) = sub s.1 in (subst Quiet (sym h.0) s.0, h.1)
amended p item d (Err e) is sub one zero many s = tt

offset_same : (w : Word) (d : Draft) → IfMade (Same d) (offset_key_act w d)
unfolding offset_key_act
offset_same w d = then_any (Same d) w.start (offset_key w.text) (λ k. record d { offset_key = k }) (λ k. record { view = refl; list = refl; edit = refl; of_property = refl })

same_made : (p : Part) (item : Bool) (d : Draft) (r : Result Draft Refused) → State p item d → IfMade (Same d) r → IfMade (State p item) r
same_made p item d (Ok n) s h = same_state p item d n h s
same_made p item d (Err e) s h = tt

light_kept : (s : Symbol) (w : Word) (p : Part) (item : Bool) (d : Draft) → is_light s ≡ true → (is_of_item s ≡ true → item ≡ true) → State p item d → IfMade (State p item) (bodies_act s w d)
unfolding bodies_act prims_act layers_act
light_kept symbol.MaybePath w p item d light of s = amended p item d (item_path_act d.list w d) (of refl) (sub_path w d) (item_path_busy short w d) (item_path_busy empty w d) (item_path_busy any w d) s
light_kept symbol.OffsetNumber w p item d light of s = amended p item d (number_act d.list w d) (of refl) (sub_number w d) (number_busy short w d) (number_busy empty w d) (number_busy any w d) s
light_kept symbol.OffsetItems w p item d light of s = same_made p item d (offset_key_act w d) s (offset_same w d)
light_kept symbol.MaybeOffsets w p item d light of s = s
light_kept symbol.Equals w p item d light of s = s
light_kept symbol.CloseParen w p item d light of s = s
light_kept symbol.MaybeSemicolon w p item d light of s = s
light_kept _ w p item d light of s = absurd cc

-- ---- symbols that begin a list or go on with one

begun_landed : (s : Symbol) (w : Word) (d : Draft) → begins_list s ≡ true → Quiet (view_of d) → IfMade (Landed (starts s w.kind)) (bodies_act s w d)
unfolding bodies_act prims_act layers_act
begun_landed symbol.HeadItems w d is q = head_items w.kind w d q
begun_landed symbol.PrimMetadata w d is q = prim_items w.kind w d q
begun_landed symbol.EditedField w d is q = edited_fields w.kind w d q
begun_landed symbol.MaybeTargets w d is q = targets w.kind d q
begun_landed symbol.AfterDot w d is q = after_dot w.kind w.start d q
begun_landed symbol.ConnectWord w d is q = connect_words w.kind w.start d q
begun_landed _ w d is q = absurd cc

sub_list : (k : WordKind) (d : Draft) → State sublayers false d → Landed (starts symbol.SubLayerList k) d
sub_list token.OpenBracket d s = s
sub_list k d s = tt

sub_more : (k : WordKind) (d : Draft) → State sublayers false d → Landed (starts symbol.MoreSubLayers k) d
sub_more token.Comma d s = s
sub_more token.CloseBracket d s = (s.0, λ h. absurd cc)
sub_more k d s = tt

list_landed : (s : Symbol) (w : Word) (item : Bool) (d : Draft) → is_none (part_of s) ≡ false → State (part_of s) item d → IfMade (Landed (starts s w.kind)) (bodies_act s w d)
unfolding bodies_act prims_act layers_act
list_landed symbol.StringList w item d is s = string_list w.kind w d s
list_landed symbol.PathList w item d is s = path_list w.kind w d s
list_landed symbol.ReferenceList w item d is s = reference_list w.kind w d s
list_landed symbol.StringsOrEnd w item d is s = strings_or_end w.kind w d s
list_landed symbol.MoreStrings w item d is s = more_strings w.kind w d s
list_landed symbol.PathsOrEnd w item d is s = paths_or_end w.kind w d s
list_landed symbol.MorePaths w item d is s = more_paths w.kind w d s
list_landed symbol.ReferencesOrEnd w item d is s = references_or_end w.kind w d s
list_landed symbol.MoreReferences w item d is s = more_references w.kind w d s
list_landed symbol.SubLayerList w item d is s = sub_list w.kind d s
list_landed symbol.SubLayersOrEnd w item d is s = sublayers_or_end w.kind w d s.0 s.1
list_landed symbol.MoreSubLayers w item d is s = sub_more w.kind d s
list_landed _ w item d is s = absurd cc

-- ---- a word

landed_state : (k : WordKind) (s : Symbol) (rest after : List Symbol) (next : Draft) → starts s k ≡ Some rest → part after ≡ part rest → has_item after ≡ has_item rest → Landed (starts s k) next → State (part after) (has_item after) next
landed_state k s rest after next is p item h = subst (λ x. State x (has_item after) next) (sym p) (subst (λ x. State (part rest) x next) (sym item) (subst (λ o. Landed o next) is h))

not_none : (p : Part) → p ≡ none → (item : Bool) (d : Draft) → State p item d → Quiet (view_of d)
not_none p is item d s = (subst (λ x. State x item d) is s).0

kept_state : (stack : List Symbol) (d : Draft) (w : Word) (s : Symbol) (after : List Symbol) (next : Draft) → Follows stack d → Listed stack w.kind s after → bodies_act s w d ≡ Ok next → State (part after) (has_item after) next
kept_state stack d w s after next f l made = by (is_light s) refl (begins_list s) refl (is_none (part_of s)) refl
  where
    by : (a : Bool) → is_light s ≡ a → (b : Bool) → begins_list s ≡ b → (c : Bool) → is_none (part_of s) ≡ c → State (part after) (has_item after) next
    by true light b begins c of = light_state stack after next (l.light light) (made_of (State (part stack) (has_item stack)) (bodies_act s w d) next made (light_kept s w (part stack) (has_item stack) d light l.item f.state))
    by false heavy b begins false of =
        let h : (rest : List Symbol) × (starts s w.kind ≡ Some rest) × (part stack ≡ part_of s) × (part after ≡ part rest) × (has_item after ≡ has_item rest) = l.heavy heavy in
        landed_state w.kind s h.0 after next h.1 h.3 h.4 (made_of (Landed (starts s w.kind)) (bodies_act s w d) next made (list_landed s w (has_item stack) d of (subst (λ p. State p (has_item stack) d) h.2 f.state)))
    by false heavy true begins true of =
        let h : (rest : List Symbol) × (starts s w.kind ≡ Some rest) × (part stack ≡ part_of s) × (part after ≡ part rest) × (has_item after ≡ has_item rest) = l.heavy heavy in
        landed_state w.kind s h.0 after next h.1 h.3 h.4 (made_of (Landed (starts s w.kind)) (bodies_act s w d) next made (begun_landed s w d begins (not_none (part stack) (h.2 ∙ is_the_none (part_of s) of) (has_item stack) d f.state)))
    by false heavy false begins true of =
        let h : (rest : List Symbol) × (starts s w.kind ≡ Some rest) × (part stack ≡ part_of s) × (part after ≡ part rest) × (has_item after ≡ has_item rest) = l.heavy heavy in
        bare_state after next (l.plain heavy begins (is_the_none (part_of s) of))
        (made_of (λ n. Quiet (view_of n)) (bodies_act s w d) next made (bodies_quiet s w d heavy begins of (not_none (part stack) (h.2 ∙ is_the_none (part_of s) of) (has_item stack) d f.state)))

-- a word of a value that is open
value_state : (stack : List Symbol) (d : Draft) (w : Word) (s : Symbol) (after : List Symbol) (next : Draft) → Follows stack d → Listed stack w.kind s after → is_of_statement s ≡ false → Same d next → State (part after) (has_item after) next
value_state stack d w s after next f l apart same = by (is_light s) refl
  where
    by : (a : Bool) → is_light s ≡ a → State (part after) (has_item after) next
    by true light = light_state stack after next (l.light light) (same_state (part stack) (has_item stack) d next same f.state)
    by false heavy =
        let h : (rest : List Symbol) × (starts s w.kind ≡ Some rest) × (part stack ≡ part_of s) × (part after ≡ part rest) × (has_item after ≡ has_item rest) = l.heavy heavy in
        let g : (begins_list s ≡ false) × (is_none (part_of s) ≡ true) = value_apart s apart in
        bare_state after next (l.plain heavy g.0 (is_the_none (part_of s) g.1)) (subst Quiet (sym same.view) (not_none (part stack) (h.2 ∙ is_the_none (part_of s) g.1) (has_item stack) d f.state))

kept : (stack : List Symbol) (d : Draft) (w : Word) (s : Symbol) (after : List Symbol) (next : Draft) → IsOfToken w → Follows stack d → step stack w.kind ≡ Some (s, after) → act s w d ≡ Ok next → Follows after next
kept stack d w s after next word f took acted = record { value = values.kept stack d w s after next word f.value took acted; on_top = l.on_top; state = by (is_open d.value) refl }
  where
    l : Listed stack w.kind s after
    l = listed stack w.kind s after f.on_top took

    by : (x : Bool) → is_open d.value ≡ x → State (part after) (has_item after) next
    by true is = value_state stack d w s after next f l (value_symbol stack d w s after f.value is took) (made_of (Same d) (token_act w d) next (acted_by s w d next true is acted) (token_same w d))
    by false is = kept_state stack d w s after next f l (acted_by s w d next false is acted)

-- ---- the first word and the last

blank_quiet : Quiet (view_of blank)
unfolding blank owner_of
blank_quiet = record { rest = record { specs = tt; outer = tt; properties = tt }; fields = blank_once Over; paths = no_paths_once }

begins : Follows layer blank
begins = record { value = values.begins; on_top = refl; state = (blank_quiet, λ h. absurd cc) }

all_made : (specs : List (List Element × Spec)) → AreAll (λ e. SpecOnce e.1) specs → AreAll (λ e. AreListsMade e.1) specs
all_made specs h = all_so (λ e. SpecOnce e.1) (λ e. AreListsMade e.1) (λ e s. made e.1 s) specs h
  where
    made : (spec : Spec) → SpecOnce spec → AreListsMade spec
    made spec s = record {
      inherits = items_once same_path spec.arcs.inherits (s.0 (list.Paths Inherits));
      specializes = items_once same_path spec.arcs.specializes (s.0 (list.Paths Specializes));
      references = items_once same_item spec.arcs.references (s.0 (list.References References));
      payloads = items_once same_item spec.arcs.payloads (s.0 (list.References Payload));
      variant_sets = items_once same_text spec.arcs.variant_sets (s.0 (list.Texts VariantSets));
      api_schemas = items_once same_text spec.body.api_schemas (s.0 (list.Texts ApiSchemas));
      clip_sets = items_once same_text spec.body.clip_sets (s.0 (list.Texts ClipSets));
      properties = all_so PropertyOnce (λ p. AreItemsOnce same_path (paths_of p)) (λ p o. items_once same_path (paths_of p) o) spec.body.properties s.1;
    }

pub read_lists : ListsAreClosed
unfolding layer_of layer_by
read_lists bytes d text =
    let e : IsAtEnd Follows d = holds_behind Follows kept bytes d begins text in
    let q : Quiet (view_of d) = not_none (part e.stack) (done_parts e.stack e.done) (has_item e.stack) d e.holds.state in
    all_made d.specs q.rest.specs
