-- Words that are of no list leave the lists as they are.
use Rattle.std.proofs.Common.{◌≡◌, ◌∙◌, ℕ, true, List, Result, Ok, Err, ap, sym, refl, subst}
use Rattle.std.specs.Prelude.{is_some}
use Rattle.list_ops.specs.declared.op.ListOp.{ListOp}
use Rattle.sdf_paths.specs.declared.element.Element.{Element}
use Rattle.sdf_specs.specs.Layers.{SpecEntries}
use Rattle.sdf_values.specs.declared.refusal.RefusalKind.{RefusalKind}
use Rattle.sdf_values.specs.declared.refusal.RefusalKind.TheVariants.{DuplicateSpec, TooDeep}
use Rattle.sdf_values.specs.declared.value.Value.{Value}
use Rattle.spec_parts.specs.declared.spec.Spec.{Spec}
use Rattle.spec_properties.specs.declared.property.Property.{Property}
use Rattle.usda_drafts.specs.Bodies.{headed, type_act, after_variability_act, after_custom_act, after_edit_act, after_reorder_act, statement_act, brackets_act, default_begun, samples_begun, tail_act, sample_act}
use Rattle.usda_drafts.specs.Metadata.{said_act, comment_act, key_act, variants_act, edit_act, root_act, in_order, ordered_by, order_act, root_order_act, order_name_act, property_rule, property_key_act, property_item_act}
use Rattle.usda_drafts.specs.Prims.{specifier_act, prim_type_act, open_act}
use Rattle.usda_drafts.specs.Refusals.{refused, then_with}
use Rattle.usda_drafts.specs.Values.{after_token, token_act, first_act, with_value_begun, aimed, aimed_at_key, aimed_at_default, aimed_at_sample, time_of_number, time_act, with_said, with_property, completed}
use Rattle.usda_drafts.specs.declared.aim.Goal.{Goal}
use Rattle.usda_drafts.specs.declared.aim.Goal.TheVariants as goal
use Rattle.usda_drafts.specs.declared.draft.Draft.{Draft}
use Rattle.usda_drafts.specs.declared.draft.OpenList.{OpenList}
use Rattle.usda_drafts.specs.declared.draft.OpenList.TheVariants as open_list
use Rattle.usda_drafts.specs.declared.fault.Refused.{Refused}
use Rattle.usda_drafts.specs.declared.owner.Owner.{Owner}
use Rattle.usda_fields.specs.Keys as keys
use Rattle.usda_fields.specs.Names.{text_of}
use Rattle.usda_fields.specs.Owners as owner
use Rattle.usda_fields.specs.Variants as variants
use Rattle.usda_fields.specs.declared.keys.KeyRule.{KeyRule}
use Rattle.usda_fields.specs.declared.owner.OrderWord.{OrderWord}
use Rattle.usda_fields.specs.declared.owner.OrderWord.TheVariants.{NameChildren, PropertyNames}
use Rattle.usda_fields.specs.declared.owner.OwnerDraft.{OwnerDraft}
use Rattle.usda_grammar.specs.declared.kinds.Keyword.TheVariants as word
use Rattle.usda_grammar.specs.declared.kinds.WordKind.{WordKind}
use Rattle.usda_grammar.specs.declared.kinds.WordKind.TheVariants as token
use Rattle.usda_lexer.specs.Meanings.{number_of}
use Rattle.usda_lists.specs.Lists.{list_at}
use Rattle.usda_lists.specs.References.{same_path}
use Rattle.usda_lists.specs.declared.edit.ListEdit.{ListEdit}
use Rattle.usda_lists.specs.declared.edit.ListEdit.TheVariants.{Explicit}
use Rattle.usda_statements.specs.Headings.{begun, with_type}
use Rattle.usda_statements.specs.OpenValues.{is_open, value_in, no_value, given}
use Rattle.usda_statements.specs.PropertyDrafts.{default_act, samples_act, meta_comment_act, meta_act, with_meta}
use Rattle.usda_statements.specs.declared.open_value.OpenValue.{OpenValue}
use Rattle.usda_statements.specs.declared.property.PropertyDraft.{PropertyDraft}
use Rattle.usda_values.specs.declared.shape.Shape.TheVariants.{Dictionary}
use Rattle.usda_words.specs.Words.{Word}
use Rattle.value_texts.specs.Each.{AreAll}
use Rattle.trees_read.specs.Lists.{paths_of}
use Rattle.trees_read.proofs.Fields.{IfMade, and_made, if_made}
use Rattle.trees_read.proofs.ListFields.{Ops, ops_of, AllOnce, InHand}
use Rattle.trees_read.proofs.ListOps.{OpOnce, OpBut, Size, Sized}

-- ---- the lists of a draft

-- each item of each list of a property stands once
abbrev pub PropertyOnce : Property → Type 0
PropertyOnce p = OpOnce same_path (paths_of p)

abbrev pub SpecOnce : Spec → Type 0
SpecOnce spec = AllOnce (ops_of spec) × AreAll PropertyOnce spec.body.properties

abbrev pub OwnerOnce : Owner → Type 0
OwnerOnce o = AllOnce (ops_of o.said.spec) × AreAll PropertyOnce o.properties

-- what of a draft has lists
pub record View : Type 0 where
  pub specs : SpecEntries
  pub outer : List Owner
  pub properties : List Property
  pub ops : Ops
  pub paths : ListOp (List Element)

abbrev pub view_of : Draft → View
view_of d = record { specs = d.specs; outer = d.outer; properties = d.owner.properties; ops = ops_of d.owner.said.spec; paths = d.property.paths }

-- the lists that no word adds to
pub record Rest (v : View) : Type 0 where
  pub specs : AreAll (λ e. SpecOnce e.1) v.specs
  pub outer : AreAll OwnerOnce v.outer
  pub properties : AreAll PropertyOnce v.properties

-- no list is in the making
pub record Quiet (v : View) : Type 0 where
  pub rest : Rest v
  pub fields : AllOnce v.ops
  pub paths : OpOnce same_path v.paths

-- the list that is open is in hand
abbrev pub Held : Size → OpenList → ListEdit → ListEdit → View → Type 0
Held s (open_list.Field f) edit of_property v = InHand s f edit v.ops × OpOnce same_path v.paths
Held s open_list.Property edit of_property v = AllOnce v.ops × OpBut same_path of_property v.paths × Sized same_path s (list_at of_property v.paths)
Held s open_list.SubLayers edit of_property v = AllOnce v.ops × OpOnce same_path v.paths

pub record Busy (s : Size) (d : Draft) : Type 0 where
  pub rest : Rest (view_of d)
  pub held : Held s d.list d.edit d.property.edit (view_of d)

-- the lists and the one in hand are the same
pub record Same (d next : Draft) : Type 0 where
  pub view : view_of next ≡ view_of d
  pub list : next.list ≡ d.list
  pub edit : next.edit ≡ d.edit
  pub of_property : next.property.edit ≡ d.property.edit

pub same_busy : (s : Size) (d next : Draft) → Same d next → Busy s d → Busy s next
same_busy s d next h b = record {
  rest = subst Rest (sym h.view) b.rest;
  held =
      subst (λ v. Held s next.list next.edit next.property.edit v) (sym h.view)
      (subst (λ l. Held s l next.edit next.property.edit (view_of d)) (sym h.list)
      (subst (λ e. Held s d.list e next.property.edit (view_of d)) (sym h.edit)
      (subst (λ e. Held s d.list d.edit e (view_of d)) (sym h.of_property) b.held)));
}

-- ---- words that are of no list

-- the draft that an act makes, where it makes one, has the same lists
abbrev pub Viewed : {E : Type 0} → Draft → Result Draft E → Type 0
Viewed d r = IfMade (λ next. view_of next ≡ view_of d) r

abbrev pub view_with : Draft → Ops → ListOp (List Element) → View
view_with d ops paths = record { specs = d.specs; outer = d.outer; properties = d.owner.properties; ops = ops; paths = paths }

pub then_known : {A : Type 0} (Q : A → Type 0) (P : Draft → Type 0) (at : ℕ) (r : Result A RefusalKind) (make : A → Draft) → IfMade Q r → ((a : A) → Q a → P (make a)) → IfMade P (then_with at r make)
then_known Q P at (Ok a) make q h = h a q
then_known Q P at (Err k) make q h = tt

pub then_any : {A : Type 0} (P : Draft → Type 0) (at : ℕ) (r : Result A RefusalKind) (make : A → Draft) → ((a : A) → P (make a)) → IfMade P (then_with at r make)
then_any P at (Ok a) make h = h a
then_any P at (Err k) make h = tt

-- the lists of the fields are the same
abbrev IsSaidAlike : OwnerDraft → OwnerDraft → Type 0
IsSaidAlike d next = ops_of next.spec ≡ ops_of d.spec

abbrev IsListAlike : PropertyDraft → PropertyDraft → Type 0
IsListAlike p next = next.paths ≡ p.paths

pub said_viewed : (at : ℕ) (r : Result OwnerDraft RefusalKind) (d : Draft) → IfMade (IsSaidAlike d.owner.said) r → Viewed d (said_act at r d)
said_viewed at r d h = then_known (IsSaidAlike d.owner.said) (λ next. view_of next ≡ view_of d) at r (with_said d) h (λ said g. ap (λ o. view_with d o d.property.paths) g)

pub property_viewed : (at : ℕ) (r : Result PropertyDraft RefusalKind) (d : Draft) → IfMade (IsListAlike d.property) r → Viewed d (then_with at r (with_property d))
property_viewed at r d h = then_known (IsListAlike d.property) (λ next. view_of next ≡ view_of d) at r (with_property d) h (λ p g. ap (λ o. view_with d (ops_of d.owner.said.spec) o) g)

viewed_then : (d e : Draft) (r : Result Draft Refused) → view_of e ≡ view_of d → Viewed e r → Viewed d r
viewed_then d e (Ok next) h g = g ∙ h
viewed_then d e (Err r) h g = tt

-- parts of owners and of properties
comment_alike : (token : List ℕ) (d : OwnerDraft) → IfMade (IsSaidAlike d) (owner.comment_act token d)
comment_alike token d = and_made (IsSaidAlike d) (keys.comment_act token d.spec.body.meta) (λ meta. Ok (owner.with_meta meta d)) (λ meta. refl)

value_alike : (key : List ℕ) (v : Value) (d : OwnerDraft) → IfMade (IsSaidAlike d) (owner.value_act key v d)
value_alike key v d = and_made (IsSaidAlike d) (keys.value_act key v d.spec.body.meta) (λ meta. Ok (owner.with_meta meta d)) (λ meta. refl)

order_alike : (word : OrderWord) (d : OwnerDraft) → IfMade (IsSaidAlike d) (owner.order_act word d)
order_alike NameChildren d = if_made (IsSaidAlike d) d.given.child_order (Err DuplicateSpec) (Ok (record d { given = record d.given { child_order = true } })) tt refl
order_alike PropertyNames d = if_made (IsSaidAlike d) d.given.property_order (Err DuplicateSpec) (Ok (record d { given = record d.given { property_order = true } })) tt refl

pushed_alike : (word : OrderWord) (name : List ℕ) (d : OwnerDraft) → IsSaidAlike d (owner.push_ordered word name d)
pushed_alike NameChildren name d = refl
pushed_alike PropertyNames name d = refl

ordered_alike : (word : OrderWord) (token : List ℕ) (d : OwnerDraft) → IfMade (IsSaidAlike d) (owner.ordered_act word token d)
ordered_alike word token d = and_made (IsSaidAlike d) (text_of token) (λ name. Ok (owner.push_ordered word name d)) (λ name. pushed_alike word name d)

variants_alike : (d : OwnerDraft) → IfMade (IsSaidAlike d) (variants.variants_act d)
variants_alike d = if_made (IsSaidAlike d) d.given.variants (Err DuplicateSpec) (Ok (record d { given = record d.given { variants = true } })) tt refl

default_alike : (p : PropertyDraft) → IfMade (IsListAlike p) (default_act p)
default_alike p = if_made (IsListAlike p) (is_some p.default) (Err DuplicateSpec) (Ok p) tt refl

samples_alike : (p : PropertyDraft) → IfMade (IsListAlike p) (samples_act p)
samples_alike p = if_made (IsListAlike p) p.marks.sampled (Err DuplicateSpec) (Ok (record p { marks = record p.marks { sampled = true } })) tt refl

-- the list and its edit word
abbrev IsListSame : PropertyDraft → PropertyDraft → Type 0
IsListSame p next = (next.paths ≡ p.paths) × (next.edit ≡ p.edit)

meta_comment_alike : (token : List ℕ) (p : PropertyDraft) → IfMade (IsListAlike p) (meta_comment_act token p)
meta_comment_alike token p = and_made (IsListAlike p) (keys.comment_act token p.meta) (λ meta. Ok (with_meta meta p)) (λ meta. refl)

meta_same : (key : List ℕ) (v : Value) (p : PropertyDraft) → IfMade (IsListSame p) (meta_act key v p)
meta_same key v p = and_made (IsListSame p) (keys.value_act key v p.meta) (λ meta. Ok (with_meta meta p)) (λ meta. (refl, refl))

-- ---- prims

pub specifier_viewed : (t : List ℕ) (d : Draft) → Viewed d (specifier_act t d)
unfolding specifier_act
specifier_viewed t d = refl

pub prim_type_viewed : (t : List ℕ) (d : Draft) → Viewed d (prim_type_act t d)
unfolding prim_type_act
prim_type_viewed t d = refl

pub open_viewed : (at : ℕ) (d : Draft) → Viewed d (open_act at d)
unfolding open_act
open_viewed at d = if_made (λ next. view_of next ≡ view_of d) d.opening.is_too_deep (Err (refused TooDeep at)) (Ok d) tt (refl)

-- ---- metadata

pub comment_viewed : (w : Word) (d : Draft) → Viewed d (comment_act w d)
unfolding comment_act
comment_viewed w d = said_viewed w.start (owner.comment_act w.text d.owner.said) d (comment_alike w.text d.owner.said)

pub aimed_viewed : (g : Goal) (key : List ℕ) (rule : KeyRule) (d : Draft) → view_of (aimed_at_key g key rule d) ≡ view_of d
unfolding aimed_at_key
aimed_viewed g key rule d = refl

pub key_viewed : (key : List ℕ) (at : ℕ) (d : Draft) → Viewed d (key_act key at d)
unfolding key_act
key_viewed key at d = then_any (λ next. view_of next ≡ view_of d) at (owner.key_act key d.owner.said) (λ rule. aimed_at_key goal.OwnerKey key rule d) (λ rule. aimed_viewed goal.OwnerKey key rule d)

pub variants_viewed : (w : Word) (d : Draft) → Viewed d (variants_act w d)
unfolding variants_act
variants_viewed w d =
    then_known (IsSaidAlike d.owner.said) (λ next. view_of next ≡ view_of d) w.start (variants.variants_act d.owner.said) (λ said. aimed goal.Variants Dictionary (with_said d said)) (variants_alike d.owner.said)
    (λ said h. ap (λ o. view_with d o d.property.paths) h)

pub edit_viewed : (w : Word) (d : Draft) → Viewed d (edit_act w d)
unfolding edit_act
edit_viewed w d = refl

pub root_viewed : (k : WordKind) (w : Word) (d : Draft) → Viewed d (root_act k w d)
unfolding root_act
root_viewed (token.Word word.Specifier) w d = specifier_viewed w.text d
root_viewed k w d = refl

pub ordered_viewed : (o : OrderWord) (at : ℕ) (d : Draft) → Viewed d (ordered_by o at d)
unfolding ordered_by
ordered_viewed o at d = then_known (IsSaidAlike d.owner.said) (λ next. view_of next ≡ view_of d) at (owner.order_act o d.owner.said) (in_order o d) (order_alike o d.owner.said) (λ said h. ap (λ o. view_with d o d.property.paths) h)

pub order_viewed : (w : Word) (d : Draft) → Viewed d (order_act w d)
unfolding order_act
order_viewed w d = ordered_viewed (owner.order_word w.text) w.start d

pub root_order_viewed : (w : Word) (d : Draft) → Viewed d (root_order_act w d)
unfolding root_order_act
root_order_viewed w d = ordered_viewed NameChildren w.start d

pub order_name_viewed : (k : WordKind) (w : Word) (d : Draft) → Viewed d (order_name_act k w d)
unfolding order_name_act
order_name_viewed token.Quoted w d = said_viewed w.start (owner.ordered_act d.order w.text d.owner.said) d (ordered_alike d.order w.text d.owner.said)
order_name_viewed k w d = refl

pub property_key_viewed : (w : Word) (d : Draft) → Viewed d (property_key_act w d)
unfolding property_key_act
property_key_viewed w d = then_any (λ next. view_of next ≡ view_of d) w.start (property_rule w.text d.property) (λ rule. aimed_at_key goal.PropertyKey w.text rule d) (λ rule. aimed_viewed goal.PropertyKey w.text rule d)

pub property_item_viewed : (k : WordKind) (w : Word) (d : Draft) → Viewed d (property_item_act k w d)
unfolding property_item_act
property_item_viewed token.Quoted w d = property_viewed w.start (meta_comment_act w.text d.property) d (meta_comment_alike w.text d.property)
property_item_viewed k w d = property_key_viewed w d

-- ---- statements of a prim

pub type_viewed : (w : Word) (d : Draft) → Viewed d (type_act w d)
unfolding type_act
type_viewed w d = then_any (λ next. view_of next ≡ view_of d) w.start (with_type w.text d.heading) (λ h. headed h d) (λ h. refl)

pub after_variability_viewed : (k : WordKind) (w : Word) (d : Draft) → Viewed d (after_variability_act k w d)
unfolding after_variability_act
after_variability_viewed (token.Word word.Rel) w d = refl
after_variability_viewed k w d = type_viewed w d

pub after_custom_viewed : (k : WordKind) (w : Word) (d : Draft) → Viewed d (after_custom_act k w d)
unfolding after_custom_act
after_custom_viewed (token.Word word.Variability) w d = refl
after_custom_viewed k w d = after_variability_viewed k w d

pub after_edit_viewed : (k : WordKind) (w : Word) (d : Draft) → Viewed d (after_edit_act k w d)
unfolding after_edit_act
after_edit_viewed (token.Word word.Custom) w d = refl
after_edit_viewed k w d = after_custom_viewed k w d

pub after_reorder_viewed : (k : WordKind) (w : Word) (d : Draft) → Viewed d (after_reorder_act k w d)
unfolding after_reorder_act
after_reorder_viewed (token.Word word.OrderedField) w d = order_viewed w d
after_reorder_viewed k w d = after_edit_viewed k w d

pub statement_viewed : (k : WordKind) (w : Word) (d : Draft) → Viewed d (statement_act k w d)
unfolding statement_act
statement_viewed (token.Word word.Specifier) w d = specifier_viewed w.text d
statement_viewed (token.Word word.VariantSet) w d = refl
statement_viewed (token.Word word.Edit) w d = refl
statement_viewed (token.Word word.Reorder) w d = refl
statement_viewed k w d = viewed_then d (headed (begun Explicit) d) (after_edit_act k w (headed (begun Explicit) d)) (refl) (after_edit_viewed k w (headed (begun Explicit) d))

pub brackets_viewed : (d : Draft) → Viewed d (brackets_act d)
unfolding brackets_act
brackets_viewed d = refl

pub default_viewed : (d : Draft) → Viewed d (default_begun d)
unfolding default_begun aimed_at_default
default_viewed d =
    then_known (IsListAlike d.property) (λ next. view_of next ≡ view_of d) d.name_at (default_act d.property) (λ p. aimed_at_default (with_property d p)) (default_alike d.property) (λ p h. ap (λ o. view_with d (ops_of d.owner.said.spec) o) h)

pub samples_viewed : (d : Draft) → Viewed d (samples_begun d)
unfolding samples_begun
samples_viewed d = property_viewed d.name_at (samples_act d.property) d (samples_alike d.property)

pub tail_viewed : (k : WordKind) (d : Draft) → Viewed d (tail_act k d)
unfolding tail_act
tail_viewed token.Equals d = default_viewed d
tail_viewed k d = refl

pub time_viewed : (t : List ℕ) (at : ℕ) (d : Draft) → Viewed d (time_act t at d)
unfolding time_act
time_viewed t at d = then_any (λ next. view_of next ≡ view_of d) at (time_of_number (number_of t)) (λ time. aimed_at_sample time d) (λ time. refl)

pub sample_viewed : (k : WordKind) (w : Word) (d : Draft) → Viewed d (sample_act k w d)
unfolding sample_act
sample_viewed token.Number w d = time_viewed w.text w.start d
sample_viewed k w d = refl

-- ---- values

same_said : (d : Draft) (at : ℕ) (r : Result OwnerDraft RefusalKind) → IfMade (IsSaidAlike d.owner.said) r → IfMade (Same d) (then_with at r (with_said d))
same_said d at r h = then_known (IsSaidAlike d.owner.said) (Same d) at r (with_said d) h (λ said g. record { view = ap (λ o. view_with d o d.property.paths) g; list = refl; edit = refl; of_property = refl })

same_property : (d : Draft) (at : ℕ) (r : Result PropertyDraft RefusalKind) → IfMade (IsListSame d.property) r → IfMade (Same d) (then_with at r (with_property d))
same_property d at r h =
    then_known (IsListSame d.property) (Same d) at r (with_property d) h (λ p g. record { view = ap (λ o. view_with d (ops_of d.owner.said.spec) o) g.0; list = refl; edit = refl; of_property = g.1 })

same_then : (d e : Draft) (r : Result Draft Refused) → Same d e → IfMade (Same e) r → IfMade (Same d) r
same_then d e (Ok next) h g = record { view = g.view ∙ h.view; list = g.list ∙ h.list; edit = g.edit ∙ h.edit; of_property = g.of_property ∙ h.of_property }
same_then d e (Err r) h g = tt

completed_same : (g : Goal) (v : Value) (at : ℕ) (d : Draft) → IfMade (Same d) (completed g v at d)
unfolding completed
completed_same goal.Nothing v at d = record { view = refl; list = refl; edit = refl; of_property = refl }
completed_same goal.OwnerKey v at d = same_said d at (owner.value_act d.aim.key v d.owner.said) (value_alike d.aim.key v d.owner.said)
completed_same goal.Variants v at d = record { view = refl; list = refl; edit = refl; of_property = refl }
completed_same goal.PropertyKey v at d = same_property d at (meta_act d.aim.key v d.property) (meta_same d.aim.key v d.property)
completed_same goal.Default v at d = record { view = refl; list = refl; edit = refl; of_property = refl }
completed_same goal.Sample v at d = record { view = refl; list = refl; edit = refl; of_property = refl }

after_token_same : (r : Result OpenValue RefusalKind) (at : ℕ) (d : Draft) → IfMade (Same d) (after_token r at d)
after_token_same (Err k) at d = tt
after_token_same (Ok v) at d =
    if_made (Same d) (is_open v) (Ok (record d { value = v })) (completed d.aim.goal (value_in v) at (record d { value = no_value })) (record { view = refl; list = refl; edit = refl; of_property = refl })
    (same_then d (record d { value = no_value }) (completed d.aim.goal (value_in v) at (record d { value = no_value })) (record { view = refl; list = refl; edit = refl; of_property = refl }) (completed_same d.aim.goal (value_in v) at (record d { value = no_value })))

pub token_same : (w : Word) (d : Draft) → IfMade (Same d) (token_act w d)
unfolding token_act
token_same w d = after_token_same (given d.owner.said.base w.token w.text d.value) w.start d

pub view_only : (d : Draft) (r : Result Draft Refused) → IfMade (Same d) r → Viewed d r
view_only d (Ok next) h = h.view
view_only d (Err r) h = tt

pub first_viewed : (w : Word) (d : Draft) → Viewed d (first_act w d)
unfolding first_act
first_viewed w d = viewed_then d (with_value_begun d) (token_act w (with_value_begun d)) refl (view_only (with_value_begun d) (token_act w (with_value_begun d)) (token_same w (with_value_begun d)))
