-- Words that are of no list leave what is said sound.
use Rattle.layer_reads.specs.Keys.{is_plain_key}
use Rattle.std.proofs.Common.{◌≡◌, ◌∙◌, ℕ, Bool, true, false, List, Option, Some, None, Result, Ok, Err, ap, refl, ◌∷◌, [], ◌++◌, subst}
use Rattle.std.specs.Prelude.{if◌then◌else◌}
use Rattle.plain_data.specs.Ends.{last, front}
use Rattle.sdf_paths.specs.DerivedOrder.{path_cmp_same}
use Rattle.sdf_paths.specs.Order.{path_cmp}
use Rattle.sdf_paths.specs.Paths.{IsPath}
use Rattle.sdf_paths.specs.declared.element.Element.{Element}
use Rattle.sdf_values.specs.declared.refusal.RefusalKind.{RefusalKind}
use Rattle.sdf_values.specs.declared.refusal.RefusalKind.TheVariants.{DuplicateSpec, TooDeep}
use Rattle.spec_parts.specs.declared.items.Specifier.TheVariants.{Over}
use Rattle.usda_drafts.specs.Bodies.{headed, type_act, after_variability_act, after_custom_act, after_edit_act, after_reorder_act, statement_act, body_act, brackets_act, default_begun, samples_begun, tail_act, sample_act, name_act, with_name}
use Rattle.usda_drafts.specs.Closed.{is_closed, with_spec_at}
use Rattle.usda_drafts.specs.Metadata.{said_act, comment_act, key_act, variants_act, root_act, in_order, ordered_by, order_act, root_order_act, order_name_act, property_rule, property_key_act, property_item_act}
use Rattle.usda_drafts.specs.Owners.{owner_of, spec_of, with_child, has_set, with_set, with_variant, with_place, with_returned, property_for, settled}
use Rattle.usda_drafts.specs.Places.{prim_place, variant_place}
use Rattle.usda_drafts.specs.Prims.{specifier_act, prim_type_act, open_act, entered, prim_at, with_prim, entered_prim, named_prim, prim_name_act, begun_set, set_name_act, with_variant_at, entered_variant, named_variant, variant_name_act, with_statement_over, left_for, left, body_end_act}
use Rattle.usda_drafts.specs.Refusals.{refused}
use Rattle.usda_drafts.specs.Values.{aimed, aimed_at_key, aimed_at_default, aimed_at_sample, time_of_number, time_act, with_said, with_property}
use Rattle.usda_drafts.specs.declared.aim.Goal.TheVariants as goal
use Rattle.usda_drafts.specs.declared.draft.Draft.{Draft}
use Rattle.usda_drafts.specs.declared.fault.Refused.{Refused}
use Rattle.usda_drafts.specs.declared.owner.Owner.{Owner}
use Rattle.usda_fields.specs.Keys.{key_rule, rule_shape}
use Rattle.usda_fields.specs.Names.{identifier_of, variant_of}
use Rattle.usda_fields.specs.Owners as owner
use Rattle.usda_fields.specs.Variants as variants
use Rattle.usda_fields.specs.declared.keys.KeyRule.{KeyRule}
use Rattle.usda_fields.specs.declared.owner.OrderWord.{OrderWord}
use Rattle.usda_fields.specs.declared.owner.OrderWord.TheVariants.{NameChildren}
use Rattle.usda_fields.specs.declared.owner.OwnerDraft.{OwnerDraft}
use Rattle.usda_grammar.specs.declared.kinds.Keyword.TheVariants as word
use Rattle.usda_grammar.specs.declared.kinds.WordKind.{WordKind}
use Rattle.usda_grammar.specs.declared.kinds.WordKind.TheVariants as token
use Rattle.usda_lexer.specs.Meanings.{number_of}
use Rattle.usda_lists.specs.Acts.{and_then}
use Rattle.usda_lists.specs.declared.edit.ListEdit.TheVariants.{Explicit}
use Rattle.usda_statements.specs.Headings.{begun, with_type}
use Rattle.usda_statements.specs.PropertyDrafts.{is_in_hand, default_act, samples_act, meta_comment_act}
use Rattle.usda_statements.specs.declared.property.PropertyDraft.{PropertyDraft}
use Rattle.usda_values.specs.declared.shape.Shape.TheVariants.{Dictionary}
use Rattle.usda_words.specs.Words.{Word}
use Rattle.fields_read.specs.Sound.{IsSaid}
use Rattle.fields_read.proofs.Begun.{owners_begin}
use Rattle.fields_read.proofs.Keys.{keys_read}
use Rattle.fields_read.proofs.Others.{others_read}
use Rattle.layer_texts.specs.Writable.{is_word}
use Rattle.value_returns.specs.Fields.{AreProperFields}
use Rattle.value_returns.proofs.Tables.{all_with}
use Rattle.trees_read.proofs.Fields.{IfMade, and_made, if_made}
use Rattle.trees_read.proofs.ListActs.{then_known, then_any}
use Rattle.layers_read.proofs.States.{IsOwner, Quiet, Beside, itself, quiet_beside, quiet_made, rest_said, owner_said, name_for, plain_inside, inside_last, owners_push, owners_front, owners_last}

-- ---- words that say nothing of owners

beside_then : (d e : Draft) (r : Result Draft Refused) → Beside d e → IfMade (Beside e) r → IfMade (Beside d) r
beside_then d e (Ok next) h g = record {
  specs = g.specs ∙ h.specs;
  outer = g.outer ∙ h.outer;
  said = g.said ∙ h.said;
  type_name = g.type_name ∙ h.type_name;
  opening = λ o. g.opening (h.opening o);
  sublayers = g.sublayers ∙ h.sublayers;
  aim = λ a. g.aim (h.aim a);
  word = g.word ∙ h.word;
}
beside_then d e (Err r) h g = tt

specifier_beside : (t : List ℕ) (d : Draft) → IfMade (Beside d) (specifier_act t d)
unfolding specifier_act
specifier_beside t d = record { specs = refl; outer = refl; said = refl; type_name = refl; opening = λ h. refl; sublayers = refl; aim = λ a. a; word = refl }

open_beside : (at : ℕ) (d : Draft) → IfMade (Beside d) (open_act at d)
unfolding open_act
open_beside at d = if_made (Beside d) d.opening.is_too_deep (Err (refused TooDeep at)) (Ok d) tt (itself d)

type_beside : (w : Word) (d : Draft) → IfMade (Beside d) (type_act w d)
unfolding type_act
type_beside w d = then_any (Beside d) w.start (with_type w.text d.heading) (λ h. headed h d) (λ h. record { specs = refl; outer = refl; said = refl; type_name = refl; opening = λ h. h; sublayers = refl; aim = λ a. a; word = refl })

after_variability_beside : (k : WordKind) (w : Word) (d : Draft) → IfMade (Beside d) (after_variability_act k w d)
unfolding after_variability_act
after_variability_beside (token.Word word.Rel) w d = record { specs = refl; outer = refl; said = refl; type_name = refl; opening = λ h. h; sublayers = refl; aim = λ a. a; word = refl }
after_variability_beside k w d = type_beside w d

after_custom_beside : (k : WordKind) (w : Word) (d : Draft) → IfMade (Beside d) (after_custom_act k w d)
unfolding after_custom_act
after_custom_beside (token.Word word.Variability) w d = record { specs = refl; outer = refl; said = refl; type_name = refl; opening = λ h. h; sublayers = refl; aim = λ a. a; word = refl }
after_custom_beside k w d = after_variability_beside k w d

after_edit_beside : (k : WordKind) (w : Word) (d : Draft) → IfMade (Beside d) (after_edit_act k w d)
unfolding after_edit_act
after_edit_beside (token.Word word.Custom) w d = record { specs = refl; outer = refl; said = refl; type_name = refl; opening = λ h. h; sublayers = refl; aim = λ a. a; word = refl }
after_edit_beside k w d = after_custom_beside k w d

statement_beside : (k : WordKind) (w : Word) (d : Draft) → IfMade (Beside d) (statement_act k w d)
unfolding statement_act
statement_beside (token.Word word.Specifier) w d = specifier_beside w.text d
statement_beside (token.Word word.VariantSet) w d = itself d
statement_beside (token.Word word.Edit) w d = record { specs = refl; outer = refl; said = refl; type_name = refl; opening = λ h. h; sublayers = refl; aim = λ a. a; word = refl }
statement_beside (token.Word word.Reorder) w d = record { specs = refl; outer = refl; said = refl; type_name = refl; opening = λ h. h; sublayers = refl; aim = λ a. a; word = refl }
statement_beside k w d = beside_then d (headed (begun Explicit) d) (after_edit_act k w (headed (begun Explicit) d)) record { specs = refl; outer = refl; said = refl; type_name = refl; opening = λ h. h; sublayers = refl; aim = λ a. a; word = refl } (after_edit_beside k w (headed (begun Explicit) d))

settled_said : (p : PropertyDraft) (o : Owner) → ((settled p o).said ≡ o.said) × ((settled p o).type_name ≡ o.type_name)
unfolding settled with_returned
settled_said p o = by (is_in_hand p)
  where
    by : (b : Bool) → ((if b then with_returned p o else o).said ≡ o.said) × ((if b then with_returned p o else o).type_name ≡ o.type_name)
    by true = (refl, refl)
    by false = (refl, refl)

pub over_beside : (d : Draft) → Beside d (with_statement_over d)
unfolding with_statement_over
over_beside d = record { specs = refl; outer = refl; said = (settled_said d.property d.owner).0; type_name = (settled_said d.property d.owner).1; opening = λ h. h; sublayers = refl; aim = λ a. a; word = refl }

body_beside : (w : Word) (d : Draft) → IfMade (Beside d) (body_act w d)
unfolding body_act
body_beside w d = beside_then d (with_statement_over d) (statement_act w.kind w (with_statement_over d)) (over_beside d) (statement_beside w.kind w (with_statement_over d))

brackets_beside : (d : Draft) → IfMade (Beside d) (brackets_act d)
unfolding brackets_act
brackets_beside d = record { specs = refl; outer = refl; said = refl; type_name = refl; opening = λ h. h; sublayers = refl; aim = λ a. a; word = refl }

name_beside : (w : Word) (d : Draft) → IfMade (Beside d) (name_act w d)
unfolding name_act with_place
name_beside w d = then_any (Beside d) w.start (property_for d.heading w.text d.owner) (with_name w.text w.start d) (λ p. record { specs = refl; outer = refl; said = refl; type_name = refl; opening = λ h. h; sublayers = refl; aim = λ a. a; word = refl })

default_beside : (d : Draft) → IfMade (Beside d) (default_begun d)
unfolding default_begun aimed_at_default
default_beside d = then_any (Beside d) d.name_at (default_act d.property) (λ p. aimed_at_default (with_property d p)) (λ p. record { specs = refl; outer = refl; said = refl; type_name = refl; opening = λ h. h; sublayers = refl; aim = λ a. tt; word = refl })

tail_beside : (k : WordKind) (d : Draft) → IfMade (Beside d) (tail_act k d)
unfolding tail_act
tail_beside token.Equals d = default_beside d
tail_beside k d = itself d

pub samples_beside : (d : Draft) → IfMade (Beside d) (samples_begun d)
unfolding samples_begun
samples_beside d = then_any (Beside d) d.name_at (samples_act d.property) (with_property d) (λ p. record { specs = refl; outer = refl; said = refl; type_name = refl; opening = λ h. h; sublayers = refl; aim = λ a. a; word = refl })

sample_beside : (k : WordKind) (w : Word) (d : Draft) → IfMade (Beside d) (sample_act k w d)
unfolding sample_act time_act
sample_beside token.Number w d = then_any (Beside d) w.start (time_of_number (number_of w.text)) (λ time. aimed_at_sample time d) (λ time. record { specs = refl; outer = refl; said = refl; type_name = refl; opening = λ h. h; sublayers = refl; aim = λ a. tt; word = refl })
sample_beside k w d = itself d

property_key_beside : (w : Word) (d : Draft) → IfMade (Beside d) (property_key_act w d)
unfolding property_key_act aimed_at_key
property_key_beside w d = then_any (Beside d) w.start (property_rule w.text d.property) (λ rule. aimed_at_key goal.PropertyKey w.text rule d) (λ rule. record { specs = refl; outer = refl; said = refl; type_name = refl; opening = λ h. h; sublayers = refl; aim = λ a. tt; word = refl })

property_item_beside : (k : WordKind) (w : Word) (d : Draft) → IfMade (Beside d) (property_item_act k w d)
unfolding property_item_act
property_item_beside token.Quoted w d = then_any (Beside d) w.start (meta_comment_act w.text d.property) (with_property d) (λ p. record { specs = refl; outer = refl; said = refl; type_name = refl; opening = λ h. h; sublayers = refl; aim = λ a. a; word = refl })
property_item_beside k w d = property_key_beside w d

begun_set_beside : (name : List ℕ) (d : Draft) → IfMade (Beside d) (begun_set name d)
unfolding begun_set with_set
begun_set_beside name d = if_made (Beside d) (has_set name d.owner) (Err DuplicateSpec) (Ok (record d { owner = with_set name d.owner })) tt record { specs = refl; outer = refl; said = refl; type_name = refl; opening = λ h. h; sublayers = refl; aim = λ a. a; word = refl }

pub set_beside : (t : List ℕ) (d : Draft) → IfMade (Beside d) (set_name_act t d)
unfolding set_name_act
set_beside t d = and_made (Beside d) (identifier_of t) (λ name. begun_set name d) (λ name. begun_set_beside name d)

root_beside : (k : WordKind) (w : Word) (d : Draft) → IfMade (Beside d) (root_act k w d)
unfolding root_act
root_beside (token.Word word.Specifier) w d = specifier_beside w.text d
root_beside k w d = itself d

-- ---- a key, behind which its value is expected

rule_made : (key : List ℕ) (d : OwnerDraft) → IfMade (λ rule. rule ≡ key_rule key) (owner.key_act key d)
rule_made key d = by (owner.key_act key d) refl
  where
    by : (r : Result KeyRule RefusalKind) → owner.key_act key d ≡ r → IfMade (λ rule. rule ≡ key_rule key) r
    by (Ok rule) e = (keys_read is_plain_key).rule key d rule e
    by (Err k) e = tt

pub key_beside : (key : List ℕ) (at : ℕ) (d : Draft) → is_word key ≡ true → IfMade (Beside d) (key_act key at d)
unfolding key_act aimed_at_key
key_beside key at d name =
    then_known (λ rule. rule ≡ key_rule key) (Beside d) at (owner.key_act key d.owner.said) (λ rule. aimed_at_key goal.OwnerKey key rule d) (rule_made key d.owner.said)
    (λ rule is. record { specs = refl; outer = refl; said = refl; type_name = refl; opening = λ h. h; sublayers = refl; aim = λ a. (ap rule_shape is, name); word = refl })

module _ (b : Bool) where
  -- ---- words that say something of the owner

  pub said_quiet : (at : ℕ) (r : Result OwnerDraft RefusalKind) (d : Draft) → Quiet b d → IfMade (IsSaid (name_for d.outer)) r → IfMade (Quiet b) (said_act at r d)
  said_quiet at r d q h = then_known (IsSaid (name_for d.outer)) (Quiet b) at r (with_said d) h (λ said s. (rest_said b d said q.0, s))

  pub said_made : (P : OwnerDraft → Type 0) (d : OwnerDraft) (r : Result OwnerDraft RefusalKind) → ((next : OwnerDraft) → r ≡ Ok next → P next) → IfMade P r
  said_made P d (Ok next) h = h next refl
  said_made P d (Err k) h = tt

  pub comment_quiet : (w : Word) (d : Draft) → Quiet b d → IfMade (Quiet b) (comment_act w d)
  unfolding comment_act
  comment_quiet w d q = said_quiet w.start (owner.comment_act w.text d.owner.said) d q (said_made (IsSaid (name_for d.outer)) d.owner.said _ (λ next e. (keys_read (name_for d.outer)).comment w.text d.owner.said next q.1 e))

  pub variants_quiet : (w : Word) (d : Draft) → Quiet b d → IfMade (Quiet b) (variants_act w d)
  unfolding variants_act
  variants_quiet w d q =
      then_known (IsSaid (name_for d.outer)) (Quiet b) w.start (variants.variants_act d.owner.said) (λ said. aimed goal.Variants Dictionary (with_said d said))
      (said_made (IsSaid (name_for d.outer)) d.owner.said _ (λ next e. (others_read (name_for d.outer)).variants d.owner.said next q.1 e))
      (λ said s. (record { specs = q.0.specs; outer = q.0.outer; typed = q.0.typed; opening = q.0.opening; sublayers = q.0.sublayers; aim = tt; word = q.0.word }, s))

  ordered_quiet : (o : OrderWord) (at : ℕ) (d : Draft) → Quiet b d → IfMade (Quiet b) (ordered_by o at d)
  unfolding ordered_by
  ordered_quiet o at d q =
      then_known (IsSaid (name_for d.outer)) (Quiet b) at (owner.order_act o d.owner.said) (in_order o d)
      (said_made (IsSaid (name_for d.outer)) d.owner.said _ (λ next e. (others_read (name_for d.outer)).order o d.owner.said next q.1 e))
      (λ said s. (record { specs = q.0.specs; outer = q.0.outer; typed = q.0.typed; opening = q.0.opening; sublayers = q.0.sublayers; aim = q.0.aim; word = q.0.word }, s))

  order_quiet : (w : Word) (d : Draft) → Quiet b d → IfMade (Quiet b) (order_act w d)
  unfolding order_act
  order_quiet w d q = ordered_quiet (owner.order_word w.text) w.start d q

  pub root_order_quiet : (w : Word) (d : Draft) → Quiet b d → IfMade (Quiet b) (root_order_act w d)
  unfolding root_order_act
  root_order_quiet w d q = ordered_quiet NameChildren w.start d q

  pub order_name_quiet : (k : WordKind) (w : Word) (d : Draft) → Quiet b d → IfMade (Quiet b) (order_name_act k w d)
  unfolding order_name_act
  order_name_quiet token.Quoted w d q = said_quiet w.start (owner.ordered_act d.order w.text d.owner.said) d q (said_made (IsSaid (name_for d.outer)) d.owner.said _ (λ next e. (others_read (name_for d.outer)).ordered d.order w.text d.owner.said next q.1 e))
  order_name_quiet k w d q = q

  pub after_reorder_quiet : (k : WordKind) (w : Word) (d : Draft) → Quiet b d → IfMade (Quiet b) (after_reorder_act k w d)
  unfolding after_reorder_act
  after_reorder_quiet (token.Word word.OrderedField) w d q = order_quiet w d q
  after_reorder_quiet k w d q = quiet_made b d (after_edit_act k w d) (after_edit_beside k w d) q

  -- ---- words of bodies

  pub body_quiet : (w : Word) (d : Draft) → Quiet b d → IfMade (Quiet b) (body_act w d)
  body_quiet w d q = quiet_made b d (body_act w d) (body_beside w d) q

  pub after_custom_quiet : (w : Word) (d : Draft) → Quiet b d → IfMade (Quiet b) (after_custom_act w.kind w d)
  after_custom_quiet w d q = quiet_made b d (after_custom_act w.kind w d) (after_custom_beside w.kind w d) q

  pub after_variability_quiet : (w : Word) (d : Draft) → Quiet b d → IfMade (Quiet b) (after_variability_act w.kind w d)
  after_variability_quiet w d q = quiet_made b d (after_variability_act w.kind w d) (after_variability_beside w.kind w d) q

  pub after_edit_quiet : (w : Word) (d : Draft) → Quiet b d → IfMade (Quiet b) (after_edit_act w.kind w d)
  after_edit_quiet w d q = quiet_made b d (after_edit_act w.kind w d) (after_edit_beside w.kind w d) q

  pub brackets_quiet : (d : Draft) → Quiet b d → IfMade (Quiet b) (brackets_act d)
  brackets_quiet d q = quiet_made b d (brackets_act d) (brackets_beside d) q

  pub name_quiet : (w : Word) (d : Draft) → Quiet b d → IfMade (Quiet b) (name_act w d)
  name_quiet w d q = quiet_made b d (name_act w d) (name_beside w d) q

  pub tail_quiet : (k : WordKind) (d : Draft) → Quiet b d → IfMade (Quiet b) (tail_act k d)
  tail_quiet k d q = quiet_made b d (tail_act k d) (tail_beside k d) q

  pub sample_quiet : (k : WordKind) (w : Word) (d : Draft) → Quiet b d → IfMade (Quiet b) (sample_act k w d)
  sample_quiet k w d q = quiet_made b d (sample_act k w d) (sample_beside k w d) q

  pub property_item_quiet : (k : WordKind) (w : Word) (d : Draft) → Quiet b d → IfMade (Quiet b) (property_item_act k w d)
  property_item_quiet k w d q = quiet_made b d (property_item_act k w d) (property_item_beside k w d) q

  pub root_quiet : (k : WordKind) (w : Word) (d : Draft) → Quiet b d → IfMade (Quiet b) (root_act k w d)
  root_quiet k w d q = quiet_made b d (root_act k w d) (root_beside k w d) q

  pub open_quiet : (at : ℕ) (d : Draft) → Quiet b d → IfMade (Quiet b) (open_act at d)
  open_quiet at d q = quiet_made b d (open_act at d) (open_beside at d) q

  -- ---- prims and variants

  -- the type of a prim is a name
  pub type_quiet : (t : List ℕ) (d : Draft) → is_word t ≡ true → Quiet b d → IfMade (Quiet b) (prim_type_act t d)
  unfolding prim_type_act
  type_quiet t d name q = (record { specs = q.0.specs; outer = q.0.outer; typed = q.0.typed; opening = name; sublayers = q.0.sublayers; aim = q.0.aim; word = q.0.word }, q.1)

  -- what is left where the innermost owner has a path
  abbrev pub IfPlaced : Draft → Type 0
  IfPlaced n = IsPath n.owner.said.path → Quiet b n

  prim_begun : (name : List ℕ) (path : List Element) (d : Draft) → Quiet b d → IfPlaced (with_prim name path d)
  unfolding with_prim entered with_child prim_at owner_of
  prim_begun name path d q placed = (
    record { specs = q.0.specs; outer = owners_push d.outer (with_child name d.owner) q.0.outer (q.1, q.0.typed); typed = q.0.opening; opening = q.0.opening; sublayers = q.0.sublayers; aim = q.0.aim; word = q.0.word },
    owners_begin (name_for (d.outer ++ with_child name d.owner ∷ [])) path d.opening.specifier placed,
  )

  named_quiet : (name : List ℕ) (d : Draft) → Quiet b d → IfMade IfPlaced (named_prim name d)
  unfolding named_prim entered_prim
  named_quiet name d q = by (prim_place d.owner.said.path name)
    where
      by_closed : (path : List Element) (c : Bool) → IfMade {E = RefusalKind} IfPlaced (if c then Err DuplicateSpec else Ok (with_prim name path d))
      by_closed path true = tt
      by_closed path false = prim_begun name path d q

      by : (r : Result (Option (List Element)) RefusalKind) → IfMade IfPlaced (and_then r (λ path. entered_prim name path d))
      by (Ok None) = λ placed. (record { specs = q.0.specs; outer = q.0.outer; typed = q.0.typed; opening = q.0.opening; sublayers = q.0.sublayers; aim = q.0.aim; word = q.0.word }, q.1)
      by (Ok (Some path)) = by_closed path (is_closed path d.specs)
      by (Err k) = tt

  pub prim_quiet : (t : List ℕ) (d : Draft) → Quiet b d → IfMade IfPlaced (prim_name_act t d)
  unfolding prim_name_act
  prim_quiet t d q = and_made IfPlaced (identifier_of t) (λ name. named_prim name d) (λ name. named_quiet name d q)

  variant_begun : (name : List ℕ) (path : List Element) (d : Draft) → Quiet b d → IfPlaced (with_variant_at name path d)
  unfolding with_variant_at entered with_variant owner_of
  variant_begun name path d q placed = (
    record { specs = q.0.specs; outer = owners_push d.outer (with_variant name d.owner) q.0.outer (q.1, q.0.typed); typed = refl; opening = q.0.opening; sublayers = q.0.sublayers; aim = q.0.aim; word = q.0.word },
    owners_begin (name_for (d.outer ++ with_variant name d.owner ∷ [])) path Over placed,
  )

  named_variant_quiet : (name : List ℕ) (d : Draft) → Quiet b d → IfMade IfPlaced (named_variant name d)
  unfolding named_variant entered_variant
  named_variant_quiet name d q = by (variant_place d.owner.said.path d.owner.set name)
    where
      by_closed : (path : List Element) (c : Bool) → IfMade {E = RefusalKind} IfPlaced (if c then Err DuplicateSpec else Ok (with_variant_at name path d))
      by_closed path true = tt
      by_closed path false = variant_begun name path d q

      by : (r : Result (List Element) RefusalKind) → IfMade IfPlaced (and_then r (λ path. entered_variant name path d))
      by (Ok path) = by_closed path (is_closed path d.specs)
      by (Err k) = tt

  pub variant_quiet : (t : List ℕ) (d : Draft) → Quiet b d → IfMade IfPlaced (variant_name_act t d)
  unfolding variant_name_act
  variant_quiet t d q = and_made IfPlaced (variant_of t) (λ name. named_variant name d) (λ name. named_variant_quiet name d q)

  -- where no owner is outside, none is left
  none_front : (outer : List Owner) → last outer ≡ None → outer ≡ front outer
  none_front [] h = refl
  none_front (o ∷ []) h = absurd cc
  none_front (o ∷ p ∷ outer) h = ap (λ os. o ∷ os) (none_front (p ∷ outer) h)

  left_quiet : (d : Draft) → Quiet b d → Quiet b (left d)
  unfolding left with_spec_at
  left_quiet d q = by (last d.outer) refl
    where
      by : (l : Option Owner) → last d.outer ≡ l → Quiet b (left_for l d)
      by None is = subst (λ outer. Quiet b (record d { outer = outer })) (none_front d.outer is) q
      by (Some o) is =
          let so : IsOwner (name_for (front d.outer)) o = owners_last d.outer o q.0.outer is in (
            record {
              specs = all_with path_cmp path_cmp_same (λ e. AreProperFields e.1) d.owner.said.path (spec_of d.owner) d.specs (owner_said d.owner (subst (λ f. IsSaid f d.owner.said) (plain_inside d.outer (inside_last d.outer o is)) q.1, q.0.typed)) q.0.specs;
              outer = owners_front d.outer q.0.outer;
              typed = so.1;
              opening = q.0.opening;
              sublayers = q.0.sublayers;
              aim = q.0.aim;
              word = q.0.word;
            },
            so.0,
          )

  pub end_quiet : (d : Draft) → Quiet b d → IfMade (Quiet b) (body_end_act d)
  unfolding body_end_act
  end_quiet d q = left_quiet (with_statement_over d) (quiet_beside b d (with_statement_over d) (over_beside d) q)
