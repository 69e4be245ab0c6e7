-- Values are aimed at the property in hand, and fit it.
use Rattle.std.proofs.Common.{◌≡◌, sym, ap, refl, subst, ℕ, Bool, true, false, List, Option, Some, None, Ok, Err}
use Rattle.std.specs.Prelude.{Result, if◌then◌else◌}
use Rattle.sdf_values.specs.declared.refusal.RefusalKind.{RefusalKind}
use Rattle.sdf_values.specs.declared.refusal.RefusalKind.TheVariants.{DuplicateSpec}
use Rattle.sdf_values.specs.declared.type_name.TypeName.{TypeName}
use Rattle.sdf_values.specs.declared.value.Value.{Value}
use Rattle.usda_fields.specs.Keys.{has_key, key_rule, rule_shape, unless_taken}
use Rattle.usda_fields.specs.declared.keys.KeyRule.{KeyRule}
use Rattle.usda_fields.specs.declared.keys.KeyRule.TheVariants.{Relocates, Comment, Boolean, DefaultPrim, Free}
use Rattle.usda_grammar.specs.declared.kinds.WordKind.TheVariants as token
use Rattle.usda_lexer.specs.Meanings.{number_of}
use Rattle.usda_statements.specs.OpenValues.{value_in}
use Rattle.usda_statements.specs.PropertyDrafts.{default_act, meta_key_act}
use Rattle.usda_statements.specs.declared.property.PropertyDraft.{PropertyDraft}
use Rattle.usda_words.specs.Words.{Word}
use Rattle.usda_drafts.specs.Bodies.{default_begun, tail_act, sample_act}
use Rattle.usda_drafts.specs.Metadata.{property_rule, property_key_act}
use Rattle.usda_drafts.specs.Values.{shape_of, aimed_at_default, aimed_at_sample, aimed_at_key, time_of_number, time_act, with_property}
use Rattle.usda_drafts.specs.declared.aim.Goal.{Goal}
use Rattle.usda_drafts.specs.declared.aim.Goal.TheVariants as goal
use Rattle.usda_drafts.specs.declared.draft.Draft.{Draft}
use Rattle.value_texts.specs.Readable.{is_read_as}
use Rattle.properties_read.specs.Aims.{IsAimedAt, IsAimed, IsReadWhere, IsWhole, ValuesAreAimed}
use Rattle.layer_texts.specs.Writable.{is_word}
use Rattle.properties_read.specs.Drafts.{IsFor}
use Rattle.properties_read.specs.Values.{IsValueOf}
use Rattle.properties_read.proofs.Drafts.{then_made}
use Rattle.properties_read.proofs.Values.{times_near, typed_proper}

pub default_aimed : (d next : Draft) → tail_act token.Equals d ≡ Ok next → IsAimed next
unfolding tail_act default_begun aimed_at_default
default_aimed d next e =
    let m = then_made d.name_at (default_act d.property) (λ (p : PropertyDraft). aimed_at_default (with_property d p)) next e in
    subst IsAimed {x = aimed_at_default (with_property d m.0)} m.1.1 refl

pub sample_aimed : (w : Word) (d next : Draft) → sample_act token.Number w d ≡ Ok next → IsAimed next
unfolding sample_act time_act
sample_aimed w d next e =
    let m = then_made w.start (time_of_number (number_of w.text)) (λ time. aimed_at_sample time d) next e in
    subst IsAimed {x = aimed_at_sample m.0 d} m.1.1 (refl, times_near w.text m.0 m.1.0)

-- the rule of a key is the key's
rule_is : (key : List ℕ) (p : PropertyDraft) (rule : KeyRule) → meta_key_act key p ≡ Ok rule → key_rule key ≡ rule
rule_is key p rule e = by (has_key key p.meta) (key_rule key) e
  where
    unless : (taken : Bool) (r : KeyRule) → ◌≡◌ {A = Result KeyRule RefusalKind} (if taken then Err DuplicateSpec else Ok r) (Ok rule) → r ≡ rule
    unless true r e = absurd cc
    unless false r e = cc

    by : (taken : Bool) (r : KeyRule) → unless_taken taken r ≡ Ok rule → r ≡ rule
    by taken Relocates e = absurd cc
    by taken Comment e = unless taken Comment e
    by taken Boolean e = unless taken Boolean e
    by taken DefaultPrim e = unless taken DefaultPrim e
    by taken Free e = unless taken Free e

pub key_aimed : (w : Word) (d next : Draft) → is_word w.text ≡ true → property_key_act w d ≡ Ok next → IsAimed next
unfolding property_key_act property_rule aimed_at_key
key_aimed w d next is e =
    let m = then_made w.start (property_rule w.text d.property) (λ (rule : KeyRule). aimed_at_key goal.PropertyKey w.text rule d) next e in
    subst IsAimed {x = aimed_at_key goal.PropertyKey w.text m.0 d} m.1.1 (ap rule_shape (sym (rule_is w.text d.property m.0 m.1.0)), is)

-- a value of what the type expects is one of the type
value_of_type : (o : Option TypeName) (v : Value) → IsWhole (shape_of o) v → IsValueOf o v
unfolding shape_of
value_of_type None v w = tt
value_of_type (Some ty) v w = typed_proper ty v w.read w.writable w.utf8

read_by_rule : (rule : KeyRule) (v : Value) → IsReadWhere (rule_shape rule) v → is_read_as v (rule_shape rule) true ≡ true
read_by_rule Relocates v r = r
read_by_rule Comment v r = r
read_by_rule Boolean v r = r
read_by_rule DefaultPrim v r = r
read_by_rule Free v r = r

fit : (g : Goal) (d : Draft) (v : Value) → IsAimedAt g d → IsWhole d.aim.shape v → IsFor g v d
fit goal.Default d v a w = value_of_type d.property.ty v (subst (λ s. IsWhole s v) a w)
fit goal.Sample d v a w = (a.1, value_of_type d.property.ty v (subst (λ s. IsWhole s v) a.0 w))
fit goal.PropertyKey d v a w = record { word = a.1; name = refl; read = read_by_rule (key_rule d.aim.key) v (subst (λ s. IsReadWhere s v) a.0 w.read); writable = w.writable; deep = w.deep; full = w.full; utf8 = w.utf8 }
fit goal.Nothing d v a w = tt
fit goal.OwnerKey d v a w = tt
fit goal.Variants d v a w = tt

pub values_aimed : ValuesAreAimed
values_aimed = record { default = default_aimed; sample = sample_aimed; key = key_aimed; fits = λ d v a w. fit d.aim.goal d v a w; completes = λ w d a h v g o. fit d.aim.goal d (value_in v) a (h v g o) }
