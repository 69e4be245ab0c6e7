-- The property in hand, if one is: each part of a statement keeps it sound.
use Rattle.std.proofs.Common.{◌≡◌, ◌∙◌, sym, ap, ℕ, true, List, Ok}
use Rattle.std.specs.Prelude.{is_some}
use Rattle.std.specs.Str.{is_utf8}
use Rattle.sdf_paths.specs.Paths.{IsPath}
use Rattle.sdf_paths.specs.declared.element.Element.{Element}
use Rattle.sdf_values.specs.declared.refusal.RefusalKind.TheVariants.{DuplicateSpec}
use Rattle.sdf_values.specs.declared.value.Value.{Value}
use Rattle.usda_fields.specs.Keys.{value_act, comment_act}
use Rattle.usda_lexer.specs.Meanings.{path_text}
use Rattle.usda_statements.specs.PropertyDrafts.{no_property, is_named, default_act, samples_act, list_act, path_act, with_list_closed, meta_comment_act, meta_act}
use Rattle.usda_statements.specs.declared.property.PropertyDraft.{PropertyDraft}
use Rattle.properties_read.specs.Drafts.{IsSoundInHand}
use Rattle.properties_read.specs.Sound.{IsSoundProperty}
use Rattle.properties_read.specs.Targets.{Reading, closed, begun, bracketed}
use Rattle.properties_read.proofs.Properties.{unless_refused, path_is, meta_is, list_is, default_begun_sound, samples_begun_sound, list_begun_sound, list_none_sound, list_opened_sound, list_closed_sound, path_alone_sound, path_bracketed_sound, commented_sound, keyed_sound}
use Rattle.layer_reads.specs.Properties.{is_any_key}
use Rattle.fields_read.specs.Laws.{IsReadFor}

-- what is sound if it was, and has the name that it had
pub hand_so : (r after : Reading) (p next : PropertyDraft) → next.name ≡ p.name → (IsSoundProperty r p → IsSoundProperty after next) → IsSoundInHand r p → IsSoundInHand after next
hand_so r after p next same so hand named = so (hand (ap is_named (sym same) ∙ named))

pub no_hand : (r : Reading) → IsSoundInHand r no_property
no_hand r named = absurd cc

pub default_hand : (r : Reading) (p next : PropertyDraft) → default_act p ≡ Ok next → IsSoundInHand r p → IsSoundInHand r next
default_hand r p next e hand = hand_so r r p next (ap (λ (q : PropertyDraft). q.name) (sym (unless_refused (is_some p.default) DuplicateSpec p next e))) (λ s. default_begun_sound r p next s e) hand

pub samples_hand : (r : Reading) (p next : PropertyDraft) → samples_act p ≡ Ok next → IsSoundInHand r p → IsSoundInHand r next
samples_hand r p next e hand =
    let draft : PropertyDraft = record p { marks = record p.marks { sampled = true } } in
    hand_so r r p next (ap (λ (q : PropertyDraft). q.name) (sym (unless_refused p.marks.sampled DuplicateSpec draft next e))) (λ s. samples_begun_sound r p next s e) hand

pub list_hand : (p next : PropertyDraft) → list_act p ≡ Ok next → IsSoundInHand closed p → IsSoundInHand begun next
list_hand p next e hand = hand_so closed begun p next (ap (λ (q : PropertyDraft). q.name) (sym (list_is p next e).1.1)) (λ s. list_begun_sound p next s e) hand

pub none_hand : (p : PropertyDraft) → IsSoundInHand begun p → IsSoundInHand closed p
none_hand p hand named = list_none_sound p (hand named)

pub opened_hand : (p : PropertyDraft) → IsSoundInHand begun p → IsSoundInHand bracketed p
opened_hand p hand named = list_opened_sound p (hand named)

pub closed_hand : (p : PropertyDraft) → IsSoundInHand bracketed p → IsSoundInHand closed (with_list_closed p)
closed_hand p hand named = list_closed_sound p (hand named)

pub alone_hand : (base : List Element) (token : List ℕ) (p next : PropertyDraft)
    → IsPath base → is_utf8 (path_text token) ≡ true → path_act base token p ≡ Ok next → IsSoundInHand begun p → IsSoundInHand closed next
alone_hand base token p next is u e hand =
    hand_so begun closed p next (ap (λ (q : PropertyDraft). q.name) (sym (path_is base token p next e).1.1)) (λ s. path_alone_sound base token p next is u s e) hand

pub path_hand : (base : List Element) (token : List ℕ) (p next : PropertyDraft)
    → IsPath base → is_utf8 (path_text token) ≡ true → path_act base token p ≡ Ok next → IsSoundInHand bracketed p → IsSoundInHand bracketed next
path_hand base token p next is u e hand =
    hand_so bracketed bracketed p next (ap (λ (q : PropertyDraft). q.name) (sym (path_is base token p next e).1.1)) (λ s. path_bracketed_sound base token p next is u s e) hand

pub comment_hand : (r : Reading) (token : List ℕ) (p next : PropertyDraft) → meta_comment_act token p ≡ Ok next → IsSoundInHand r p → IsSoundInHand r next
comment_hand r token p next e hand =
    hand_so r r p next (ap (λ (q : PropertyDraft). q.name) (sym (meta_is p next (comment_act token p.meta) e).1.1)) (λ s. commented_sound r token p next s e) hand

pub key_hand : (r : Reading) (key : List ℕ) (v : Value) (p next : PropertyDraft) → IsReadFor is_any_key key v → meta_act key v p ≡ Ok next → IsSoundInHand r p → IsSoundInHand r next
key_hand r key v p next for e hand =
    hand_so r r p next (ap (λ (q : PropertyDraft). q.name) (sym (meta_is p next (value_act key v p.meta) e).1.1)) (λ s. keyed_sound r key v p next s for e) hand
