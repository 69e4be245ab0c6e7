-- What the layer, the prims and the variants of a draft say, as far as it is read.
use Rattle.std.proofs.Common.{◌≡◌, ℕ, Bool, true, List, [], ◌∷◌, ◌++◌, Option, Some, Result, Ok, Err, sym, refl, subst}
use Rattle.plain_data.specs.Ends.{last, front}
use Rattle.usda_drafts.specs.Owners.{spec_of}
use Rattle.usda_drafts.specs.Values.{with_said}
use Rattle.usda_drafts.specs.declared.aim.Aim.{Aim}
use Rattle.usda_drafts.specs.declared.aim.Goal.{Goal}
use Rattle.usda_drafts.specs.declared.aim.Goal.TheVariants as goal
use Rattle.usda_drafts.specs.declared.draft.Draft.{Draft}
use Rattle.usda_drafts.specs.declared.draft.OpenList.{OpenList}
use Rattle.usda_drafts.specs.declared.draft.OpenList.TheVariants as open_list
use Rattle.usda_drafts.specs.declared.owner.Owner.{Owner}
use Rattle.usda_fields.specs.Keys.{key_rule, rule_shape}
use Rattle.usda_fields.specs.declared.owner.OwnerDraft.{OwnerDraft}
use Rattle.usda_grammar.specs.Words.{keyword_of}
use Rattle.usda_grammar.specs.declared.kinds.Keyword.{Keyword}
use Rattle.usda_lists.specs.declared.edit.ListEdit.{ListEdit}
use Rattle.fields_read.specs.Laws.{reading}
use Rattle.fields_read.specs.Sound.{IsSaid, IsSoundSaid}
use Rattle.fields_read.proofs.Proper.{said_proper}
use Rattle.layer_reads.specs.Keys.{is_plain_key, is_plain_head_key}
use Rattle.layer_texts.specs.Writable.{is_word, none_or}
use Rattle.trees_read.proofs.Fields.{IfMade}
use Rattle.value_returns.specs.Fields.{IsProperSublayer, AreProperFields}
use Rattle.value_texts.specs.Each.{AreAll}
use Rattle.value_texts.proofs.EachOf.{all_push, all_front, all_last}

-- ---- definitions

-- which words may be keys of the innermost owner: the layer, outside which there is no owner, or a prim or a variant
abbrev pub name_for : List Owner → Keyword → Bool
name_for [] = is_plain_head_key
name_for (o ∷ outer) = is_plain_key

-- there is an owner outside
abbrev pub IsInside : List Owner → Type 0
IsInside [] = ⊥
IsInside (o ∷ outer) = Unit {0}

pub plain_inside : (outer : List Owner) → IsInside outer → name_for outer ≡ is_plain_key
plain_inside [] h = absurd h
plain_inside (o ∷ outer) h = refl

pub root_head : (outer : List Owner) → outer ≡ [] → name_for outer ≡ is_plain_head_key
root_head [] h = refl
root_head (o ∷ outer) h = absurd cc

-- an edit word, which may also be a key
abbrev pub IsNoted : List ℕ → Type 0
IsNoted text = (is_word text ≡ true) × (is_plain_key (keyword_of text) ≡ true)

-- what an owner says, of which no list is open, and its type, a name
abbrev pub IsOwner : (Keyword → Bool) → Owner → Type 0
IsOwner is_name o = IsSaid is_name o.said × (none_or is_word o.type_name ≡ true)

-- the owners that are open round the innermost one, of which the first is the layer
abbrev pub AreOwners : List Owner → Type 0
AreOwners [] = Unit {0}
AreOwners (o ∷ outer) = IsOwner is_plain_head_key o × AreAll (IsOwner is_plain_key) outer

-- what is expected at a key of an owner is what its rule says, and the key is a name
abbrev pub IsAimedFor : Goal → Aim → Type 0
IsAimedFor goal.OwnerKey a = (a.shape ≡ rule_shape (key_rule a.key)) × (is_word a.key ≡ true)
IsAimedFor g a = Unit {0}

abbrev pub IsAimed : Aim → Type 0
IsAimed a = IsAimedFor a.goal a

-- All of a draft but what its innermost owner says; where a field, or the `=` of a key, comes behind an edit word, that word is a name.
pub record Rest (noted : Bool) (d : Draft) : Type 0 where
  pub specs : AreAll (λ e. AreProperFields e.1) d.specs
  pub outer : AreOwners d.outer
  pub typed : none_or is_word d.owner.type_name ≡ true
  pub opening : none_or is_word d.opening.type_name ≡ true
  pub sublayers : AreAll IsProperSublayer d.sublayers
  pub aim : IsAimed d.aim
  pub word : noted ≡ true → IsNoted d.word

-- no list of a field is open
abbrev pub Quiet : Bool → Draft → Type 0
Quiet noted d = Rest noted d × IsSaid (name_for d.outer) d.owner.said

-- the list that is open, if it is one of a field
abbrev pub Held : (Keyword → Bool) → Option ℕ → OpenList → ListEdit → OwnerDraft → Type 0
Held is_name most (open_list.Field f) edit said = IsSoundSaid is_name (reading f edit most) said
Held is_name most l edit said = IsSaid is_name said

abbrev pub Busy : Bool → Option ℕ → Draft → Type 0
Busy noted most d = Rest noted d × Held (name_for d.outer) most d.list d.edit d.owner.said

-- ---- words that say nothing of owners

-- the drafts are alike but for properties and values
pub record Beside (d next : Draft) : Type 0 where
  pub specs : next.specs ≡ d.specs
  pub outer : next.outer ≡ d.outer
  pub said : next.owner.said ≡ d.owner.said
  pub type_name : next.owner.type_name ≡ d.owner.type_name
  pub opening : none_or is_word d.opening.type_name ≡ true → none_or is_word next.opening.type_name ≡ true
  pub sublayers : next.sublayers ≡ d.sublayers
  pub aim : IsAimed d.aim → IsAimed next.aim
  pub word : next.word ≡ d.word

pub itself : (d : Draft) → Beside d d
itself d = record { specs = refl; outer = refl; said = refl; type_name = refl; opening = λ h. h; sublayers = refl; aim = λ a. a; word = refl }

pub rest_beside : (b : Bool) (d next : Draft) → Beside d next → Rest b d → Rest b next
rest_beside b d next k r = record {
  specs = subst (AreAll (λ e. AreProperFields e.1)) (sym k.specs) r.specs;
  outer = subst AreOwners (sym k.outer) r.outer;
  typed = subst (λ t. none_or is_word t ≡ true) (sym k.type_name) r.typed;
  opening = k.opening r.opening;
  sublayers = subst (AreAll IsProperSublayer) (sym k.sublayers) r.sublayers;
  aim = k.aim r.aim;
  word = λ h. subst IsNoted (sym k.word) (r.word h);
}

pub quiet_beside : (b : Bool) (d next : Draft) → Beside d next → Quiet b d → Quiet b next
quiet_beside b d next k q = (rest_beside b d next k q.0, subst (λ o. IsSaid (name_for o) next.owner.said) (sym k.outer) (subst (IsSaid (name_for d.outer)) (sym k.said) q.1))

pub quiet_made : {E : Type 0} (b : Bool) (d : Draft) (r : Result Draft E) → IfMade (Beside d) r → Quiet b d → IfMade (Quiet b) r
quiet_made b d (Ok next) k q = quiet_beside b d next k q
quiet_made b d (Err e) k q = tt

-- the list that is open is the same too
abbrev pub Same : Draft → Draft → Type 0
Same d next = Beside d next × (next.list ≡ d.list) × (next.edit ≡ d.edit)

pub busy_same : (b : Bool) (most : Option ℕ) (d next : Draft) → Same d next → Busy b most d → Busy b most next
busy_same b most d next k h = (
  rest_beside b d next k.0 h.0,
  subst (λ l. Held (name_for next.outer) most l next.edit next.owner.said) (sym k.1)
      (subst (λ e. Held (name_for next.outer) most d.list e next.owner.said) (sym k.2)
      (subst (λ o. Held (name_for o) most d.list d.edit next.owner.said) (sym k.0.outer) (subst (λ s. Held (name_for d.outer) most d.list d.edit s) (sym k.0.said) h.1))),
)

-- what is said of the innermost owner is no part of the rest
pub rest_said : (b : Bool) (d : Draft) (said : OwnerDraft) → Rest b d → Rest b (with_said d said)
rest_said b d said r = record { specs = r.specs; outer = r.outer; typed = r.typed; opening = r.opening; sublayers = r.sublayers; aim = r.aim; word = r.word }

-- fewer edit words
pub rest_fewer : (b c : Bool) (d : Draft) → (c ≡ true → b ≡ true) → Rest b d → Rest c d
rest_fewer b c d h r = record { specs = r.specs; outer = r.outer; typed = r.typed; opening = r.opening; sublayers = r.sublayers; aim = r.aim; word = λ n. r.word (h n) }

-- ---- lists of owners

-- an owner that begins stands inside the innermost one
pub owners_push : (outer : List Owner) (o : Owner) → AreOwners outer → IsOwner (name_for outer) o → AreOwners (outer ++ o ∷ [])
owners_push [] o h one = (one, tt)
owners_push (p ∷ outer) o h one = (h.0, all_push (IsOwner is_plain_key) outer o h.1 one)

pub inside_push : (outer : List Owner) (o : Owner) → IsInside (outer ++ o ∷ [])
inside_push [] o = tt
inside_push (p ∷ outer) o = tt

pub owners_front : (outer : List Owner) → AreOwners outer → AreOwners (front outer)
owners_front [] h = tt
owners_front (o ∷ []) h = tt
owners_front (o ∷ p ∷ outer) h = (h.0, all_front (IsOwner is_plain_key) (p ∷ outer) h.1)

pub owners_last : (outer : List Owner) (o : Owner) → AreOwners outer → last outer ≡ Some o → IsOwner (name_for (front outer)) o
owners_last [] o h is = absurd cc
owners_last (p ∷ []) o h is = let same : p ≡ o = cc in subst (IsOwner is_plain_head_key) same h.0
owners_last (p ∷ q ∷ outer) o h is = all_last (IsOwner is_plain_key) (q ∷ outer) o h.1 is

pub inside_last : (outer : List Owner) (o : Owner) → last outer ≡ Some o → IsInside outer
inside_last [] o is = absurd cc
inside_last (p ∷ outer) o is = tt

-- a prim or a variant that is over
pub owner_said : (o : Owner) → IsOwner is_plain_key o → AreProperFields (spec_of o)
unfolding spec_of
owner_said o h =
    let p = said_proper.fields o.type_name o.said h.0 h.1 in
    record {
      type_name = p.type_name;
      keys = p.keys;
      api_schemas = p.api_schemas;
      clip_sets = p.clip_sets;
      inherits = p.inherits;
      variant_sets = p.variant_sets;
      selections = p.selections;
      references = p.references;
      payloads = p.payloads;
      specializes = p.specializes;
      child_order = p.child_order;
      property_order = p.property_order;
    }
