-- Each word of a text keeps the properties of a draft proper.
use Rattle.std.proofs.Common.{◌≡◌, sym, ap, refl, subst, ℕ, Bool, true, false, Option, Some, None, Ok, Err}
use Rattle.std.specs.Prelude.{Result, if◌then◌else◌}
use Rattle.plain_data.specs.Ends.{last}
use Rattle.sdf_paths.specs.DerivedOrder.{path_cmp_same}
use Rattle.sdf_paths.specs.Order.{path_cmp}
use Rattle.sdf_values.specs.declared.refusal.RefusalKind.{RefusalKind}
use Rattle.sdf_values.specs.declared.value.Value.{Value}
use Rattle.sdf_specs.specs.Layers.{SpecEntries}
use Rattle.usda_fields.specs.Owners as owner
use Rattle.usda_fields.specs.Variants as variants
use Rattle.usda_statements.specs.OpenValues.{no_value, is_open, given, value_in}
use Rattle.usda_statements.specs.PropertyDrafts.{default_act, with_default, samples_act, with_sample, list_act, meta_act}
use Rattle.usda_statements.specs.declared.open_value.OpenValue.{OpenValue}
use Rattle.usda_statements.specs.declared.property.PropertyDraft.{PropertyDraft}
use Rattle.usda_words.specs.Words.{Word}
use Rattle.usda_drafts.specs.Bodies.{with_name, name_act, default_begun, samples_begun, list_begun, tail_act, dot_act}
use Rattle.usda_drafts.specs.Closed.{with_spec_at, with_closed}
use Rattle.usda_drafts.specs.Drafts.{blank}
use Rattle.usda_drafts.specs.Owners.{owner_of, spec_of, property_for}
use Rattle.usda_drafts.specs.Prims.{entered, left, left_for, with_statement_over, body_end_act}
use Rattle.usda_drafts.specs.Refusals.{Acted, then_with}
use Rattle.usda_drafts.specs.Values.{with_said, with_property, completed, after_token, aimed_at_default, token_act, first_act, with_value_begun}
use Rattle.usda_drafts.specs.declared.aim.Goal.{Goal}
use Rattle.usda_drafts.specs.declared.aim.Goal.TheVariants as goal
use Rattle.usda_drafts.specs.declared.draft.Draft.{Draft}
use Rattle.usda_drafts.specs.declared.draft.OpenList.TheVariants as open_list
use Rattle.usda_drafts.specs.declared.owner.Owner.{Owner}
use Rattle.usda_grammar.specs.declared.kinds.Keyword.TheVariants as word
use Rattle.usda_grammar.specs.declared.kinds.WordKind.{WordKind}
use Rattle.usda_grammar.specs.declared.kinds.WordKind.TheVariants as token
use Rattle.layer_texts.specs.Writable.{is_word}
use Rattle.value_texts.specs.Each.{AreAll}
use Rattle.value_texts.proofs.EachOf.{all_push, all_front, all_last}
use Rattle.properties_read.specs.Drafts.{IsSoundInHand, IsReadOwner, IsProperEntry, HasSoundProperties, IsFor, CompletesWell, behind_dot}
use Rattle.properties_read.specs.Sound.{AreRead}
use Rattle.properties_read.specs.Targets.{Reading, closed, begun}
use Rattle.properties_read.proofs.Hands.{no_hand, default_hand, samples_hand, list_hand, key_hand}
use Rattle.properties_read.proofs.Owners.{none_read, taken_sound, placed_read, settled_read, proper_each}
use Rattle.properties_read.proofs.Properties.{default_sound, sample_sound}
use Rattle.value_returns.proofs.Tables.{all_with}

-- ---- what an act makes

pub then_made : {A : Type 0} (at : ℕ) (r : Result A RefusalKind) (make : A → Draft) (next : Draft) → then_with at r make ≡ Ok next → (a : A) × ((r ≡ Ok a) × (make a ≡ next))
then_made at (Ok a) make next e = (a, (refl, cc e))
then_made at (Err k) make next e = absurd cc

-- ---- what does not touch properties

-- the properties of the drafts are the same, and so is the value that is open
pub record Keeps (d next : Draft) : Type 0 where
  pub property : next.property ≡ d.property
  pub properties : next.owner.properties ≡ d.owner.properties
  pub marks : next.owner.marks ≡ d.owner.marks
  pub outer : next.outer ≡ d.outer
  pub specs : next.specs ≡ d.specs
  pub value : next.value ≡ d.value

pub itself : (d next : Draft) → ◌≡◌ {A = Acted} (Ok d) (Ok next) → Keeps d next
itself d next e = let same : next ≡ d = cc e in record {
  property = ap (λ (x : Draft). x.property) same;
  properties = ap (λ (x : Draft). x.owner.properties) same;
  marks = ap (λ (x : Draft). x.owner.marks) same;
  outer = ap (λ (x : Draft). x.outer) same;
  specs = ap (λ (x : Draft). x.specs) same;
  value = ap (λ (x : Draft). x.value) same;
}

-- the properties are the same behind a change of other parts
pub changed : (d made next : Draft) → Keeps d made → ◌≡◌ {A = Acted} (Ok made) (Ok next) → Keeps d next
changed d made next k e = let same : made ≡ next = cc e in subst (Keeps d) same k

pub made_so : {A : Type 0} (d : Draft) (at : ℕ) (r : Result A RefusalKind) (make : A → Draft) (next : Draft) → ((a : A) → Keeps d (make a)) → then_with at r make ≡ Ok next → Keeps d next
made_so d at r make next k e = let m = then_made at r make next e in subst (Keeps d) m.1.1 (k m.0)

pub kept : (r : Reading) (d next : Draft) → Keeps d next → HasSoundProperties r d → HasSoundProperties r next
kept r d next k s = record {
  in_hand = subst (IsSoundInHand r) (sym k.property) s.in_hand;
  owner = subst (λ ms. AreRead next.owner.properties ms) (sym k.marks) (subst (λ ps. AreRead ps d.owner.marks) (sym k.properties) s.owner);
  outer = subst (AreAll IsReadOwner) (sym k.outer) s.outer;
  specs = subst (AreAll IsProperEntry) (sym k.specs) s.specs;
}

-- another property in hand
pub hand_is : (r after : Reading) (d : Draft) (p : PropertyDraft) → IsSoundInHand after p → HasSoundProperties r d → HasSoundProperties after (with_property d p)
hand_is r after d p hand s = record { in_hand = hand; owner = s.owner; outer = s.outer; specs = s.specs }

pub blank_sound : HasSoundProperties closed blank
unfolding blank owner_of
blank_sound = record { in_hand = no_hand closed; owner = none_read; outer = tt; specs = tt }

-- ---- values

pub said_so : (d : Draft) (at : ℕ) (r : owner.Acted) (next : Draft) → then_with at r (with_said d) ≡ Ok next → Keeps d next
said_so d at r next e = made_so d at r (with_said d) next (λ said. record { property = refl; properties = refl; marks = refl; outer = refl; specs = refl; value = refl }) e

completed_sound : (r : Reading) (g : Goal) (v : Value) (at : ℕ) (d next : Draft) → HasSoundProperties r d → IsFor g v d → completed g v at d ≡ Ok next → HasSoundProperties r next
unfolding completed
completed_sound r goal.Nothing v at d next s for e = kept r d next (itself d next e) s
completed_sound r goal.OwnerKey v at d next s for e = kept r d next (said_so d at (owner.value_act d.aim.key v d.owner.said) next e) s
completed_sound r goal.Variants v at d next s for e =
    kept r d next (changed d (with_said d (variants.selections_act v d.owner.said)) next (record { property = refl; properties = refl; marks = refl; outer = refl; specs = refl; value = refl }) e) s
completed_sound r goal.PropertyKey v at d next s for e =
    let m = then_made at (meta_act d.aim.key v d.property) (with_property d) next e in
    subst (HasSoundProperties r) m.1.1 (hand_is r r d m.0 (key_hand r d.aim.key v d.property m.0 for m.1.0 s.in_hand) s)
completed_sound r goal.Default v at d next s for e =
    let same : with_property d (with_default v d.property) ≡ next = cc e in
    subst (HasSoundProperties r) same (hand_is r r d (with_default v d.property) (λ named. default_sound r d.property v (s.in_hand named) for) s)
completed_sound r goal.Sample v at d next s for e =
    let same : with_property d (with_sample d.aim.time v d.property) ≡ next = cc e in
    subst (HasSoundProperties r) same (hand_is r r d (with_sample d.aim.time v d.property) (λ named. sample_sound r d.property d.aim.time v (s.in_hand named) for.0 for.1) s)

for_again : (g : Goal) (v : Value) (o : OpenValue) (d : Draft) → IsFor g v d → IsFor g v (record d { value = o })
for_again goal.Nothing v o d for = for
for_again goal.OwnerKey v o d for = for
for_again goal.Variants v o d for = for
for_again goal.PropertyKey v o d for = for
for_again goal.Default v o d for = for
for_again goal.Sample v o d for = for

value_changed : (r : Reading) (d : Draft) (o : OpenValue) → HasSoundProperties r d → HasSoundProperties r (record d { value = o })
value_changed r d o s = record { in_hand = s.in_hand; owner = s.owner; outer = s.outer; specs = s.specs }

pub token_sound : (r : Reading) (w : Word) (d next : Draft) → HasSoundProperties r d → CompletesWell w d → token_act w d ≡ Ok next → HasSoundProperties r next
unfolding token_act
token_sound r w d next s well e = by (given d.owner.said.base w.token w.text d.value) refl e
  where
    whole : (v : OpenValue) (b : Bool) → is_open v ≡ b → given d.owner.said.base w.token w.text d.value ≡ Ok v
        → (if b then Ok (record d { value = v }) else completed d.aim.goal (value_in v) w.start (record d { value = no_value })) ≡ Ok next → HasSoundProperties r next
    whole v true o g e = let same : ◌≡◌ {A = Draft} (record d { value = v }) next = cc e in subst (HasSoundProperties r) same (value_changed r d v s)
    whole v false o g e =
        completed_sound r d.aim.goal (value_in v) w.start (record d { value = no_value }) next (value_changed r d no_value s) (for_again d.aim.goal (value_in v) no_value d (well v g o)) e

    by : (a : Result OpenValue RefusalKind) → given d.owner.said.base w.token w.text d.value ≡ a → after_token a w.start d ≡ Ok next → HasSoundProperties r next
    by (Err k) g e = absurd cc
    by (Ok v) g e = whole v (is_open v) refl g e

pub first_sound : (r : Reading) (w : Word) (d next : Draft) → HasSoundProperties r d → CompletesWell w (with_value_begun d) → first_act w d ≡ Ok next → HasSoundProperties r next
unfolding first_act
first_sound r w d next s well e = token_sound r w (with_value_begun d) next (value_changed r d (with_value_begun d).value s) well e

-- ---- the property in hand

pub name_sound : (r : Reading) (w : Word) (d next : Draft) → is_word w.text ≡ true → HasSoundProperties r d → name_act w d ≡ Ok next → HasSoundProperties closed next
unfolding name_act
name_sound r w d next is s e =
    let m = then_made w.start (property_for d.heading w.text d.owner) (with_name w.text w.start d) next e in
    let sound : HasSoundProperties closed (with_name w.text w.start d m.0) = record {
      in_hand = λ named. taken_sound d.heading w.text d.owner m.0 is s.owner m.1.0;
      owner = placed_read w.text d.owner is s.owner;
      outer = s.outer;
      specs = s.specs;
    } in
    subst (HasSoundProperties closed) m.1.1 sound

default_begun_so : (r : Reading) (d next : Draft) → HasSoundProperties r d → default_begun d ≡ Ok next → HasSoundProperties r next
unfolding default_begun aimed_at_default
default_begun_so r d next s e =
    let m = then_made d.name_at (default_act d.property) (λ p. aimed_at_default (with_property d p)) next e in
    let sound : HasSoundProperties r (aimed_at_default (with_property d m.0)) = record { in_hand = default_hand r d.property m.0 m.1.0 s.in_hand; owner = s.owner; outer = s.outer; specs = s.specs } in
    subst (HasSoundProperties r) m.1.1 sound

samples_begun_so : (r : Reading) (d next : Draft) → HasSoundProperties r d → samples_begun d ≡ Ok next → HasSoundProperties r next
unfolding samples_begun
samples_begun_so r d next s e =
    let m = then_made d.name_at (samples_act d.property) (with_property d) next e in
    subst (HasSoundProperties r) m.1.1 (hand_is r r d m.0 (samples_hand r d.property m.0 m.1.0 s.in_hand) s)

pub targets_sound : (d next : Draft) → HasSoundProperties closed d → list_begun d ≡ Ok next → HasSoundProperties begun next
unfolding list_begun
targets_sound d next s e =
    let m = then_made d.name_at (list_act d.property) (λ (p : PropertyDraft). record (with_property d p) { list = open_list.Property }) next e in
    let sound : HasSoundProperties begun (record (with_property d m.0) { list = open_list.Property }) = record { in_hand = list_hand d.property m.0 m.1.0 s.in_hand; owner = s.owner; outer = s.outer; specs = s.specs } in
    subst (HasSoundProperties begun) {x = record (with_property d m.0) { list = open_list.Property }} m.1.1 sound

pub tail_sound : (r : Reading) (k : WordKind) (d next : Draft) → HasSoundProperties r d → tail_act k d ≡ Ok next → HasSoundProperties r next
unfolding tail_act
tail_sound r token.Equals d next s e = default_begun_so r d next s e
tail_sound r k d next s e = kept r d next (itself d next e) s

pub dot_sound : (k : WordKind) (at : ℕ) (d next : Draft) → HasSoundProperties closed d → dot_act k at d ≡ Ok next → HasSoundProperties (behind_dot k) next
unfolding dot_act
dot_sound (token.Word word.TimeSamples) at d next s e = samples_begun_so closed d next s e
dot_sound (token.Word word.Connect) at d next s e = targets_sound d next s e
dot_sound k at d next s e = absurd cc

-- ---- owners

-- an owner inside the one that was the innermost, of which nothing is said
pub entered_sound : (r : Reading) (o : Owner) (d : Draft) → IsReadOwner o → HasSoundProperties r d → HasSoundProperties r (entered o d)
unfolding entered
entered_sound r o d read s = record { in_hand = s.in_hand; owner = read; outer = all_push IsReadOwner d.outer d.owner s.outer s.owner; specs = s.specs }

-- the statement in hand is over
pub over_sound : (d : Draft) → HasSoundProperties closed d → HasSoundProperties closed (with_statement_over d)
unfolding with_statement_over
over_sound d s = record { in_hand = no_hand closed; owner = settled_read d.property d.owner s.in_hand s.owner; outer = s.outer; specs = s.specs }

closed_sound : (o : Owner) (specs : SpecEntries) → IsReadOwner o → AreAll IsProperEntry specs → AreAll IsProperEntry (with_closed o specs)
unfolding with_spec_at spec_of
closed_sound o specs read all = all_with path_cmp path_cmp_same IsProperEntry o.said.path (spec_of o) specs (record { once = read.once; each = proper_each o.marks o.properties read.each }) all

left_sound : (r : Reading) (d : Draft) → HasSoundProperties r d → HasSoundProperties r (left d)
unfolding left
left_sound r d s = by (last d.outer) refl
  where
    by : (o : Option Owner) → last d.outer ≡ o → HasSoundProperties r (left_for o d)
    by None e = record { in_hand = s.in_hand; owner = s.owner; outer = all_front IsReadOwner d.outer s.outer; specs = s.specs }
    by (Some o) e = record { in_hand = s.in_hand; owner = all_last IsReadOwner d.outer o s.outer e; outer = all_front IsReadOwner d.outer s.outer; specs = closed_sound d.owner d.specs s.owner s.specs }

pub ended_sound : (d next : Draft) → HasSoundProperties closed d → body_end_act d ≡ Ok next → HasSoundProperties closed next
unfolding body_end_act
ended_sound d next s e = let same : left (with_statement_over d) ≡ next = cc e in subst (HasSoundProperties closed) same (left_sound closed (with_statement_over d) (over_sound d s))
