-- Where a world has no more names than layers may stand on a chain, no chain is cut.
use Rattle.std.proofs.Common.{◌≡◌, ◌∙◌, sym, ap, refl, arith, ℕ, zero, suc, ◌+◌, ◌-◌, ◌<◌, ◌≤◌, Bool, true, false, ◌||◌, List, [], ◌∷◌, length, fold, Option, Some, None}
use Rattle.std.specs.List.{list_any}
use Rattle.std.specs.Map.{keys_of}
use Rattle.std.specs.Ordering.{is_eq}
use Rattle.std.specs.Prelude.{cond}
use Rattle.spec_parts.specs.declared.items.SubLayer.{SubLayer}
use Rattle.sdf_values.specs.Scales.{Offset, composed}
use Rattle.composition.specs.Texts.{Text, same_text}
use Rattle.composition.specs.Paths.{Limits, limits}
use Rattle.composition.specs.Assets.{anchor}
use Rattle.composition.specs.World.{World, Heading, headed, no_layer, refused, identity, StackName, Root, Asset}
use Rattle.composition.specs.Stacks.{LayerStack, SublayerReason, sublayer_missing, with_layer, with_fault, with_asked, is_listed, sublayers_of, not_held, not_followed, with_sublayer, listed, from_layer, stack, nothing_listed}
use Rattle.layer_set.specs.LookUps.{look_ups}
use Rattle.layer_set.specs.Named.{name_cmp, at_name}
use Rattle.layer_set.specs.Worlds.{WorldData, held_or_absent}
use Rattle.layer_set.specs.LookUps.{heading_of}
use Rattle.layer_set.specs.declared.held.Held.{Held}
use Rattle.layer_stack.specs.Listing.{kept_out}
use Rattle.layer_stack.specs.Meant.{limits_of, defined_stack, stack_within}
use Rattle.layer_stack.specs.Visiting.{is_present}
use Rattle.layer_stack.proofs.Names.{same_is_order}
use Rattle.composition.proofs.Same.{same_text_same, same_itself}
use Rattle.composition.proofs.Tests.{by_test}

-- one more, unless it is there
abbrev count_one : Bool → ℕ → ℕ
count_one there n = elim there as (λ _. ℕ) [ true ↦ n | false ↦ 1 + n ]

-- how many names do not stand on a chain
abbrev outside : List Text → List Text → ℕ
outside [] chain = 0
outside (n ∷ ns) chain = count_one (list_any (same_text n) chain) (outside ns chain)

one_at_most : (t b : Bool) (x y : ℕ) → x ≤ y → count_one (t || b) x ≤ count_one b y
one_at_most true true x y le = le
one_at_most true false x y le = omega (arith, le)
one_at_most false true x y le = le
one_at_most false false x y le = omega (arith, le)

one_less : (t b : Bool) (x y : ℕ) → x < y → count_one (t || b) x < count_one b y
one_less true true x y lt = lt
one_less true false x y lt = omega (arith, lt)
one_less false true x y lt = lt
one_less false false x y lt = omega (arith, lt)

no_more : (ns chain : List Text) (name : Text) → outside ns (name ∷ chain) ≤ outside ns chain
no_more [] chain name = omega arith
no_more (n ∷ ns) chain name = one_at_most (same_text n name) (list_any (same_text n) chain) (outside ns (name ∷ chain)) (outside ns chain) (no_more ns chain name)

fewer : (ns chain : List Text) (name : Text) → list_any (same_text name) ns ≡ true → list_any (same_text name) chain ≡ false → outside ns (name ∷ chain) < outside ns chain
fewer [] chain name among apart = absurd cc
fewer (n ∷ ns) chain name among apart =
    by_test (same_text name n)
    (λ here.
    let one : n ≡ name = sym (same_text_same name n here) in
    let on : same_text n name ≡ true = ap (λ (x : Text). same_text x name) one ∙ same_itself name in
    let off : list_any (same_text n) chain ≡ false = ap (λ (x : Text). list_any (same_text x) chain) one ∙ apart in
    let left : count_one (same_text n name || list_any (same_text n) chain) (outside ns (name ∷ chain)) ≡ outside ns (name ∷ chain) =
    ap (λ (b : Bool). count_one (b || list_any (same_text n) chain) (outside ns (name ∷ chain))) on in
    let right : count_one (list_any (same_text n) chain) (outside ns chain) ≡ 1 + outside ns chain = ap (λ (b : Bool). count_one b (outside ns chain)) off in
    let most : outside ns (name ∷ chain) ≤ outside ns chain = no_more ns chain name in
    omega (arith, left, right, most))
    (λ there.
    one_less (same_text n name) (list_any (same_text n) chain) (outside ns (name ∷ chain)) (outside ns chain)
    (fewer ns chain name (sym (ap (λ (b : Bool). b || list_any (same_text name) ns) there) ∙ among) apart))

all_outside : (ns : List Text) → outside ns [] ≡ length ns
all_outside [] = refl
all_outside (n ∷ ns) = let rest : outside ns [] ≡ length ns = all_outside ns in omega (arith, rest)

-- folds by steps that agree
fold_same : {A B : Type 0} (f g : B → A → B) → ((b : B) (a : A) → f b a ≡ g b a) → (b : B) (xs : List A) → fold f b xs ≡ fold g b xs
fold_same f g same b [] = refl
fold_same f g same b (x ∷ xs) = ap (λ y. fold f y xs) (same b x) ∙ fold_same f g same (g b x) xs

kept_in : (above : Bool) (h : Heading) (o : Offset) → kept_out above h o ≡ None → (above ≡ false) × (is_present h ≡ true)
kept_in true h o none = absurd cc
kept_in false (headed h) o none = (refl, refl)
kept_in false no_layer o none = absurd cc
kept_in false (refused r) o none = absurd cc

held_in : (h : Heading) → not_held h ≡ None → is_present h ≡ true
held_in (headed h) none = refl
held_in no_layer none = absurd cc
held_in (refused r) none = absurd cc

module _ (w : World) (names : List Text) (among : (name : Text) → is_present (w.heading name) ≡ true → list_any (same_text name) names ≡ true) where
  Same : ℕ → Type 0
  Same d = (chain : List Text) (layer : Text) (o : Offset) (s : LayerStack) → outside names chain < d → listed w d chain layer o s ≡ listed w (suc d) chain layer o s

  same_below : (d : ℕ) → Same d → (chain : List Text) (layer : Text) (o : Offset) → outside names chain < suc d → (s : LayerStack) (sub : SubLayer)
      → with_sublayer w (listed w d) chain layer o s sub ≡ with_sublayer w (listed w (suc d)) chain layer o s sub
  unfolding Same
  same_below d rest chain layer o room s sub = by_name (anchor layer sub.asset)
    where
      by_reason : (name : Text) (r : Option SublayerReason) → not_followed w chain name (composed sub.offset o) ≡ r
          → (elim r as (λ _. LayerStack) [ Some r ↦ with_fault (with_asked s name) r layer name | None ↦ listed w d (name ∷ chain) name (composed sub.offset o) (with_asked s name) ])
          ≡ (elim r as (λ _. LayerStack) [ Some r ↦ with_fault (with_asked s name) r layer name | None ↦ listed w (suc d) (name ∷ chain) name (composed sub.offset o) (with_asked s name) ])
      by_reason name (Some r) is = refl
      by_reason name None is =
          let parts = kept_in (list_any (same_text name) chain) (w.heading name) (composed sub.offset o) is in
          let less : outside names (name ∷ chain) < outside names chain = fewer names chain name (among name parts.1) parts.0 in
          rest (name ∷ chain) name (composed sub.offset o) (with_asked s name) (omega (arith, less, room))

      by_name : (named : Option Text)
          → (elim named as (λ _. LayerStack) [
            | None ↦ with_fault s sublayer_missing layer sub.asset
            | Some name ↦ elim (not_followed w chain name (composed sub.offset o)) as (λ _. LayerStack) [
              | Some r ↦ with_fault (with_asked s name) r layer name
              | None ↦ listed w d (name ∷ chain) name (composed sub.offset o) (with_asked s name)
            ]
          ]) ≡ (elim named as (λ _. LayerStack) [
            | None ↦ with_fault s sublayer_missing layer sub.asset
            | Some name ↦ elim (not_followed w chain name (composed sub.offset o)) as (λ _. LayerStack) [
              | Some r ↦ with_fault (with_asked s name) r layer name
              | None ↦ listed w (suc d) (name ∷ chain) name (composed sub.offset o) (with_asked s name)
            ]
          ])
      by_name None = refl
      by_name (Some name) = by_reason name (not_followed w chain name (composed sub.offset o)) refl

  same_at : (d : ℕ) → Same d
  unfolding Same
  same_at zero = λ chain layer o s room. absurd (omega (arith, room))
  same_at (suc d) = λ chain layer o s room.
      ap (λ (x : LayerStack). elim (is_listed s layer) as (λ _. LayerStack) [ true ↦ s | false ↦ x ])
      (fold_same (with_sublayer w (listed w d) chain layer o) (with_sublayer w (listed w (suc d)) chain layer o) (same_below d (same_at d) chain layer o room)
      (with_layer s layer o) (sublayers_of (w.heading layer)))

  same_from : (k d e : ℕ) → e ≡ d + k → (chain : List Text) (layer : Text) (o : Offset) (s : LayerStack) → outside names chain < d → listed w d chain layer o s ≡ listed w e chain layer o s
  unfolding Same
  same_from zero d e is chain layer o s room = let one : d ≡ e = omega (arith, is) in ap (λ (n : ℕ). listed w n chain layer o s) one
  same_from (suc k) d zero is chain layer o s room = absurd (omega (arith, is))
  same_from (suc k) d (suc e) is chain layer o s room =
      let before : e ≡ d + k = omega (arith, is) in
      same_from k d e before chain layer o s room ∙ same_at e chain layer o s (omega (arith, before, room))

  module _ (l m : Limits) (few : length names ≤ l.layers) (more : l.layers ≤ m.layers) where
    from_same : (name : Text) (s : LayerStack) → from_layer l w name s ≡ from_layer m w name s
    from_same name s = by_held (not_held (w.heading name)) refl
      where
        by_held : (r : Option SublayerReason) → not_held (w.heading name) ≡ r
            → (elim r as (λ _. LayerStack) [ Some r ↦ with_asked s name | None ↦ listed w l.layers (name ∷ []) name identity (with_asked s name) ])
            ≡ (elim r as (λ _. LayerStack) [ Some r ↦ with_asked s name | None ↦ listed w m.layers (name ∷ []) name identity (with_asked s name) ])
        by_held (Some r) is = refl
        by_held None is =
            let less : outside names (name ∷ []) < outside names [] = fewer names [] name (among name (held_in (w.heading name) is)) refl in
            let all : outside names [] ≡ length names = all_outside names in
            same_from (m.layers - l.layers) l.layers m.layers (omega (arith, more)) (name ∷ []) name identity (with_asked s name) (omega (arith, less, all, few))

    pub stack_same : (name : StackName) → stack l w name ≡ stack m w name
    stack_same Root = by_session w.session
      where
        by_session : (s : Option Text)
            → (elim s as (λ _. LayerStack) [ Some session ↦ from_layer l w w.root (from_layer l w session nothing_listed) | None ↦ from_layer l w w.root nothing_listed ])
            ≡ (elim s as (λ _. LayerStack) [ Some session ↦ from_layer m w w.root (from_layer m w session nothing_listed) | None ↦ from_layer m w w.root nothing_listed ])
        by_session (Some session) = ap (λ (x : LayerStack). from_layer l w w.root x) (from_same session nothing_listed) ∙ from_same w.root (from_layer m w session nothing_listed)
        by_session None = from_same w.root nothing_listed
    stack_same (Asset name) = from_same name nothing_listed

-- a name at which a layer stands is one of the world's
named : (name : Text) (layers : List (Text × Held)) → is_present (heading_of (held_or_absent (at_name name layers))) ≡ true → list_any (same_text name) (keys_of layers) ≡ true
named name [] there = absurd cc
named name (e ∷ layers) there =
    by_test (is_eq (name_cmp name e.0))
    (λ here. ap (λ (b : Bool). b || list_any (same_text name) (keys_of layers)) (sym (same_is_order name e.0) ∙ here))
    (λ elsewhere.
    let rest : is_present (heading_of (held_or_absent (at_name name layers))) ≡ true =
    sym (ap (λ (b : Bool). is_present (heading_of (held_or_absent (cond b (Some e.1) (at_name name layers))))) elsewhere) ∙ there in
    ap (λ (b : Bool). b || list_any (same_text name) (keys_of layers)) (sym (same_is_order name e.0) ∙ elsewhere) ∙ named name layers rest)

keys_long : (layers : List (Text × Held)) → length (keys_of layers) ≡ length layers
keys_long [] = refl
keys_long (e ∷ layers) = let rest : length (keys_of layers) ≡ length layers = keys_long layers in omega (arith, rest)

-- a world of at most 4,096 names has the same stacks where more layers may stand on a chain
pub nothing_cut : (held : WorldData) (most : ℕ) (name : StackName) → length held.layers ≤ 4096 → 4096 ≤ most → stack_within most (look_ups held) name ≡ defined_stack (look_ups held) name
unfolding stack_within defined_stack
nothing_cut held most name few more =
    let short : length (keys_of held.layers) ≤ 4096 = omega (arith, few, keys_long held.layers) in
    sym (stack_same (look_ups held) (keys_of held.layers) (λ n there. named n held.layers there) limits (limits_of most) short more name)
