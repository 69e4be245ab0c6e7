-- What stands at a key can be told apart: two values of which it is refuted that they differ are one.
use Rattle.std.proofs.Common.{◌≡◌, refl, sym, ap, ◌∙◌, Bool, true, false, true≢false}
use Rattle.std.specs.Coded.{Coded, codes, coded_option, coded_list, coded_ℕ, coded_bool}
use Rattle.sdf_values.specs.Equality.{same_value, value_same, value_refl}
use Rattle.sdf_values.specs.contracts.value.Value as of_value
use Rattle.spec_parts.specs.contracts.items.SubLayer as of_sublayer
use Rattle.spec_parts.specs.contracts.items.Refusal as of_refusal
use Rattle.spec_parts.specs.contracts.spec.ArcPart as of_arcs
use Rattle.spec_parts.specs.contracts.spec.BodyPart as of_body
use Rattle.spec_parts.specs.declared.items.Refusal.{Refusal}
use Rattle.composition.specs.World.{World, Heading, headed, no_layer, refused, LayerHead, RootNames}
use Rattle.agreeing_worlds.proofs.Values.{rule_in, heading_in, root_in, session_in, arcs_in, body_in, roots_in}
use Rattle.composition.specs.Keys.{Key, KeyValue, load_value, head_value, arcs_value, body_value, roots_value, value_of, IsChanged}

-- two of which it is refuted that they differ are one
abbrev pub Stable : Type 0 → Type 0
Stable A = (x y : A) → ¬ (¬ (x ≡ y)) → x ≡ y

by_code : {A : Type 0} → Coded A → Stable A
by_code {A} c x y h = by (same_value c x y) refl
  where
    by : (b : Bool) → same_value c x y ≡ b → x ≡ y
    by true is = value_same c x y is
    by false is = absurd (h (λ e. true≢false (sym (value_refl c x y e) ∙ is)))

-- what is told of two is no less one than they are
through : {A B : Type 0} (f : A → B) (x y : A) → ¬ (¬ (x ≡ y)) → ¬ (¬ (f x ≡ f y))
through f x y h g = h (λ e. g (ap f e))

pub head_code : Coded LayerHead
head_code = hlevel (codes, of_sublayer.the_row.coded, of_value.the_row.coded)

pub names_code : Coded RootNames
names_code = hlevel codes

abbrev pub head_in : LayerHead → Heading → LayerHead
head_in other (headed h) = h
head_in other no_layer = other
head_in other (refused r) = other

abbrev pub refusal_in : Refusal → Heading → Refusal
refusal_in other (headed h) = other
refusal_in other no_layer = other
refusal_in other (refused r) = r

stable_heading : Stable Heading
stable_heading (headed a) (headed b) h = ap headed (by_code head_code a b (through (head_in a) (headed a) (headed b) h))
stable_heading (headed a) no_layer h = absurd (h (λ e. absurd cc))
stable_heading (headed a) (refused r) h = absurd (h (λ e. absurd cc))
stable_heading no_layer (headed b) h = absurd (h (λ e. absurd cc))
stable_heading no_layer no_layer h = refl
stable_heading no_layer (refused r) h = absurd (h (λ e. absurd cc))
stable_heading (refused q) (headed b) h = absurd (h (λ e. absurd cc))
stable_heading (refused q) no_layer h = absurd (h (λ e. absurd cc))
stable_heading (refused q) (refused r) h = ap refused (by_code of_refusal.the_row.coded q r (through (refusal_in q) (refused q) (refused r) h))

-- ---- what stands at a key

module _ (w v : World) where
  pub unchanged : (key : Key) → ¬ (IsChanged w v key) → value_of w key ≡ value_of v key
  unchanged key h = by (value_of w key) (value_of v key) h
    where
      by : (x y : KeyValue) → ¬ (¬ (x ≡ y)) → x ≡ y
      by (load_value a) (load_value b) h = ap load_value (by_code (coded_option coded_bool) a b (through (rule_in a) (load_value a) (load_value b) h))
      by (load_value a) (head_value d s t) h = absurd (h (λ e. absurd cc))
      by (load_value a) (arcs_value b) h = absurd (h (λ e. absurd cc))
      by (load_value a) (body_value b) h = absurd (h (λ e. absurd cc))
      by (load_value a) (roots_value b) h = absurd (h (λ e. absurd cc))
      by (head_value a p q) (load_value b) h = absurd (h (λ e. absurd cc))
      by (head_value a p q) (head_value b s t) h =
          let heading : a ≡ b = stable_heading a b (through (heading_in a) (head_value a p q) (head_value b s t) h) in
          let root : p ≡ s = by_code (coded_list coded_ℕ) p s (through (root_in p) (head_value a p q) (head_value b s t) h) in
          let session : q ≡ t = by_code (coded_option (coded_list coded_ℕ)) q t (through (session_in q) (head_value a p q) (head_value b s t) h) in
          λ i. head_value (heading i) (root i) (session i)
      by (head_value a p q) (arcs_value b) h = absurd (h (λ e. absurd cc))
      by (head_value a p q) (body_value b) h = absurd (h (λ e. absurd cc))
      by (head_value a p q) (roots_value b) h = absurd (h (λ e. absurd cc))
      by (arcs_value a) (load_value b) h = absurd (h (λ e. absurd cc))
      by (arcs_value a) (head_value d s t) h = absurd (h (λ e. absurd cc))
      by (arcs_value a) (arcs_value b) h = ap arcs_value (by_code (coded_option of_arcs.the_row.coded) a b (through (arcs_in a) (arcs_value a) (arcs_value b) h))
      by (arcs_value a) (body_value b) h = absurd (h (λ e. absurd cc))
      by (arcs_value a) (roots_value b) h = absurd (h (λ e. absurd cc))
      by (body_value a) (load_value b) h = absurd (h (λ e. absurd cc))
      by (body_value a) (head_value d s t) h = absurd (h (λ e. absurd cc))
      by (body_value a) (arcs_value b) h = absurd (h (λ e. absurd cc))
      by (body_value a) (body_value b) h = ap body_value (by_code (coded_option of_body.the_row.coded) a b (through (body_in a) (body_value a) (body_value b) h))
      by (body_value a) (roots_value b) h = absurd (h (λ e. absurd cc))
      by (roots_value a) (load_value b) h = absurd (h (λ e. absurd cc))
      by (roots_value a) (head_value d s t) h = absurd (h (λ e. absurd cc))
      by (roots_value a) (arcs_value b) h = absurd (h (λ e. absurd cc))
      by (roots_value a) (body_value b) h = absurd (h (λ e. absurd cc))
      by (roots_value a) (roots_value b) h = ap roots_value (by_code (coded_option names_code) a b (through (roots_in a) (roots_value a) (roots_value b) h))
