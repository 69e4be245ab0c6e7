-- What stands at a key in two worlds is compared, part by part, and so are the worlds at some keys.
use Rattle.std.proofs.Common.{◌≡◌, ◌⊎◌, inl, inr, refl, sym, ap, ◌∙◌, Bool, true, false, true≢false, List, [], ◌∷◌, Option}
use Rattle.std.specs.Coded.{Coded, coded_option, coded_list, coded_ℕ, coded_bool}
use Rattle.std.proofs.lemmas.List.Elements.{All-nil, All-cons}
use Rattle.sdf_values.specs.Equality.{same_value, value_same, value_refl}
use Rattle.spec_parts.specs.contracts.items.Refusal as of_refusal
use Rattle.spec_parts.specs.contracts.spec.ArcPart as of_arcs
use Rattle.spec_parts.specs.contracts.spec.BodyPart as of_body
use Rattle.composition.specs.Texts.{Text}
use Rattle.composition.specs.World.{World, Heading, headed, no_layer, refused}
use Rattle.composition.specs.Keys.{Key, KeyValue, load_value, head_value, arcs_value, body_value, roots_value, value_of, Agree, IsChanged}
use Rattle.composition.proofs.Members.{head_in, tail_in}
use Rattle.agreeing_worlds.proofs.Stable.{head_code, names_code, head_in as its_head, refusal_in}
use Rattle.agreeing_worlds.proofs.Values.{rule_in, heading_in, root_in, session_in, arcs_in, body_in, roots_in}
use Rattle.kept_stages.specs.Exact.{ExactTest}
use Rattle.kept_stages.specs.DatedViews.{SomeChanged}

-- two are one, or they differ
abbrev Told : {A : Type 0} → A → A → Type 0
Told x y = (x ≡ y) ⊎ ¬ (x ≡ y)

told : {A : Type 0} → Coded A → (x y : A) → Told x y
told {A} c x y = by (same_value c x y) refl
  where
    by : (b : Bool) → same_value c x y ≡ b → Told x y
    by true is = inl (value_same c x y is)
    by false is = inr (λ e. true≢false (sym (value_refl c x y e) ∙ is))

-- what is made of two by one function that can be undone
within : {A B : Type 0} (f : A → B) (back : B → A) (x y : A) → (f x ≡ f y → back (f x) ≡ x) → (f x ≡ f y → back (f y) ≡ y) → Told x y → Told (f x) (f y)
within f back x y first second (inl e) = inl (ap f e)
within f back x y first second (inr other) = inr (λ e. other (sym (first e) ∙ (ap back e ∙ second e)))

told_heading : (x y : Heading) → Told x y
told_heading (headed a) (headed b) = within headed (its_head a) a b (λ e. refl) (λ e. refl) (told head_code a b)
told_heading (headed a) no_layer = inr (λ e. absurd cc)
told_heading (headed a) (refused r) = inr (λ e. absurd cc)
told_heading no_layer (headed b) = inr (λ e. absurd cc)
told_heading no_layer no_layer = inl refl
told_heading no_layer (refused r) = inr (λ e. absurd cc)
told_heading (refused q) (headed b) = inr (λ e. absurd cc)
told_heading (refused q) no_layer = inr (λ e. absurd cc)
told_heading (refused q) (refused r) = within refused (refusal_in q) q r (λ e. refl) (λ e. refl) (told of_refusal.the_row.coded q r)

told_heads : (a d : Heading) (p s : Text) (q t : Option Text) → Told a d → Told p s → Told q t → Told (head_value a p q) (head_value d s t)
told_heads a d p s q t (inl e) (inl f) (inl g) = inl (λ i. head_value (e i) (f i) (g i))
told_heads a d p s q t (inr n) root session = inr (λ e. n (ap (heading_in a) e))
told_heads a d p s q t (inl e) (inr n) session = inr (λ e. n (ap (root_in p) e))
told_heads a d p s q t (inl e) (inl f) (inr n) = inr (λ e. n (ap (session_in q) e))

told_value : (x y : KeyValue) → Told x y
told_value (load_value a) (load_value b) = within load_value (rule_in a) a b (λ e. refl) (λ e. refl) (told (coded_option coded_bool) a b)
told_value (load_value a) (head_value d s t) = inr (λ e. absurd cc)
told_value (load_value a) (arcs_value b) = inr (λ e. absurd cc)
told_value (load_value a) (body_value b) = inr (λ e. absurd cc)
told_value (load_value a) (roots_value b) = inr (λ e. absurd cc)
told_value (head_value a p q) (load_value b) = inr (λ e. absurd cc)
told_value (head_value a p q) (head_value d s t) = told_heads a d p s q t (told_heading a d) (told (coded_list coded_ℕ) p s) (told (coded_option (coded_list coded_ℕ)) q t)
told_value (head_value a p q) (arcs_value b) = inr (λ e. absurd cc)
told_value (head_value a p q) (body_value b) = inr (λ e. absurd cc)
told_value (head_value a p q) (roots_value b) = inr (λ e. absurd cc)
told_value (arcs_value a) (load_value b) = inr (λ e. absurd cc)
told_value (arcs_value a) (head_value d s t) = inr (λ e. absurd cc)
told_value (arcs_value a) (arcs_value b) = within arcs_value (arcs_in a) a b (λ e. refl) (λ e. refl) (told (coded_option of_arcs.the_row.coded) a b)
told_value (arcs_value a) (body_value b) = inr (λ e. absurd cc)
told_value (arcs_value a) (roots_value b) = inr (λ e. absurd cc)
told_value (body_value a) (load_value b) = inr (λ e. absurd cc)
told_value (body_value a) (head_value d s t) = inr (λ e. absurd cc)
told_value (body_value a) (arcs_value b) = inr (λ e. absurd cc)
told_value (body_value a) (body_value b) = within body_value (body_in a) a b (λ e. refl) (λ e. refl) (told (coded_option of_body.the_row.coded) a b)
told_value (body_value a) (roots_value b) = inr (λ e. absurd cc)
told_value (roots_value a) (load_value b) = inr (λ e. absurd cc)
told_value (roots_value a) (head_value d s t) = inr (λ e. absurd cc)
told_value (roots_value a) (arcs_value b) = inr (λ e. absurd cc)
told_value (roots_value a) (body_value b) = inr (λ e. absurd cc)
told_value (roots_value a) (roots_value b) = within roots_value (roots_in a) a b (λ e. refl) (λ e. refl) (told (coded_option names_code) a b)

-- ---- worlds at some keys

module _ (w v : World) where
  if_told : {x y : KeyValue} → Told x y → Bool → Bool
  if_told (inl same) rest = rest
  if_told (inr differs) rest = true

  differs : List Key → Bool
  differs [] = false
  differs (k ∷ ks) = if_told (told_value (value_of w k) (value_of v k)) (differs ks)

  further : (k : Key) (ks : List Key) → SomeChanged w v ks → SomeChanged w v (k ∷ ks)
  further k ks one = record { key = one.key; among = tail_in k ks one.key one.among; changed = one.changed }

  some : (ks : List Key) → differs ks ≡ true → SomeChanged w v ks
  unfolding differs if_told
  some [] h = absurd (true≢false (sym h))
  some (k ∷ ks) h = by (told_value (value_of w k) (value_of v k)) (some ks) h
    where
      by : (t : Told (value_of w k) (value_of v k)) → (differs ks ≡ true → SomeChanged w v ks) → if_told t (differs ks) ≡ true → SomeChanged w v (k ∷ ks)
      by (inl same) rest is = further k ks (rest is)
      by (inr other) rest is = record { key = k; among = head_in k ks; changed = other }

  none : (ks : List Key) → differs ks ≡ false → Agree w v ks
  unfolding differs if_told
  none [] h = All-nil (λ k. value_of w k ≡ value_of v k)
  none (k ∷ ks) h = by (told_value (value_of w k) (value_of v k)) (none ks) h
    where
      by : (t : Told (value_of w k) (value_of v k)) → (differs ks ≡ false → Agree w v ks) → if_told t (differs ks) ≡ false → Agree w v (k ∷ ks)
      by (inl same) rest is = All-cons (λ j. value_of w j ≡ value_of v j) k ks same (rest is)
      by (inr other) rest is = absurd (true≢false is)

pub exact_test : ExactTest
exact_test = record { meets = differs; tells = record { some = some; none = none } }
