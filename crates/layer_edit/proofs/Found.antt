-- What is found in entries in which others were put, exchanged or taken away.
use Rattle.std.proofs.Common.{◌≡◌, ◌≢◌, ◌∙◌, sym, ap, refl, subst, Bool, cond, true, false, List, [], ◌∷◌, filter, Option, Some, None}
use Rattle.std.specs.BTreeMap.{insert_entry, is_at}
use Rattle.std.specs.Map.{lookup, remove_entry, set_value}
use Rattle.std.specs.Ordering.{match_ordering, is_eq}
use Rattle.std.specs.declared.cmp.Ordering.{Ordering}
use Rattle.std.specs.declared.cmp.Ordering.TheVariants.{Less, Equal, Greater}
use Rattle.composition.proofs.Tests.{by_test}

module _ {K : Type 0} (R : K → K → Ordering) (tie : (x y : K) → R x y ≡ Equal → x ≡ y) where
  -- a key is not found in the place of another
  pub not_at : (q k : K) → q ≢ k → is_at (R q) k ≡ false
  not_at q k apart = by (R q k) refl
    where
      by : (o : Ordering) → R q k ≡ o → is_at (R q) k ≡ false
      by Less h = ap is_eq h
      by Equal h = absurd (apart (tie q k h))
      by Greater h = ap is_eq h

  pub is_key : (k e : K) → is_at (R k) e ≡ true → k ≡ e
  is_key k e h = by (R k e) refl
    where
      by : (o : Ordering) → R k e ≡ o → k ≡ e
      by Less at = let f : is_at (R k) e ≡ false = ap is_eq at in absurd cc
      by Equal at = tie k e at
      by Greater at = let f : is_at (R k) e ≡ false = ap is_eq at in absurd cc

module _ {K V : Type 0} (R : K → K → Ordering) (tie : (x y : K) → R x y ≡ Equal → x ≡ y) where
  pub other_put : (q k : K) (v : V) (es : List (K × V)) → is_at (R q) k ≡ false → lookup (is_at (R q)) (insert_entry R es k v) ≡ lookup (is_at (R q)) es
  other_put q k v [] gone = ap (λ (b : Bool). cond b (Some v) None) gone
  other_put q k v (e ∷ es) gone = by (other_put q k v es gone) (R k e.0) refl
    where
      made : Ordering → Option V
      made o = lookup (is_at (R q)) (match_ordering o ((k, v) ∷ e ∷ es) ((e.0, v) ∷ es) (e ∷ insert_entry R es k v))

      by : (lookup (is_at (R q)) (insert_entry R es k v) ≡ lookup (is_at (R q)) es) → (o : Ordering) → R k e.0 ≡ o → lookup (is_at (R q)) (insert_entry R (e ∷ es) k v) ≡ lookup (is_at (R q)) (e ∷ es)
      by rest Less h = ap made h ∙ ap (λ (b : Bool). cond b (Some v) (lookup (is_at (R q)) (e ∷ es))) gone
      by rest Equal h =
          let here : is_at (R q) e.0 ≡ false = subst (λ (x : K). is_at (R q) x ≡ false) (tie k e.0 h) gone in
          ap made h ∙ ap (λ (b : Bool). cond b (Some v) (lookup (is_at (R q)) es)) here ∙ sym (ap (λ (b : Bool). cond b (Some e.1) (lookup (is_at (R q)) es)) here)
      by rest Greater h = ap made h ∙ ap (cond (is_at (R q) e.0) (Some e.1)) rest

  pub same_put : ((x : K) → R x x ≡ Equal) → (k : K) (v : V) (es : List (K × V)) → lookup (is_at (R k)) (insert_entry R es k v) ≡ Some v
  same_put same k v [] = ap (λ (o : Ordering). cond (is_eq o) (Some v) None) (same k)
  same_put same k v (e ∷ es) = by (same_put same k v es) (R k e.0) refl
    where
      made : Ordering → Option V
      made o = lookup (is_at (R k)) (match_ordering o ((k, v) ∷ e ∷ es) ((e.0, v) ∷ es) (e ∷ insert_entry R es k v))

      by : (lookup (is_at (R k)) (insert_entry R es k v) ≡ Some v) → (o : Ordering) → R k e.0 ≡ o → lookup (is_at (R k)) (insert_entry R (e ∷ es) k v) ≡ Some v
      by rest Less h = ap made h ∙ ap (λ (o : Ordering). cond (is_eq o) (Some v) (lookup (is_at (R k)) (e ∷ es))) (same k)
      by rest Equal h = ap made h ∙ ap (λ (o : Ordering). cond (is_eq o) (Some v) (lookup (is_at (R k)) es)) h
      by rest Greater h = ap made h ∙ ap (λ (o : Ordering). cond (is_eq o) (Some e.1) (lookup (is_at (R k)) (insert_entry R es k v))) h ∙ rest

  pub other_exchanged : (q k : K) (v : V) (es : List (K × V)) → is_at (R q) k ≡ false → lookup (is_at (R q)) (set_value (is_at (R k)) es v) ≡ lookup (is_at (R q)) es
  other_exchanged q k v [] gone = refl
  other_exchanged q k v (e ∷ es) gone =
      by_test (is_at (R k) e.0)
      (λ on.
      let here : is_at (R q) e.0 ≡ false = subst (λ (x : K). is_at (R q) x ≡ false) (is_key R tie k e.0 on) gone in
      ap (λ (b : Bool). lookup (is_at (R q)) (cond b ((e.0, v) ∷ es) (e ∷ set_value (is_at (R k)) es v))) on
      ∙ ap (λ (b : Bool). cond b (Some v) (lookup (is_at (R q)) es)) here ∙ sym (ap (λ (b : Bool). cond b (Some e.1) (lookup (is_at (R q)) es)) here))
      (λ off.
      ap (λ (b : Bool). lookup (is_at (R q)) (cond b ((e.0, v) ∷ es) (e ∷ set_value (is_at (R k)) es v))) off
      ∙ ap (cond (is_at (R q) e.0) (Some e.1)) (other_exchanged q k v es gone))

  pub other_removed : (q k : K) (es : List (K × V)) → is_at (R q) k ≡ false → lookup (is_at (R q)) (remove_entry (is_at (R k)) es) ≡ lookup (is_at (R q)) es
  other_removed q k [] gone = refl
  other_removed q k (e ∷ es) gone =
      by_test (is_at (R k) e.0)
      (λ on.
      let here : is_at (R q) e.0 ≡ false = subst (λ (x : K). is_at (R q) x ≡ false) (is_key R tie k e.0 on) gone in
      ap (λ (b : Bool). lookup (is_at (R q)) (cond b es (e ∷ remove_entry (is_at (R k)) es))) on ∙ sym (ap (λ (b : Bool). cond b (Some e.1) (lookup (is_at (R q)) es)) here))
      (λ off.
      ap (λ (b : Bool). lookup (is_at (R q)) (cond b es (e ∷ remove_entry (is_at (R k)) es))) off
      ∙ ap (cond (is_at (R q) e.0) (Some e.1)) (other_removed q k es gone))

module _ {K V : Type 0} (test : K → Bool) where
  -- the second exchange counts
  pub exchanged_twice : (v w : V) (es : List (K × V)) → set_value test (set_value test es v) w ≡ set_value test es w
  exchanged_twice v w [] = refl
  exchanged_twice v w (e ∷ es) =
      by_test (test e.0)
      (λ on. ap (λ (b : Bool). set_value test (cond b ((e.0, v) ∷ es) (e ∷ set_value test es v)) w) on
      ∙ ap (λ (b : Bool). cond b ((e.0, w) ∷ es) ((e.0, v) ∷ set_value test es w)) on
      ∙ sym (ap (λ (b : Bool). cond b ((e.0, w) ∷ es) (e ∷ set_value test es w)) on))
      (λ off. ap (λ (b : Bool). set_value test (cond b ((e.0, v) ∷ es) (e ∷ set_value test es v)) w) off
      ∙ ap (λ (b : Bool). cond b ((e.0, w) ∷ set_value test es v) (e ∷ set_value test (set_value test es v) w)) off
      ∙ ap (λ (xs : List (K × V)). e ∷ xs) (exchanged_twice v w es)
      ∙ sym (ap (λ (b : Bool). cond b ((e.0, w) ∷ es) (e ∷ set_value test es w)) off))

  -- what is put in the place of something is found there
  pub same_exchanged : (v w : V) (es : List (K × V)) → lookup test es ≡ Some v → lookup test (set_value test es w) ≡ Some w
  same_exchanged v w [] h = absurd cc
  same_exchanged v w (e ∷ es) h =
      by_test (test e.0)
      (λ on. ap (λ (b : Bool). lookup test (cond b ((e.0, w) ∷ es) (e ∷ set_value test es w))) on ∙ ap (λ (b : Bool). cond b (Some w) (lookup test es)) on)
      (λ off.
      let rest : lookup test es ≡ Some v = sym (ap (λ (b : Bool). cond b (Some e.1) (lookup test es)) off) ∙ h in
      ap (λ (b : Bool). lookup test (cond b ((e.0, w) ∷ es) (e ∷ set_value test es w))) off
      ∙ ap (λ (b : Bool). cond b (Some e.1) (lookup test (set_value test es w))) off ∙ same_exchanged v w es rest)

  -- nothing is exchanged where nothing is found
  pub none_exchanged : (v : V) (es : List (K × V)) → lookup test es ≡ None → set_value test es v ≡ es
  none_exchanged v [] none = refl
  none_exchanged v (e ∷ es) none =
      by_test (test e.0)
      (λ on. let f : lookup test (e ∷ es) ≡ Some e.1 = ap (λ (b : Bool). cond b (Some e.1) (lookup test es)) on in absurd cc)
      (λ off.
      let rest : lookup test es ≡ None = sym (ap (λ (b : Bool). cond b (Some e.1) (lookup test es)) off) ∙ none in
      ap (λ (b : Bool). cond b ((e.0, v) ∷ es) (e ∷ set_value test es v)) off ∙ ap (λ (xs : List (K × V)). e ∷ xs) (none_exchanged v es rest))

  -- what passes a filter is found as before
  pub kept_found : (keep : K × V → Bool) (es : List (K × V)) → ((e : K × V) → test e.0 ≡ true → keep e ≡ true) → lookup test (filter keep es) ≡ lookup test es
  kept_found keep [] all = refl
  kept_found keep (e ∷ es) all =
      by_test (keep e)
      (λ on. ap (λ (b : Bool). lookup test (cond b (e ∷ filter keep es) (filter keep es))) on ∙ ap (cond (test e.0) (Some e.1)) (kept_found keep es all))
      (λ off. by_test (test e.0)
      (λ here. let f : keep e ≡ true = all e here in absurd cc)
      (λ gone. ap (λ (b : Bool). lookup test (cond b (e ∷ filter keep es) (filter keep es))) off ∙ kept_found keep es all ∙ sym (ap (λ (b : Bool). cond b (Some e.1) (lookup test es)) gone)))

  -- nothing is found behind a filter where nothing was
  pub none_found : (keep : K × V → Bool) (es : List (K × V)) → lookup test es ≡ None → lookup test (filter keep es) ≡ None
  none_found keep [] none = refl
  none_found keep (e ∷ es) none =
      by_test (test e.0)
      (λ on. let f : lookup test (e ∷ es) ≡ Some e.1 = ap (λ (b : Bool). cond b (Some e.1) (lookup test es)) on in absurd cc)
      (λ off.
      let rest : lookup test es ≡ None = sym (ap (λ (b : Bool). cond b (Some e.1) (lookup test es)) off) ∙ none in
      by_test (keep e)
      (λ kept. ap (λ (b : Bool). lookup test (cond b (e ∷ filter keep es) (filter keep es))) kept ∙ ap (λ (b : Bool). cond b (Some e.1) (lookup test (filter keep es))) off ∙ none_found keep es rest)
      (λ gone. ap (λ (b : Bool). lookup test (cond b (e ∷ filter keep es) (filter keep es))) gone ∙ none_found keep es rest))
