-- Names that are one, and what stands at a name of a table after another was put in.
use Rattle.std.proofs.Common.{◌≡◌, ◌∙◌, sym, ap, refl, Bool, true, false, cond, List, [], ◌∷◌, Option, Some, None}
use Rattle.std.specs.BTreeMap.{insert_entry}
use Rattle.std.specs.Ordering.{is_eq, match_ordering}
use Rattle.std.specs.declared.cmp.Ordering.{Ordering}
use Rattle.std.specs.declared.cmp.Ordering.TheVariants.{Less, Equal, Greater}
use Rattle.std.proofs.lemmas.Map.Text.{is_eq-slice_cmp}
use Rattle.composition.specs.Texts.{Text, same_text}
use Rattle.layer_set.specs.Named.{name_cmp, at_name, with_name}
use Rattle.composition.proofs.Same.{same_is_bytes, same_text_same, same_itself}
use Rattle.sdf_specs.proofs.PathLemmas.{not_both}

pub same_is_order : (a b : Text) → is_eq (name_cmp a b) ≡ same_text a b
same_is_order a b = is_eq-slice_cmp a b ∙ sym (same_is_bytes a b)

tie : (o : Ordering) → o ≡ Equal → is_eq o ≡ true
tie o h = ap is_eq h

equal_names : (a b : Text) → name_cmp a b ≡ Equal → a ≡ b
equal_names a b h = same_text_same a b (sym (same_is_order a b) ∙ tie (name_cmp a b) h)

module _ {V : Type 0} where
  twice : (b : Bool) (v u : V) (o : Option V) → cond b (Some v) o ≡ cond b (Some v) (cond b (Some u) o)
  twice true v u o = refl
  twice false v u o = refl

  apart : (b t : Bool) (v u : V) (o : Option V) → (b ≡ true → t ≡ true → ⊥) → cond b (Some u) (cond t (Some v) o) ≡ cond t (Some v) (cond b (Some u) o)
  apart true true v u o h = absurd (h refl refl)
  apart true false v u o h = refl
  apart false t v u o h = refl

  -- what stands at a name after something was put at another
  pub at_with : (q k : Text) (v : V) (es : List (Text × V)) → at_name q (with_name k v es) ≡ cond (same_text q k) (Some v) (at_name q es)
  at_with q k v [] = ap (λ (b : Bool). let o : Option V = cond b (Some v) None in o) (same_is_order q k)
  at_with q k v (e ∷ es) = by_order (at_with q k v es) (name_cmp k e.0) refl
    where
      by_order : at_name q (with_name k v es) ≡ cond (same_text q k) (Some v) (at_name q es) → (o : Ordering) → name_cmp k e.0 ≡ o
          → at_name q (match_ordering o ((k, v) ∷ e ∷ es) ((e.0, v) ∷ es) (e ∷ insert_entry name_cmp es k v)) ≡ cond (same_text q k) (Some v) (at_name q (e ∷ es))
      by_order rest Less is = ap (λ (b : Bool). cond b (Some v) (at_name q (e ∷ es))) (same_is_order q k)
      by_order rest Equal is =
          let keys : k ≡ e.0 = equal_names k e.0 is in
          let one : same_text q k ≡ is_eq (name_cmp q e.0) = sym (same_is_order q k) ∙ ap (λ (x : Text). is_eq (name_cmp q x)) keys in
          twice (is_eq (name_cmp q e.0)) v e.1 (at_name q es) ∙ ap (λ (t : Bool). cond t (Some v) (at_name q (e ∷ es))) (sym one)
      by_order rest Greater is =
          let differ : is_eq (name_cmp q e.0) ≡ true → same_text q k ≡ true → ⊥ =
          λ b t.
          let there : q ≡ e.0 = same_text_same q e.0 (sym (same_is_order q e.0) ∙ b) in
          let here : q ≡ k = same_text_same q k t in
          let one : same_text k e.0 ≡ true = ap (λ (x : Text). same_text k x) (sym there ∙ here) ∙ same_itself k in
          not_both (same_is_order k e.0 ∙ one) (ap is_eq is)
          in
          ap (λ (o : Option V). cond (is_eq (name_cmp q e.0)) (Some e.1) o) rest
          ∙ apart (is_eq (name_cmp q e.0)) (same_text q k) v e.1 (at_name q es) differ
