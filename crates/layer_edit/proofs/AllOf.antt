-- What each of a list is, as far as a walk has come.
use Rattle.std.proofs.Common.{◌≡◌, ◌∙◌, sym, ap, refl, ℕ, ◌+◌, ◌<◌, ◌≤◌, List, [], ◌∷◌, ◌++◌, append_assoc, append-nil, length, drop, get_or, Option, Some, None}
use Rattle.std.proofs.lemmas.List.{drop_more, drop_all}
use Rattle.layer_edit.specs.Offsets.{all_of, before_rest}

-- these, and what is left
abbrev pub behind : {B : Type 0} → List B → Option (List B) → Option (List B)
behind bs (Some cs) = Some (bs ++ cs)
behind bs None = None

module _ {A B : Type 0} (one_of : A → Option B) where
  behind_nothing : (bs : List B) → behind bs None ≡ None
  behind_nothing bs = refl

  push_behind : (bs : List B) (b : B) (rest : Option (List B)) → behind (bs ++ b ∷ []) rest ≡ behind bs (before_rest one_of (Some b) rest)
  push_behind bs b (Some cs) = ap Some (append_assoc bs (b ∷ []) cs)
  push_behind bs b None = refl

  pub one_more : (xs : List A) (i : ℕ) (a : A) (b : B) (bs next : List B) → i < length xs → a ≡ get_or xs i a → one_of a ≡ Some b → next ≡ bs ++ b ∷ []
      → behind bs (all_of one_of (drop i xs)) ≡ all_of one_of xs → behind next (all_of one_of (drop (i + 1) xs)) ≡ all_of one_of xs
  one_more xs i a b bs next within at is pushed before =
      ap (λ (cs : List B). behind cs (all_of one_of (drop (i + 1) xs))) pushed
      ∙ push_behind bs b (all_of one_of (drop (i + 1) xs))
      ∙ ap (λ (o : Option B). behind bs (before_rest one_of o (all_of one_of (drop (i + 1) xs)))) (sym is)
      ∙ ap (λ (x : A). behind bs (all_of one_of (x ∷ drop (i + 1) xs))) at
      ∙ ap (λ (ys : List A). behind bs (all_of one_of ys)) (sym (drop_more xs i a within))
      ∙ before

  pub none_more : (xs : List A) (i : ℕ) (a : A) (bs : List B) → i < length xs → a ≡ get_or xs i a → one_of a ≡ None
      → behind bs (all_of one_of (drop i xs)) ≡ all_of one_of xs → all_of one_of xs ≡ None
  none_more xs i a bs within at is before =
      sym before
      ∙ ap (λ (ys : List A). behind bs (all_of one_of ys)) (drop_more xs i a within)
      ∙ ap (λ (x : A). behind bs (all_of one_of (x ∷ drop (i + 1) xs))) (sym at)
      ∙ ap (λ (o : Option B). behind bs (before_rest one_of o (all_of one_of (drop (i + 1) xs)))) is

  pub all_done : (xs : List A) (i : ℕ) (bs : List B) → length xs ≤ i → behind bs (all_of one_of (drop i xs)) ≡ all_of one_of xs → all_of one_of xs ≡ Some bs
  all_done xs i bs past before = sym before ∙ ap (λ (ys : List A). behind bs (all_of one_of ys)) (drop_all i xs past) ∙ ap Some (append-nil bs)
