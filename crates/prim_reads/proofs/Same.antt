-- Lists with the same items.
use Rattle.std.proofs.Common.{◌≡◌, ◌⊎◌, inl, inr, refl, sym, ap, subst, ◌∙◌, List, [], ◌∷◌, ◌++◌, map, flat_map}
use Rattle.std.specs.List.{Contains}
use Rattle.std.proofs.lemmas.List.{map-append}
use Rattle.std.proofs.lemmas.List.Elements.{Contains-append_left, Contains-append_right, Contains-append_cases}
use Rattle.composition.proofs.Members.{none_in, head_in, tail_in, cases_in}

module _ {K : Type 0} where
  -- each item of the first is one of the second
  abbrev pub Has : List K → List K → Type 0
  Has xs ys = (k : K) → Contains xs k → Contains ys k

  -- they have the same items
  abbrev pub Same : List K → List K → Type 0
  Same xs ys = Has xs ys × Has ys xs

  pub same_list : (xs ys : List K) → xs ≡ ys → Same xs ys
  same_list xs ys e = (λ k h. subst (λ (zs : List K). Contains zs k) e h, λ k h. subst (λ (zs : List K). Contains zs k) (sym e) h)

  pub itself : (xs : List K) → Same xs xs
  itself xs = (λ k h. h, λ k h. h)

  pub turned : (xs ys : List K) → Same xs ys → Same ys xs
  turned xs ys s = (s.1, s.0)

  pub through : (xs ys zs : List K) → Same xs ys → Same ys zs → Same xs zs
  through xs ys zs s t = (λ k h. t.0 k (s.0 k h), λ k h. s.1 k (t.1 k h))

  pub has_both : (xs ys zs : List K) → Has xs zs → Has ys zs → Has (xs ++ ys) zs
  has_both xs ys zs f g k h = elim (Contains-append_cases xs ys k h) [ inl a ↦ f k a | inr b ↦ g k b ]

  pub in_first : (xs ys zs : List K) → Has xs ys → Has xs (ys ++ zs)
  in_first xs ys zs f k h = Contains-append_left ys zs k (f k h)

  pub in_second : (xs ys zs : List K) → Has xs zs → Has xs (ys ++ zs)
  in_second xs ys zs f k h = Contains-append_right ys zs k (f k h)

  pub joined : (xs ys us vs : List K) → Same xs us → Same ys vs → Same (xs ++ ys) (us ++ vs)
  joined xs ys us vs s t = (
    has_both xs ys (us ++ vs) (in_first xs us vs s.0) (in_second ys us vs t.0),
    has_both us vs (xs ++ ys) (in_first us xs ys s.1) (in_second vs xs ys t.1),
  )

-- what is made of all items, item by item
pub map_parts : {A B C : Type 0} (f : B → C) (g : A → List B) (xs : List A) → map f (flat_map g xs) ≡ flat_map (λ x. map f (g x)) xs
map_parts f g [] = refl
map_parts f g (x ∷ xs) = map-append f (g x) (flat_map g xs) ∙ ap (λ ys. map f (g x) ++ ys) (map_parts f g xs)

pub parts_append : {A B : Type 0} (g : A → List B) (xs ys : List A) → flat_map g (xs ++ ys) ≡ flat_map g xs ++ flat_map g ys
parts_append g [] ys = refl
parts_append g (x ∷ xs) ys = ap (λ zs. g x ++ zs) (parts_append g xs ys) ∙ sym (assoc (g x) (flat_map g xs) (flat_map g ys))
  where
    assoc : {B : Type 0} (a b c : List B) → (a ++ b) ++ c ≡ a ++ (b ++ c)
    assoc [] b c = refl
    assoc (x ∷ a) b c = ap (λ zs. x ∷ zs) (assoc a b c)

pub same_parts : {A K : Type 0} (f g : A → List K) (xs : List A) → ((x : A) → Same (f x) (g x)) → Same (flat_map f xs) (flat_map g xs)
same_parts f g [] h = itself []
same_parts f g (x ∷ xs) h = joined (f x) (flat_map f xs) (g x) (flat_map g xs) (h x) (same_parts f g xs h)
