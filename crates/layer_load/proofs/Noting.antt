-- Names that are noted behind others.
use Rattle.std.proofs.Common.{◌≡◌, ◌⊎◌, ◌∙◌, inl, inr, sym, ap, subst, true, List, [], ◌∷◌, ◌++◌, append-nil, append_assoc, fold, Option, Some, None}
use Rattle.composition.specs.Assets.{anchor}
use Rattle.composition.specs.Texts.{Text}
use Rattle.layer_stack.specs.Meant.{noted}
use Rattle.layer_stack.proofs.Noting.{has, has_front, noted_more, noted_there, noted_back}
use Rattle.layer_load.specs.Closure.{Give}
use Rattle.layer_load.specs.Opening.{with_asset, with_anchored}

-- one asset more
anchored_more : (names : List Text) (o : Option Text) → (extra : List Text) × (with_anchored names o ≡ names ++ extra)
anchored_more names None = ([], sym (append-nil names))
anchored_more names (Some n) = noted_more names n

anchored_there : (names : List Text) (o : Option Text) (q : Text) → o ≡ Some q → has q (with_anchored names o) ≡ true
anchored_there names None q is = absurd cc
anchored_there names (Some n) q is = let one : n ≡ q = cc in subst (λ (x : Text). has x (noted names n) ≡ true) one (noted_there names n)

anchored_back : (names : List Text) (o : Option Text) (q : Text) → has q (with_anchored names o) ≡ true → (has q names ≡ true) ⊎ (o ≡ Some q)
anchored_back names None q h = inl h
anchored_back names (Some n) q h = elim (noted_back names n q h) [ inl old ↦ inl old | inr one ↦ inr (ap Some (sym one)) ]

module _ (layer : Text) where
  abbrev pub all : List Text → List Text → List Text
  all names assets = fold (with_asset layer) names assets

  pub more : (assets names : List Text) → (extra : List Text) × (all names assets ≡ names ++ extra)
  more [] names = ([], sym (append-nil names))
  more (asset ∷ assets) names =
      let first = anchored_more names (anchor layer asset) in
      let rest = more assets (with_asset layer names asset) in
      (first.0 ++ rest.0, rest.1 ∙ (ap (λ (x : List Text). x ++ rest.0) first.1 ∙ append_assoc names first.0 rest.0))

  pub kept : (assets names : List Text) (q : Text) → has q names ≡ true → has q (all names assets) ≡ true
  kept assets names q h = let m = more assets names in ap (has q) m.1 ∙ has_front q names m.0 h

  pub forth : (assets names : List Text) (q : Text) → Give layer q assets → has q (all names assets) ≡ true
  forth [] names q give = absurd give
  forth (asset ∷ assets) names q give = elim give [
    | inl is ↦ kept assets (with_asset layer names asset) q (anchored_there names (anchor layer asset) q is)
    | inr later ↦ forth assets (with_asset layer names asset) q later
  ]

  pub back : (assets names : List Text) (q : Text) → has q (all names assets) ≡ true → (has q names ≡ true) ⊎ Give layer q assets
  back [] names q h = inl h
  back (asset ∷ assets) names q h = elim (back assets (with_asset layer names asset) q h) [
    | inl there ↦ elim (anchored_back names (anchor layer asset) q there) [ inl old ↦ inl old | inr is ↦ inr (inl is) ]
    | inr later ↦ inr (inr later)
  ]
