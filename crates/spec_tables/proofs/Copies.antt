-- Maps whose entries are exact copies.
use Rattle.std.proofs.Common.{◌≡◌, List}
use Rattle.std.specs.List.{AllZip}
use Rattle.std.proofs.lemmas.List.Elements.{same_from_all_zip}

module _ {K V : Type 0} (C : K → K → Type 0) (D : V → V → Type 0) (c : (x y : K) → C x y → y ≡ x) (d : (x y : V) → D x y → y ≡ x) where
  entry_copied : (p q : K × V) → C p.0 q.0 × D p.1 q.1 → q ≡ p
  entry_copied (k, v) (l, w) h =
      let key = c k l h.0 in
      let value = d v w h.1 in
      cc

  pub entries_copied : (xs ys : List (K × V)) → AllZip (λ p q. C p.0 q.0 × D p.1 q.1) xs ys → ys ≡ xs
  entries_copied xs ys h = same_from_all_zip (λ p q. C p.0 q.0 × D p.1 q.1) xs ys h entry_copied
