-- Where a key stands in a list of entries, or where it would.
use Rattle.std.specs.Prelude.{◌≡◌, ℕ, List, ◌∷◌, ◌++◌, length, Result, Ok, Err}
use Rattle.std.specs.List.{AllByRecursion}
use Rattle.std.specs.Map.{keys_of}
use Rattle.std.specs.declared.cmp.Ordering.{Ordering}
use Rattle.std.specs.declared.cmp.Ordering.TheVariants.{Less, Equal, Greater}

module _ {K V : Type 0} (R : K → K → Ordering) where
  -- each key of the entries comes after the key, and each comes before it
  abbrev pub AllAfter : K → List (K × V) → Type 0
  AllAfter k es = AllByRecursion (λ x. R k x ≡ Less) (keys_of es)

  abbrev pub AllBefore : K → List (K × V) → Type 0
  AllBefore k es = AllByRecursion (λ x. R k x ≡ Greater) (keys_of es)

  -- the entries around the place at which the key stands
  pub record StandsAt (k : K) (es : List (K × V)) (i : ℕ) : Type 0 where
    pub front : List (K × V)
    pub entry : K × V
    pub back : List (K × V)
    pub parts : es ≡ front ++ entry ∷ back
    pub place : length front ≡ i
    pub same : R k entry.0 ≡ Equal

  -- the entries before and after the place at which the key would stand
  pub record WouldStandAt (k : K) (es : List (K × V)) (i : ℕ) : Type 0 where
    pub front : List (K × V)
    pub back : List (K × V)
    pub parts : es ≡ front ++ back
    pub place : length front ≡ i
    pub before : AllBefore k front
    pub after : AllAfter k back

  abbrev pub IsPlace : K → List (K × V) → Result ℕ ℕ → Type 0
  IsPlace k es (Ok i) = StandsAt k es i
  IsPlace k es (Err i) = WouldStandAt k es i
