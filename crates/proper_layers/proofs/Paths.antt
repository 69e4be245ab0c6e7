-- Paths of proper layers: which begin with another, and how long they are.
use Rattle.std.proofs.Common.{◌≡◌, ◌∙◌, ℕ, ◌<◌, ◌≤◌, Bool, true, false, ◌||◌, List, [], ◌∷◌, ◌++◌, append_assoc, append-nil, length, length-append, Option, Some, None, is_some, ap, sym, refl, subst, cond, arith}
use Rattle.std.specs.Cmp.Lexicographic.{bytes_decides}
use Rattle.std.specs.List.{AllByRecursion, IsDistinct, list_any}
use Rattle.std.specs.Ordering.{is_eq, eq_by_cmp}
use Rattle.std.proofs.lemmas.Cmp.{eq_by_cmp_equiv}
use Rattle.std.proofs.lemmas.Map.Steps.{length-le_from_keys}
use Rattle.sdf_paths.specs.Order.{path_cmp}
use Rattle.sdf_paths.specs.Paths.{is_empty}
use Rattle.sdf_paths.specs.declared.element.Element.{Element}
use Rattle.sdf_paths.proofs.Sound.{some_push}
use Rattle.sdf_specs.specs.Layers.{SpecEntries, spec_at, has_parent, is_owner}
use Rattle.sdf_specs.proofs.PathLemmas.{same_path}
use Rattle.spec_properties.proofs.NamedLists.{by_test}
use Rattle.spec_parts.specs.declared.spec.Spec.{Spec}
use Rattle.spec_properties.specs.Properties.{same_name}
use Rattle.spec_tables.specs.Tables.{at_key}
use Rattle.value_texts.specs.Each.{AreAll}
use Rattle.trees_read.proofs.Paths.{parent_push}
use Rattle.proper_layers.specs.Proper.{IsProperEntry}
use Rattle.layer_returns.proofs.Theorem.{paths_total}

pub names_differ : (a b : List ℕ) → same_name a b ≡ false → a ≡ b → ⊥
names_differ a b apart same = let one : same_name a b ≡ true = (bytes_decides a b).1 same in cc

-- ---- paths that begin with another

-- the path does not begin with the other
abbrev pub IsOutside : List Element → List Element → Type 0
IsOutside path p = (rest : List Element) → p ≡ path ++ rest → ⊥

left_same : (q xs ys : List Element) → q ++ xs ≡ q ++ ys → xs ≡ ys
left_same [] xs ys h = h
left_same (e ∷ q) xs ys h = let rest : q ++ xs ≡ q ++ ys = cc in left_same q xs ys rest

pub outside_below : (path : List Element) (e : Element) (p : List Element) → IsOutside path p → IsOutside (path ++ e ∷ []) p
outside_below path e p out rest h = out (e ∷ rest) (h ∙ append_assoc path (e ∷ []) rest)

pub other_element : (path : List Element) (e f : Element) (rest : List Element) → (e ≡ f → ⊥) → IsOutside (path ++ e ∷ []) (path ++ f ∷ rest)
other_element path e f rest apart more h =
    let same : f ∷ rest ≡ e ∷ more = left_same path (f ∷ rest) (e ∷ more) (h ∙ append_assoc path (e ∷ []) more) in
    let one : e ≡ f = cc in
    apart one

-- ---- entries of a table

pub entry_at : (W : List Element → Spec → Type 0) (es : SpecEntries) (p : List Element) (s : Spec) → AreAll (λ e. W e.0 e.1) es → spec_at p es ≡ Some s → W p s
entry_at W [] p s all h = absurd cc
entry_at W (e ∷ es) p s all h = by (is_eq (path_cmp p e.0)) refl all.0 h (entry_at W es p s all.1)
  where
    by : (b : Bool) → is_eq (path_cmp p e.0) ≡ b → W e.0 e.1 → cond b (Some e.1) (at_key path_cmp p es) ≡ Some s → (at_key path_cmp p es ≡ Some s → W p s) → W p s
    by true same w h more = let one : e.1 ≡ s = cc in subst (W p) one (subst (λ q. W q e.1) (sym (same_path p e.0 same)) w)
    by false apart w h more = more h

-- the spec that is there
pub the_spec : (o : Option Spec) → is_some o ≡ true → (s : Spec) × (o ≡ Some s)
the_spec None h = absurd cc
the_spec (Some s) h = (s, refl)

-- ---- each path has its owner, and no more elements than the table has entries

-- the paths on the way down from one path through these elements
abbrev fronts : List Element → List Element → List (List Element)
fronts done [] = []
fronts done (x ∷ xs) = (done ++ x ∷ []) ∷ fronts (done ++ x ∷ []) xs

fronts_length : (done xs : List Element) → length (fronts done xs) ≡ length xs
fronts_length done [] = refl
fronts_length done (x ∷ xs) = let rest = fronts_length (done ++ x ∷ []) xs in omega arith

apart : (p q : List Element) → length p < length q → eq_by_cmp path_cmp p q ≡ false
apart p q shorter = by_test (λ b. b ≡ false) (is_eq (path_cmp p q)) (λ t. absurd (let same : length p ≡ length q = ap length (same_path p q t) in omega arith)) (λ f. refl)

longer : (p done xs : List Element) → length p ≤ length done → AllByRecursion (λ y. eq_by_cmp path_cmp p y ≡ false) (fronts done xs)
longer p done [] h = tt
longer p done (x ∷ xs) h =
    let more : length p < length (done ++ x ∷ []) = omega (arith, length-append done (x ∷ [])) in
    (apart p (done ++ x ∷ []) more, longer p (done ++ x ∷ []) xs (omega arith))

fronts_distinct : (done xs : List Element) → IsDistinct (eq_by_cmp path_cmp) (fronts done xs)
unfolding IsDistinct
fronts_distinct done [] = tt
fronts_distinct done (x ∷ xs) = (longer (done ++ x ∷ []) (done ++ x ∷ []) xs (omega arith), fronts_distinct (done ++ x ∷ []) xs)

module _ (specs : SpecEntries) (entries : AreAll (λ e. IsProperEntry specs e.0 e.1) specs) where
  pub entry : (p : List Element) (s : Spec) → spec_at p specs ≡ Some s → IsProperEntry specs p s
  entry p s h = entry_at (IsProperEntry specs) specs p s entries h

  owner_there : (q : List Element) (e : Element) → is_empty q ≡ false → is_some (spec_at (q ++ e ∷ []) specs) ≡ true → is_some (spec_at q specs) ≡ true
  owner_there q e below h =
      let at = the_spec (spec_at (q ++ e ∷ []) specs) h in
      let owned : has_parent (q ++ e ∷ []) specs ≡ true = (entry (q ++ e ∷ []) at.0 at.1).owned in
      ap (λ b. b || is_some (spec_at q specs)) (sym below) ∙ ap (λ o. is_owner o specs) (sym (parent_push q e)) ∙ owned

  pub front_there : (q rest : List Element) → is_empty q ≡ false → is_some (spec_at (q ++ rest) specs) ≡ true → is_some (spec_at q specs) ≡ true
  front_there q [] below h = subst (λ p. is_some (spec_at p specs) ≡ true) (append-nil q) h
  front_there q (e ∷ rest) below h =
      owner_there q e below (front_there (q ++ e ∷ []) rest (some_push q e) (subst (λ p. is_some (spec_at p specs) ≡ true) (sym (append_assoc q (e ∷ []) rest)) h))

  within : (done xs q : List Element) → is_some (spec_at (done ++ xs) specs) ≡ true → list_any (eq_by_cmp path_cmp q) (fronts done xs) ≡ true → is_some (spec_at q specs) ≡ true
  within done [] q h any = absurd cc
  within done (x ∷ xs) q h any = by (eq_by_cmp path_cmp q (done ++ x ∷ [])) refl any (within (done ++ x ∷ []) xs q further)
    where
      further : is_some (spec_at ((done ++ x ∷ []) ++ xs) specs) ≡ true
      further = subst (λ p. is_some (spec_at p specs) ≡ true) (sym (append_assoc done (x ∷ []) xs)) h

      by : (b : Bool) → eq_by_cmp path_cmp q (done ++ x ∷ []) ≡ b → b || list_any (eq_by_cmp path_cmp q) (fronts (done ++ x ∷ []) xs) ≡ true
          → (list_any (eq_by_cmp path_cmp q) (fronts (done ++ x ∷ []) xs) ≡ true → is_some (spec_at q specs) ≡ true) → is_some (spec_at q specs) ≡ true
      by true same any more = subst (λ p. is_some (spec_at p specs) ≡ true) (sym (same_path q (done ++ x ∷ []) same)) (front_there (done ++ x ∷ []) xs (some_push done x) further)
      by false other any more = more any

  pub path_length : (p : List Element) → is_some (spec_at p specs) ≡ true → length p ≤ length specs
  path_length p h =
      let many = length-le_from_keys (eq_by_cmp_equiv paths_total) (fronts [] p) specs (fronts_distinct [] p) (λ q any. within [] p q h any) in
      omega (arith, fronts_length [] p)
