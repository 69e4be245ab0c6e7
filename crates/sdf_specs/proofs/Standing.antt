-- Specs stand at paths.
use Rattle.std.proofs.Common.{◌≡◌, ◌∙◌, ◌||◌, ◌⊎◌, ap, inl, inr, Bool, true, false, cond, List, ◌∷◌, ◌++◌, [], Option, Some, None, refl, sym, subst}
use Rattle.std.specs.Option.{is_some}
use Rattle.std.specs.BTreeMap.{is_at}
use Rattle.std.specs.Cmp.{Equal-is}
use Rattle.std.proofs.lemmas.Bool.{or_parts}
use Rattle.sdf_paths.specs.DerivedOrder.{path_cmp_same}
use Rattle.sdf_paths.specs.Order.{path_cmp}
use Rattle.sdf_paths.specs.Paths.{IsPath, is_property, is_property_part}
use Rattle.sdf_paths.specs.declared.element.Element.{Element}
use Rattle.spec_properties.proofs.NamedLists.{by_test}
use Rattle.sdf_specs.specs.Layers.{SpecEntries, spec_at}
use Rattle.spec_parts.specs.declared.spec.Spec.{Spec}
use Rattle.sdf_specs.specs.Found.{IsFound, StandAtPaths}

-- what stands in a table stands first, or behind the first
pub next_path : (path : List Element) (spec : Spec) (rest : SpecEntries) → IsPath path → (p : List Element) → is_some (spec_at p ((path, spec) ∷ rest)) ≡ true
    → IsPath p ⊎ (is_some (spec_at p rest) ≡ true)
next_path path spec rest good p h =
    let F : Bool → Type 0 = λ b. is_some (cond b (Some spec) (spec_at p rest)) ≡ true → IsPath p ⊎ (is_some (spec_at p rest) ≡ true) in
    by_test F (is_at (path_cmp p) path)
    (λ same h. inl (subst IsPath (sym (path_cmp_same p path ((Equal-is (path_cmp p path)).0 same))) good)) (λ other h. inr h) h

no_spec : (o : Option Spec) → (is_some o ≡ true → ⊥) → o ≡ None
no_spec None h = refl
no_spec (Some s) h = absurd (h refl)

-- nothing stands at what is no path
pub none_there : (specs : SpecEntries) → StandAtPaths specs → (p : List Element) → (IsPath p → ⊥) → spec_at p specs ≡ None
none_there specs stand p not_path = no_spec (spec_at p specs) (λ some. not_path (stand p some))

behind : (path : List Element) (e : Element) → is_property_part e ≡ false → is_property path ≡ false → is_property (path ++ e ∷ []) ≡ false
behind [] e part prim = ap (λ (b : Bool). b || false) part
behind (x ∷ path) e part prim =
    let both = or_parts (is_property_part x) (is_property path) prim in
    ap (λ (b : Bool). b || is_property (path ++ e ∷ [])) both.0 ∙ behind path e part both.1

-- a name or a selection behind a prim's path leaves it one
pub no_property : (path : List Element) (e : Element) → is_property_part e ≡ false → is_property path ≡ false → (p : List Element) → p ≡ path ++ e ∷ [] → is_property p ≡ false
no_property path e part prim p is = ap is_property is ∙ behind path e part prim

-- what was found has its path
pub found_path : (found : Option (List Element × Spec)) (path : List Element) (e : Element) (there : Option Spec) (p : List Element) (spec : Spec)
    → IsFound found path e there → found ≡ Some (p, spec) → p ≡ path ++ e ∷ []
found_path None path e there p spec h is = absurd cc
found_path (Some f) path e there p spec h is = let same : f.0 ≡ p = ap (λ (o : Option (List Element × Spec)). fst_or f.0 o) is in sym same ∙ h.0
  where
    fst_or : List Element → Option (List Element × Spec) → List Element
    fst_or q None = q
    fst_or q (Some g) = g.0
