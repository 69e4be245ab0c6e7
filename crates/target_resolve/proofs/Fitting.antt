-- Paths through one arc, within the limits of paths.
use Rattle.std.proofs.Common.{◌≡◌, ◌∙◌, sym, ap, refl, subst, ℕ, Bool, true, false, ◌++◌, Option, Some, None}
use Rattle.std.specs.Prelude.{option_map}
use Rattle.std.specs.Option.{ForSome, IsSomeAnd}
use Rattle.sdf_paths.specs.declared.fault.PathFault.TheVariants.{Bad}
use Rattle.sdf_paths.specs.Paths.{IsRefusal, IsPath, plain, rest_after, replaced}
use Rattle.sdf_paths.proofs.Shapes.{plain_path}
use Rattle.path_maps.specs.Maps.{is_under, outside_class, through_class, translated}
use Rattle.path_maps.specs.declared.kind.ArcKind.{ArcKind}
use Rattle.path_maps.specs.declared.kind.ArcKind.TheVariants.{Inherits, Variant, Reference, Payload, Specializes}
use Rattle.path_maps.specs.Prims.{IsOfPrim}
use Rattle.composition.specs.Nodes.{ArcMap}
use Rattle.composition.specs.Paths.{Path, limits, fits}
use Rattle.composition.specs.Targets.{if_fits}
use Rattle.target_resolve.specs.Translating.{through_arc}
use Rattle.composition.proofs.Fitting.{kept_if, path_fits, joined_fits}

-- what is a path is kept
kept_paths : (o : Option Path) → ForSome o IsPath → if_fits limits o ≡ o
kept_paths None h = refl
kept_paths (Some p) h = ap (kept_if p) (path_fits p (h p refl))

pub arc_kept : (m : ArcMap) (p : Path) → ForSome (translated m.kind m.target m.author p) IsPath → translated m.kind m.target m.author p ≡ through_arc m p
unfolding through_arc
arc_kept m p h = sym (kept_paths (translated m.kind m.target m.author p) h)

some_same : (p q : Path) → ◌≡◌ {A = Option Path} (Some p) (Some q) → p ≡ q
some_same p q h = cc

module _ (target author p moved : Path) (good : IsPath author) (whole : IsPath p) (prim : IsOfPrim author) (within : fits limits moved ≡ true) where
  joined_well : (rest : Path) → Some rest ≡ rest_after target p → moved ≡ author ++ rest → IsPath moved
  joined_well rest is same = subst IsPath (sym same)
      (joined_fits target author p rest good whole prim.below_root prim.no_property is (subst (λ (q : Path). fits limits q ≡ true) same within))

  replaced_well : replaced target author p ≡ Some moved → IsPath moved
  replaced_well = by_rest (rest_after target p) refl
    where
      by_rest : (o : Option Path) → rest_after target p ≡ o → option_map (λ rest. author ++ rest) o ≡ Some moved → IsPath moved
      by_rest None is h = absurd cc
      by_rest (Some rest) is h = joined_well rest (sym is) (sym (some_same (author ++ rest) moved h))

  outside_well : outside_class author p ≡ Some moved → IsPath moved
  outside_well = by_under (is_under author p)
    where
      by_under : (b : Bool) → ◌≡◌ {A = Option Path} (elim b as (λ _. Option Path) [ true ↦ None | false ↦ Some p ]) (Some moved) → IsPath moved
      by_under true h = absurd cc
      by_under false h = subst IsPath (some_same p moved h) whole

  class_well : through_class target author p ≡ Some moved → IsPath moved
  class_well = by_moved (replaced target author p) replaced_well
    where
      by_moved : (o : Option Path) → (o ≡ Some moved → IsPath moved)
          → ◌≡◌ {A = Option Path} (elim o as (λ _. Option Path) [ Some m ↦ Some m | None ↦ outside_class author p ]) (Some moved) → IsPath moved
      by_moved (Some m) well h = well h
      by_moved None well h = outside_well h

  translated_well : (k : ArcKind) → translated k target author p ≡ Some moved → IsPath moved
  translated_well Inherits h = class_well h
  translated_well Specializes h = class_well h
  translated_well Reference h = replaced_well h
  translated_well Payload h = replaced_well h
  translated_well Variant h = subst IsPath (some_same (plain p) moved h) (plain_path p whole)

-- what passes a limit is not
pub arc_past : (m : ArcMap) (p moved : Path) → IsPath m.author → IsPath p → IsOfPrim m.author → translated m.kind m.target m.author p ≡ Some moved → ¬ (IsPath moved)
    → None ≡ through_arc m p
unfolding through_arc
arc_past m p moved good whole prim is past = sym (ap (if_fits limits) is ∙ by_fits (fits limits moved) refl)
  where
    by_fits : (b : Bool) → fits limits moved ≡ b → ◌≡◌ {A = Option Path} (elim b as (λ _. Option Path) [ true ↦ Some moved | false ↦ None ]) None
    by_fits true within = absurd (past (translated_well m.target m.author p moved good whole prim within m.kind is))
    by_fits false within = refl

pub arc_refused : (m : ArcMap) (p : Path) (at : ℕ) → IsPath m.author → IsPath p → IsOfPrim m.author
    → IsSomeAnd (translated m.kind m.target m.author p) (λ moved. IsRefusal moved (Bad at)) → None ≡ through_arc m p
arc_refused m p at good whole prim = by_some (translated m.kind m.target m.author p) refl
  where
    by_some : (o : Option Path) → translated m.kind m.target m.author p ≡ o → IsSomeAnd o (λ moved. IsRefusal moved (Bad at)) → None ≡ through_arc m p
    by_some None is h = absurd h
    by_some (Some moved) is h = arc_past m p moved good whole prim is h.1
