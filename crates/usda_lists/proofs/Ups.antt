-- A step over `../`.
use Rattle.std.proofs.Common.{◌≡◌, ℕ, true, false, List, ◌∷◌, Option, Some, None, drop, ap, sym, refl, subst}
use Rattle.sdf_paths.specs.Paths.{parent}
use Rattle.sdf_paths.specs.declared.element.Element.{Element}
use Rattle.usda_values.specs.PathTexts.{begins_up}
use Rattle.usda_values.proofs.Ups.{is_up}
use Rattle.usda_lists.specs.Paths.{path_of, text_below, path_below}

pub up_step : (prim : List Element) (text : List ℕ) → begins_up text ≡ true → path_below 0 (Some prim) text ≡ path_below 0 (parent prim) (drop 3 text)
up_step prim text e = let p = is_up text e in subst (λ (t : List ℕ). path_below 0 (Some prim) t ≡ path_below 0 (parent prim) (drop 3 t)) (sym p.1) (skip (parent prim) p.0)
  where
    skip : (above : Option (List Element)) (rest : List ℕ) → path_below 2 above (46 ∷ 47 ∷ rest) ≡ path_below 0 above rest
    skip None rest = refl
    skip (Some a) rest = refl

pub no_up : (prim : List Element) (c : ℕ) (cs : List ℕ) → begins_up (c ∷ cs) ≡ false → path_below 0 (Some prim) (c ∷ cs) ≡ path_of (text_below prim (c ∷ cs))
no_up prim c cs e = ap (λ b. elim b [ true ↦ path_below 2 (parent prim) cs | false ↦ path_of (text_below prim (c ∷ cs)) ]) e

pub above_none : (text : List ℕ) → path_below 0 None text ≡ None
above_none text = refl
