-- A step over `../`.
use Rattle.std.proofs.Common.{◌≡◌, ◌∙◌, ℕ, ◌<◌, ◌≤◌, true, false, ◌&&◌, ◌==◌, List, [], ◌∷◌, length, drop, get_or, ap, sym, refl, subst, arith, eqb-true}
use Rattle.std.specs.Str.{IsUtf8, IsCharBoundary}
use Rattle.std.proofs.lemmas.Bool.{and_parts}
use Rattle.std.proofs.lemmas.Str.{IsCharBoundary-after_ascii}
use Rattle.usda_values.specs.PathTexts.{begins_up, behind_ups}

-- three bytes and a rest
pub is_up : (text : List ℕ) → begins_up text ≡ true → (rest : List ℕ) × (text ≡ 46 ∷ 46 ∷ 47 ∷ rest)
is_up [] e = absurd cc
is_up (a ∷ []) e = absurd (let p : false ≡ true = (and_parts (a == 46) (false && false) e).1 in cc)
is_up (a ∷ b ∷ []) e = absurd (let p : (b == 46 && false) ≡ true = (and_parts (a == 46) (b == 46 && false) e).1 in let q : false ≡ true = (and_parts (b == 46) false p).1 in cc)
is_up (a ∷ b ∷ c ∷ rest) e =
    let p : ((a == 46) ≡ true) × ((b == 46 && c == 47) ≡ true) = and_parts (a == 46) (b == 46 && c == 47) e in
    let q : ((b == 46) ≡ true) × ((c == 47) ≡ true) = and_parts (b == 46) (c == 47) p.1 in
    let ea : a ≡ 46 = eqb-true a 46 p.0 in
    let eb : b ≡ 46 = eqb-true b 46 q.0 in
    let ec : c ≡ 47 = eqb-true c 47 q.1 in
    (rest, ap (λ x. x ∷ b ∷ c ∷ rest) ea ∙ ap (λ x. 46 ∷ x ∷ c ∷ rest) eb ∙ ap (λ x. 46 ∷ 46 ∷ x ∷ rest) ec)

pub up_step : (text : List ℕ) → begins_up text ≡ true → behind_ups 0 text ≡ behind_ups 0 (drop 3 text)
up_step text e = let p = is_up text e in subst (λ (t : List ℕ). behind_ups 0 t ≡ behind_ups 0 (drop 3 t)) (sym p.1) refl

pub up_len : (text : List ℕ) → begins_up text ≡ true → 3 ≤ length text
up_len text e = let p = is_up text e in subst (λ (t : List ℕ). 3 ≤ length t) (sym p.1) (omega arith)

pub up_cut : (text : List ℕ) → IsUtf8 text → begins_up text ≡ true → IsCharBoundary text 3
up_cut text u e =
    let p = is_up text e in
    IsCharBoundary-after_ascii text 2 u (omega (arith, up_len text e)) (subst (λ (t : List ℕ). get_or t 2 0 < 128) (sym p.1) (omega arith))

pub no_up : (text : List ℕ) → begins_up text ≡ false → behind_ups 0 text ≡ text
no_up [] e = refl
no_up (c ∷ cs) e = ap (λ b. elim b [ true ↦ behind_ups 2 cs | false ↦ c ∷ cs ]) e
