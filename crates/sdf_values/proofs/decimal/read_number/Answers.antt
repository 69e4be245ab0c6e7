use Rattle.std.proofs.Common.{ℕ, ◌≡◌, ◌↔◌, ◌+◌, ◌-◌, min, ◌^◌, ap, sym, ◌∙◌, subst, arith, rules, Ok, Bool, length, take, drop, List}
use Rattle.std.specs.Prelude.{ℤ, pos, ◌-ℤ◌, FitsSigned}
use Rattle.std.specs.Int.{w128}
use Rattle.std.proofs.lemmas.Int.{to_z-of_z}
use Rattle.std.proofs.lemmas.List.{drop_all, take_all, length-drop}
use Rattle.sdf_values.specs.NumberTexts.{before_mark, after_mark, after_point, digits_number, written_exponent, is_negative, signed}
use Rattle.sdf_values.specs.Places.{Keeps, IsNear, IsNumberOf}
use Rattle.sdf_values.proofs.Parts.{near_written}
use Rattle.sdf_values.proofs.decimal.read_number.Goals as goal
use Rattle.sdf_values.proofs.decimal.read_number.Goals.{then-mark-text, else-mark-text}

pub returns-clause-read : goal.returns-clause-read
returns-clause-read c d =
    let t : List ℕ = c.args.text.now in
    let front : take c.mark_at-mark.result t ≡ before_mark t = sym c.mark_at-mark.ensures.front in
    let back : c.if-mark-text.back.now ≡ after_mark t = elim c.if-mark-text.branch [
      | then-mark-text w ↦ ap (λ b. b.now) w.back-is ∙ take_all (length t - (c.mark_at-mark.result + 1)) (drop (c.mark_at-mark.result + 1) t) (omega (arith, length-drop (c.mark_at-mark.result + 1) t)) ∙ sym c.mark_at-mark.ensures.back
      | else-mark-text w ↦ ap (λ b. b.now) w.back-is ∙ sym (c.mark_at-mark.ensures.back ∙ drop_all (c.mark_at-mark.result + 1) t (omega (arith, w.if-mark-text.false)))
    ] in
    let keeps : Keeps c.significant_of-kept.result (digits_number (before_mark t)) =
    subst (λ (s : List ℕ). Keeps c.significant_of-kept.result (digits_number s)) front c.significant_of-kept.ensures.kept in
    let places : c.decimals-decimals.result ≡ length (after_point (before_mark t)) = c.decimals-decimals.ensures ∙ ap (λ s. length (after_point s)) front in
    let written : c.with_sign-exponent.result ≡ signed (is_negative (after_mark t)) (min (digits_number (after_mark t)) (10 ^ 30)) =
    c.with_sign-exponent.ensures ∙ ap (λ b. signed b c.capped_number.result) (c.is_negative.ensures ∙ ap is_negative back)
    ∙ ap (signed (is_negative (after_mark t))) (c.capped_number.ensures ∙ ap (λ b. min (digits_number b) (10 ^ 30)) back) in
    let fits : FitsSigned w128 c.lowered.result = search rules in
    let fits_exponent : FitsSigned w128 c.with_sign-exponent.result = search rules in
    let value : c.lowered.result ≡ signed (is_negative (after_mark t)) (min (digits_number (after_mark t)) (10 ^ 30)) -ℤ pos (length (after_point (before_mark t))) =
    c.lowered.ensures.value ∙ ap (λ z. z -ℤ pos c.decimals-decimals.result) (to_z-of_z w128 c.with_sign-exponent.result fits_exponent ∙ written)
    ∙ ap (λ n. signed (is_negative (after_mark t)) (min (digits_number (after_mark t)) (10 ^ 30)) -ℤ pos n) places in
    let near : IsNear (written_exponent t) c.lowered.result =
    near_written (is_negative (after_mark t)) (digits_number (after_mark t)) (length (after_point (before_mark t))) c.lowered.result (omega (arith, places, c.decimals-decimals.type_inv)) value in
    let near_z = subst (λ (x : ℤ). IsNear (written_exponent t) x) (sym (to_z-of_z w128 c.lowered.result fits)) near in
    subst (λ (b : Bool). (c.of_parts.result ≡ Ok d) ↔ IsNumberOf d (signed b (digits_number (before_mark t))) (written_exponent t)) c.is_negative-2.ensures
    (c.of_parts.ensures.read (digits_number (before_mark t)) (written_exponent t) keeps near_z d)
