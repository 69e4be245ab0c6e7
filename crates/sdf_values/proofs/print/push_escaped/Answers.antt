use Rattle.std.proofs.Common.{ℕ, ◌≡◌, ◌<◌, ◌++◌, ap, sym, ◌∙◌, refl, arith, append-nil, string_bytes, length, true, false, get_or, List, take, drop, ◌+◌, ◌-◌, subst}
use Rattle.std.specs.Str.{IsCharBoundary}
use Rattle.std.proofs.lemmas.Str.{IsCharBoundary-start, IsCharBoundary-after_ascii}
use Rattle.sdf_values.specs.Print.{escaped, escape, is_escaped}
use Rattle.sdf_values.proofs.Escapes.{escape_step, plain_step, escaped_ascii}
use Rattle.sdf_values.proofs.print.push_escaped.Goals as goal
use Rattle.sdf_values.proofs.print.push_escaped.Goals.{then-is_escaped+in_ok-push_str+in_ok-push_escape, else-is_escaped}

pub loop-i-init : goal.loop-i-init
loop-i-init c = record {
  within = omega arith;
  boundary = IsCharBoundary-start c.args.text.now c.utf8.text;
  text = ap (λ l. l ++ escaped c.args.text.now) (append-nil (string_bytes c.args.out.now));
}

pub loop-i-preserved : goal.loop-i-preserved
loop-i-preserved c =
    let t : List ℕ = c.args.text.now in
    let i : ℕ = c.loop-i.i in
    let old : List ℕ = string_bytes c.args.out.now in
    let inside : i < length t = omega (arith, c.loop-i-test.true, ap length c.as_bytes-bytes.ensures.value) in
    let tested : c.is_escaped.result ≡ is_escaped (get_or t i 0) = c.is_escaped.ensures ∙ ap (λ l. is_escaped (get_or l i 0)) c.as_bytes-bytes.ensures.value in
    elim c.if-is_escaped.branch [
      | then-is_escaped+in_ok-push_str+in_ok-push_escape w ↦
          (let esc : is_escaped (get_or t i 0) ≡ true = sym tested ∙ w.if-is_escaped.true in
          let made : string_bytes c.if-is_escaped.out ≡ (string_bytes c.loop-i.out ++ take (i - c.loop-i.start) (drop c.loop-i.start t)) ++ escape (get_or t i 0) =
          ap string_bytes w.out-is ∙ w.in_ok-push_escape.ensures ∙ ap (λ l. l ++ escape (get_or c.as_bytes-bytes.result.now i 0)) w.in_ok-push_str.ensures.bytes
          ∙ ap (λ l. (string_bytes c.loop-i.out ++ l) ++ escape (get_or c.as_bytes-bytes.result.now i 0)) w.range.ensures.value
          ∙ ap (λ l. (string_bytes c.loop-i.out ++ take (i - c.loop-i.start) (drop c.loop-i.start t)) ++ escape (get_or l i 0)) c.as_bytes-bytes.ensures.value in
          record {
            within = omega (arith, w.start-is);
            boundary = subst (λ (n : ℕ). IsCharBoundary t n) (sym w.start-is) (IsCharBoundary-after_ascii t i c.utf8.text inside (escaped_ascii (get_or t i 0) esc));
            text = subst (λ (n : ℕ). (string_bytes c.if-is_escaped.out ++ take (i + 1 - n) (drop n t)) ++ escaped (drop (i + 1) t) ≡ old ++ escaped t) (sym w.start-is)
                (escape_step t old (string_bytes c.loop-i.out) (string_bytes c.if-is_escaped.out) c.loop-i.start i (get_or t i 0) inside refl esc made c.loop-i.invariant.text);
          })
      | else-is_escaped w ↦
          (let esc : is_escaped (get_or t i 0) ≡ false = sym tested ∙ w.if-is_escaped.false in
          record {
            within = omega (arith, w.start-is, c.loop-i.invariant.within);
            boundary = subst (λ (n : ℕ). IsCharBoundary t n) (sym w.start-is) c.loop-i.invariant.boundary;
            text = subst (λ (o : List ℕ). (o ++ take (i + 1 - c.if-is_escaped.start) (drop c.if-is_escaped.start t)) ++ escaped (drop (i + 1) t) ≡ old ++ escaped t) (sym (ap string_bytes w.out-is))
                (subst (λ (n : ℕ). (string_bytes c.loop-i.out ++ take (i + 1 - n) (drop n t)) ++ escaped (drop (i + 1) t) ≡ old ++ escaped t) (sym w.start-is)
                (plain_step t old (string_bytes c.loop-i.out) c.loop-i.start i (get_or t i 0) inside refl esc c.loop-i.invariant.within c.loop-i.invariant.text));
          })
    ]
