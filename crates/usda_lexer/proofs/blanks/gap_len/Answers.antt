use Rattle.std.proofs.Common.{◌≡◌, ◌∙◌, ◌+◌, sym, refl, ap, ℕ, List, drop, get_or, Some}
use Rattle.std.proofs.lemmas.Str.{IsCharBoundary-start}
use Rattle.std.proofs.lemmas.List.{take_rest}
use Rattle.usda_lexer.specs.Blanks.{gap, between_after}
use Rattle.usda_lexer.proofs.Cuts.{gap_step, cut_step}
use Rattle.usda_lexer.proofs.blanks.gap_len.Goals as goal

pub loop-i-init : goal.loop-i-init
loop-i-init c = record { same = refl; cut = IsCharBoundary-start c.as_bytes-bytes.result.now c.as_bytes-bytes.ensures.utf8 }

pub loop-i-preserved : goal.loop-i-preserved
loop-i-preserved c =
    let bytes : List ℕ = c.as_bytes-bytes.result.now in
    let i : ℕ = c.loop-i.i in
    let leads : between_after c.loop-i.state (get_or bytes i 0) (drop (i + 1) bytes) ≡ Some c.in-Some.next =
    ap (between_after c.loop-i.state (get_or bytes i 0)) (sym (take_rest bytes (i + 1))) ∙ sym c.between_after.ensures ∙ c.in-Some.is in
    record {
      same = ap (λ o. gap c.in-Some.next o (i + 1) (drop (i + 1) bytes)) c.opened_at-opened.ensures
          ∙ sym (gap_step c.loop-i.state c.in-Some.next c.loop-i.opened i bytes c.loop-i-test.true leads) ∙ c.loop-i.invariant.same;
      cut = cut_step c.loop-i.state c.in-Some.next i bytes c.as_bytes-bytes.ensures.utf8 c.loop-i-test.true c.loop-i.invariant.cut leads;
    }
