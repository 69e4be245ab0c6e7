use Rattle.std.proofs.Common.{ℕ, ◌≡◌, ◌<◌, ◌+◌, ◌-◌, ◌∙◌, ap, sym, refl, arith, subst, List, length, take, drop, get_or}
use Rattle.std.specs.Prelude.{reverse}
use Rattle.std.specs.Str.{IsCharBoundary}
use Rattle.std.proofs.lemmas.Str.{IsCharBoundary-start, IsCharBoundary-after_ascii}
use Rattle.asset_names.specs.Anchoring.{walk, step, segments, segments_from}
use Rattle.asset_names.proofs.Walks.{slash_step, other_step}
use Rattle.asset_names.proofs.path.walk.Goals as goal
use Rattle.asset_names.proofs.path.walk.Goals.{then-bytes-i-eq47+in_ok-step, else-bytes-i-eq47}

pub loop-i-init : goal.loop-i-init
loop-i-init c = record { within = omega arith; boundary = IsCharBoundary-start c.args.text.now c.utf8.text; walked = refl }

pub loop-i-preserved : goal.loop-i-preserved
loop-i-preserved c =
    let t : List ℕ = c.args.text.now in
    let i : ℕ = c.loop-i.i in
    let goal_folders : List (List ℕ) = walk c.args.absolute (reverse c.args.folders.items) (segments t) in
    let inside : i < length t = omega (arith, c.loop-i-test.true, ap length c.as_bytes-bytes.ensures.value) in
    let same : get_or c.as_bytes-bytes.result.now i 0 ≡ get_or t i 0 = ap (λ l. get_or l i 0) c.as_bytes-bytes.ensures.value in
    elim c.if-bytes-i-eq47.branch [
      | then-bytes-i-eq47+in_ok-step w ↦
          (let slash : get_or t i 0 ≡ 47 = sym same ∙ w.if-bytes-i-eq47.true in
          let made : reverse c.if-bytes-i-eq47.folders.items ≡ step c.args.absolute (reverse c.loop-i.folders.items) (take (i - c.loop-i.start) (drop c.loop-i.start t)) =
          ap (λ v. reverse v.items) w.folders-is ∙ w.in_ok-step.ensures ∙ ap (step c.args.absolute (reverse c.loop-i.folders.items)) w.range.ensures.value in
          record {
            within = omega (arith, w.start-is);
            boundary = subst (λ (n : ℕ). IsCharBoundary t n) (sym w.start-is) (IsCharBoundary-after_ascii t i c.utf8.text inside (omega (arith, slash)));
            walked = subst (λ (n : ℕ). walk c.args.absolute (reverse c.if-bytes-i-eq47.folders.items) (segments_from (take (i + 1 - n) (drop n t)) (drop (i + 1) t)) ≡ goal_folders) (sym w.start-is)
                (slash_step c.args.absolute t c.loop-i.start i (get_or t i 0) (reverse c.loop-i.folders.items) (reverse c.if-bytes-i-eq47.folders.items) goal_folders inside refl slash made c.loop-i.invariant.walked);
          })
      | else-bytes-i-eq47 w ↦
          (let other = λ (e : get_or t i 0 ≡ 47). w.if-bytes-i-eq47.false (same ∙ e) in
          record {
            within = omega (arith, w.start-is, c.loop-i.invariant.within);
            boundary = subst (λ (n : ℕ). IsCharBoundary t n) (sym w.start-is) c.loop-i.invariant.boundary;
            walked = subst (λ (f : List (List ℕ)). walk c.args.absolute f (segments_from (take (i + 1 - c.if-bytes-i-eq47.start) (drop c.if-bytes-i-eq47.start t)) (drop (i + 1) t)) ≡ goal_folders)
                (sym (ap (λ v. reverse v.items) w.folders-is))
                (subst (λ (n : ℕ). walk c.args.absolute (reverse c.loop-i.folders.items) (segments_from (take (i + 1 - n) (drop n t)) (drop (i + 1) t)) ≡ goal_folders) (sym w.start-is)
                (other_step c.args.absolute t c.loop-i.start i (get_or t i 0) (reverse c.loop-i.folders.items) goal_folders inside refl other c.loop-i.invariant.within c.loop-i.invariant.walked));
          })
    ]
