use Rattle.std.proofs.Common.{◌≡◌, ◌∙◌, ◌≤◌, ℕ, List, true, false, ap, sym, arith, drop, length}
use Rattle.session_script.specs.States.{has_feed}
use Rattle.std.proofs.lemmas.Result.{err_from_is_err_and}
use Rattle.session_script.specs.Told.{coming}
use Rattle.session_script.proofs.Feeds.{held_scanned, front_feed, front_long, front_rest, heeds_more, heeds_then, to_end, scan_all, scan_more, more_goes_on}
use Rattle.session_script.proofs.front.read_front.Goals as goal

pub returns-in-Some-clause-front : goal.returns-in-Some-clause-front
returns-in-Some-clause-front g c =
    let f = rw c.deref.ensures.value at c.in-Some.ensures.found in
    let i = c.loop-at.invariant in
    rw c.line_to.ensures (front_feed c.args.start c.loop-at.scanned c.in-Some.at c.loop-at.ended c.loop-at.bytes.items i.grows.0 _ _ i.scan f.0 f.1 f.2 f.3 i.grows.2)

pub returns-then-len-gt-MAX_BYTES-clause-scan : goal.returns-then-len-gt-MAX_BYTES-clause-scan
returns-then-len-gt-MAX_BYTES-clause-scan g c =
    let none = rw c.deref.ensures.value at c.in_default.ensures.none in
    let e : c.len.result ≡ length c.loop-at.bytes.items = omega (arith, c.len.ensures, c.loop-at.bytes.ok.0) in
    rw e (scan_all c.args.start c.loop-at.scanned c.loop-at.bytes.items c.loop-at.invariant.scan none)

pub returns-then-len-gt-MAX_BYTES-clause-front : goal.returns-then-len-gt-MAX_BYTES-clause-front
returns-then-len-gt-MAX_BYTES-clause-front g c =
    let none = rw c.deref.ensures.value at c.in_default.ensures.none in
    let e : c.len-in-loop-at.result ≡ length c.loop-at.bytes.items = omega (arith, c.len-in-loop-at.ensures, c.loop-at.bytes.ok.0) in
    let scan = scan_all c.args.start c.loop-at.scanned c.loop-at.bytes.items c.loop-at.invariant.scan none in
    front_long c.args.start c.loop-at.ended c.loop-at.bytes.items c.loop-at.invariant.grows.0 _ _ scan c.requires.short (rw e at c.if-len-gt-MAX_BYTES.true) c.loop-at.invariant.grows.2

pub returns-in_err-read_more-clause-scan : goal.returns-in_err-read_more-clause-scan
returns-in_err-read_more-clause-scan g c =
    let none = rw c.deref.ensures.value at c.in_default.ensures.none in
    let e : c.len.result ≡ length c.loop-at.bytes.items = omega (arith, c.len.ensures, c.loop-at.bytes.ok.0) in
    rw (c.in_err-read_more.ensures.more.0, e) (scan_all c.args.start c.loop-at.scanned c.loop-at.bytes.items c.loop-at.invariant.scan none)

pub returns-then-ended-clause-scan : goal.returns-then-ended-clause-scan
returns-then-ended-clause-scan g c =
    let none = rw c.deref.ensures.value at c.in_default.ensures.none in
    let e : c.len.result ≡ length c.loop-at.bytes.items = omega (arith, c.len.ensures, c.loop-at.bytes.ok.0) in
    rw e (scan_all c.args.start c.loop-at.scanned c.loop-at.bytes.items c.loop-at.invariant.scan none)

pub returns-then-ended-clause-front : goal.returns-then-ended-clause-front
returns-then-ended-clause-front g c =
    let none = rw c.deref.ensures.value at c.in_default.ensures.none in
    let old = c.loop-at.bytes.items in
    let i = c.loop-at.invariant in
    let shut : c.loop-at.ended ≡ true = c.if-ended.true in
    let e : c.len-then-ended.result ≡ length old = omega (arith, c.len-then-ended.ensures, c.loop-at.bytes.ok.0) in
    let f : c.len-in-loop-at.result ≡ length old = omega (arith, c.len-in-loop-at.ensures, c.loop-at.bytes.ok.0) in
    let scan = scan_all c.args.start c.loop-at.scanned old i.scan none in
    let short : length old ≤ 16777216 = omega (arith, c.if-len-gt-MAX_BYTES.false) in
    let told = rw shut at i.grows.2 in
    rw (c.last_front.ensures, e, shut) (front_rest c.args.start old i.grows.0 _ scan short told)

pub returns-then-not-branch-clause-scan : goal.returns-then-not-branch-clause-scan
returns-then-not-branch-clause-scan g c =
    let none = rw c.deref.ensures.value at c.in_default.ensures.none in
    let e : c.len.result ≡ length c.loop-at.bytes.items = omega (arith, c.len.ensures, c.loop-at.bytes.ok.0) in
    let m = rw c.if-not-branch.true at c.in_ok-read_more.ensures.more in
    rw (m.0, e) (scan_all c.args.start c.loop-at.scanned c.loop-at.bytes.items c.loop-at.invariant.scan none)

pub returns-then-not-branch-clause-front : goal.returns-then-not-branch-clause-front
returns-then-not-branch-clause-front g c =
    let none = rw c.deref.ensures.value at c.in_default.ensures.none in
    let old = c.loop-at.bytes.items in
    let i = c.loop-at.invariant in
    let shut : c.loop-at.ended ≡ false = c.if-ended.false in
    let m = rw c.if-not-branch.true at c.in_ok-read_more.ensures.more in
    let n : length c.read_more.new.bytes.items ≡ length old = ap length m.0 in
    let e : c.len-then-not-branch.result ≡ length old = omega (arith, c.len-then-not-branch.ensures, c.read_more.new.bytes.ok.0, n) in
    let f : c.len-in-loop-at.result ≡ length old = omega (arith, c.len-in-loop-at.ensures, c.loop-at.bytes.ok.0) in
    let scan = scan_all c.args.start c.loop-at.scanned old i.scan none in
    let short : length old ≤ 16777216 = omega (arith, c.if-len-gt-MAX_BYTES.false) in
    let told = rw shut at i.grows.2 in
    rw (c.last_front-then-not-branch.ensures, e, m.0) (front_rest c.args.start old i.grows.0 _ scan short (to_end _ (g.S.Source.left c.loop-at.source) i.grows.0 told m.1))

pub returns-then-not-branch-clause-held : goal.returns-then-not-branch-clause-held
returns-then-not-branch-clause-held g c =
    let none = rw c.deref.ensures.value at c.in_default.ensures.none in
    let i = c.loop-at.invariant in
    let scan = scan_all c.args.start c.loop-at.scanned c.loop-at.bytes.items i.scan none in
    λ e. absurd (let k : true ≡ false = sym (ap (λ (l : List ℕ). has_feed (drop c.args.start l)) (i.held e).1 ∙ e) ∙ held_scanned c.args.start c.loop-at.bytes.items scan in cc)

pub returns-in_err-read_more-clause-held : goal.returns-in_err-read_more-clause-held
returns-in_err-read_more-clause-held g c =
    let none = rw c.deref.ensures.value at c.in_default.ensures.none in
    let i = c.loop-at.invariant in
    let scan = scan_all c.args.start c.loop-at.scanned c.loop-at.bytes.items i.scan none in
    λ e. absurd (let k : true ≡ false = sym (ap (λ (l : List ℕ). has_feed (drop c.args.start l)) (i.held e).1 ∙ e) ∙ held_scanned c.args.start c.loop-at.bytes.items scan in cc)

pub loop-at-preserved : goal.loop-at-preserved
loop-at-preserved g c =
    let none = rw c.deref.ensures.value at c.in_default.ensures.none in
    let i = c.loop-at.invariant in
    let e : c.len.result ≡ length c.loop-at.bytes.items = omega (arith, c.len.ensures, c.loop-at.bytes.ok.0) in
    let m = rw c.if-not-branch.false at c.in_ok-read_more.ensures.more in
    let scan = scan_all c.args.start c.loop-at.scanned c.loop-at.bytes.items i.scan none in
    let shut : c.loop-at.ended ≡ false = c.if-ended.false in
    let first : c.args.ended.now ≡ false = sym i.same ∙ shut in
    record {
      scan = rw e (scan_more c.args.start (length c.loop-at.bytes.items) c.loop-at.bytes.items m.0 c.read_more.new.bytes.items scan m.2);
      grows = more_goes_on c.args.bytes.now.items c.loop-at.bytes.items c.read_more.new.bytes.items (coming c.args.ended.now (g.S.Source.left c.args.source.now)) (coming c.loop-at.ended (g.S.Source.left c.loop-at.source)) (coming c.loop-at.ended (g.S.Source.left c.read_more.new.source)) m.0 i.grows m.2 (rw shut m.3);
      same = i.same;
      heeds = heeds_then c.args.ended.now c.loop-at.ended c.loop-at.ended (g.S.Source.left c.args.source.now) (g.S.Source.left c.loop-at.source) (g.S.Source.left c.read_more.new.source) i.heeds (rw shut (heeds_more (g.S.Source.left c.loop-at.source) (g.S.Source.left c.read_more.new.source) m.0 m.3));
      quiet = λ e. absurd (let k : true ≡ false = sym e ∙ first in cc);
      held = λ e. absurd (let k : true ≡ false = sym (ap (λ (l : List ℕ). has_feed (drop c.args.start l)) (i.held e).1 ∙ e) ∙ held_scanned c.args.start c.loop-at.bytes.items scan in cc);
      steady = c.in_ok-read_more.ensures.counted.1 (λ k. absurd (let clash = k in cc)) ∙ i.steady;
    }

pub returns-in_err-read_more-clause-none : goal.returns-in_err-read_more-clause-none
returns-in_err-read_more-clause-none g c =
    let none = rw c.deref.ensures.value at c.in_default.ensures.none in
    let scan = scan_all c.args.start c.loop-at.scanned c.loop-at.bytes.items c.loop-at.invariant.scan none in
    let p = err_from_is_err_and c.from_residual.result c.from_residual.ensures.1 in
    let f : c.len-in-loop-at.result ≡ length c.loop-at.bytes.items = omega (arith, c.len-in-loop-at.ensures, c.loop-at.bytes.ok.0) in
    let short : length c.loop-at.bytes.items ≤ 16777216 = omega (arith, c.if-len-gt-MAX_BYTES.false) in
    rw (p.1, c.in_err-read_more.ensures.more.0) (held_scanned c.args.start c.loop-at.bytes.items scan, c.if-ended.false, short)
