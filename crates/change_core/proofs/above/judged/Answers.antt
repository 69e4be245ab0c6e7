use Rattle.std.proofs.Common.{rules, ◌≡◌, [], Some, refl, subst, sym}
use Rattle.compose_api.proofs.Walks.{told_of}
use Rattle.change_core.specs.Kept.{AreHits, AreRead, reads_above}
use Rattle.change_core.proofs.above.judged.Goals as goal

pub returns-then-is_empty : goal.returns-then-is_empty
returns-then-is_empty g c before hits parent was = let m = g.C.Composer in let cmp = g.C.Key.Ord.cmp in
    let kept = c.args.kept in
    let none : c.in-Some.hits ≡ [] = search rules in
    let some : c.in_ok-hits_at.field-0 ≡ Some c.in-Some.hits = search rules in
    let read = subst (λ p. AreRead cmp (m.reads_of before kept.place) (reads_above m.reads_of before p) kept.added kept.dropped) (sym parent) was.reads in
    let are : AreHits cmp c.args.changed.now (m.reads_of before kept.place) c.in-Some.hits =
    told_of _ c.in_ok-hits_at.field-0 c.in-Some.hits some c.in_ok-hits_at.ensures (m.reads_of before kept.place) (reads_above m.reads_of before c.args.above.now.place) hits read in
    (refl, was, subst (AreHits cmp c.args.changed.now (m.reads_of before kept.place)) none are, c.if-above.true)
