use Rattle.std.proofs.Common.{ap, get_or}
use Rattle.std.specs.BTreeMap.{get, is_at}
use Rattle.plain_data.proofs.FirstPlaces.{noted}
use Rattle.stage_publish.proofs.Finding.{tied}
use Rattle.stage_publish.proofs.places.indices.Goals as goal

pub loop-i-preserved : goal.loop-i-preserved
loop-i-preserved g c =
    let xs = c.args.items.now in
    let i = c.loop-i.i in
    let x = c.index-items-i.result in
    noted (λ q x. is_at (g.P.Ord.cmp q) x.0) (λ x. x.0) (λ q x. tied g.P.Ord.cmp g.met.P.ExactOrd.tie_is_same q x.0) xs i (get_or xs i x) (get g.P.Ord.cmp c.loop-i.indices) (get g.P.Ord.cmp c.note.new.indices)
    c.loop-i-test.true (ap (λ d. get_or xs i d) c.index-items-i.is) c.in_ok-note.ensures c.loop-i.invariant
