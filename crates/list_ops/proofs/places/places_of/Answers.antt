use Rattle.std.proofs.Common.{sym}
use Rattle.std.specs.BTreeMap.{get}
use Rattle.plain_data.proofs.FirstPlaces.{noted}
use Rattle.list_ops.proofs.places.places_of.Goals as goal

pub loop-i-preserved : goal.loop-i-preserved
loop-i-preserved g c =
    noted (λ q x. g.T.PartialEq.eq x q) (λ x. x) (λ q x h. sym (g.met.T.ExactEq.equal_is_same x q h)) c.args.items.now c.loop-i.i c.index-items-i.result (get g.T.Ord.cmp c.loop-i.places) (get g.T.Ord.cmp c.note.new.places)
    c.loop-i-test.true c.index-items-i.is c.in_ok-note.ensures c.loop-i.invariant
