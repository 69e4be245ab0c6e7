use Rattle.std.proofs.Common.{◌&&◌, not, Some, sym, ap, ◌∙◌}
use Rattle.std.specs.BTreeMap.{is_at}
use Rattle.dependency_table.specs.Tables.{is_listed, is_noted, has_key}
use Rattle.dependency_table.proofs.Puts.{put_some, put_none, put_undone}
use Rattle.dependency_table.proofs.table.Table.put.Goals as goal

pub invariant_of-self-in-Ok-Some : goal.invariant_of-self-in-Ok-Some
invariant_of-self-in-Ok-Some g c = let P = g.P.Ord.cmp in let K = g.K.Ord.cmp in let fields = c.self.inside in let place = c.args.place.now in let keys = c.args.keys.now in let fresh = c.as_slice.result.now in
    put_some P K g.met.P.Ord.total g.met.P.ExactOrd.tie_is_same (is_noted P K fields.readers) (is_noted P K c.link_all.new.readers) fields.reads place keys fresh c.self.invariant (λ k. ap (λ l. is_listed K l k) c.as_slice.ensures ∙ c.in_ok-fresh.ensures k) c.in_ok-link_all.ensures.ok
    c.insert.new.self c.in_ok-named.named c.in_ok-kept.kept c.in_ok-named.ensures c.in_ok-kept.ensures c.in-Ok-Some.ensures.updates.0
    (is_noted P K c.unlink_others.new.readers) c.as_slice-in-Ok-Some.result.now c.in_ok-wanted.wanted (ap Some c.as_slice-in-Ok-Some.ensures ∙ (sym c.in-Ok-Some.field-0-is ∙ c.in-Ok-Some.ensures.old)) c.in_ok-wanted.ensures c.unlink_others.ensures

pub invariant_of-self-in-Ok-None : goal.invariant_of-self-in-Ok-None
invariant_of-self-in-Ok-None g c = let P = g.P.Ord.cmp in let K = g.K.Ord.cmp in let fields = c.self.inside in let place = c.args.place.now in let keys = c.args.keys.now in let fresh = c.as_slice.result.now in
    put_none P K g.met.P.Ord.total g.met.P.ExactOrd.tie_is_same (is_noted P K fields.readers) (is_noted P K c.link_all.new.readers) fields.reads place keys fresh c.self.invariant (λ k. ap (λ l. is_listed K l k) c.as_slice.ensures ∙ c.in_ok-fresh.ensures k) c.in_ok-link_all.ensures.ok
    c.insert.new.self c.in_ok-named.named c.in_ok-kept.kept c.in_ok-named.ensures c.in_ok-kept.ensures c.in-Ok-None.ensures.updates.0 (sym c.in-Ok-None.field-0-is ∙ c.in-Ok-None.ensures.old)

pub invariant_of-self-in-Err : goal.invariant_of-self-in-Err
invariant_of-self-in-Err g c p k = let P = g.P.Ord.cmp in let K = g.K.Ord.cmp in let fields = c.self.inside in let place = c.args.place.now in let keys = c.args.keys.now in let fresh = c.as_slice.result.now in
    put_undone P K g.met.P.Ord.total g.met.P.ExactOrd.tie_is_same (is_noted P K fields.readers) (is_noted P K c.link_all.new.readers) fields.reads place keys fresh c.self.invariant (λ k. ap (λ l. is_listed K l k) c.as_slice.ensures ∙ c.in_ok-fresh.ensures k) c.in_ok-link_all.ensures.ok (is_noted P K c.unlink_all.new.readers)
    (λ j q. c.unlink_all.ensures j q ∙ ap (λ l. is_noted P K c.link_all.new.readers j q && not (is_listed K l j && is_at (P q) place)) (c.as_slice-in-Err.ensures ∙ sym c.as_slice.ensures)) p k
    ∙ sym (ap (λ es. has_key P K es p k) c.in-Err.ensures.err)
