use Rattle.std.proofs.Common.{rules, ◌≡◌, ◌∙◌, ap, sym, subst}
use Rattle.change_core.specs.declared.above.Found.TheVariants.{Holds}
use Rattle.change_core.specs.Kept.{reads_above}
use Rattle.change_core.specs.Above.{IsFound, Arrives}
use Rattle.change_core.proofs.Keeping.{then_ok}
use Rattle.change_core.proofs.arrive.visit.Goals as goal

pub returns-in-Holds-clause-arrival : goal.returns-in-Holds-clause-arrival
returns-in-Holds-clause-arrival g c = let m = g.C.Composer in let cmp = g.C.Key.Ord.cmp in
    let now = c.args.world.now in let before = c.args.old.now.world in let changed = c.args.changed.now in let kept = c.in-Holds.kept in
    let is : c.in_ok-found.found ≡ Holds kept = search rules in
    let f = subst (IsFound m.index_of m.reads_of cmp m.entry_of m.parent_of before changed c.args.above.now c.args.place.now) is c.in_ok-found.ensures.found in
    let above : c.args.above.now.place ≡ m.parent_of kept.place = c.requires.place ∙ ap m.parent_of (sym f.0) in
    let same = sym (ap (reads_above m.reads_of now) above) ∙ (c.requires.above.same f.3 ∙ ap (reads_above m.reads_of before) above) in
    then_ok c.move_over.result c.move_over.ensures (λ a arrives. subst (λ q. Arrives m.index_of m.reads_of cmp m.entry_of m.parent_of now before changed q a) f.0 (arrives now before changed f.1 f.2 c.requires.covers same))
