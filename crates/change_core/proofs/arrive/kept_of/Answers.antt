use Rattle.std.proofs.Common.{◌∙◌, ap, subst, sym}
use Rattle.std.specs.List.Sorted.{IsStrictlySortedBy}
use Rattle.change_core.specs.Kept.{reads_above}
use Rattle.change_core.specs.Above.{told_keys}
use Rattle.change_core.proofs.Keeping.{current_of, sorted_above}
use Rattle.change_core.proofs.arrive.kept_of.Goals as goal

pub differences-requires-clause-above : goal.differences-requires-clause-above
differences-requires-clause-above g c = let m = g.C.Composer in
    let laws = g.met.C.Composer g.world.𝓛 g.world.𝓜 g.world.𝓡 ((λ s x. x), (λ x. x), (λ x. x), λ x. x) in
    subst (IsStrictlySortedBy g.C.Key.Ord.cmp) (sym c.requires.filled) (sorted_above g.C.Key.Ord.cmp m.reads_of c.args.world.now laws.reads_are_in_order c.args.above.now.place)

pub differences-requires-clause-reads : goal.differences-requires-clause-reads
differences-requires-clause-reads g c = let m = g.C.Composer in
    let laws = g.met.C.Composer g.world.𝓛 g.world.𝓜 g.world.𝓡 ((λ s x. x), (λ x. x), (λ x. x), λ x. x) in
    subst (IsStrictlySortedBy g.C.Key.Ord.cmp) (sym c.requires.reads) (laws.reads_are_in_order c.args.world.now c.args.place.now)

pub returns-clause-current : goal.returns-clause-current
returns-clause-current g c = let m = g.C.Composer in
    current_of m.index_of m.reads_of g.C.Key.Ord.cmp m.entry_of m.parent_of c.args.world.now c.args.place.now c.in_ok-copy.field-0 c.args.entry c.args.reads.now (told_keys c.args.above.now.reads)
    c.in_ok-added.field-0.added c.in_ok-added.field-0.dropped c.args.above.now.place c.in_ok-copy.ensures c.requires.entry c.requires.reads c.in_ok-added.ensures c.requires.filled c.requires.place
