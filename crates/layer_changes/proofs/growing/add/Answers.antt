use Rattle.std.proofs.Common.{sym, subst, List}
use Rattle.std.specs.List.{Contains}
use Rattle.key_sets.proofs.Sorted.{put_in, kept_in}
use Rattle.layer_changes.proofs.growing.add.Goals as goal

pub returns-clause-added : goal.returns-clause-added
returns-clause-added g c =
    subst (λ (ks : List g.row.K.Denot). Contains ks c.args.item) (sym c.in_ok-insert.ensures.keys) (put_in g.K.Ord.cmp g.met.K.ExactOrd.tie_is_same c.args.item c.args.set.now.keys)

pub returns-clause-kept : goal.returns-clause-kept
returns-clause-kept g c =
    λ k has. subst (λ (ks : List g.row.K.Denot). Contains ks k) (sym c.in_ok-insert.ensures.keys) (kept_in g.K.Ord.cmp g.met.K.ExactOrd.tie_is_same c.args.item c.args.set.now.keys k has)
