use Rattle.std.proofs.Common.{◌∙◌, sym}
use Rattle.std.specs.Cmp.{Equal-is}
use Rattle.plain_data.specs.Exact.{slice_cmp_same}
use Rattle.change_core.proofs.arrive.same_keys.Goals as goal

pub returns : goal.returns
returns g c t = slice_cmp_same g.K.Ord.cmp g.met.K.ExactOrd.tie_is_same c.args.first.now c.args.second.now (sym c.cmp.ensures ∙ (Equal-is c.cmp.result).0 (sym c.is_eq.ensures ∙ t))
