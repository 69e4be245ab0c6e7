use Rattle.std.proofs.Common.{◌∙◌, sym}
use Rattle.prim_trees.specs.Meant.{meant}
use Rattle.site_order.proofs.Choosing.{decided_is}
use Rattle.site_order.proofs.deciding.decided.Goals as goal

pub returns : goal.returns
returns c =
    simp (c.in_ok-more.ensures, c.as_slice.ensures.value, c.in_ok-kept.ensures, c.as_slice-2.ensures, c.in_ok-sets.ensures, decided_is (meant c.args.tree.now) c.args.choices.now (sym c.is_overgrown.ensures ∙ c.if-is_overgrown.false))
