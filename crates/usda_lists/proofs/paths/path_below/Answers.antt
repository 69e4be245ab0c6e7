use Rattle.std.proofs.Common.{◌≡◌, ◌∙◌, sym, ap, true}
use Rattle.usda_values.proofs.Ups.{up_cut}
use Rattle.usda_values.specs.PathTexts.{begins_up}
use Rattle.usda_lists.proofs.paths.path_below.Goals as goal

pub split_at-requires : goal.split_at-requires
split_at-requires c =
    let up : begins_up c.loop-prim.rest.now ≡ true = ap begins_up (sym c.as_bytes.ensures.value) ∙ sym c.begins_up.ensures ∙ c.loop-prim-test.true in
    up_cut c.loop-prim.rest.now c.loop-prim.invariant.utf8 up
