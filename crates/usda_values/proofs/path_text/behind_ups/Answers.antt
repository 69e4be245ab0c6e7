use Rattle.std.proofs.Common.{◌≡◌, ◌∙◌, sym, ap, true}
use Rattle.usda_values.proofs.Ups.{up_cut}
use Rattle.usda_values.specs.PathTexts.{begins_up}
use Rattle.usda_values.proofs.path_text.behind_ups.Goals as goal

pub split_at-requires : goal.split_at-requires
split_at-requires c =
    let up : begins_up c.loop-rest.rest.now ≡ true = ap begins_up (sym c.as_bytes.ensures.value) ∙ sym c.begins_up.ensures ∙ c.loop-rest-test.true in
    up_cut c.loop-rest.rest.now c.loop-rest.invariant.utf8 up
