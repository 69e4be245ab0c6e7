use Rattle.std.proofs.Common.{◌∙◌, ap, List}
use Rattle.std.proofs.lemmas.Result.{IfOk-weaker}
use Rattle.composition.specs.Opinions.{Site, Said}
use Rattle.layer_set.specs.LookUps.{look_ups}
use Rattle.prim_opinions.specs.Gathering.{said_on}
use Rattle.prim_compose.specs.Viewed.{index_in, seen}
use Rattle.prim_compose.proofs.Seen.{seen_there, seen_overgrown}
use Rattle.prim_compose.proofs.view.view_by.Goals as goal

pub returns-then-is_overgrown : goal.returns-then-is_overgrown
returns-then-is_overgrown c =
    c.bare_view.ensures
    ∙ seen_overgrown (look_ups c.args.world.now) c.args.place.now c.args.index.now c.is_overgrown.result c.in_ok-faults.faults
    c.is_overgrown.ensures c.if-is_overgrown.true (c.in_ok-faults.ensures ∙ c.faults.ensures)

pub returns : goal.returns
returns c =
    let w = look_ups c.args.world.now in
    let said = c.as_slice.ensures ∙ (c.in_ok-said.ensures ∙ ap (λ (sites : List Site). said_on w sites) c.sites.ensures) in
    IfOk-weaker c.view_from.result _ _
    (λ view is.
    is
    ∙ (ap (λ (s : List Said). seen c.args.place.now (index_in c.args.index.now) s) said
    ∙ seen_there w c.args.place.now c.args.index.now c.is_overgrown.result c.is_overgrown.ensures c.if-is_overgrown.false))
    c.view_from.ensures
