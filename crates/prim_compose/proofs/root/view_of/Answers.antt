use Rattle.std.proofs.Common.{◌∙◌, ap, List, ◌++◌, map}
use Rattle.composition.specs.Faults.{Fault, child_too_long}
use Rattle.composition.specs.Fields.{listed_children, unlisted_children}
use Rattle.composition.specs.Paths.{Path, limits}
use Rattle.composition.specs.Views.{PrimView, empty_view}
use Rattle.prim_index.specs.Once.{faults_once}
use Rattle.prim_compose.proofs.root.view_of.Goals as goal

pub returns : goal.returns
returns c =
    let names = c.in_ok-children.ensures.names ∙ ap (λ (p : Path). listed_children limits p c.args.names.now) c.root-root.ensures in
    let too_long = c.as_slice.ensures ∙ (c.in_ok-children.ensures.faults
    ∙ ap (λ (p : Path). let fs : List Fault = map child_too_long (unlisted_children limits p c.args.names.now) in fs) c.root-root.ensures) in
    let faults = c.in_ok-faults.ensures ∙ ap (λ (fs : List Fault). faults_once (c.args.faults ++ fs)) too_long in
    c.root_of.ensures ∙ (λ i. let v : PrimView = record empty_view { meta = c.args.meta; children = names i; sites = c.in_ok-sites.ensures i; faults = faults i } in v)
