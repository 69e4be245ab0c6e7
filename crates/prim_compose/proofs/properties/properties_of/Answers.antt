use Rattle.std.proofs.Common.{◌∙◌, ap, arith, List}
use Rattle.std.specs.Prelude.{flat_map}
use Rattle.std.proofs.lemmas.List.{take_all}
use Rattle.composition.specs.Texts.{Text}
use Rattle.prim_opinions.specs.Counting.{counted}
use Rattle.prim_compose.specs.Composed.{property_views, faults_of_property}
use Rattle.prim_compose.proofs.Propertied.{views_done, faults_done}
use Rattle.prim_compose.proofs.properties.properties_of.Goals as goal

pub returns-clause-views : goal.returns-clause-views
returns-clause-views c =
    let names = c.as_slice-name-items.result.now in
    let said = c.args.said.now in
    c.loop-name.invariant.views
    ∙ (ap (λ (l : List Text). flat_map (λ name. property_views name (counted name said)) l) (take_all c.loop-name.name-index names (omega arith))
    ∙ views_done said names (c.as_slice-name-items.ensures ∙ c.in_ok-names.ensures))

pub returns-clause-faults : goal.returns-clause-faults
returns-clause-faults c =
    let names = c.as_slice-name-items.result.now in
    let said = c.args.said.now in
    c.loop-name.invariant.faults
    ∙ (ap (λ (l : List Text). flat_map (λ name. faults_of_property name (counted name said)) l) (take_all c.loop-name.name-index names (omega arith))
    ∙ faults_done said names (c.as_slice-name-items.ensures ∙ c.in_ok-names.ensures))
