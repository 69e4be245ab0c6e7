use Rattle.std.proofs.Common.{◌∙◌, ap, fold}
use Rattle.spec_properties.specs.Entries.{MetaEntries}
use Rattle.composition.specs.Merging.{with_weaker}
use Rattle.prim_compose.proofs.Rooted.{head_done}
use Rattle.prim_compose.proofs.root.merge_head.Goals as goal

pub returns-in_ok-merge_into-in-Some : goal.returns-in_ok-merge_into-in-Some
returns-in_ok-merge_into-in-Some c =
    c.in_ok-merge_into-in-Some.ensures
    ∙ ap (λ (m : MetaEntries). fold with_weaker c.args.meta.now m) (head_done c.args.head.now c.in-Some.name c.in_ok-all-in-Some.all c.in-Some.is c.in_ok-all-in-Some.ensures)
