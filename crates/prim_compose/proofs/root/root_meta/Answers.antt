use Rattle.std.proofs.Common.{◌∙◌, ap}
use Rattle.spec_properties.specs.Entries.{MetaEntries}
use Rattle.composition.specs.Texts.{Text}
use Rattle.composition.specs.Views.{head_meta}
use Rattle.layer_set.specs.LookUps.{look_ups, heading_of}
use Rattle.layer_set.specs.Worlds.{held_at}
use Rattle.layer_set.specs.declared.held.Held.{Held}
use Rattle.prim_compose.specs.Root.{merged_onto, session_tables}
use Rattle.prim_compose.proofs.Rooted.{meta_done}
use Rattle.prim_compose.proofs.root.root_meta.Goals as goal

pub returns : goal.returns
returns c =
    let w = look_ups c.args.world.now in
    let session = c.in_ok-merge_session.ensures ∙ ap (λ (m : MetaEntries). merged_onto m (session_tables w)) c.new-meta.ensures in
    let held = c.held.ensures ∙ ap (λ (n : Text). held_at c.args.world.now n) c.root.ensures in
    c.in_ok-merge_layer.ensures
    ∙ (ap (λ (m : MetaEntries). merged_onto m (head_meta (heading_of c.held.result.now))) session
    ∙ (ap (λ (h : Held). merged_onto (merged_onto _ (session_tables w)) (head_meta (heading_of h))) held
    ∙ meta_done w))
