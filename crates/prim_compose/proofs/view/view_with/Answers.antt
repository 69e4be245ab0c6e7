use Rattle.std.proofs.Common.{◌≡◌, ◌∙◌, sym, ap, List, Some, None}
use Rattle.std.specs.Prelude.{option_map}
use Rattle.std.proofs.lemmas.Result.{IfOk-weaker}
use Rattle.composition.specs.Faults.{Fault}
use Rattle.composition.specs.Views.{PrimView, empty_view}
use Rattle.layer_set.specs.LookUps.{look_ups}
use Rattle.prim_trees.specs.Meant.{meant}
use Rattle.prim_compose.specs.Trees.{tree_at}
use Rattle.prim_compose.proofs.Seen.{entry_at_root}
use Rattle.prim_compose.proofs.Treed.{entry_by_tree, entry_without}
use Rattle.prim_compose.proofs.view.view_with.Goals as goal
use Rattle.sdf_specs.proofs.PathLemmas.{not_both}

pub returns-then-is_root : goal.returns-then-is_root
returns-then-is_root c =
    IfOk-weaker c.root_view.result _ _ (λ view is. is ∙ entry_at_root c.args.world.now c.args.path.now (c.is_root.ensures.0 c.if-is_root.true)) c.root_view.ensures

pub returns-in-Some : goal.returns-in-Some
returns-in-Some c =
    let there : Some (meant c.in-Some.tree) ≡ tree_at (look_ups c.args.world.now) c.args.path.now = ap (λ o. option_map meant o) (sym c.in-Some.is) ∙ c.requires in
    IfOk-weaker c.prim_view.result _ _
    (λ view is. is ∙ entry_by_tree c.args.world.now c.args.path.now (meant c.in-Some.tree) (λ h. not_both (c.is_root.ensures.1 h) c.if-is_root.false) there)
    c.prim_view.ensures

pub returns-in-None : goal.returns-in-None
returns-in-None c =
    let there : None ≡ tree_at (look_ups c.args.world.now) c.args.path.now = ap (λ o. option_map meant o) (sym c.in-None.is) ∙ c.requires in
    c.bare_view.ensures
    ∙ (ap (λ (fs : List Fault). let v : PrimView = record empty_view { faults = fs } in v) c.new.ensures ∙ entry_without c.args.world.now c.args.path.now there)
