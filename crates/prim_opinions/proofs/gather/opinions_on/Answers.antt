use Rattle.std.proofs.Common.{◌≡◌, ◌∙◌, sym, ap, subst, arith, List, ◌++◌, take}
use Rattle.std.proofs.lemmas.List.{take_all}
use Rattle.std.specs.Prelude.{IfSome}
use Rattle.std.specs.BTreeMap.{get, is_at}
use Rattle.std.specs.Map.{lookup}
use Rattle.sdf_values.specs.Scales.{Offset}
use Rattle.layer_set.specs.LookUps.{look_ups}
use Rattle.layer_stack.specs.Meant.{defined_stack}
use Rattle.composition.specs.Opinions.{Said}
use Rattle.composition.specs.Texts.{Text}
use Rattle.composition.specs.World.{StackName}
use Rattle.prim_opinions.specs.Gathering.{said_in}
use Rattle.prim_opinions.specs.Stacks.{name_cmp}
use Rattle.prim_opinions.proofs.Noted.{noted_layers}
use Rattle.prim_opinions.proofs.Gathered.{gathered, gathered_is, none_gathered, gathered_next}
use Rattle.prim_opinions.proofs.gather.opinions_on.Goals as goal

pub loop-site-init : goal.loop-site-init
loop-site-init c = record {
  stacks = λ q. subst (λ (es : List (StackName × List (Text × Offset))). IfSome (lookup (is_at (name_cmp q)) es) (λ layers. layers ≡ (defined_stack (look_ups c.args.world.now) q).layers)) (sym c.new-stacks.ensures.empty) tt;
  said = c.new-said.ensures ∙ sym (none_gathered (look_ups c.args.world.now));
}

pub loop-site-preserved : goal.loop-site-preserved
loop-site-preserved c =
    let stack = noted_layers (look_ups c.args.world.now) (get name_cmp c.note_stack.new.stacks) c.site-item.result.stack c.in_ok-note_stack.ensures.stacks c.in_ok-note_stack.ensures.noted in
    record {
      stacks = c.in_ok-note_stack.ensures.stacks;
      said = c.in_ok-push_said_in.ensures
          ∙ (ap (λ (said : List Said). said ++ said_in (look_ups c.args.world.now) c.site-item.result c.layers_of.result.now) c.loop-site.invariant.said
          ∙ (ap (λ (layers : List (Text × Offset)). gathered (look_ups c.args.world.now) (take c.loop-site.site-index c.args.sites.now) ++ said_in (look_ups c.args.world.now) c.site-item.result layers) (c.layers_of.ensures ∙ stack)
          ∙ gathered_next (look_ups c.args.world.now) c.args.sites.now c.loop-site.site-index c.site-item.result c.loop-site-test.true c.site-item.is));
    }

pub returns : goal.returns
returns c =
    c.loop-site.invariant.said
    ∙ (ap (gathered (look_ups c.args.world.now)) (take_all c.loop-site.site-index c.args.sites.now (omega arith))
    ∙ gathered_is (look_ups c.args.world.now) c.args.sites.now)
