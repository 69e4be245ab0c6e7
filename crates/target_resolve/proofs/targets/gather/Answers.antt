use Rattle.std.proofs.Common.{◌∙◌, sym, ap, List, ◌++◌, map}
use Rattle.spec_properties.specs.declared.property.Property.{Property}
use Rattle.list_ops.specs.declared.op.ListOp.{ListOp}
use Rattle.prim_view.specs.declared.fault.PrimFault.{PrimFault}
use Rattle.composition.specs.Opinions.{Site, Said}
use Rattle.composition.specs.Paths.{Path}
use Rattle.target_resolve.specs.Translating.{outside, edits_of}
use Rattle.target_resolve.specs.Resolving.{with_op}
use Rattle.target_resolve.proofs.Gathered.{no_ops, no_faults, ops_at, faults_at}
use Rattle.target_resolve.proofs.targets.gather.Goals as goal

pub loop-opinion-init : goal.loop-opinion-init
loop-opinion-init c = record { ops = c.new-ops.ensures ∙ sym no_ops; faults = c.new-faults.ensures ∙ sym (no_faults c.args.name.now) }

pub loop-opinion-preserved : goal.loop-opinion-preserved
loop-opinion-preserved c =
    let arcs = c.as_slice.ensures ∙ (ap (λ (s : Site). s.maps) c.site.ensures ∙ ap (λ (s : Said). s.site.maps) c.said-said.ensures) in
    let own = c.edits_of-edits.ensures ∙ ap (λ (p : Property). edits_of p) c.property.ensures in
    record {
      ops = c.in_ok-push_op.ensures
          ∙ (ap (λ (ops : List (ListOp Path)). with_op ops c.edits_of-edits.result.now c.in_ok-there.there.op) c.loop-opinion.invariant.ops
          ∙ ops_at c.args.specs.now c.loop-opinion.opinion-index c.opinion-item.result c.loop-opinion-test.true c.opinion-item.is
          c.as_slice.result.now c.edits_of-edits.result.now c.in_ok-there.there.op arcs own c.in_ok-there.ensures.edits);
      faults = c.in_ok-push_faults.ensures
          ∙ (ap (λ (faults : List PrimFault). faults ++ map (outside c.args.name.now c.said-said.result.now) c.as_slice-in-loop-opinion.result.now) c.loop-opinion.invariant.faults
          ∙ faults_at c.args.name.now c.args.specs.now c.loop-opinion.opinion-index c.opinion-item.result c.loop-opinion-test.true c.opinion-item.is
          c.said-said.result.now c.as_slice.result.now c.edits_of-edits.result.now c.as_slice-in-loop-opinion.result.now c.said-said.ensures arcs own
          (c.as_slice-in-loop-opinion.ensures ∙ c.in_ok-there.ensures.lost));
    }
