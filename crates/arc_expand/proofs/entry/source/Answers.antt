use Rattle.std.proofs.Common.{◌∙◌, sym, ap, refl, Option, Some, Err}
use Rattle.composition.specs.Texts.{Text}
use Rattle.composition.specs.Arcs.{source_of, unanchored}
use Rattle.composition.proofs.Anchored.{anchored_some, anchored_none}
use Rattle.arc_expand.proofs.Outcomes.{named_source, unanchored_source}
use Rattle.arc_expand.proofs.entry.source.Goals as goal

pub returns-in-Ok : goal.returns-in-Ok
returns-in-Ok c =
    named_source c.args.layer.now c.as_str.result.now c.in-Ok.name
    (anchored_some c.args.layer.now c.as_str.result.now (c.in-Ok.ensures.good refl) ∙ ap Some (sym c.in-Ok.ensures.name))
    ∙ (ap (λ (t : Text). source_of c.args.layer.now (Some t)) c.as_str.ensures.same ∙ ap (λ (a : Option Text). source_of c.args.layer.now a) (sym c.in-Some.is))

pub returns-in_ok-copy-in-Err-BadAsset : goal.returns-in_ok-copy-in-Err-BadAsset
returns-in_ok-copy-in-Err-BadAsset c =
    ap (λ (t : Text). unanchored t) (c.in_ok-copy-in-Err-BadAsset.ensures ∙ sym c.as_str.ensures.same)
    ∙ (unanchored_source c.args.layer.now c.as_str.result.now
    (anchored_none c.args.layer.now c.as_str.result.now c.in-Err-BadAsset.field-0-0 (c.in-Err-BadAsset.ensures.bad c.in-Err-BadAsset.field-0-0 (ap Err c.in-Err-BadAsset.field-0-is)))
    ∙ (ap (λ (t : Text). source_of c.args.layer.now (Some t)) c.as_str.ensures.same ∙ ap (λ (a : Option Text). source_of c.args.layer.now a) (sym c.in-Some.is)))
