use Rattle.std.proofs.Common.{◌∙◌, sym, ap, refl, Some, Err}
use Rattle.composition.proofs.Anchored.{anchored_some, anchored_none}
use Rattle.layer_set.proofs.assets.anchored.Goals as goal

pub returns-in-Ok : goal.returns-in-Ok
returns-in-Ok c = ap Some c.in-Ok.ensures.name ∙ sym (anchored_some c.args.layer.now c.args.asset.now (c.in-Ok.ensures.good refl))

pub returns-in-Err-BadAsset : goal.returns-in-Err-BadAsset
returns-in-Err-BadAsset c =
    sym (anchored_none c.args.layer.now c.args.asset.now c.in-Err-BadAsset.field-0-0 (c.in-Err-BadAsset.ensures.bad c.in-Err-BadAsset.field-0-0 (ap Err c.in-Err-BadAsset.field-0-is)))
