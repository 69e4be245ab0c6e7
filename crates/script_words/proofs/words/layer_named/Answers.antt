use Rattle.std.proofs.Common.{◌∙◌, sym, ap, refl, Some, Err}
use Rattle.script_words.proofs.Named.{named_some, named_none}
use Rattle.script_words.proofs.words.layer_named.Goals as goal

pub returns-in-Ok : goal.returns-in-Ok
returns-in-Ok c = named_some c.args.text.now (c.in-Ok.ensures.good refl) ∙ ap Some (sym c.in-Ok.ensures.name)

pub returns-in-Err-BadAsset : goal.returns-in-Err-BadAsset
returns-in-Err-BadAsset c =
    named_none c.args.text.now c.in-Err-BadAsset.field-0-0 (c.in-Err-BadAsset.ensures.bad c.in-Err-BadAsset.field-0-0 (ap Err c.in-Err-BadAsset.field-0-is))
