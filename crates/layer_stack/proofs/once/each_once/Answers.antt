use Rattle.std.proofs.Common.{◌∙◌, ap}
use Rattle.std.proofs.lemmas.Result.{IfOk-weaker}
use Rattle.asset_names.specs.contracts.name.AssetIdPartialEq.TheImpl.{ghosts as id_eq}
use Rattle.list_ops.specs.ListEdits.{firsts}
use Rattle.layer_stack.proofs.Firsts.{ids_are}
use Rattle.layer_stack.proofs.once.each_once.Goals as goal

pub returns : goal.returns
returns c = IfOk-weaker c.firsts_ordered.result _ _ (λ once is. is ∙ (ap (firsts id_eq.eq) c.as_slice.ensures ∙ ids_are c.args.names.now)) c.firsts_ordered.ensures
