use Rattle.std.proofs.Common.{Vec, ℕ}
use Rattle.std.specs.Global.{Global}
use Rattle.usdstage.proofs.Files.{layer_opened, layer_not_opened}
use Rattle.usdstage.proofs.Runs.{step_counted}
use Rattle.usdstage.proofs.tool.open_layer.Goals as goal

pub returns-in-Ok-put_layer-clause-turn : goal.returns-in-Ok-put_layer-clause-turn
returns-in-Ok-put_layer-clause-turn g c =
    layer_opened (λ v. v.items) c.texts_have_one_answer.ensures (g.F.LayerFiles.files c.args.files.now) c.args.id c.args.bytes c.in-Ok.total c.in-Ok.held c.in-Ok-put_layer.reply c.args.session.now c.put_layer.new.self
    c.in-Ok.ensures.answers c.in-Ok-put_layer.ensures.reply c.in-Ok-put_layer.ensures.after

pub returns-in-Err-clause-turn : goal.returns-in-Err-clause-turn
returns-in-Err-clause-turn g c =
    layer_not_opened {V = Vec ℕ Global} (λ v. v.items) (g.F.LayerFiles.files c.args.files.now) c.args.id c.args.bytes c.in-Err.fault c.unopened.result c.args.session.now c.args.session.now c.in-Err.ensures.answers c.unopened.ensures.value

pub returns-in-Err-clause-counted : goal.returns-in-Err-clause-counted
returns-in-Err-clause-counted g c =
    step_counted c.in-Err.fault c.unopened.result c.unopened.ensures.value _ _ c.in-Err.ensures.counted
