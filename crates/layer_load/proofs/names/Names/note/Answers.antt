use Rattle.layer_load.proofs.Meeting.{met_more}
use Rattle.layer_load.proofs.names.Names.note.Goals as goal

pub returns-clause-met : goal.returns-clause-met
returns-clause-met c =
    met_more c.args.self.now.met c.insert.new.self c.args.self.now.listed c.push.new.self c.args.name c.in_ok-copy.field-0 c.requires c.in_ok-copy.ensures c.in_ok-insert.ensures.ok c.in_ok-push.ensures.ok
