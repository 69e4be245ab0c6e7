use Rattle.usda_drafts.proofs.Leaving.{left_is}
use Rattle.usda_drafts.proofs.draft.Draft.leave.Goals as goal

pub returns : goal.returns
returns c =
    left_is c.args.self.now c.in-Some.outer c.replace-inner.new.dest c.replace-inner.result c.pop.new.self c.put_closed.new.specs c.in_ok-path.path
    c.in-Some.ensures.value c.in-Some.ensures.left c.replace-inner.ensures.value c.replace-inner.ensures.after c.in_ok-path.ensures c.in_ok-put_closed.ensures
