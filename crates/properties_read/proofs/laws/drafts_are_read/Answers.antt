use Rattle.properties_read.proofs.Others.{drafts_read}
use Rattle.properties_read.proofs.laws.drafts_are_read.Goals as goal

pub returns : goal.returns
returns c = drafts_read
