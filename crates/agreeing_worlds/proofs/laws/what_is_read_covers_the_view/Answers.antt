use Rattle.agreeing_worlds.proofs.Covers.{reads_cover}
use Rattle.agreeing_worlds.proofs.laws.what_is_read_covers_the_view.Goals as goal

pub returns : goal.returns
returns c = reads_cover
