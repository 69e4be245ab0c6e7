use Rattle.session_script.proofs.Feeds.{no_feed_more}
use Rattle.session_script.proofs.front.find_feed.Goals as goal

pub loop-i-preserved : goal.loop-i-preserved
loop-i-preserved c = no_feed_more c.args.bytes.now c.args.from c.loop-i.i c.loop-i.auto.i c.loop-i-test.true c.loop-i.invariant c.if-bytes-i-eq10.false
