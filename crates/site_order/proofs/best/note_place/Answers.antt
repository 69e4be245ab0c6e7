use Rattle.std.proofs.Common.{refl}
use Rattle.site_order.specs.Best.{place_at}
use Rattle.site_order.specs.Entries.{entry}
use Rattle.site_order.proofs.Kept.{noted, key_itself}
use Rattle.site_order.proofs.best.note_place.Goals as goal

pub returns : goal.returns
returns c =
    λ q. noted q c.in_ok-key.key (entry c.args.place.now) c.args.at (place_at c.args.best.now) (place_at c.note.new.best)
    (record { rank = c.args.place.now.rank; at = c.args.at }) key_itself c.in_ok-key.ensures refl (c.in_ok-note.ensures q)
