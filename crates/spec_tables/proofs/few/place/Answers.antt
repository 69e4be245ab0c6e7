use Rattle.std.proofs.Common.{rules}
use Rattle.std.proofs.lemmas.Fn.{always_returns_same}
use Rattle.spec_tables.proofs.Places.{place_is}
use Rattle.spec_tables.proofs.few.place.Goals as goal

pub returns-clause-place : goal.returns-clause-place
returns-clause-place g c = λ s.
    let found = c.binary_search_by.ensures in
    place_is g.met.K.Ord.total c.args.key.now c.args.entries.now _ s found.bound (found.position (λ e. g.K.Ord.cmp e.0 c.args.key.now) (always_returns_same _ _ _ (λ a r f called. search rules)))
